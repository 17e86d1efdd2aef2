-- A fault of reading or of form tells the sheet; else the put of the sheet formed decides.
use Rattle.std.proofs.Common.{◌≡◌, length, take, Err, rules, sym, ap, ◌∙◌, subst}
use Rattle.std.proofs.lemmas.Result.{err_from_is_err_and}
use Rattle.history.specs.Calls.{Call.post}
use Rattle.history.specs.Runs.{Does}
use Rattle.frames.specs.Sheets.{Leaves}
use Rattle.cpp.specs.Cpp.{cpp}
use Rattle.cpp.proofs.Laws.{promises}
use Rattle.records.specs.declared.fault.Fault.TheVariants.{Posted}
use Rattle.records.specs.Answers.{edited}
use Rattle.records.proofs.Posting.{room_left, unread_does, unformed_does, formed_does, posted_err, posted_ok}
use Rattle.book.specs.States.{state}
use Rattle.book.proofs.book.Book.post.Goals as goal

pub returns-in_err-count : goal.returns-in_err-count
returns-in_err-count c =
    let st = state c.args.self.now c.args.frames.now c.args.column.now in
    let fl = length c.args.frames.now in
    let cl = length c.args.column.now in
    let reads = c.read.ensures.does in
    let p = err_from_is_err_and c.from_residual.result c.from_residual.ensures.1 in
    let w = posted_err c.args.sheet c.read.result c.map_err.result (search rules) c.in_err-count.field-0.0 c.in_err-count.was in
    let q : c.from_residual.result ≡ Err (Posted w.0 c.args.sheet) = p.1 ∙ ap Err (p.2 ∙ w.2) in
    let d = subst (λ r. Does cpp st (post c.args.sheet c.args.text.now (length c.args.room.now) fl cl) (edited r) st) (sym q)
    (unread_does st c.args.sheet c.args.text.now c.args.room.now c.read.new.frames fl cl c.read.result reads w.0 w.1) in
    record { does = d; leaves = room_left c.args.text.now c.args.room.now c.read.new.frames c.read.result reads; history = promises.calls _ _ _ _ d }

pub returns-in_err-map_err : goal.returns-in_err-map_err
returns-in_err-map_err c =
    let st = state c.args.self.now c.args.frames.now c.args.column.now in
    let fl = length c.args.frames.now in
    let cl = length c.args.column.now in
    let reads = c.read.ensures.does in
    let read_is = posted_ok c.args.sheet c.read.result c.map_err.result (search rules) c.in_ok-count.count c.in_ok-count.was in
    let p = err_from_is_err_and c.from_residual-in_err-map_err.result c.from_residual-in_err-map_err.ensures.1 in
    let w = posted_err c.args.sheet c.form.result c.map_err-2.result (search rules) c.in_err-map_err.field-0.0 c.in_err-map_err.was in
    let q : c.from_residual-in_err-map_err.result ≡ Err (Posted w.0 c.args.sheet) = p.1 ∙ ap Err (p.2 ∙ w.2) in
    let d = subst (λ r. Does cpp st (post c.args.sheet c.args.text.now (length c.args.room.now) fl cl) (edited r) st) (sym q)
    (unformed_does st c.args.sheet c.args.text.now c.args.room.now c.read.new.frames fl cl c.read.result reads c.in_ok-count.count read_is c.form.result c.form.ensures.result w.0 w.1) in
    record { does = d; leaves = room_left c.args.text.now c.args.room.now c.read.new.frames c.read.result reads; history = promises.calls _ _ _ _ d }

pub returns : goal.returns
returns c =
    let st = state c.args.self.now c.args.frames.now c.args.column.now in
    let fl = length c.args.frames.now in
    let cl = length c.args.column.now in
    let reads = c.read.ensures.does in
    let read_is = posted_ok c.args.sheet c.read.result c.map_err.result (search rules) c.in_ok-count.count c.in_ok-count.was in
    let form_is = posted_ok c.args.sheet c.form.result c.map_err-2.result (search rules) tt c.in_ok-map_err.was in
    let leaves = subst (Leaves (take c.in_ok-count.count c.read.new.frames) c.new-formed.result c.form.new.into) form_is c.form.ensures.leaves in
    let d = formed_does st c.args.sheet c.args.text.now c.args.room.now c.read.new.frames fl cl c.read.result reads c.in_ok-count.count read_is
    c.form.new.into (edited c.put.result) (state c.put.new.self c.put.new.frames c.put.new.column) leaves.shows c.put.ensures.does in
    record { does = d; leaves = room_left c.args.text.now c.args.room.now c.read.new.frames c.read.result reads; history = promises.calls _ _ _ _ d }
