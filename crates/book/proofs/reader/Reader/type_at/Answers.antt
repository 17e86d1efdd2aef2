-- The tests are the question's, and what follows of every history the law promises.
use Rattle.std.proofs.Common.{◌≡◌, ◌+◌, ◌*◌, ◌<◌, ◌≤◌, true, cond, get_or, None, Ok, Err, sym, ap, ◌∙◌, subst, arith}
use Rattle.std.proofs.lemmas.Result.{err_from_is_err_and}
use Rattle.syntax.specs.Writing.{type_code}
use Rattle.syntax.specs.Types.{TypeOf}
use Rattle.history.specs.Words.{map_some}
use Rattle.history.specs.Language.{as_type}
use Rattle.history.specs.Working.{asked}
use Rattle.cpp.specs.Cpp.{cpp}
use Rattle.records.specs.declared.fault.Fault.TheVariants.{NoSheet}
use Rattle.records.specs.Answers.{asked_of}
use Rattle.records.proofs.Types.{type_told}
use Rattle.records.proofs.Questions.{question_promised, asked_beyond, asked_empty, asked_past, asked_place}
use Rattle.book.specs.States.{valid_state}
use Rattle.book.proofs.reader.Reader.type_at.Goals as goal

pub returns-in_err-sheet : goal.returns-in_err-sheet
returns-in_err-sheet c =
    let q = c.args.self.now in
    let p = err_from_is_err_and c.from_residual.result c.from_residual.ensures.1 in
    let r : c.from_residual.result ≡ Err (NoSheet c.args.sheet) = p.1 ∙ ap Err (p.2 ∙ c.in_err-sheet.ensures.1) in
    let l : 31 < c.args.sheet = omega (arith, c.in_err-sheet.ensures.0) in
    let e = ap asked_of r ∙ asked_beyond q.table.now.records true q.frames.now q.column.now c.args.sheet c.args.place l in
    record { result = e; history = question_promised _ _ _ _ e }

pub returns-in_default : goal.returns-in_default
returns-in_default c =
    let q = c.args.self.now in
    let s = c.in_ok-sheet.sheet.number in
    let l : s ≤ 31 = omega (arith, c.in_ok-sheet.sheet.below) in
    let e = subst (λ t. Ok None ≡ asked cpp (valid_state q.table.now q.frames.now q.column.now) t c.args.place) c.in_ok-sheet.ensures.1
    (asked_empty q.table.now.records true q.frames.now q.column.now s c.args.place l (sym c.in_default.ensures)) in
    record { result = e; history = question_promised _ _ _ _ e }

pub returns-then-place-record : goal.returns-then-place-record
returns-then-place-record c =
    let q = c.args.self.now in
    let s = c.in_ok-sheet.sheet.number in
    let l : s ≤ 31 = omega (arith, c.in_ok-sheet.sheet.below) in
    let e = subst (λ t. Ok None ≡ asked cpp (valid_state q.table.now q.frames.now q.column.now) t c.args.place) c.in_ok-sheet.ensures.1
    (asked_past q.table.now.records true q.frames.now q.column.now s c.args.place c.in-Some.record l (sym c.in-Some.ensures) c.if-place-record.true) in
    record { result = e; history = question_promised _ _ _ _ e }

pub returns-then-not-is_expression : goal.returns-then-not-is_expression
returns-then-not-is_expression c =
    let q = c.args.self.now in
    let s = c.in_ok-sheet.sheet.number in
    let r = c.in-Some.record in
    let i = 256 * c.index.result + c.args.place in
    let l : s ≤ 31 = omega (arith, c.in_ok-sheet.sheet.below) in
    let at : i ≡ 256 * s + c.args.place = omega (arith, c.index.ensures) in
    let e = subst (λ t. Ok None ≡ asked cpp (valid_state q.table.now q.frames.now q.column.now) t c.args.place) c.in_ok-sheet.ensures.1
    (asked_place q.table.now.records true q.frames.now q.column.now s c.args.place r l (sym c.in-Some.ensures) c.if-place-record.false (omega arith) i at None
    (ap (λ b. cond b (as_type (get_or q.column.now i 0)) None) (sym c.if-not-is_expression.ensures))) in
    record { result = e; history = question_promised _ _ _ _ e }

pub returns : goal.returns
returns c =
    let q = c.args.self.now in
    let s = c.in_ok-sheet.sheet.number in
    let r = c.in-Some.record in
    let i = 256 * c.index.result + c.args.place in
    let l : s ≤ 31 = omega (arith, c.in_ok-sheet.sheet.below) in
    let at : i ≡ 256 * s + c.args.place = omega (arith, c.index.ensures) in
    let o = map_some type_code c.ok.result in
    let e : Ok o ≡ asked cpp (valid_state q.table.now q.frames.now q.column.now) c.args.sheet c.args.place =
    subst (λ t. Ok o ≡ asked cpp (valid_state q.table.now q.frames.now q.column.now) t c.args.place) c.in_ok-sheet.ensures.1
    (asked_place q.table.now.records true q.frames.now q.column.now s c.args.place r l (sym c.in-Some.ensures) c.if-place-record.false (omega arith) i at o
    (ap (λ b. cond b (as_type (get_or q.column.now i 0)) None) (sym c.if-not-is_expression.ensures) ∙ type_told (get_or q.column.now i 0) c.ok.result (subst (TypeOf (get_or q.column.now i 0)) (sym c.ok.ensures.value) c.try_from-2.ensures.result))) in
    record { result = e; history = question_promised _ _ _ _ e }
