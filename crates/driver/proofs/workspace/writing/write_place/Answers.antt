-- A question on one of the 32 sheets is answered, with the type at that place.
use Rattle.std.proofs.Common.{◌≡◌, ◌++◌, IfOk, Some, string_bytes, rules, sym, ap, ◌∙◌, subst, append-nil}
use Rattle.syntax.specs.Writing.{type_code}
use Rattle.history.specs.Words.{map_some}
use Rattle.book.specs.States.{valid_state}
use Rattle.driver.specs.Texts.{type_line}
use Rattle.driver.proofs.ReadLaws.{answered, type_read}
use Rattle.driver.proofs.workspace.writing.write_place.Goals as goal

pub unwrap-requires : goal.unwrap-requires
unwrap-requires c =
    let q = c.args.reader.now in
    answered (valid_state q.table.now q.frames.now q.column.now) c.args.sheet c.args.place c.type_at.result c.requires c.type_at.ensures.result

pub returns-in-Some : goal.returns-in-Some
returns-in-Some c =
    let q = c.args.reader.now in
    let e = type_read (valid_state q.table.now q.frames.now q.column.now) c.args.sheet c.args.place c.type_at.result c.unwrap.result c.requires c.type_at.ensures.result c.unwrap.ensures in
    let is = ap Some c.from-number.ensures.result ∙ sym (ap (map_some type_code) c.in-Some.is) ∙ e in
    subst (λ o. IfOk c.writeln.result (λ _. string_bytes c.writeln.new.self ≡ string_bytes c.args.text.now ++ type_line c.args.sheet c.args.place o)) is (search rules)

pub returns-in-None : goal.returns-in-None
returns-in-None c =
    let q = c.args.reader.now in
    let e = type_read (valid_state q.table.now q.frames.now q.column.now) c.args.sheet c.args.place c.type_at.result c.unwrap.result c.requires c.type_at.ensures.result c.unwrap.ensures in
    sym (append-nil (string_bytes c.args.text.now))
    ∙ ap (λ o. string_bytes c.args.text.now ++ type_line c.args.sheet c.args.place o) (sym (ap (map_some type_code) c.in-None.is) ∙ e)
