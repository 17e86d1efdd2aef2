-- After valid a reader is made.
use Rattle.std.proofs.Common.{string_bytes}
use Rattle.std.proofs.lemmas.Result.{on_ok_weaker}
use Rattle.driver.specs.Workspaces.{book_of}
use Rattle.driver.proofs.ReadLaws.{valid_opens, valid_reported}
use Rattle.driver.proofs.workspace.Workspace.write_report.Goals as goal

pub write_types-requires : goal.write_types-requires
write_types-requires c =
    let said = c.in-Ok.ensures in
    valid_opens c.args.input.now c.in-Ok.walked (book_of c.run.new.self) said.result said.history

pub returns-in_ok-writeln-in-Ok : goal.returns-in_ok-writeln-in-Ok
returns-in_ok-writeln-in-Ok c =
    let said = c.in-Ok.ensures in
    on_ok_weaker c.write_types.result (λ written. valid_reported c.args.input.now c.in-Ok.walked (book_of c.run.new.self) said.result said.history (string_bytes c.args.text.now) _ _ c.in_ok-writeln-in-Ok.ensures.bytes written) c.write_types.ensures
