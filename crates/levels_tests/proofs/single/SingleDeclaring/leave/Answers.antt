use Rattle.std.proofs.Common.{ap}
use Rattle.levels.specs.Refusals.{answer}
use Rattle.levels_tests.proofs.Singles.{leave_not_refused, left_less}
use Rattle.levels_tests.proofs.single.SingleDeclaring.leave.Goals as goal

pub returns-then-self-gt0 : goal.returns-then-self-gt0
returns-then-self-gt0 g c =
    let p = c.args.self.now in
    record { result = ap answer (leave_not_refused p.upper p.lower p.held c.if-self-gt0.true); leaves = left_less p.upper p.lower p.held c.if-self-gt0.true }
