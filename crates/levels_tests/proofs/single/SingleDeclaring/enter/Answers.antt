use Rattle.std.proofs.Common.{sym, ap, arith}
use Rattle.levels.specs.Refusals.{answer}
use Rattle.levels_tests.proofs.Singles.{deep, not_deep, entered_more, entered_not}
use Rattle.levels_tests.proofs.single.SingleDeclaring.enter.Goals as goal

pub returns-then-depth-ge33 : goal.returns-then-depth-ge33
returns-then-depth-ge33 g c =
    let p = c.args.self.now in
    let r = deep p.upper p.lower p.held (omega (arith, c.if-depth-ge33.true, c.depth.ensures.result)) in
    record { result = sym (ap answer r); leaves = entered_not p.upper p.lower p.held r }

pub returns : goal.returns
returns g c =
    let p = c.args.self.now in
    let r = not_deep p.upper p.lower p.held (omega (arith, c.if-depth-ge33.false, c.depth.ensures.result)) in
    record { result = sym (ap answer r); leaves = entered_more p.upper p.lower p.held r }
