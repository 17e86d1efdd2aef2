use Rattle.std.proofs.Common.{Err, ap, ◌∙◌}
use Rattle.std.proofs.lemmas.Result.{err_from_is_err_and}
use Rattle.levels_clients.proofs.Steps.{second_refused, second_left}
use Rattle.levels_clients.proofs.declare_two.Goals as goal

pub returns-in_err-declare-2-clause-result : goal.returns-in_err-declare-2-clause-result
returns-in_err-declare-2-clause-result g c =
    let m = g.S.Looking.meaning in
    let e = err_from_is_err_and c.from_residual-in_err-declare-2.result c.from_residual-in_err-declare-2.ensures.1 in
    e.1 ∙ ap Err e.2
    ∙ second_refused (m c.args.s.now) (m c.wipe.new.self) (m c.enter.new.self) (m c.declare.new.self) c.args.a c.args.x c.args.b c.args.y c.in_err-declare-2.field-0.0
    c.wipe.ensures.leaves c.in_ok-enter.ensures.leaves c.in_ok-declare.ensures.leaves c.in_ok-declare.ensures.result c.in_err-declare-2.ensures.result

pub returns-in_err-declare-2-clause-leaves : goal.returns-in_err-declare-2-clause-leaves
returns-in_err-declare-2-clause-leaves g c =
    let m = g.S.Looking.meaning in
    second_left (m c.args.s.now) (m c.wipe.new.self) (m c.enter.new.self) (m c.declare.new.self) c.args.a c.args.x c.args.b c.args.y c.in_err-declare-2.field-0.0
    c.wipe.ensures.leaves c.in_ok-enter.ensures.leaves c.in_ok-declare.ensures.leaves c.in_ok-declare.ensures.result c.in_err-declare-2.ensures.result
    (m c.declare-2.new.self) c.in_err-declare-2.ensures.leaves
