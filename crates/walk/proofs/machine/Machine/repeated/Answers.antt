use Rattle.std.proofs.Common.{is_some, sym, ap, ◌∙◌}
use Rattle.walk.proofs.Earlier as earlier
use Rattle.walk.proofs.machine.Machine.repeated.Goals as goal

pub returns-then-alone : goal.returns-then-alone
returns-then-alone g c =
    c.is_some.ensures ∙ ap is_some c.newest.ensures.result
    ∙ earlier.repeated_alone c.args.self.now.things (g.S.Looking.meaning c.args.variables.now).levels c.args.earlier.now c.args.name
    (sym c.if-here.ensures.result) (sym c.if-alone.ensures)
