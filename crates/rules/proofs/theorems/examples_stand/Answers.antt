use Rattle.std.proofs.Common.{refl}
use Rattle.syntax.specs.Form as form
use Rattle.rules.proofs.theorems.examples_stand.Goals as goal

pub returns : goal.returns
unfolding form.step
returns _ = record { law = (refl, refl) }
