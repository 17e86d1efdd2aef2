use Rattle.std.proofs.Common.{refl}
use Rattle.syntax.specs.Form.{step}
use Rattle.syntax.proofs.examples.examples_agree.Goals as goal

pub returns : goal.returns
unfolding step
returns c = record { law = refl }
