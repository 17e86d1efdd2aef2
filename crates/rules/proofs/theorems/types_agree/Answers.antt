use Rattle.rules.proofs.Typed.{types_agree}
use Rattle.rules.proofs.theorems.types_agree.Goals as goal

pub returns : goal.returns
returns _ = record { law = types_agree }
