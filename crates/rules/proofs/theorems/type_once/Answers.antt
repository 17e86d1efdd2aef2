use Rattle.rules.proofs.Typed.{type_is_one}
use Rattle.rules.proofs.theorems.type_once.Goals as goal

pub returns : goal.returns
returns _ = record { law = type_is_one }
