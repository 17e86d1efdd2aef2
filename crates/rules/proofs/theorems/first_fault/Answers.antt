use Rattle.rules.proofs.First.{first_fault}
use Rattle.rules.proofs.theorems.first_fault.Goals as goal

pub returns : goal.returns
returns _ = record { law = first_fault }
