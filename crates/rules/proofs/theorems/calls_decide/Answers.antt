use Rattle.rules.proofs.Calls.{calls_decide}
use Rattle.rules.proofs.theorems.calls_decide.Goals as goal

pub returns : goal.returns
returns _ = record { law = calls_decide }
