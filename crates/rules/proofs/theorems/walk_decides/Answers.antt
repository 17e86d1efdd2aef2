use Rattle.rules.proofs.Decided.{walk_decides}
use Rattle.rules.proofs.theorems.walk_decides.Goals as goal

pub returns : goal.returns
returns _ = record { law = walk_decides }
