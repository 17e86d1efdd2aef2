use Rattle.rules.proofs.Bounds.{within_bounds}
use Rattle.rules.proofs.theorems.within_bounds.Goals as goal

pub returns : goal.returns
returns _ = record { law = within_bounds }
