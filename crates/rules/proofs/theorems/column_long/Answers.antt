use Rattle.rules.proofs.Long.{column_long}
use Rattle.rules.proofs.theorems.column_long.Goals as goal

pub returns : goal.returns
returns _ = record { law = column_long }
