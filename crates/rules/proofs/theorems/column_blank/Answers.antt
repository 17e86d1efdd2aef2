use Rattle.rules.proofs.Typed.{column_blank}
use Rattle.rules.proofs.theorems.column_blank.Goals as goal

pub returns : goal.returns
returns _ = record { law = column_blank }
