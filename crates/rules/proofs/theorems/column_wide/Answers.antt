use Rattle.rules.proofs.Wide.{column_wide}
use Rattle.rules.proofs.theorems.column_wide.Goals as goal

pub returns : goal.returns
returns _ = record { law = column_wide }
