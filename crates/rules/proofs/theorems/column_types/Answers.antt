use Rattle.rules.proofs.Typed.{column_types}
use Rattle.rules.proofs.theorems.column_types.Goals as goal

pub returns : goal.returns
returns _ = record { law = column_types }
