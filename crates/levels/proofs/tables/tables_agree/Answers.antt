use Rattle.levels.proofs.Rising.{tables}
use Rattle.levels.proofs.tables.tables_agree.Goals as goal

pub returns : goal.returns
returns g _ = record { law = tables _ }
