use Rattle.rules.proofs.FailingStatements.{broken_rule}
use Rattle.rules.proofs.theorems.broken_rule.Goals as goal

pub returns : goal.returns
returns _ = record { law = broken_rule }
