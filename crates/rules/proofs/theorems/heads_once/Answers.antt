use Rattle.rules.proofs.Books.{heads_once}
use Rattle.rules.proofs.theorems.heads_once.Goals as goal

pub returns : goal.returns
returns _ = record { law = heads_once }
