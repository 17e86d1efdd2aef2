use Rattle.history.specs.Example.{example}
use Rattle.history.proofs.law.Goals as goal
use Rattle.history.proofs.Laws.{law}
use Rattle.history.proofs.Witness.{known}

pub returns : goal.returns
returns _ = record { law = law example known }
