use Rattle.cpp.proofs.promises.Goals as goal
use Rattle.cpp.proofs.Laws.{promises}

pub returns : goal.returns
returns _ = record { law = promises }
