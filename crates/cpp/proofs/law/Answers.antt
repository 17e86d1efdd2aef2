use Rattle.cpp.proofs.law.Goals as goal
use Rattle.cpp.proofs.Laws.{law}

pub returns : goal.returns
returns _ = record { law = law }
