use Rattle.cpp.proofs.calls_tied.Goals as goal
use Rattle.cpp.proofs.Called.{calls_tied}

pub returns : goal.returns
returns _ = record { law = calls_tied }
