use Rattle.cpp.proofs.reads_tied.Goals as goal
use Rattle.cpp.proofs.Reading.{reads_tied}

pub returns : goal.returns
returns _ = record { law = reads_tied }
