use Rattle.cpp.proofs.judge_tied.Goals as goal
use Rattle.cpp.proofs.Judges.{judge_tied}

pub returns : goal.returns
returns _ = record { law = judge_tied }
