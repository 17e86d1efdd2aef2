use Rattle.cpp.proofs.sheets_tied.Goals as goal
use Rattle.cpp.proofs.Tells.{sheets_tied}

pub returns : goal.returns
returns _ = record { law = sheets_tied }
