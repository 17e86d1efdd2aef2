use Rattle.cpp.proofs.forms_tied.Goals as goal
use Rattle.cpp.proofs.Sheets.{forms_tied}

pub returns : goal.returns
returns _ = record { law = forms_tied }
