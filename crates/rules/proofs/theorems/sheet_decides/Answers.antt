use Rattle.rules.proofs.Decided.{sheet_decides}
use Rattle.rules.proofs.theorems.sheet_decides.Goals as goal

pub returns : goal.returns
returns _ = record { law = sheet_decides }
