use Rattle.rules.proofs.Ends.{typed_places}
use Rattle.rules.proofs.theorems.typed_places.Goals as goal

pub returns : goal.returns
returns _ = record { law = typed_places }
