-- The law holds of every input.
use Rattle.input.proofs.CutLaw.{cutting}
use Rattle.input.proofs.pieces.cut.Goals as goal

pub returns-then-is_empty-clause-law : goal.returns-then-is_empty-clause-law
returns-then-is_empty-clause-law c = cutting

pub returns-clause-law : goal.returns-clause-law
returns-clause-law c = cutting
