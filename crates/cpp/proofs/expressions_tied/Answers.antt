use Rattle.cpp.proofs.expressions_tied.Goals as goal
use Rattle.cpp.proofs.Operands.{expressions_tied}

pub returns : goal.returns
returns _ = record { law = expressions_tied }
