-- A call that does as it should keeps its promise over every history.
use Rattle.syntax.specs.declared.frame.Frame.{Frame}
use Rattle.history.specs.Calls.{Call, Answer}
use Rattle.history.specs.Working.{State}
use Rattle.history.specs.Runs.{Does}
use Rattle.history.specs.Promise.{Promise}
use Rattle.cpp.specs.Cpp.{cpp}
use Rattle.cpp.proofs.Laws.{promises}

-- the two clauses of an edit
pub kept : (book : State Frame) (c : Call cpp) (r : Answer cpp) (book' : State Frame) → Does cpp book c r book' → record { does : Does cpp book c r book'; history : Promise cpp book c r book' }
kept book c r book' d = record { does = d; history = promises.calls book c r book' d }
