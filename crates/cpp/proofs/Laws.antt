-- The law and the promises, for CPP.
use Rattle.history.specs.Law.{Law}
use Rattle.history.proofs.Laws as any
use Rattle.history.proofs.Promises.{promise, reader_promise, question_promise}
use Rattle.cpp.specs.Cpp.{cpp}
use Rattle.cpp.specs.Promises.{Promises}
use Rattle.cpp.proofs.Known.{known}

-- of every history
pub law : Law cpp
law = any.law cpp known

-- of each call, reader and question
pub promises : Promises
promises = record { calls = promise cpp known; reader = reader_promise cpp known; question = question_promise cpp known }
