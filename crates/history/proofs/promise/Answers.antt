use Rattle.history.specs.Example.{example}
use Rattle.history.proofs.promise.Goals as goal
use Rattle.history.proofs.Promises.{promise, reader_promise, question_promise}
use Rattle.history.proofs.Witness.{known}

pub returns : goal.returns
returns _ =
    record { law = record { calls = promise example known; reader = reader_promise example known; question = question_promise example known } }
