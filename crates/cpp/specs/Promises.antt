-- What the law promises of a call, a reader and a question on a book of CPP sheets.
use Rattle.std.specs.Prelude.{ℕ}
use Rattle.syntax.specs.declared.frame.Frame.{Frame}
use Rattle.history.specs.Calls.{Call, Answer}
use Rattle.history.specs.Working.{State, working_reading, asked}
use Rattle.history.specs.Runs.{Does}
use Rattle.history.specs.Promise.{Promise, ReaderPromise, QuestionPromise}
use Rattle.cpp.specs.Cpp.{cpp}

-- each that does as it should keeps its promise
pub record Promises : Type 0 where
  pub calls : (book : State Frame) (c : Call cpp) (r : Answer cpp) (book' : State Frame) → Does cpp book c r book' → Promise cpp book c r book'
  pub reader : (book : State Frame) (fl cl : ℕ) → ReaderPromise cpp book fl cl (working_reading book fl cl)
  pub question : (book : State Frame) (s k : ℕ) → QuestionPromise cpp book s k (asked cpp book s k)
