-- Faults against the rules, and answers that may be one.
use Rattle.std.specs.Prelude.{ℕ, Bool, true, false, Some, None, Ok, Err, Option, Result}
use Rattle.rules.specs.declared.violation.Violation.{Violation}
use Rattle.rules.specs.declared.violation.Violation.TheVariants.{Undeclared, NoFunction, OtherCount, OtherArgument, OtherOperands, OtherAssigned, OtherInitial, Repeated, OtherReturn, NoCondition}
use Rattle.rules.specs.Heads.{Levels}

-- the number of a violation
abbrev pub number : Violation → ℕ
number Undeclared = 51
number NoFunction = 52
number OtherCount = 53
number OtherArgument = 54
number OtherOperands = 55
number OtherAssigned = 56
number OtherInitial = 57
number Repeated = 58
number OtherReturn = 59
number NoCondition = 60

-- a violation, the place of the frame that was judged, and the levels as they stood there
pub data Fault : Type 0 where
  fault : Violation → ℕ → Levels → Fault

-- an answer handed on, a refusal kept
infixl 10 ◌>>=◌
abbrev pub ◌>>=◌ : {A B E : Type 0} → Result A E → (A → Result B E) → Result B E
(Ok a) >>= f = f a
(Err x) >>= f = Err x

-- a value that must be there, and a test that must hold
abbrev pub need : {A : Type 0} → Violation → Option A → Result A Violation
need v None = Err v
need v (Some a) = Ok a

abbrev pub require : Violation → Bool → Result (Unit {0}) Violation
require v true = Ok tt
require v false = Err v

-- the answer at the place p with the levels Γ standing: a violation there is a fault there, and leaves the levels as they are
abbrev pub placed : {A : Type 0} → ℕ → Levels → Result A Violation → Result A Fault
placed p Γ (Ok a) = Ok a
placed p Γ (Err v) = Err (fault v p Γ)
