-- What the calls answer, in the law's words.
use Rattle.std.specs.Prelude.{ℕ, Bool, true, not, is_some, Some, None, Ok, Err, Option, Result}
use Rattle.syntax.specs.declared.frame.«Type».{«Type» as Ty}
use Rattle.syntax.specs.Writing.{type_code}
use Rattle.history.specs.Words.{map_some}
use Rattle.history.specs.Language.{Fault as Numbered}
use Rattle.history.specs.Calls.{Answer, Answer.refused, Answer.done, Answer.checked}
use Rattle.cpp.specs.Cpp.{cpp}
use Rattle.records.specs.declared.fault.Fault.{Fault}
use Rattle.records.specs.declared.fault.Fault.TheVariants.{Posted, NoSheet, OtherLength, NameTaken, RepeatedParameter, EmptySheet, NotValid, Altered, SmallStore, Broken}
use Rattle.records.specs.declared.fault.Checked.{Checked}
use Rattle.records.specs.Faults.{told}

-- a refusal of an area's length names no sheet
abbrev pub unnamed : Fault → Bool
unnamed (Posted e s) = true
unnamed (NoSheet s) = true
unnamed (OtherLength s) = not (is_some s)
unnamed (NameTaken s) = true
unnamed (RepeatedParameter s p) = true
unnamed (EmptySheet s) = true
unnamed NotValid = true
unnamed (Altered s) = true
unnamed SmallStore = true
unnamed (Broken v s p) = true

module _ {A : Type 0} where
  -- the refusal, if there is one
  abbrev pub refusal_of : Result A Fault → Option Numbered
  refusal_of (Ok a) = None
  refusal_of (Err e) = Some (told e)

  -- of put, clear and post: done, or refused
  abbrev pub edited : Result A Fault → Answer cpp
  edited (Ok a) = done
  edited (Err e) = refused (told e)

-- of a check: the number walked and the fault if there is one, or refused
abbrev pub checked_of : Result Checked Fault → Answer cpp
checked_of (Ok c) = checked c.walked (map_some told c.fault)
checked_of (Err e) = refused (told e)

-- of a question: the number of the type, if there is one, or the refusal
abbrev pub asked_of : Result (Option Ty) Fault → Result (Option ℕ) Numbered
asked_of (Ok o) = Ok (map_some type_code o)
asked_of (Err e) = Err (told e)
