-- Scripts: calls and looks at columns, and what the plain book and the working book say to them.
use Rattle.std.specs.Prelude.{ℕ, List, [], ◌∷◌, length, take, Some, None, codes, Option}
use Prim.Native.String.{String}
use Rattle.syntax.specs.declared.frame.Frame.{Frame}
use Rattle.history.specs.Language.{Heads, column_of, heads_in}
use Rattle.history.specs.Calls.{Call, Call.post, Call.put, Call.clear, Call.check, History, Answer, Answer.refused, Answer.done, Answer.checked}
use Rattle.history.specs.Plain.{plain, answer}
use Rattle.history.specs.Areas.{part}
use Rattle.history.specs.Working.{Record, State, record_at}
use Rattle.history.specs.Runs.{working_step, working_answer}
use Rattle.cpp.specs.Sheet.{Sheet}
use Rattle.cpp.specs.Judge.{judge}
use Rattle.cpp.specs.Cpp.{cpp}

-- a line of a run: a call, or a look at the column of a sheet's frames
pub data Line : Type 0 where
  call : Call cpp → Line
  look : ℕ → Line

-- what a line says
pub data Said : Type 0 where
  told : Answer cpp → Said
  types : List ℕ → Said

-- the types that the judge gives to the frames of a sheet
abbrev pub plain_types : Heads → Option Sheet → List ℕ
plain_types h None = []
plain_types h (Some s) = take (length s.frames) (column_of (judge h s))

-- what lines say after a history, by the plain book
abbrev pub plain_says : History cpp → List Line → List Said
plain_says h [] = []
plain_says h (call c ∷ ls) = told (answer cpp h c) ∷ plain_says (c ∷ h) ls
plain_says h (look s ∷ ls) = types (plain_types (heads_in cpp (plain cpp h).entries) ((plain cpp h).entries s)) ∷ plain_says h ls

-- the types that stand in a sheet's part of the column
abbrev pub working_types : State Frame → ℕ → Option Record → List ℕ
working_types book s None = []
working_types book s (Some r) = take r.size (part s book.column)

-- what lines say, by the working book
abbrev pub working_says : State Frame → List Line → List Said
working_says book [] = []
working_says book (call c ∷ ls) = told (working_answer cpp book c) ∷ working_says (working_step cpp book c) ls
working_says book (look s ∷ ls) = types (working_types book s (record_at book s)) ∷ working_says book ls

-- a check, a put, a clear and a post with areas of 8,192 places
abbrev pub checks : Line
checks = call (check 8192 8192 256 256)

abbrev pub puts : ℕ → Sheet → Line
puts n s = call (put n s 8192 8192)

abbrev pub clears : ℕ → Line
clears n = call (clear n 8192 8192)

abbrev pub posts : ℕ → String → ℕ → Line
posts n text room = call (post n (codes text) room 8192 8192)

-- done; valid with so many walked; a fault of the rules with so many walked; refused
abbrev pub well : Said
well = told done

abbrev pub valid : ℕ → Said
valid n = told (checked n None)

abbrev pub faulty : ℕ → ℕ → ℕ → ℕ → Said
faulty walked n s p = told (checked walked (Some (record { number = n; layer = 4; sheet = s; place = p })))

abbrev pub refuses : ℕ → ℕ → ℕ → ℕ → Said
refuses n l s p = told (refused (record { number = n; layer = l; sheet = s; place = p }))
