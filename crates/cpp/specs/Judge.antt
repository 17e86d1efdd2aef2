-- The judge of a sheet: its walk under the heads of a book; and derivations of what it writes.
use Rattle.std.specs.Prelude.{◌≡◌, ℕ, List, Ok, Err, Result}
use Rattle.syntax.specs.declared.frame.«Type».{«Type» as Ty}
use Rattle.syntax.specs.Trees.{Definition}
use Rattle.syntax.specs.Writing.{type_code, written}
use Rattle.rules.specs.Heads.{Signature, Levels}
use Rattle.rules.specs.Sequences.{ValidDefinition}
use Rattle.rules.specs.Faults.{Fault, fault, number}
use Rattle.rules.specs.Walk.{walk_sheet}
use Rattle.rules.specs.Typed.{column_left}
use Rattle.rules.specs.Places.{Gives}
use Rattle.history.specs.Language.{Verdict, Verdict.good, Verdict.bad, Heads}
use Rattle.cpp.specs.Sheet.{Sheet}
use Rattle.cpp.specs.Heads.{signature_from}

-- a walk without a fault is good, with the types of the frames and 0 after them; a fault is of layer 4
abbrev pub verdict : Result (List ℕ × Levels) Fault → Verdict
verdict (Ok a) = good (column_left (Ok a))
verdict (Err (fault v p Γ)) = bad 4 (number v) p

-- the walk of the sheet decides
unfoldable pub judge : Heads → Sheet → Verdict
judge h s = verdict (walk_sheet (signature_from h) s.frames)

-- the definition that a sheet writes, and a derivation of its validity
pub record Derivation (S : Signature) (s : Sheet) : Type 0 where
  pub definition : Definition
  pub writes : written definition ≡ s.frames
  pub tree : ValidDefinition S definition

-- an expression of it ends at the place p and has the type whose number is n
abbrev pub GivesNumber : (S : Signature) (s : Sheet) → Derivation S s → ℕ → ℕ → Type 0
GivesNumber S s D p n = (u : Ty) × (type_code u ≡ n) × Gives S D.definition D.tree p u
