-- Heads of functions, and tables of names.
use Rattle.std.specs.Prelude.{ℕ, List, Option}
use Rattle.syntax.specs.declared.frame.«Type».{«Type» as Ty}

-- the parameter types in order, and the return type
pub data Head : Type 0 where
  head : List Ty → Ty → Head

-- the head of each name that has one
abbrev pub Signature : Type 0
Signature = ℕ → Option Head

-- a table gives names values; the newest entry stands first
abbrev pub Table : Type 0 → Type 0
Table A = List (ℕ × A)

-- a stack of tables, one for each scope; the innermost stands first and is the top
abbrev pub Levels : Type 0
Levels = List (Table Ty)
