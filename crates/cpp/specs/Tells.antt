-- What ties a sheet to the definition that it writes.
use Rattle.std.specs.Prelude.{◌≡◌, ℕ, suc, ◌<◌, ◌↔◌, List, map, length, Some, None, slice_index}
use Rattle.syntax.specs.Trees.{Definition}
use Rattle.syntax.specs.Writing.{type_code, written}
use Rattle.heads.specs.Heads as packing
use Rattle.rules.specs.Sequences.{Distinct}
use Rattle.rules.specs.Programs.{param_names, param_types, head_of}
use Rattle.cpp.specs.Sheet.{Sheet}
use Rattle.cpp.specs.Heads.{head_from, name_of, head_number, repeated_in}

-- the i-th of some names, counted from 0, stands among those before it
abbrev pub RepeatsAt : List ℕ → ℕ → Type 0
RepeatsAt ns i = (i < length ns) × ((j : ℕ) × (j < i) × (slice_index ns j ≡ slice_index ns i))

-- p is the lowest place of a name that stands among those before it, where the first name has place 1
abbrev pub LowestRepeat : List ℕ → ℕ → Type 0
LowestRepeat ns p = (i : ℕ) × (p ≡ suc i) × RepeatsAt ns i × ((k : ℕ) → k < i → RepeatsAt ns k → ⊥)

-- what the sheet tells of the definition that it writes
pub record Tells (s : Sheet) (d : Definition) : Type 0 where
  pub named : name_of s ≡ d.name
  -- its head can be packed, and the number is that, and stands for it
  pub packed : packing.head_of (map type_code (param_types d.params)) (type_code d.returns) ≡ Some (head_number s)
  pub stands : head_from (head_number s) ≡ head_of d
  -- no repeat exactly where no parameter stands twice, else the lowest
  pub distinct : (repeated_in s ≡ None) ↔ Distinct (param_names d.params)
  pub repeats : (p : ℕ) → (repeated_in s ≡ Some p) ↔ LowestRepeat (param_names d.params) p

-- of every sheet and the definition that it writes
abbrev pub SheetsTied : Type 0
SheetsTied = (s : Sheet) (d : Definition) → written d ≡ s.frames → Tells s d
