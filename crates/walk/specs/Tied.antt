-- What the walk of the rules answers and leaves, in the numbers of the code.
use Rattle.std.specs.Prelude.{◌≡◌, ℕ, ◌≤◌, List, map, length, Some, None, Ok, Err, Option, Result}
use Rattle.syntax.specs.declared.frame.«Type».{«Type» as Ty}
use Rattle.syntax.specs.Writing.{type_code}
use Rattle.levels.specs.Store.{table, looked}
use Rattle.heads.specs.Heads.{packed}
use Rattle.rules.specs.Heads.{Head, head, Signature, Table, Levels}
use Rattle.rules.specs.Faults.{Fault, fault}
use Rattle.walk.specs.declared.verdict.Verdict.{Verdict}
use Rattle.walk.specs.declared.verdict.Verdict.TheVariants.{Valid, Broken}
use Rattle.walk.specs.Judge.{Numbers}

-- a name with the code of its type; the table that a store has of such entries, and its levels
abbrev pub coded_entry : ℕ × Ty → ℕ × ℕ
coded_entry e = (e.0, type_code e.1)

abbrev pub coded : Table Ty → Numbers
coded τ = table (map coded_entry τ)

abbrev pub coded_levels : Levels → List Numbers
coded_levels Γ = map coded Γ

-- a head packed in a number
abbrev pub packed_head : Head → ℕ
packed_head (head us r) = packed (map type_code us) (type_code r)

-- what is looked up is the packed head of a name, or nothing where it has none
abbrev pub Carries : Option Head → Option ℕ → Type 0
Carries None o = o ≡ None
Carries (Some (head us r)) o = (length us ≤ 16) × (o ≡ Some (packed_head (head us r)))

-- the levels hold the heads of the signature, and no other
abbrev pub Holds : Signature → List Numbers → Type 0
Holds S hs = (f : ℕ) → Carries (S f) (looked hs f)

-- the verdict on a sheet whose walk by the rules answers so
abbrev pub walk_verdict : Result (List ℕ × Levels) Fault → Verdict
walk_verdict (Ok a) = Valid
walk_verdict (Err (fault v p Γ)) = Broken v p

-- the levels of its variables
abbrev pub walk_levels : Result (List ℕ × Levels) Fault → List Numbers
walk_levels (Ok a) = coded_levels a.1
walk_levels (Err (fault v p Γ)) = coded_levels Γ
