-- The rules for programs: the heads that a program generates, and when it is valid. A program is a list of definitions, the last one first.
use Rattle.std.specs.Prelude.{ℕ, List, [], ◌∷◌, map}
use Rattle.syntax.specs.declared.frame.Parameter.{Parameter}
use Rattle.syntax.specs.declared.frame.«Type».{«Type» as Ty}
use Rattle.syntax.specs.Trees.{Definition}
use Rattle.levels.specs.Store.{find}
use Rattle.rules.specs.Heads.{Head, head, Signature, Table}
use Rattle.rules.specs.Sequences.{Distinct, Lacks, ValidDefinition}

abbrev pub Program : Type 0
Program = List Definition

-- the names and the types of some parameters, and the head of a definition
abbrev pub param_names : List Parameter → List ℕ
param_names ps = map (λ (p : Parameter). p.name) ps

abbrev pub param_types : List Parameter → List Ty
param_types ps = map (λ (p : Parameter). p.t) ps

abbrev pub head_of : Definition → Head
head_of d = head (param_types d.params) d.returns

-- a program generates a table of heads: no function is defined twice, no parameter stands twice
pub data Generates : Program → Table Head → Type 0 where
  none_generates : Generates [] []
  more_generates : {p : Program} {H : Table Head} {d : Definition}
      → Generates p H → Lacks H d.name → Distinct (param_names d.params)
      → Generates (d ∷ p) ((d.name, head_of d) ∷ H)

-- every definition of a program is valid under the heads S
pub data Consistent (S : Signature) : Program → Type 0 where
  none_consistent : Consistent S []
  more_consistent : {p : Program} {d : Definition} → Consistent S p → ValidDefinition S d → Consistent S (d ∷ p)

-- a program is valid: it generates heads, and every definition is valid under all of them
pub data Valid : Program → Type 0 where
  program_valid : {p : Program} {H : Table Head} → Generates p H → Consistent (find H) p → Valid p
