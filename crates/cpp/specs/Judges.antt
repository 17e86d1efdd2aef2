-- What ties the judge to the rules.
use Rattle.std.specs.Prelude.{◌≡◌, ℕ, ◌-◌, ◌↔◌, List, ◌++◌, length, replicate}
use Rattle.syntax.specs.Trees.{Definition}
use Rattle.syntax.specs.Writing.{written}
use Rattle.rules.specs.declared.violation.Violation.{Violation}
use Rattle.rules.specs.Heads.{Levels}
use Rattle.rules.specs.Sequences.{ValidDefinition}
use Rattle.rules.specs.Faults.{number}
use Rattle.rules.specs.Columns.{column}
use Rattle.rules.specs.Broken.{Broken}
use Rattle.history.specs.Language.{Verdict.good, Verdict.bad, Heads}
use Rattle.cpp.specs.Sheet.{Sheet}
use Rattle.cpp.specs.Heads.{signature_from}
use Rattle.cpp.specs.Judge.{judge}

-- its verdict on the sheet that writes the definition, under the heads of a book, in the words of the rules
pub record Judges (h : Heads) (s : Sheet) (d : Definition) : Type 0 where
  -- valid exactly where there is a derivation, with its column and 0 up to 256 numbers
  pub valid :
      (c : List ℕ) →
      (judge h s ≡ good c) ↔ ((D : ValidDefinition (signature_from h) d) × (column (signature_from h) d D ++ replicate (256 - length (column (signature_from h) d D)) 0 ≡ c))
  -- else a fault of layer 4: the number of the rule that the definition first breaks, and the place
  pub faulty :
      (l n p : ℕ) →
      (judge h s ≡ bad l n p) ↔ ((4 ≡ l) × ((v : Violation) × (Γ : Levels) × (number v ≡ n) × Broken (signature_from h) d v p Γ))

-- of every sheet and the definition that it writes, under any heads
abbrev pub JudgeTied : Type 0
JudgeTied = (h : Heads) (s : Sheet) (d : Definition) → written d ≡ s.frames → Judges h s d
