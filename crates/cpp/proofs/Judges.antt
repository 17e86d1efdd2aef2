-- The judge's verdict in the words of the rules.
use Rattle.std.proofs.Common.{◌≡◌, ℕ, ◌-◌, List, ◌++◌, length, replicate, Ok, sym, ap, ◌∙◌}
use Rattle.syntax.specs.Trees.{Definition}
use Rattle.syntax.specs.Writing.{written}
use Rattle.rules.specs.declared.violation.Violation.{Violation}
use Rattle.rules.specs.Heads.{Levels}
use Rattle.rules.specs.Sequences.{ValidDefinition}
use Rattle.rules.specs.Faults.{number}
use Rattle.rules.specs.Columns.{column}
use Rattle.rules.specs.Walk.{walk_sheet}
use Rattle.rules.specs.Typed.{column_left}
use Rattle.rules.specs.Broken.{Broken}
use Rattle.rules.proofs.Decided.{walk_derived, derived_walk}
use Rattle.rules.proofs.FailingStatements.{broken_rule}
use Rattle.history.specs.Language.{Verdict.good, Verdict.bad, Heads}
use Rattle.cpp.specs.Sheet.{Sheet}
use Rattle.cpp.specs.Heads.{signature_from}
use Rattle.cpp.specs.Judge.{verdict, judge}
use Rattle.cpp.specs.Judges.{JudgeTied}
use Rattle.cpp.proofs.Verdicts.{good_walk, good_column, bad_walk}

-- a column and 0 up to 256 numbers
abbrev filled_up : List ℕ → List ℕ
filled_up c = c ++ replicate (256 - length c) 0

-- is what a walk leaves
left_filled : (c : List ℕ) (Γ : Levels) → column_left (Ok (c, Γ)) ≡ filled_up c
unfolding column_left
left_filled c Γ = λ i. filled_up c

module _ (h : Heads) (s : Sheet) (d : Definition) (w : written d ≡ s.frames) where
  -- a good verdict is of a derivation
  good_derived : (c : List ℕ) → judge h s ≡ good c → (D : ValidDefinition (signature_from h) d) × (filled_up (column (signature_from h) d D) ≡ c)
  unfolding judge
  good_derived c e =
      let r = walk_sheet (signature_from h) s.frames in
      let k = good_walk r c e in
      let q = derived_walk (signature_from h) d k.0 k.1 (ap (walk_sheet (signature_from h)) w ∙ k.2) in
      (q.0, ap filled_up q.1 ∙ sym (left_filled k.0 k.1) ∙ sym (ap column_left k.2) ∙ good_column r c e)

  -- and a derivation has a good one
  derived_good : (c : List ℕ) → (D : ValidDefinition (signature_from h) d) × (filled_up (column (signature_from h) d D) ≡ c) → judge h s ≡ good c
  unfolding judge
  derived_good c q =
      ap (λ fs. verdict (walk_sheet (signature_from h) fs)) (sym w) ∙ ap verdict (walk_derived (signature_from h) d q.0) ∙ ap good (left_filled _ _ ∙ q.1)

  -- the definition first breaks a rule of this number at this place
  abbrev Breaks : ℕ → ℕ → ℕ → Type 0
  Breaks l n p = (4 ≡ l) × ((v : Violation) × (Γ : Levels) × (number v ≡ n) × Broken (signature_from h) d v p Γ)

  -- a bad verdict tells the rule broken first
  bad_breaks : (l n p : ℕ) → judge h s ≡ bad l n p → Breaks l n p
  unfolding judge
  bad_breaks l n p e =
      let b = bad_walk (walk_sheet (signature_from h) s.frames) l n p e in
      let f = b.1 in
      (b.0, (f.0, f.1, f.2, (broken_rule (signature_from h) d f.0 p f.1).0 (ap (walk_sheet (signature_from h)) w ∙ f.3)))

  -- and a broken rule is told
  breaks_bad : (l n p : ℕ) → Breaks l n p → judge h s ≡ bad l n p
  unfolding judge
  breaks_bad l n p b =
      let f = b.1 in
      let i = b.0 in
      let j = f.2 in
      ap (λ fs. verdict (walk_sheet (signature_from h) fs)) (sym w)
      ∙ ap verdict ((broken_rule (signature_from h) d f.0 p f.1).1 f.3)
      ∙ (λ k. bad (i k) (j k) p)

-- of every sheet and definition
pub judge_tied : JudgeTied
judge_tied h s d w = record {
  valid = λ c. (good_derived h s d w c, derived_good h s d w c);
  faulty = λ l n p. (bad_breaks h s d w l n p, breaks_bad h s d w l n p);
}
