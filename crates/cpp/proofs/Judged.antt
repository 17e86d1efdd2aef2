-- The judge finds valid exactly the sheets that have a derivation, with the types that it gives.
use Rattle.std.proofs.Common.{◌≡◌, ℕ, ◌-◌, ◌<◌, ◌≤◌, ◌&&◌, ltb, ◌↔◌, List, [], ◌∷◌, length, get_or, replicate, Some, Ok, sym, refl, ap, ◌∙◌, inl, inr, arith}
use Rattle.std.proofs.lemmas.List.{get_or_append_left, get_or_past}
use Rattle.std.proofs.lemmas.Bool.{cases_lt, ltb-true, lt-ltb, and_parts}
use Rattle.syntax.specs.declared.frame.«Type».{«Type» as Ty}
use Rattle.syntax.specs.declared.frame.«Type».TheVariants.{Bool as Boolean, Int, Double, String, Void}
use Rattle.syntax.specs.Writing.{type_code}
use Rattle.rules.specs.Heads.{Signature, Levels}
use Rattle.rules.specs.Decided.{level_left}
use Rattle.rules.specs.Columns.{column}
use Rattle.rules.specs.Walk.{walk_sheet}
use Rattle.rules.specs.Typed.{column_left}
use Rattle.rules.specs.Calls.{calls}
use Rattle.rules.specs.Calls as walked
use Rattle.syntax.proofs.TokenFrames.{type_coded}
use Rattle.rules.proofs.Places.{code_not_zero}
use Rattle.rules.proofs.Decided.{walk_derived, sheet_decides}
use Rattle.rules.proofs.Long.{column_long}
use Rattle.rules.proofs.Wide.{column_wide}
use Rattle.rules.proofs.Typed.{column_types}
use Rattle.rules.proofs.Calls.{calls_decide}
use Rattle.rules.proofs.First.{first_fault}
use Rattle.history.specs.Words.{map_some}
use Rattle.std.proofs.lemmas.Option.{cond_some}
use Rattle.history.proofs.Words.{cond_parts}
use Rattle.history.specs.Language.{Verdict.good, Verdict.bad, Heads, Agree, column_of, as_type, type_at}
use Rattle.cpp.specs.Sheet.{Sheet}
use Rattle.cpp.specs.Heads.{head_from, signature_from}
use Rattle.cpp.specs.Judge.{verdict, judge, Derivation, GivesNumber}
use Rattle.cpp.proofs.Sheets.{has_form}
use Rattle.cpp.proofs.Verdicts.{verdict_column, good_walk, bad_walk}

-- ## the walk and the derivations

-- a derivation's column is the walk's
pub walk_tree : (S : Signature) (s : Sheet) (n : Derivation S s) → walk_sheet S s.frames ≡ Ok (column S n.definition n.tree, level_left n.definition ∷ [])
walk_tree S s n = ap (walk_sheet S) (sym n.writes) ∙ walk_derived S n.definition n.tree

-- a walk without a fault has a derivation
pub tree_walk : (S : Signature) (s : Sheet) (c : List ℕ) (Γ : Levels) → walk_sheet S s.frames ≡ Ok (c, Γ) → Derivation S s
tree_walk S s c Γ e = let w = (sheet_decides S s.frames (has_form s) c Γ).0 e in record { definition = w.0; writes = w.1; tree = w.2.0 }

-- a column has a number for each frame
length_column : (S : Signature) (s : Sheet) (n : Derivation S s) → length (column S n.definition n.tree) ≡ length s.frames
length_column S s n = column_long S n.definition n.tree ∙ ap length n.writes

-- ## verdicts

-- a verdict's part of the column has 256 numbers
pub column_whole : (h : Heads) (s : Sheet) → length (column_of (judge h s)) ≡ 256
unfolding judge
column_whole h s = ap length (verdict_column (walk_sheet (signature_from h) s.frames)) ∙ column_wide (signature_from h) s.frames (has_form s)

-- what is found valid has a derivation
pub derived : (h : Heads) (s : Sheet) (c : List ℕ) → judge h s ≡ good c → Derivation (signature_from h) s
unfolding judge
derived h s c e = let k = good_walk (walk_sheet (signature_from h) s.frames) c e in tree_walk (signature_from h) s k.0 k.1 k.2

-- a fault is a rule's, at a frame of the sheet
pub ruled : (h : Heads) (s : Sheet) (l n p : ℕ) → judge h s ≡ bad l n p → (l ≡ 4) × (51 ≤ n) × (n ≤ 60) × (p < length s.frames)
unfolding judge
ruled h s l n p e =
    let w = bad_walk (walk_sheet (signature_from h) s.frames) l n p e in
    let f = first_fault (signature_from h) s.frames w.1.0 p w.1.1 w.1.3 in
    (sym w.0, omega (arith, f.numbered.0, w.1.2), omega (arith, f.numbered.1, w.1.2), f.inside)

-- ## locality

-- heads that agree stand for signatures that agree
agree_on : (h k : Heads) (ns : List ℕ) → Agree h k ns → walked.Agree (signature_from h) (signature_from k) ns
agree_on h k [] a = tt
agree_on h k (n ∷ ns) a = (ap (map_some head_from) a.0, agree_on h k ns a.1)

-- only the heads of the names called count
pub nearby : (h k : Heads) (s : Sheet) → Agree h k (calls s.frames) → judge h s ≡ judge k s
unfolding judge
nearby h k s a = ap verdict (calls_decide (signature_from h) (signature_from k) s.frames (agree_on h k (calls s.frames) a))

-- ## the types

-- the code of a type is a number from 1 to 5
code_is_type : (u : Ty) → as_type (type_code u) ≡ Some (type_code u)
code_is_type Boolean = refl
code_is_type Int = refl
code_is_type Double = refl
code_is_type String = refl
code_is_type Void = refl

-- a number that counts as a type is the code of one
type_of_number : (n v : ℕ) → as_type n ≡ Some v → (n ≡ v) × ((u : Ty) × (type_code u ≡ v))
type_of_number n v e =
    let c = cond_some (ltb 0 n && ltb n 6) n v e in
    let p = and_parts (ltb 0 n) (ltb n 6) c.0 in
    let s = type_coded n (omega (arith, ltb-true 0 n p.0)) (omega (arith, ltb-true n 6 p.1)) in
    (c.1, (s.0, s.1 ∙ c.1))

module _ (h : Heads) (s : Sheet) (n : Derivation (signature_from h) s) where
  -- the column of the derivation
  abbrev own : List ℕ
  own = column (signature_from h) n.definition n.tree

  -- with 0 up to 256 numbers
  abbrev padded : List ℕ
  padded = column_left (Ok (own, level_left n.definition ∷ []))

  -- the judge finds the sheet valid, with that column
  pub judged : judge h s ≡ good padded
  unfolding judge
  judged = ap verdict (walk_tree (signature_from h) s n)

  -- the own column stands in front
  own_front : (p : ℕ) → p < length own → get_or padded p 0 ≡ get_or own p 0
  unfolding column_left
  own_front p l = get_or_append_left own (replicate (256 - length own) 0) 0 p l

  -- a type stands within it
  typed_within : (p : ℕ) (u : Ty) → get_or own p 0 ≡ type_code u → p < length own
  typed_within p u e =
      elim (cases_lt p (length own)) [
        | inl l ↦ l
        | inr l ↦ absurd (code_not_zero u (sym (get_or_past own p 0 l) ∙ e))
      ]

  -- what the column says the derivation gives
  says : (p v : ℕ) → type_at (length s.frames) padded p ≡ Some v → GivesNumber (signature_from h) s n p v
  says p v e =
      let q = cond_parts (ltb p (length s.frames)) (as_type (get_or padded p 0)) e in
      let a = type_of_number (get_or padded p 0) v q.1 in
      let l : p < length own = omega (arith, ltb-true p (length s.frames) q.0, length_column (signature_from h) s n) in
      let c : get_or own p 0 ≡ type_code a.1.0 = sym (own_front p l) ∙ a.0 ∙ sym a.1.1 in
      (a.1.0, a.1.1, (column_types (signature_from h) n.definition n.tree p a.1.0).0 c)

  -- and the other way round
  said : (p v : ℕ) → GivesNumber (signature_from h) s n p v → type_at (length s.frames) padded p ≡ Some v
  said p v g =
      let c = (column_types (signature_from h) n.definition n.tree p g.0).1 g.2 in
      let l = typed_within p g.0 c in
      rw (lt-ltb p (length s.frames) (omega (arith, l, length_column (signature_from h) s n))) refl
      ∙ ap as_type (own_front p l ∙ c) ∙ code_is_type g.0 ∙ ap Some g.1

  -- the column has the types that the derivation gives
  pub types_given : (p v : ℕ) → (type_at (length s.frames) padded p ≡ Some v) ↔ GivesNumber (signature_from h) s n p v
  types_given p v = (says p v, said p v)
