-- The first repeat is the lowest place of a name that stands among those before it.
use Rattle.std.proofs.Common.{◌≡◌, ℕ, suc, ◌<◌, ◌≤◌, Bool, true, false, cond, eqb, ◌↔◌, List, [], ◌∷◌, ◌++◌, length, get_or, Some, None, Option, sym, refl, ◌∙◌, subst, inl, inr, arith}
use Rattle.std.proofs.lemmas.List.{append_assoc, length-append, length_push, get_or_append_left, get_or_push, get_or_at}
use Rattle.std.proofs.lemmas.Bool.{cases_order, cases_lt, cases_eq, eq-eqb, eqb-true, or_cases, or_left, or_right}
use Rattle.history.specs.Words.{any_of}
use Rattle.cpp.specs.Heads.{first_repeat}
use Rattle.cpp.specs.Tells.{RepeatsAt, LowestRepeat}

-- the name stands in the list
abbrev In : ℕ → List ℕ → Type 0
In n ns = (j : ℕ) × (j < length ns) × (get_or ns j 0 ≡ n)

-- what was seen is what stands before
abbrev Tracks : List ℕ → List ℕ → Type 0
Tracks seen before = (n : ℕ) → (any_of (λ y. eqb y n) seen ≡ true) ↔ In n before

-- at first nothing
tracks_none : Tracks [] []
unfolding any_of
tracks_none n = ((λ h. cc), (λ h. absurd (omega (arith, h.1))))

-- one name more was seen and stands before
tracks_more : (seen before : List ℕ) (x : ℕ) → Tracks seen before → Tracks (x ∷ seen) (before ++ (x ∷ []))
unfolding any_of
tracks_more seen before x t n = (
  (λ h. elim (or_cases (eqb x n) (any_of (λ y. eqb y n) seen) h) [
    | inl i ↦ (length before, omega (arith, length_push before x), get_or_push before x 0 (length before) refl ∙ eqb-true x n i)
    | inr i ↦ (let r = (t n).0 i in (r.0, omega (arith, length_push before x, r.1), get_or_append_left before (x ∷ []) 0 r.0 r.1 ∙ r.2))
  ]),
  (λ h. elim (cases_lt h.0 (length before)) [
    | inl l ↦ or_right (eqb x n) (any_of (λ y. eqb y n) seen) ((t n).1 (h.0, l, sym (get_or_append_left before (x ∷ []) 0 h.0 l) ∙ h.2))
    | inr l ↦ or_left (eqb x n) (any_of (λ y. eqb y n) seen) (eq-eqb x n (sym (get_or_push before x 0 h.0 (omega (arith, l, h.1, length_push before x))) ∙ h.2))
  ]),
)

-- the lowest repeat from the n-th name on, or that there is none
abbrev Outcome : List ℕ → ℕ → Option ℕ → Type 0
Outcome ns n None = (k : ℕ) → n ≤ k → RepeatsAt ns k → ⊥
Outcome ns n (Some p) = (i : ℕ) × (p ≡ suc i) × (n ≤ i) × RepeatsAt ns i × ((k : ℕ) → n ≤ k → k < i → RepeatsAt ns k → ⊥)

-- where the n-th repeats none, the outcome is that from the next on
outcome_next : (ns : List ℕ) (n : ℕ) (o : Option ℕ) → (RepeatsAt ns n → ⊥) → Outcome ns (suc n) o → Outcome ns n o
outcome_next ns n None free h =
    λ k l r. elim (cases_eq k n) [ inl y ↦ free (subst (RepeatsAt ns) y r) | inr y ↦ h k (omega arith) r ]
outcome_next ns n (Some p) free h =
    (h.0, h.1, omega (arith, h.2), h.3, (λ k l m r. elim (cases_eq k n) [ inl y ↦ free (subst (RepeatsAt ns) y r) | inr y ↦ h.4 k (omega arith) m r ]))

module _ (before : List ℕ) (x : ℕ) (xs : List ℕ) (n : ℕ) (e : n ≡ length before) where
  -- the names before, the n-th, and those after
  abbrev whole : List ℕ
  whole = before ++ (x ∷ xs)

  -- the n-th of them
  here : get_or whole n 0 ≡ x
  here = get_or_at before x xs 0 n (sym e)

  -- it repeats a name if it stands before
  repeats_in : In x before → RepeatsAt whole n
  repeats_in h =
      (omega (arith, length-append before (x ∷ xs)), (h.0, omega (arith, h.1), get_or_append_left before (x ∷ xs) 0 h.0 h.1 ∙ h.2 ∙ sym here))

  -- and only then
  in_repeats : RepeatsAt whole n → In x before
  in_repeats r =
      let l : r.1.0 < length before = omega (arith, r.1.1) in
      (r.1.0, l, sym (get_or_append_left before (x ∷ xs) 0 r.1.0 l) ∙ r.1.2 ∙ here)

-- the n-th repeats a name, or the rest tells
scan_next : (before seen : List ℕ) (x : ℕ) (xs : List ℕ) (n : ℕ) → n ≡ length before → Tracks seen before →
    (o : Option ℕ) → Outcome ((before ++ (x ∷ [])) ++ xs) (suc n) o → (b : Bool) → any_of (λ y. eqb y x) seen ≡ b → Outcome (before ++ (x ∷ xs)) n (cond b (Some (suc n)) o)
scan_next before seen x xs n e t o ih true i = (n, refl, omega arith, repeats_in before x xs n e ((t x).0 i), (λ k l m. absurd (omega arith)))
scan_next before seen x xs n e t o ih false i =
    outcome_next (before ++ (x ∷ xs)) n o (λ r. cc ((t x).1 (in_repeats before x xs n e r)))
    (subst (λ ns. Outcome ns (suc n) o) (append_assoc before (x ∷ []) xs) ih)

-- what the search for the first repeat finds
scan : (before seen xs : List ℕ) (n : ℕ) → n ≡ length before → Tracks seen before → Outcome (before ++ xs) n (first_repeat (suc n) seen xs)
unfolding first_repeat
scan before seen [] n e t = λ k l r. omega (arith, length-append before [], r.0)
scan before seen (x ∷ xs) n e t =
    scan_next before seen x xs n e t (first_repeat (suc (suc n)) (x ∷ seen) xs)
    (scan (before ++ (x ∷ [])) (x ∷ seen) xs (suc n) (omega (arith, length_push before x)) (tracks_more seen before x t)) (any_of (λ y. eqb y x) seen) refl

-- there is but one lowest
lowest_once : (ns : List ℕ) (p : ℕ) (o : Option ℕ) → Outcome ns 0 o → LowestRepeat ns p → o ≡ Some p
lowest_once ns p None h f = absurd (h f.0 (omega arith) f.2)
lowest_once ns p (Some q) h f =
    elim (cases_order h.0 f.0) [
      | inl i ↦ cc (i, h.1, f.1)
      | inr (inl l) ↦ absurd (f.3 h.0 l h.3)
      | inr (inr m) ↦ absurd (h.4 f.0 (omega arith) m f.2)
    ]

-- of any names
pub repeat_lowest : (ns : List ℕ) (p : ℕ) → (first_repeat 1 [] ns ≡ Some p) ↔ LowestRepeat ns p
repeat_lowest ns p =
    let o = scan [] [] ns 0 refl tracks_none in
    ((λ h. let q : Outcome ns 0 (Some p) = subst (Outcome ns 0) h o in (q.0, q.1, q.3, (λ k l. q.4 k (omega arith) l))), lowest_once ns p (first_repeat 1 [] ns) o)
