-- Tables rise by name, and two that rise with the same values are equal.
use Rattle.std.proofs.Common.{◌≡◌, ℕ, ◌<◌, ◌≤◌, ◌⊎◌, Bool, true, false, cond, eqb, leb, List, [], ◌∷◌, Some, None, Option, sym, refl, ap, ◌∙◌, ap₂, inl, inr, arith, leb-true, leb-false}
use Rattle.std.proofs.lemmas.Bool.{cases_eq, cases_lt, eq-eqb, ne_eqb}
use Rattle.levels.specs.Store.{find, placed}
use Rattle.levels.specs.Tables.{Above, Rising, Tables}

module _ {V : Type 0} where
  -- what is above a number is above a lower one
  above_lower : (m n : ℕ) (l : List (ℕ × V)) → m < n → Above n l → Above m l
  above_lower m n [] h a = tt
  above_lower m n (e ∷ es) h a = let w = a.0 in (omega arith, above_lower m n es h a.1)

  -- a table above a name has not that name
  above_none : (n k : ℕ) (l : List (ℕ × V)) → k ≤ n → Above n l → find l k ≡ None
  above_none n k [] h a = refl
  above_none n k (e ∷ es) h a =
      let w = a.0 in
      ap (λ b. cond b (Some e.1) (find es k)) (ne_eqb e.0 k (λ i. omega arith)) ∙ above_none n k es h a.1

  -- an entry more stays above what is below both
  above_placed : (n : ℕ) (e : ℕ × V) (l : List (ℕ × V)) → n < e.0 → Above n l → Above n (placed e l)
  above_placed n e [] h a = (h, tt)
  above_placed n e (f ∷ fs) h a = go (above_placed n e fs h a.1) (leb e.0 f.0)
    where
      go : Above n (placed e fs) → (b : Bool) → Above n (cond b (e ∷ (f ∷ fs)) (f ∷ placed e fs))
      go r true = (h, a)
      go r false = (a.0, r)

  -- a name that is not there yet keeps the names rising
  grown : (e : ℕ × V) (l : List (ℕ × V)) → Rising l → find l e.0 ≡ None → Rising (placed e l)
  grown e [] r h = (tt, tt)
  grown e (f ∷ fs) r h = go (other (eqb f.0 e.0) refl h) (λ i. grown e fs r.1 i) (leb e.0 f.0) refl
    where
      -- the first name is another one, and so are the later ones
      other : (b : Bool) → eqb f.0 e.0 ≡ b → cond b (Some f.1) (find fs e.0) ≡ None → (f.0 ≡ e.0 → ⊥) × (find fs e.0 ≡ None)
      other true p i = cc
      other false p i = (λ q. let w = eq-eqb f.0 e.0 q in let z : true ≡ false = sym w ∙ p in cc, i)

      go : (f.0 ≡ e.0 → ⊥) × (find fs e.0 ≡ None) → (find fs e.0 ≡ None → Rising (placed e fs)) → (b : Bool) → leb e.0 f.0 ≡ b → Rising (cond b (e ∷ (f ∷ fs)) (f ∷ placed e fs))
      go n more true p =
          let le = leb-true e.0 f.0 p in
          elim (cases_eq f.0 e.0) [
            | inl q ↦ absurd (n.0 q)
            | inr q ↦ let lt : e.0 < f.0 = omega arith in ((lt, above_lower e.0 f.0 fs lt r.0), r)
          ]
      go n more false p = (above_placed f.0 e fs (leb-false e.0 f.0 p) r.0, more n.1)

  -- the value of a table's first name
  find_first : (e : ℕ × V) (es : List (ℕ × V)) → find (e ∷ es) e.0 ≡ Some e.1
  find_first e es = ap (λ b. cond b (Some e.1) (find es e.0)) (eq-eqb e.0 e.0 refl)

  -- a rising table has no name below its first
  find_lower : (e : ℕ × V) (es : List (ℕ × V)) (n : ℕ) → Above e.0 es → n < e.0 → find (e ∷ es) n ≡ None
  find_lower e es n a h = ap (λ b. cond b (Some e.1) (find es n)) (ne_eqb e.0 n (λ i. omega arith)) ∙ above_none e.0 n es (omega arith) a

  some_none : {A : Type 0} (v : V) (o : Option V) → o ≡ Some v → o ≡ None → A
  some_none v None p q = cc
  some_none v (Some w) p q = cc

  some_same : (v w : V) → Some v ≡ Some w → v ≡ w
  some_same v w h = cc

  agree : (l m : List (ℕ × V)) → Rising l → Rising m → ((n : ℕ) → find l n ≡ find m n) → l ≡ m
  agree [] [] r s h = refl
  agree [] (f ∷ fs) r s h = some_none f.1 (find (f ∷ fs) f.0) (find_first f fs) (sym (h f.0))
  agree (e ∷ es) [] r s h = some_none e.1 (find (e ∷ es) e.0) (find_first e es) (h e.0)
  agree (e ∷ es) (f ∷ fs) r s h =
      elim (cases_lt e.0 f.0) [
        | inl lt ↦ some_none e.1 (find (f ∷ fs) e.0) (sym (h e.0) ∙ find_first e es) (find_lower f fs e.0 s.0 lt)
        | inr ge ↦ elim (cases_lt f.0 e.0) [
          | inl gt ↦ some_none f.1 (find (e ∷ es) f.0) (h f.0 ∙ find_first f fs) (find_lower e es f.0 r.0 gt)
          | inr le ↦
              let names : e.0 ≡ f.0 = omega arith in
              let values : e.1 ≡ f.1 = some_same e.1 f.1 (sym (find_first e es) ∙ h e.0 ∙ ap (find (f ∷ fs)) names ∙ find_first f fs) in
              let rest : (n : ℕ) → find es n ≡ find fs n = λ n. rest_same n names (cases_eq e.0 n) in
              ap₂ (λ e l. e ∷ l) (ap₂ (λ n v. (n, v)) names values) (agree es fs r.1 s.1 rest)
        ]
      ]
    where
      rest_same : (n : ℕ) → e.0 ≡ f.0 → (e.0 ≡ n) ⊎ (e.0 ≡ n → ⊥) → find es n ≡ find fs n
      rest_same n i (inl q) = above_none e.0 n es (omega arith) r.0 ∙ sym (above_none f.0 n fs (omega arith) s.0)
      rest_same n i (inr q) =
          sym (ap (λ b. cond b (Some e.1) (find es n)) (ne_eqb e.0 n q)) ∙ h n ∙ ap (λ b. cond b (Some f.1) (find fs n)) (ne_eqb f.0 n (λ j. q (i ∙ j)))

pub tables : (V : Type 0) → Tables V
tables V = record { grown = grown; agree = agree }
