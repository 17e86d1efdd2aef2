-- Chains of entries by name modulo 64, over lists of names, links and heads.
use Rattle.std.proofs.Common.{◌≡◌, ℕ, zero, suc, ◌+◌, ◌<◌, ◌≤◌, cond, eqb, ◌≢◌, List, length, get_or, set, replicate, Some, None, Option, sym, refl, ap, ◌∙◌, ⊎_elim, le_refl, add-one, arith, below_more, eq-eqb, ne_eqb}
use Rattle.std.proofs.lemmas.Bool.{cases_eq}
use Rattle.std.proofs.lemmas.List.{get_or-set_same, get_or-set_other, get_or-replicate}
use Rattle.levels.specs.Linked.{bucket, last_in, Threaded, Headed}

-- the end of what lies up to a place, or 0 where there is none
abbrev pub up_to : Option ℕ → ℕ
up_to None = 0
up_to (Some i) = suc i

module _ (xs : List ℕ) (b : ℕ) where
  -- one place more, in the bucket or out of it
  last_hit : (n : ℕ) → bucket (get_or xs n 0) ≡ b → last_in xs (suc n) b ≡ Some n
  last_hit n e = ap (λ t. cond t (Some n) (last_in xs n b)) (eq-eqb (bucket (get_or xs n 0)) b e)

  last_miss : (n : ℕ) → (bucket (get_or xs n 0) ≡ b → ⊥) → last_in xs (suc n) b ≡ last_in xs n b
  last_miss n e = ap (λ t. cond t (Some n) (last_in xs n b)) (ne_eqb (bucket (get_or xs n 0)) b e)

  pub last_le : (n : ℕ) → up_to (last_in xs n b) ≤ n
  last_le zero = le_refl 0
  last_le (suc n) =
      let r = last_le n in
      ⊎_elim
      (λ (e : bucket (get_or xs n 0) ≡ b). let h = ap up_to (last_hit n e) in omega arith)
      (λ (e : bucket (get_or xs n 0) ≡ b → ⊥). let h = ap up_to (last_miss n e) in omega arith)
      (cases_eq (bucket (get_or xs n 0)) b)

  -- no name of the bucket from there on
  pub last_none : (n k : ℕ) → up_to (last_in xs n b) ≤ k → k < n → bucket (get_or xs k 0) ≡ b → ⊥
  last_none zero k h l e = omega arith
  last_none (suc n) k h l e =
      ⊎_elim
      (λ (a : bucket (get_or xs n 0) ≡ b). let q = ap up_to (last_hit n a) in omega arith)
      (λ (a : bucket (get_or xs n 0) ≡ b → ⊥).
      let q = ap up_to (last_miss n a) in
      ⊎_elim
      (λ (z : k ≡ n). a (sym (ap (λ j. bucket (get_or xs j 0)) z) ∙ e))
      (λ (z : k ≡ n → ⊥). last_none n k (omega arith) (omega (arith, z)) e)
      (cases_eq k n))
      (cases_eq (bucket (get_or xs n 0)) b)

  -- the place has a name of the bucket
  pub last_bucket : (n i : ℕ) → Some i ≡ last_in xs n b → bucket (get_or xs i 0) ≡ b
  last_bucket zero i h = cc
  last_bucket (suc n) i h =
      ⊎_elim
      (λ (a : bucket (get_or xs n 0) ≡ b). let q = h ∙ last_hit n a in let z : i ≡ n = cc in ap (λ j. bucket (get_or xs j 0)) z ∙ a)
      (λ (a : bucket (get_or xs n 0) ≡ b → ⊥). last_bucket n i (h ∙ last_miss n a))
      (cases_eq (bucket (get_or xs n 0)) b)

  -- names from n on do not matter to places below
  last_set : (n x m : ℕ) → m ≤ n → last_in (set xs n x) m b ≡ last_in xs m b
  last_set n x zero h = refl
  last_set n x (suc m) h =
      let ne : m ≢ n = omega arith in
      ap (λ y. cond (eqb (bucket y) b) (Some m) (last_in (set xs n x) m b)) (get_or-set_other xs n m x 0 ne)
      ∙ ap (λ t. cond (eqb (bucket (get_or xs m 0)) b) (Some m) t) (last_set n x m (omega arith))

module _ (xs : List ℕ) (links heads : List (Option ℕ)) (n : ℕ) where
  -- an entry more, with a link to what was the head of its bucket
  pub threaded_more : (x : ℕ) (y : Option ℕ) → n < length xs → n < length links → Threaded xs links n → y ≡ last_in xs n (bucket x) → Threaded (set xs n x) (set links n y) (n + 1)
  threaded_more x y h k t e =
      below_more _ n
      (λ i l.
      let ne : i ≢ n = omega arith in
      get_or-set_other links n i y None ne ∙ t i l
      ∙ sym (last_set xs (bucket (get_or xs i 0)) n x i (omega arith))
      ∙ ap (λ z. last_in (set xs n x) i (bucket z)) (sym (get_or-set_other xs n i x 0 ne)))
      (get_or-set_same links n y None k ∙ e
      ∙ sym (last_set xs (bucket x) n x n (le_refl n))
      ∙ ap (λ z. last_in (set xs n x) n (bucket z)) (sym (get_or-set_same xs n x 0 h)))

  -- the heads once the bucket of an entry has another: the entry more, and the entry less
  pub headed_more : (x : ℕ) → n < length xs → length heads ≡ 64 → bucket x < 64 → Headed xs heads n → Headed (set xs n x) (set heads (bucket x) (Some n)) (n + 1)
  headed_more x h s w t b l =
      let same = get_or-set_same xs n x 0 h in
      ⊎_elim
      (λ (e : bucket x ≡ b).
      ap (λ j. get_or (set heads (bucket x) (Some n)) j None) (sym e) ∙ get_or-set_same heads (bucket x) (Some n) None (omega arith)
      ∙ sym (last_hit (set xs n x) b n (ap bucket same ∙ e)) ∙ ap (λ j. last_in (set xs n x) j b) (sym (add-one n)))
      (λ (e : bucket x ≡ b → ⊥).
      let ne : b ≢ bucket x = λ q. e (sym q) in
      get_or-set_other heads (bucket x) b (Some n) None ne ∙ t b l
      ∙ sym (last_set xs b n x n (le_refl n))
      ∙ sym (last_miss (set xs n x) b n (λ q. e (sym (ap bucket same) ∙ q)))
      ∙ ap (λ j. last_in (set xs n x) j b) (sym (add-one n)))
      (cases_eq (bucket x) b)

  pub headed_less : (x : ℕ) (y : Option ℕ) → x ≡ get_or xs n 0 → y ≡ get_or links n None → length heads ≡ 64 → bucket x < 64 → get_or links n None ≡ last_in xs n (bucket (get_or xs n 0)) → Headed xs heads (n + 1) → Headed xs (set heads (bucket x) y) n
  headed_less x y a c s w th t b l =
      ⊎_elim
      (λ (e : bucket x ≡ b).
      ap (λ j. get_or (set heads (bucket x) y) j None) (sym e) ∙ get_or-set_same heads (bucket x) y None (omega arith) ∙ c ∙ th
      ∙ ap (λ z. last_in xs n (bucket z)) (sym a) ∙ ap (last_in xs n) e)
      (λ (e : bucket x ≡ b → ⊥).
      let ne : b ≢ bucket x = λ q. e (sym q) in
      get_or-set_other heads (bucket x) b y None ne ∙ t b l ∙ ap (λ j. last_in xs j b) (add-one n)
      ∙ last_miss xs b n (λ q. e (ap bucket a ∙ q)))
      (cases_eq (bucket x) b)

-- empty chains
pub headed_none : (xs : List ℕ) (heads : List (Option ℕ)) (n : ℕ) → heads ≡ replicate 64 None → n ≡ 0 → Headed xs heads n
headed_none xs heads n h z b l =
    ap (λ t. get_or t b None) h ∙ get_or-replicate 64 b None None l ∙ sym (ap (λ j. last_in xs j b) z)

pub threaded_none : (xs : List ℕ) (links : List (Option ℕ)) (n : ℕ) → n ≡ 0 → Threaded xs links n
threaded_none xs links n z i l = absurd (omega arith)

-- fewer entries
pub threaded_less : (xs : List ℕ) (links : List (Option ℕ)) (n m : ℕ) → m ≤ n → Threaded xs links n → Threaded xs links m
threaded_less xs links n m h t i l = t i (omega arith)

-- what chains go by where no entry stands
pub ruleset unlinked = (threaded_none, headed_none)
