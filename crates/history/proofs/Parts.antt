-- Laws of an area of 8,192 places as 32 parts of 256.
use Rattle.std.proofs.Common.{◌≡◌, ℕ, zero, suc, ◌+◌, ◌*◌, ◌/◌, ◌%◌, ◌<◌, ◌≤◌, Bool, cond, ◌⊎◌, List, ◌++◌, length, get_or, take, drop, sym, refl, ap, ◌∙◌, inl, inr, arith}
use Rattle.std.proofs.lemmas.Bool.{cases_eq, cases_lt, cond_both}
use Rattle.std.proofs.lemmas.List.{places, same_lists, length-take, length-drop, length-append, get_or-take, get_or-drop}
use Rattle.history.specs.Areas.{part, with_part, rewritten}

-- an area keeps its length
pub length_with_part : {X : Type 0} (s : ℕ) (b xs : List X) → length b ≡ 256 → 256 * s + 256 ≤ length xs → length (with_part s b xs) ≡ length xs
unfolding with_part
length_with_part s b xs e l = simp (length-append, length-take, length-drop) (omega arith)

-- the same over any place and width
overwritten : {X : Type 0} → ℕ → ℕ → List X → List X → List X
overwritten a w b xs = take a xs ++ (b ++ drop (a + w) xs)

-- the range that was written
range_same : {X : Type 0} (a w : ℕ) (b xs : List X) → length b ≡ w → a + w ≤ length xs → take w (drop a (overwritten a w b xs)) ≡ b
unfolding overwritten
range_same a w b xs e l = same_lists (take w (drop a (overwritten a w b xs))) b (grind (arith, places)) (λ k d h. grind (arith, places))

-- a range beside it
range_other : {X : Type 0} (a c w : ℕ) (b xs : List X) → length b ≡ w → a + w ≤ length xs → ((i : ℕ) → i < w → (c + i < a) ⊎ (a + w ≤ c + i)) → take w (drop c (overwritten a w b xs)) ≡ take w (drop c xs)
unfolding overwritten
range_other a c w b xs e l apart =
    same_lists (take w (drop c (overwritten a w b xs))) (take w (drop c xs)) (grind (arith, places)) (λ k d h. grind (arith, places, apart k))

-- the part that was replaced
pub part_same : {X : Type 0} (s : ℕ) (b xs : List X) → length b ≡ 256 → 256 * s + 256 ≤ length xs → part s (with_part s b xs) ≡ b
unfolding part with_part overwritten
part_same s b xs e l = range_same (256 * s) 256 b xs e l

-- every other part is as before
pub part_other : {X : Type 0} (s t : ℕ) (b xs : List X) → length b ≡ 256 → 256 * s + 256 ≤ length xs → (t ≡ s → ⊥) → part t (with_part s b xs) ≡ part t xs
unfolding part with_part overwritten
part_other s t b xs e l ne =
    range_other (256 * s) (256 * t) 256 b xs e l
    (λ i h. elim (cases_lt t s) [ inl y ↦ inl (omega arith) | inr y ↦ inr (omega arith) ])

-- a place of a sheet in its part
pub place_in_part : {X : Type 0} (xs : List X) (s k : ℕ) (d : X) → k < 256 → get_or xs (256 * s + k) d ≡ get_or (part s xs) k d
unfolding part
place_in_part xs s k d l = sym (get_or-take 256 (drop (256 * s) xs) k d l ∙ get_or-drop (256 * s) xs k d)

-- a place of the area in its part
get_d_part : {X : Type 0} (xs : List X) (k : ℕ) (d : X) → get_or xs k d ≡ get_or (part (k / 256) xs) (k % 256) d
get_d_part xs k d =
    let e : 256 * (k / 256) + k % 256 ≡ k = omega arith in
    sym (ap (λ i. get_or xs i d) e) ∙ place_in_part xs (k / 256) (k % 256) d (omega arith)

-- two areas with the same parts are the same
pub same_areas : {X : Type 0} (xs ys : List X) → length xs ≡ 8192 → length ys ≡ 8192 → ((t : ℕ) → t < 32 → part t xs ≡ part t ys) → xs ≡ ys
same_areas xs ys p q h =
    same_lists xs ys (p ∙ sym q) (λ k d l. get_d_part xs k d ∙ ap (λ b. get_or b (k % 256) d) (h (k / 256) (omega arith)) ∙ sym (get_d_part ys k d))

module _ {X : Type 0} (m : ℕ → Bool) (f : ℕ → List X) (xs : List X) (wide : (t : ℕ) → length (f t) ≡ 256) where
  -- an area keeps its length
  pub length_rewritten : (k : ℕ) → 256 * k ≤ length xs → length (rewritten k m f xs) ≡ length xs
  unfolding rewritten
  length_rewritten zero l = refl
  length_rewritten (suc k) l =
      let ih = length_rewritten k (omega arith) in
      cond_both (m k) (with_part k (f k) (rewritten k m f xs)) (rewritten k m f xs) (λ ys. length ys ≡ length xs)
      (λ _. length_with_part k (f k) (rewritten k m f xs) (wide k) (omega arith) ∙ ih) (λ _. ih)

  -- a part past the sheets rewritten is as before
  rewritten_past : (k t : ℕ) → 256 * k ≤ length xs → k ≤ t → part t (rewritten k m f xs) ≡ part t xs
  unfolding rewritten
  rewritten_past zero t l h = refl
  rewritten_past (suc k) t l h =
      let ih = rewritten_past k t (omega arith) (omega arith) in
      let len = length_rewritten k (omega arith) in
      cond_both (m k) (with_part k (f k) (rewritten k m f xs)) (rewritten k m f xs) (λ ys. part t ys ≡ part t xs)
      (λ _. part_other k t (f k) (rewritten k m f xs) (wide k) (omega arith) (λ i. omega arith) ∙ ih) (λ _. ih)

  -- a marked sheet's part is new, every other as before
  pub rewritten_part : (k t : ℕ) → 256 * k ≤ length xs → t < k → part t (rewritten k m f xs) ≡ cond (m t) (f t) (part t xs)
  unfolding rewritten
  rewritten_part zero t l h = absurd (omega arith)
  rewritten_part (suc k) t l h =
      let len = length_rewritten k (omega arith) in
      let both = cond_both (m k) (with_part k (f k) (rewritten k m f xs)) (rewritten k m f xs) (λ ys. part t ys ≡ cond (m t) (f t) (part t xs)) in
      elim (cases_eq t k) [
        | inl i ↦ both (λ y. cc (part_same k (f k) (rewritten k m f xs) (wide k) (omega arith))) (λ y. cc (rewritten_past k k (omega arith) (omega arith)))
        | inr n ↦
            let ih = rewritten_part k t (omega arith) (omega arith) in
            both (λ _. part_other k t (f k) (rewritten k m f xs) (wide k) (omega arith) n ∙ ih) (λ _. ih)
      ]
