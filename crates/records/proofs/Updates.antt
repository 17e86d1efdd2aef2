-- Records that a loop brings up to date one sheet after the other.
use Rattle.std.proofs.Common.{◌≡◌, ℕ, true, false, cond, ltb, List, get_or, refl, ap, ◌∙◌}

module _ {X : Type 0} (d : X) (f : ℕ → X → X) (old : List X) where
  -- the sheets below t are as f has them, the others as before
  abbrev pub UpdatedTo : ℕ → List X → Type 0
  UpdatedTo t new = (k : ℕ) → get_or new k d ≡ cond (ltb k t) (f k (get_or old k d)) (get_or old k d)

  -- what f leaves of each sheet stays
  pub updated_kept : {Y : Type 0} (g : X → Y) → ((t : ℕ) (x : X) → g (f t x) ≡ g x) → (t : ℕ) (new : List X) → UpdatedTo t new → (k : ℕ) → g (get_or new k d) ≡ g (get_or old k d)
  updated_kept g kept t new u k =
      ap g (u k)
      ∙ elim (ltb k t) as (λ b. g (cond b (f k (get_or old k d)) (get_or old k d)) ≡ g (get_or old k d)) [ true ↦ kept k (get_or old k d) | false ↦ refl ]
