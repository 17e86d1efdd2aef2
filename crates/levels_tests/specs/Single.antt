-- What a store with room for one entry means.
use Rattle.std.specs.Prelude.{ℕ, zero, suc, ◌+◌, List, [], ◌∷◌, Some, None, Option}
use Rattle.levels.specs.Store.{Store}

module _ {V : Type 0} where
  -- so many empty levels on top of others
  abbrev pub empties : ℕ → List (List (ℕ × V)) → List (List (ℕ × V))
  empties zero ls = ls
  empties (suc n) ls = [] ∷ empties n ls

  -- empty levels, and under them the level of the entry, if there is one, on empty levels
  abbrev pub held_levels : ℕ → Option (ℕ × V) → List (List (ℕ × V))
  held_levels lower None = []
  held_levels lower (Some e) = (e ∷ []) ∷ empties lower []

  abbrev pub single : ℕ → ℕ → Option (ℕ × V) → Store V
  single upper lower held = record { capacity = 1; levels = empties upper (held_levels lower held) }

  -- how many levels stand
  abbrev pub depth_of : ℕ → ℕ → Option (ℕ × V) → ℕ
  depth_of upper lower None = upper
  depth_of upper lower (Some e) = upper + lower + 1
