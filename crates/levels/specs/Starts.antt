-- The starts of levels in a list of entries.
use Rattle.std.specs.Prelude.{ℕ, Bool, ◌&&◌, List, [], ◌∷◌, ◌==◌, nat_le}

-- each start is at most the one above it, the top one at most the count, and the lowest is 0
abbrev pub ordered : List ℕ → ℕ → Bool
ordered [] n = n == 0
ordered (s ∷ ss) n = nat_le s n && ordered ss s
