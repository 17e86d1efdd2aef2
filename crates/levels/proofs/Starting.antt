-- The starts of levels, newest first.
use Rattle.std.proofs.Common.{◌≡◌, ℕ, ◌+◌, ◌<◌, ◌≤◌, Bool, true, false, ◌&&◌, leb, List, [], ◌∷◌, length, refl, ap, ◌∙◌, arith, le-leb, leb-true}
use Rattle.levels.specs.Starts.{ordered}

and_both : (a b : Bool) → (a && b) ≡ true → (a ≡ true) × (b ≡ true)
and_both true b h = (refl, h)
and_both false b h = cc

pub ordered_top : (s n : ℕ) (ss : List ℕ) → ordered (s ∷ ss) n ≡ true → s ≤ n
ordered_top s n ss h = leb-true s n (and_both (leb s n) (ordered ss s) h).0

pub ordered_rest : (s n : ℕ) (ss : List ℕ) → ordered (s ∷ ss) n ≡ true → ordered ss s ≡ true
ordered_rest s n ss h = (and_both (leb s n) (ordered ss s) h).1

pub ordered_more : (s n : ℕ) (ss : List ℕ) → s ≤ n → ordered ss s ≡ true → ordered (s ∷ ss) n ≡ true
ordered_more s n ss h k = ap (λ b. b && ordered ss s) (le-leb s n h) ∙ k

-- an entry more on the top level
pub ordered_grown : (ss : List ℕ) (n : ℕ) → 0 < length ss → ordered ss n ≡ true → ordered ss (n + 1) ≡ true
ordered_grown [] n p ok = absurd (omega arith)
ordered_grown (s ∷ ss) n p ok = let low = ordered_top s n ss ok in ordered_more s (n + 1) ss (omega arith) (ordered_rest s n ss ok)
