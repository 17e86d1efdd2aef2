-- The lent areas as 32 parts of 256 places, and tables of 32 rows.
use Rattle.std.specs.Prelude.{◌≡◌, ℕ, zero, suc, ◌+◌, ◌*◌, ◌<◌, Bool, cond, List, ◌++◌, map, length, take, drop}
use Rattle.std.specs.List.{range_with_len}

-- the part of sheet t
unfoldable pub part : {X : Type 0} → ℕ → List X → List X
part t xs = take 256 (drop (256 * t) xs)

-- the area with the part of sheet s replaced
unfoldable pub with_part : {X : Type 0} → ℕ → List X → List X → List X
with_part s b xs = take (256 * s) xs ++ (b ++ drop (256 * s + 256) xs)

-- the area with the part of each marked sheet below k written anew
unfoldable pub rewritten : {X : Type 0} → ℕ → (ℕ → Bool) → (ℕ → List X) → List X → List X
rewritten zero m f xs = xs
rewritten (suc k) m f xs = cond (m k) (with_part k (f k) (rewritten k m f xs)) (rewritten k m f xs)

-- an area of 8,192 places that holds these parts
pub record Holds {X : Type 0} (area : List X) (wanted : ℕ → List X) : Type 0 where
  pub wide : length area ≡ 8192
  pub parts : (t : ℕ) → t < 32 → part t area ≡ wanted t

-- 32 rows
unfoldable pub table : {X : Type 0} → (ℕ → X) → List X
table f = map f (range_with_len 0 32)
