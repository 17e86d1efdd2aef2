-- Chains of entries by name modulo 64.
use Rattle.std.specs.Prelude.{◌≡◌, ℕ, zero, suc, ◌%◌, ◌<◌, cond, List, ◌==◌, Some, None, Option, slice_index, slice_index_or}

-- the bucket of a name
abbrev pub bucket : ℕ → ℕ
bucket n = n % 64

-- the last place below n of a name in the bucket, if there is one
abbrev pub last_in : List ℕ → ℕ → ℕ → Option ℕ
last_in xs zero b = None
last_in xs (suc n) b = cond (bucket (slice_index xs n) == b) (Some n) (last_in xs n b)

-- each of the first n links leads to the last place before it in its bucket
abbrev pub Threaded : List ℕ → List (Option ℕ) → ℕ → Type 0
Threaded xs links n = (i : ℕ) → i < n → slice_index_or links i None ≡ last_in xs i (bucket (slice_index xs i))

-- each head leads to the last place below n in its bucket
abbrev pub Headed : List ℕ → List (Option ℕ) → ℕ → Type 0
Headed xs heads n = (b : ℕ) → b < 64 → slice_index_or heads b None ≡ last_in xs n b
