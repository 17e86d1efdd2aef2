-- Small words over numbered things: one of them replaced, the lowest that answers, how many, and tests over a list.
use Rattle.std.specs.Prelude.{◌≡◌, ℕ, zero, suc, ◌+◌, Bool, true, false, cond, ◌||◌, ◌⊎◌, List, [], ◌∷◌, Some, None, Option, ◌==◌}

-- the numbered things with x at number s
unfoldable pub updated : {X : Type 0} → (ℕ → X) → ℕ → X → ℕ → X
updated f s x t = cond (t == s) x (f t)

-- the first answer, or else the second
abbrev pub or_else : {X : Type 0} → Option X → Option X → Option X
or_else (Some x) o = Some x
or_else None o = o

-- the answer of the lowest number below k that has one
unfoldable pub lowest : {X : Type 0} → ℕ → (ℕ → Option X) → Option X
lowest zero f = None
lowest (suc k) f = or_else (lowest k f) (f k)

-- how many numbers below k pass a test
unfoldable pub count_below : ℕ → (ℕ → Bool) → ℕ
count_below zero p = 0
count_below (suc k) p = count_below k p + cond (p k) 1 0

-- one of the listed things passes a test
unfoldable pub any_of : {X : Type 0} → (X → Bool) → List X → Bool
any_of p [] = false
any_of p (x ∷ xs) = p x || any_of p xs

-- the number is among the listed ones
abbrev pub Among : ℕ → List ℕ → Type 0
Among n [] = ⊥
Among n (m ∷ ms) = (n ≡ m) ⊎ Among n ms

-- a function of what may be there
abbrev pub map_some : {X Y : Type 0} → (X → Y) → Option X → Option Y
map_some f (Some x) = Some (f x)
map_some f None = None

-- something is there
abbrev pub filled : {X : Type 0} → Option X → Bool
filled (Some x) = true
filled None = false
