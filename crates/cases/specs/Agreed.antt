-- What calls of a test answered.
use Rattle.std.specs.Prelude.{◌≡◌, ℕ, ◌+◌, ◌⊎◌, Bool, false, cond, List, [], ◌∷◌, Ok, Err, Result}

-- called at each of xs in turn, from f on, the test answered true n times and false at the others, and was left as g
abbrev pub Agreed : {F X E : Type 0} → (F → X → Result Bool E → F → Type 0) → F → List X → ℕ → F → Type 0
Agreed step f [] n g = (n ≡ 0) × (g ≡ f)
Agreed step f (x ∷ xs) n g = (agrees : Bool) × (f' : _) × step f x (Ok agrees) f' × (m : ℕ) × (n ≡ cond agrees (m + 1) m) × Agreed step f' xs m g

-- called at some of xs in turn, from f on, the test then gave the error e at the next, or answered false there, where what is said of it could fail
abbrev pub Stopped : {F X E : Type 0} → (F → X → Result Bool E → F → Type 0) → F → List X → E → Type 0
Stopped step f [] e = ⊥
Stopped step f (x ∷ xs) e = (f' : _) × (step f x (Err e) f' ⊎ (step f x (Ok false) f' ⊎ ((agrees : Bool) × step f x (Ok agrees) f' × Stopped step f' xs e)))
