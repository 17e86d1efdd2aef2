-- What makes a table: its entries stand by rising name, so that two tables with the same values are one.
use Rattle.std.specs.Prelude.{◌≡◌, ℕ, ◌<◌, List, [], ◌∷◌, None}
use Rattle.levels.specs.Store.{find, placed}

-- the names of a table are all above n
abbrev pub Above : {V : Type 0} → ℕ → List (ℕ × V) → Type 0
Above n [] = Unit {0}
Above n (e ∷ es) = (n < e.0) × Above n es

-- the names of a table rise
abbrev pub Rising : {V : Type 0} → List (ℕ × V) → Type 0
Rising [] = Unit {0}
Rising (e ∷ es) = Above e.0 es × Rising es

-- names rise from an empty table on, where each new name is not there yet; and rising tables that give each name the same value are equal
pub record Tables (V : Type 0) : Type 0 where
  pub grown : (e : ℕ × V) (l : List (ℕ × V)) → Rising l → find l e.0 ≡ None → Rising (placed e l)
  pub agree : (l m : List (ℕ × V)) → Rising l → Rising m → ((n : ℕ) → find l n ≡ find m n) → l ≡ m
