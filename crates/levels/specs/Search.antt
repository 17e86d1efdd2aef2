-- A search from the end: of names, and of what may have one.
use Rattle.std.specs.Prelude.{◌≡◌, ℕ, suc, ◌<◌, ◌≤◌, Bool, false, cond, List, [], ◌∷◌, map, length, Some, None, Option, ◌==◌, ◌≢◌, slice_index_or}

-- a place one later, or else what was known before
abbrev pub later : Option ℕ → Option ℕ → Option ℕ
later (Some i) o = Some (suc i)
later None o = o

-- whether a label, which is a name or nothing, is the name
abbrev pub is_label : Option ℕ → ℕ → Bool
is_label None n = false
is_label (Some m) n = m == n

-- the last place of a name among labels
abbrev pub newest_labelled : List (Option ℕ) → ℕ → Option ℕ
newest_labelled [] n = None
newest_labelled (o ∷ os) n = later (newest_labelled os n) (cond (is_label o n) (Some 0) None)

-- the last place of a name among names
abbrev pub newest_of : List ℕ → ℕ → Option ℕ
newest_of xs n = newest_labelled (map Some xs) n

-- in a list that is read as d past its end
module _ {A : Type 0} (d : A) where
  -- no place from i on has x
  abbrev pub Clear : List A → A → ℕ → Type 0
  Clear xs x i = (j : ℕ) → i ≤ j → j < length xs → slice_index_or xs j d ≢ x

  -- what it is to be the last place of x: it has x and none after it does, or no place has it
  abbrev pub Newest : List A → A → Option ℕ → Type 0
  Newest xs x (Some i) = (i < length xs) × (slice_index_or xs i d ≡ x) × Clear xs x (suc i)
  Newest xs x None = Clear xs x 0
