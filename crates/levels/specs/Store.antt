-- What a store of names means, and what each call on it answers and leaves.
use Rattle.std.specs.Prelude.{ℕ, ◌+◌, Bool, false, cond, List, [], ◌∷◌, length, is_some, Some, None, Option, ◌==◌, nat_le}
use Rattle.levels.specs.declared.refusal.Refusal.{Refusal}
use Rattle.levels.specs.Refusals.{too_deep, none_to_leave, no_place, unless}

-- how many entries may stand, and the levels, the newest first; each is a table, its entries by rising name
pub record Store (V : Type 0) : Type 0 where
  pub capacity : ℕ
  pub levels : List (List (ℕ × V))

module _ {V : Type 0} where
  -- the first of two that is there
  abbrev pub or_else : Option V → Option V → Option V
  or_else (Some v) o = Some v
  or_else None o = o

  -- a table with an entry more, at its name's place
  abbrev pub placed : ℕ × V → List (ℕ × V) → List (ℕ × V)
  placed e [] = e ∷ []
  placed e (f ∷ fs) = cond (nat_le e.0 f.0) (e ∷ (f ∷ fs)) (f ∷ placed e fs)

  -- the table of entries that came one after another, the newest first
  abbrev pub table : List (ℕ × V) → List (ℕ × V)
  table [] = []
  table (e ∷ es) = placed e (table es)

  -- the value of a name in a table
  abbrev pub find : List (ℕ × V) → ℕ → Option V
  find [] n = None
  find (e ∷ es) n = cond (e.0 == n) (Some e.1) (find es n)

  -- the value from the level nearest the top that has the name
  abbrev pub looked : List (List (ℕ × V)) → ℕ → Option V
  looked [] n = None
  looked (l ∷ ls) n = or_else (find l n) (looked ls n)

  -- whether the top level has the name
  abbrev pub stands : List (List (ℕ × V)) → ℕ → Bool
  stands [] n = false
  stands (l ∷ ls) n = is_some (find l n)

  -- how many entries stand on all levels together
  abbrev pub standing : List (List (ℕ × V)) → ℕ
  standing [] = 0
  standing (l ∷ ls) = length l + standing ls

  -- the levels below the top
  abbrev pub below : List (List (ℕ × V)) → List (List (ℕ × V))
  below [] = []
  below (l ∷ ls) = ls

  -- the levels with an entry more on the top
  abbrev pub added : List (List (ℕ × V)) → ℕ × V → List (List (ℕ × V))
  added [] e = []
  added (l ∷ ls) e = placed e l ∷ ls

  -- a store with other levels; the capacity never changes
  abbrev pub with_levels : Store V → List (List (ℕ × V)) → Store V
  with_levels s ls = record { capacity = s.capacity; levels = ls }

  -- why a call is refused, if it is
  abbrev pub enter_refused : Store V → Option Refusal
  enter_refused s = too_deep s.levels

  abbrev pub leave_refused : Store V → Option Refusal
  leave_refused s = none_to_leave s.levels

  abbrev pub declare_refused : Store V → ℕ → Option Refusal
  declare_refused s n = no_place s.levels (stands s.levels n) (standing s.levels) s.capacity

  -- what a call leaves: a refusal alters nothing
  abbrev pub wiped : Store V → Store V
  wiped s = with_levels s []

  abbrev pub entered : Store V → Store V
  entered s = unless (enter_refused s) (with_levels s ([] ∷ s.levels)) s

  abbrev pub left : Store V → Store V
  left s = unless (leave_refused s) (with_levels s (below s.levels)) s

  abbrev pub declared : Store V → ℕ → V → Store V
  declared s n v = unless (declare_refused s n) (with_levels s (added s.levels (n, v))) s
