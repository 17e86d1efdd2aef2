-- How levels lie in a list of entries, and what the calls on a level table do to it.
use Rattle.std.specs.Prelude.{ℕ, ◌+◌, Bool, false, List, [], ◌∷◌, map, reverse, length, take, drop, Some, None, Option, nat_le}
use Rattle.levels.specs.declared.entry.Entry.{Entry}
use Rattle.levels.specs.declared.table.LevelTable.{LevelTable}
use Rattle.levels.specs.Refusals.{too_deep, unless}
use Rattle.levels.specs.Entries.{pair}
use Rattle.levels.specs.Store.{Store, table}

-- where each level starts, newest first, and how many entries stand
pub record Layout : Type 0 where
  pub starts : List ℕ
  pub count : ℕ

-- what a level table says
abbrev pub layout : LevelTable → Layout
layout t = record { starts = reverse t.starts.items; count = t.count }

abbrev pub no_levels : Layout
no_levels = record { starts = []; count = 0 }

-- a level more, which starts at the count
abbrev pub opened : Layout → Layout
opened y = unless (too_deep y.starts) (record { starts = y.count ∷ y.starts; count = y.count }) y

-- the top level gone, and with it what stands from its start on
abbrev pub without_top : List ℕ → ℕ → Layout
without_top [] n = record { starts = []; count = n }
without_top (s ∷ ss) n = record { starts = ss; count = s }

abbrev pub closed : Layout → Layout
closed y = without_top y.starts y.count

-- an entry more on the top level
abbrev pub grown : Layout → Layout
grown y = record { starts = y.starts; count = y.count + 1 }

-- where the top level starts
abbrev pub top_of : List ℕ → Option ℕ
top_of [] = None
top_of (s ∷ ss) = Some s

abbrev pub top_or : List ℕ → ℕ → ℕ
top_or [] n = n
top_or (s ∷ ss) n = s

-- whether a place is on the top level
abbrev pub on_top : List ℕ → Option ℕ → Bool
on_top [] o = false
on_top (s ∷ ss) None = false
on_top (s ∷ ss) (Some i) = nat_le s i

module _ {V : Type 0} where
  -- the levels whose starts are given, newest first, of the first n entries; in each the newest entry first
  abbrev pub cut : List ℕ → ℕ → List (ℕ × V) → List (List (ℕ × V))
  cut [] n es = []
  cut (s ∷ ss) n es = reverse (drop s (take n es)) ∷ cut ss s es

  -- what a store means whose entries are laid out so
  abbrev pub store_of : Layout → List (Entry V) → Store V
  store_of y es = record { capacity = length es; levels = map table (cut y.starts y.count (map pair es)) }
