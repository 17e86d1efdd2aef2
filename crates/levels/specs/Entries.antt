-- What entries in lent memory hold.
use Rattle.std.specs.Prelude.{ℕ, List, map, slice_get, Some, None, Option}
use Rattle.std.specs.Option.{option_map}
use Rattle.levels.specs.declared.entry.Entry.{Entry}

module _ {V : Type 0} where
  -- an entry's name with its value
  abbrev pub pair : Entry V → ℕ × V
  pair e = (e.name, e.value)

  abbrev pub names : List (Entry V) → List ℕ
  names es = map (λ e. e.name) es

  abbrev pub nexts : List (Entry V) → List (Option ℕ)
  nexts es = map (λ e. e.next) es

  -- the value of the i-th entry
  abbrev pub value_nth : List (Entry V) → ℕ → Option V
  value_nth es i = option_map (λ e. e.value) (slice_get es i)

  -- the value of the entry at a place, if there is a place
  abbrev pub value_at : List (Entry V) → Option ℕ → Option V
  value_at es None = None
  value_at es (Some i) = value_nth es i
