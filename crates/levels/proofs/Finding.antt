-- A level's table against a search of its entries' names.
use Rattle.std.proofs.Common.{◌≡◌, ℕ, ◌<◌, Bool, true, false, cond, eqb, List, [], ◌∷◌, ◌++◌, map, reverse, length, is_some, Some, None, Option, sym, refl, ap, ◌∙◌, arith}
use mathlib.Core.List.{reverse-cons}
use Rattle.std.proofs.lemmas.List.{length-map}
use Rattle.levels.specs.declared.entry.Entry.{Entry}
use Rattle.levels.specs.Store.{find, or_else}
use Rattle.levels.specs.Search.{newest_of, later}
use Rattle.levels.specs.Entries.{pair, names, value_at}
use Rattle.levels.proofs.Reading.{value_nth_in, value_nth_is}
use Rattle.levels.proofs.Searching.{newest_low}

module _ {V : Type 0} where
  pub find_append : (xs ys : List (ℕ × V)) (n : ℕ) → find (xs ++ ys) n ≡ or_else (find xs n) (find ys n)
  find_append [] ys n = refl
  find_append (x ∷ xs) ys n =
      elim (eqb x.0 n) as (λ b. cond b (Some x.1) (find (xs ++ ys) n) ≡ or_else (cond b (Some x.1) (find xs n)) (find ys n))
      [ true ↦ refl | false ↦ find_append xs ys n ]

  find_last : (e : Entry V) (es : List (Entry V)) (n : ℕ) → find (reverse (map pair (e ∷ es))) n ≡ or_else (find (reverse (map pair es)) n) (cond (eqb e.name n) (Some e.value) None)
  find_last e es n =
      ap (λ l. find l n) (reverse-cons (pair e) (map pair es)) ∙ find_append (reverse (map pair es)) (pair e ∷ []) n

  -- one entry before others: what a search of those finds, if anything, goes before it
  value_later : (e : Entry V) (es : List (Entry V)) (o : Option ℕ) (b : Bool) → ((i : ℕ) → o ≡ Some i → i < length es) → or_else (value_at es o) (cond b (Some e.value) None) ≡ value_at (e ∷ es) (later o (cond b (Some 0) None))
  value_later e es None true h = refl
  value_later e es None false h = refl
  value_later e es (Some i) b h =
      let v = value_nth_in es i e (h i refl) in
      ap (λ o. or_else o (cond b (Some e.value) None)) (sym v) ∙ v

  -- the newest value of a name is the value at the name's newest place
  pub find_newest : (es : List (Entry V)) (n : ℕ) → find (reverse (map pair es)) n ≡ value_at es (newest_of (names es) n)
  find_newest [] n = refl
  find_newest (e ∷ es) n =
      find_last e es n
      ∙ ap (λ o. or_else o (cond (eqb e.name n) (Some e.value) None)) (find_newest es n)
      ∙ value_later e es (newest_of (names es) n) (eqb e.name n) (λ i h. let w = newest_low (names es) n i h in let l = length-map es (λ e. e.name) in omega arith)

  -- and there is one where the name has a place
  pub find_is : (es : List (Entry V)) (n : ℕ) → is_some (find (reverse (map pair es)) n) ≡ is_some (newest_of (names es) n)
  find_is es n = ap is_some (find_newest es n) ∙ held (newest_of (names es) n) (λ i h. let w = newest_low (names es) n i h in let l = length-map es (λ e. e.name) in omega arith)
    where
      held : (o : Option ℕ) → ((i : ℕ) → o ≡ Some i → i < length es) → is_some (value_at es o) ≡ is_some o
      held None h = refl
      held (Some i) h = value_nth_is es i (h i refl)
