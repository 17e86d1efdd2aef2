-- Reading entries by place.
use Rattle.std.proofs.Common.{◌≡◌, ℕ, zero, suc, ◌<◌, true, List, [], ◌∷◌, length, get_or, take, is_some, Some, sym, refl, ap, arith}
use Rattle.std.specs.Option.{option_map}
use Rattle.std.proofs.lemmas.Option.{slice_get-get_or}
use Rattle.levels.specs.declared.entry.Entry.{Entry}
use Rattle.levels.specs.Entries.{value_nth}

module _ {V : Type 0} where
  pub value_nth_in : (es : List (Entry V)) (i : ℕ) (d : Entry V) → i < length es → Some (get_or es i d).value ≡ value_nth es i
  value_nth_in es i d h = sym (ap (option_map (λ e. e.value)) (slice_get-get_or es i d h))

  -- a place of a part that starts with the first entry is the same place of the whole
  pub value_nth_take : (n : ℕ) (es : List (Entry V)) (i : ℕ) → i < length (take n es) → value_nth (take n es) i ≡ value_nth es i
  value_nth_take zero es i h = absurd (omega arith)
  value_nth_take (suc n) [] i h = absurd (omega arith)
  value_nth_take (suc n) (e ∷ es) zero h = refl
  value_nth_take (suc n) (e ∷ es) (suc i) h = value_nth_take n es i (omega arith)

  pub value_nth_is : (es : List (Entry V)) (i : ℕ) → i < length es → is_some (value_nth es i) ≡ true
  value_nth_is [] i h = absurd (omega arith)
  value_nth_is (e ∷ es) zero h = refl
  value_nth_is (e ∷ es) (suc i) h = value_nth_is es i (omega arith)
