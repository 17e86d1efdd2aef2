-- What is left of a store after a wipe, a level and two names, and what is answered.
use Rattle.std.specs.Prelude.{ℕ, [], ◌∷◌, Option, Result}
use Rattle.levels.specs.declared.refusal.Refusal.{Refusal}
use Rattle.levels.specs.Store.{Store, entered, wiped, declared, declare_refused, looked, with_levels, table, or_else}
use Rattle.levels.specs.Refusals.{answer_with, unless}

module _ {V : Type 0} (s : Store V) (a : ℕ) (x : V) (b : ℕ) (y : V) where
  -- one level with both names
  abbrev pub both : Store V
  both = with_levels s (table ((b, y) ∷ ((a, x) ∷ [])) ∷ [])

  -- one level, empty
  abbrev started : Store V
  started = entered (wiped s)

  -- as far as the first refusal
  abbrev pub two_left : Store V
  two_left = unless (declare_refused started a) (declared (declared started a x) b y) started

  abbrev pub two_answer : Result (Option V) Refusal
  two_answer =
      answer_with (or_else (declare_refused started a) (declare_refused (declared started a x) b)) (looked (declared (declared started a x) b y).levels a)
