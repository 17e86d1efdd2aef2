-- When a store refuses a call, with which number, and what the call then answers and leaves.
use Rattle.std.specs.Prelude.{ℕ, Bool, cond, List, [], ◌∷◌, length, Some, None, Ok, Err, Option, Result, nat_lt}
use Rattle.levels.specs.declared.refusal.Refusal.{Refusal}
use Rattle.levels.specs.declared.refusal.Refusal.TheVariants.{TooDeep, NoneToLeave, NoLevel, Repeated, Full}

-- the number of a refusal
abbrev pub number : Refusal → ℕ
number TooDeep = 41
number NoneToLeave = 42
number NoLevel = 43
number Repeated = 44
number Full = 45

module _ {A : Type 0} where
  -- why no level goes on top of these, if none does
  abbrev pub too_deep : List A → Option Refusal
  too_deep ls = cond (nat_lt (length ls) 33) None (Some TooDeep)

  -- why the top one of these does not go, if it does not
  abbrev pub none_to_leave : List A → Option Refusal
  none_to_leave [] = Some NoneToLeave
  none_to_leave (l ∷ ls) = None

  -- why the top one of these gets no entry more, if it gets none: no level, then a repeated name, then no room
  abbrev pub no_place : List A → Bool → ℕ → ℕ → Option Refusal
  no_place [] repeated standing capacity = Some NoLevel
  no_place (l ∷ ls) repeated standing capacity = cond repeated (Some Repeated) (cond (nat_lt standing capacity) None (Some Full))

  -- what is left after a call: the new unless it is refused
  abbrev pub unless : Option Refusal → A → A → A
  unless None new old = new
  unless (Some e) new old = old

  -- the answer of a call: its value unless it is refused
  abbrev pub answer_with : Option Refusal → A → Result A Refusal
  answer_with None a = Ok a
  answer_with (Some e) a = Err e

-- the answer of a call that has no value to give
abbrev pub answer : Option Refusal → Result (Unit {0}) Refusal
answer o = answer_with o tt
