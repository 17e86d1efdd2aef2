-- What a refusal does to answers and to what is left.
use Rattle.std.proofs.Common.{◌≡◌, Some, None, Ok, Err, Option, refl}
use Rattle.levels.specs.declared.refusal.Refusal.{Refusal}
use Rattle.levels.specs.Refusals.{unless, answer_with}

-- what is made of the new or the old is made of either
pub unless_through : {A B : Type 0} (f : A → B) (o : Option Refusal) (new old : A) → f (unless o new old) ≡ unless o (f new) (f old)
unless_through f None new old = refl
unless_through f (Some e) new old = refl

pub unless_same : {A : Type 0} (o : Option Refusal) (a : A) → unless o a a ≡ a
unless_same None a = refl
unless_same (Some e) a = refl

-- an answer tells whether the call was refused
module _ {A : Type 0} (a : A) where
  pub answer_refused : (o : Option Refusal) (e : Refusal) → Err e ≡ answer_with o a → o ≡ Some e
  answer_refused None e h = cc
  answer_refused (Some d) e h = cc

  pub answer_given : (o : Option Refusal) (b : A) → Ok b ≡ answer_with o a → o ≡ None
  answer_given None b h = refl
  answer_given (Some d) b h = cc

  pub answer_is : (o : Option Refusal) (b : A) → Ok b ≡ answer_with o a → b ≡ a
  answer_is None b h = cc
  answer_is (Some d) b h = cc
