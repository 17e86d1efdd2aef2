-- The types and their numbers, each told by the other.
use Rattle.std.specs.Prelude.{◌≡◌, ℕ, ◌≤◌, cond, Some, None, Option, Result, IfErr, ◌==◌, ◌≢◌}
use Rattle.std.specs.Result.{result_ok}
use Rattle.syntax.specs.declared.frame.Frame.{Frame}
use Rattle.syntax.specs.declared.frame.«Type».{«Type» as Ty}
use Rattle.syntax.specs.declared.frame.«Type».TheVariants.{Bool, Int, Double, String, Void}
use Rattle.syntax.specs.declared.frame.UnknownType.{UnknownType}
use Rattle.syntax.specs.declared.frame.Parameter.{Parameter}
use Rattle.syntax.specs.Writing.{type_code}

-- the type that has the number, or none where no type has it
abbrev pub TypeOf : ℕ → Option Ty → Type 0
TypeOf n (Some t) = type_code t ≡ n
TypeOf n None = (t : Ty) → type_code t ≢ n

-- a type's number leads back to the type
abbrev pub LeadsBack : Ty → ℕ → Type 0
LeadsBack t n = (o : Option Ty) → TypeOf n o → o ≡ Some t

-- a number that some type has leads to that type
abbrev pub LeadsToType : ℕ → Option Ty → Type 0
LeadsToType n o = (t : Ty) → type_code t ≡ n → o ≡ Some t

-- n is the number of the type, one from 1 to 5, and leads back to the type
pub record Codes (t : Ty) (n : ℕ) : Type 0 where
  pub result : n ≡ type_code t
  pub bound : (1 ≤ n) × (n ≤ 5)
  pub law : LeadsBack t n

-- r is the type that has the number, or the number itself as an error where no type has it
pub record Decodes (n : ℕ) (r : Result Ty UnknownType) : Type 0 where
  pub result : TypeOf n (result_ok r)
  pub law : LeadsToType n (result_ok r)
  pub unknown : IfErr r (λ e. e.0 ≡ n)

-- the type of a number from 1 to 5, as the frames of a sheet have it; any other number counts as void
abbrev pub type_of : ℕ → Ty
type_of n = cond (n == 1) Bool (cond (n == 2) Int (cond (n == 3) Double (cond (n == 4) String Void)))

-- the parameter that a PARAM frame stands for
abbrev pub param_of : Frame → Parameter
param_of f = record { t = type_of f.t; name = f.name }
