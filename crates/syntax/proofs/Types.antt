-- No two types have one number, so that each leads to the other.
use Rattle.std.proofs.Common.{◌≡◌, ℕ, [], ◌∷◌, get_or, Some, None, Ok, Err, Result, sym, refl, ap, ◌∙◌, subst, arith}
use Rattle.std.specs.Result.{result_ok, IsOk}
use Rattle.syntax.specs.declared.frame.UnknownType.{UnknownType}
use Rattle.syntax.specs.declared.frame.«Type».{«Type» as Ty}
use Rattle.syntax.specs.declared.frame.«Type».TheVariants.{Bool, Int, Double, String, Void}
use Rattle.syntax.specs.Writing.{type_code}
use Rattle.syntax.specs.Types.{TypeOf, LeadsBack, Codes, Decodes}

abbrev decoded : ℕ → Ty
decoded n = get_or (Void ∷ Bool ∷ Int ∷ Double ∷ String ∷ []) n Void

decoded_code : (t : Ty) → decoded (type_code t) ≡ t
decoded_code Bool = refl
decoded_code Int = refl
decoded_code Double = refl
decoded_code String = refl
decoded_code Void = refl

pub type_code_once : (t u : Ty) → type_code t ≡ type_code u → t ≡ u
type_code_once t u e = sym (decoded_code t) ∙ ap decoded e ∙ decoded_code u

pub leads_back : (t : Ty) → LeadsBack t (type_code t)
leads_back t (Some u) h = ap Some (type_code_once u t h)
leads_back t None h = absurd (h t refl)

-- all that is promised of a type's number
pub codes : (t : Ty) → Codes t (type_code t)
codes Bool = record { result = refl; bound = (omega arith, omega arith); law = leads_back Bool }
codes Int = record { result = refl; bound = (omega arith, omega arith); law = leads_back Int }
codes Double = record { result = refl; bound = (omega arith, omega arith); law = leads_back Double }
codes String = record { result = refl; bound = (omega arith, omega arith); law = leads_back String }
codes Void = record { result = refl; bound = (omega arith, omega arith); law = leads_back Void }

-- a number that was read as a type is that type's
pub decodes_type : (n : ℕ) (r : Result Ty UnknownType) (t : Ty) → Decodes n r → r ≡ Ok t → type_code t ≡ n
decodes_type n r t h e = subst (λ r. TypeOf n (result_ok r)) e h.result

-- a number that some type has is read as a type
pub decodes_some : (n : ℕ) (r : Result Ty UnknownType) → Decodes n r → (t : Ty) → type_code t ≡ n → IsOk r
decodes_some n (Ok u) h t e = refl
decodes_some n (Err x) h t e = absurd (h.result t e)
