-- The type that a number of the column is of.
use Rattle.std.proofs.Common.{◌≡◌, ℕ, ◌<◌, ◌&&◌, ltb, Some, None, Option, refl, ap, ◌∙◌, sym, inl, inr, arith}
use Rattle.std.proofs.lemmas.Bool.{cond-false, ltb-true, and_parts, cases_Bool}
use Rattle.syntax.specs.declared.frame.«Type».{«Type» as Ty}
use Rattle.syntax.specs.declared.frame.«Type».TheVariants.{Bool, Int, Double, String, Void}
use Rattle.syntax.specs.Writing.{type_code}
use Rattle.syntax.specs.Types.{TypeOf}
use Rattle.history.specs.Words.{map_some}
use Rattle.history.specs.Language.{as_type}

-- the number of a type is one that a column may have
code_is_type : (t : Ty) → as_type (type_code t) ≡ Some (type_code t)
code_is_type Bool = refl
code_is_type Int = refl
code_is_type Double = refl
code_is_type String = refl
code_is_type Void = refl

-- the type that a column's number is of, by its number
pub type_told : (n : ℕ) (o : Option Ty) → TypeOf n o → as_type n ≡ map_some type_code o
type_told n (Some t) e = ap as_type (sym e) ∙ code_is_type t
type_told n None none =
    elim (cases_Bool (ltb 0 n && ltb n 6)) [
      | inl y ↦
          let a = and_parts (ltb 0 n) (ltb n 6) y in
          let l : 0 < n = ltb-true 0 n a.0 in
          let m : n < 6 = ltb-true n 6 a.1 in
          absurd (omega (arith, none Bool, none Int, none Double, none String, none Void))
      | inr e ↦ cond-false (ltb 0 n && ltb n 6) (Some n) None e
    ]
