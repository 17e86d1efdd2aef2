-- Looking up, declaring and judging on types and on their codes.
use Rattle.std.proofs.Common.{◌≡◌, ℕ, zero, suc, Bool as Truth, true, false, cond, ◌&&◌, eqb, List, [], ◌∷◌, map, reverse, get_or, take, is_some, Some, None, Ok, Err, Option, Result, refl, ap, ◌∙◌, ap₂}
use mathlib.Core.List.{reverse_aux}
use Rattle.std.proofs.lemmas.List.{take-map}
use Rattle.syntax.specs.declared.frame.«Type».{«Type» as Ty}
use Rattle.syntax.specs.declared.frame.«Type».TheVariants.{Bool, Int, Double, String, Void}
use Rattle.syntax.specs.Writing.{type_code}
use Rattle.levels.specs.Store.{find, looked, or_else, stands, added, below}
use Rattle.levels.proofs.Tabling.{find_placed}
use Rattle.rules.specs.declared.violation.Violation.{Violation}
use Rattle.rules.specs.declared.violation.Violation.TheVariants.{Undeclared, OtherOperands, OtherAssigned}
use Rattle.rules.specs.Heads.{Table, Levels}
use Rattle.rules.specs.Faults.{◌>>=◌, need, require}
use Rattle.rules.specs.Walk.{extended}
use Rattle.rules.specs.Judge.{arithmetic, same, same_all, judge_variable, judge_update, judge_assign}
use Rattle.walk.specs.Judge.{equal_all, updated, assigned}
use Rattle.walk.specs.Tied.{coded_entry, coded, coded_levels}

-- ===== looking up =====
abbrev pub coded_option : Option Ty → Option ℕ
coded_option None = None
coded_option (Some t) = Some (type_code t)

found_coded : (b : Truth) (t : Ty) (o : Option Ty) (m : Option ℕ) → m ≡ coded_option o → cond b (Some (type_code t)) m ≡ coded_option (cond b (Some t) o)
found_coded true t o m h = refl
found_coded false t o m h = h

find_coded : (τ : Table Ty) (x : ℕ) → find (coded τ) x ≡ coded_option (find τ x)
find_coded [] x = refl
find_coded (e ∷ τ) x = find_placed (coded_entry e) (coded τ) x ∙ found_coded (eqb e.0 x) e.1 (find τ x) (find (coded τ) x) (find_coded τ x)

or_else_coded : (o q : Option Ty) → or_else (coded_option o) (coded_option q) ≡ coded_option (or_else o q)
or_else_coded None q = refl
or_else_coded (Some t) q = refl

pub looked_coded : (Γ : Levels) (x : ℕ) → looked (coded_levels Γ) x ≡ coded_option (looked Γ x)
looked_coded [] x = refl
looked_coded (τ ∷ Γ) x = ap₂ or_else (find_coded τ x) (looked_coded Γ x) ∙ or_else_coded (find τ x) (looked Γ x)

some_coded : (o : Option Ty) → is_some (coded_option o) ≡ is_some o
some_coded None = refl
some_coded (Some t) = refl

pub stands_coded : (Γ : Levels) (x : ℕ) → stands (coded_levels Γ) x ≡ stands Γ x
stands_coded [] x = refl
stands_coded (τ ∷ Γ) x = ap is_some (find_coded τ x) ∙ some_coded (find τ x)

pub added_coded : (Γ : Levels) (x : ℕ) (t : Ty) → added (coded_levels Γ) (x, type_code t) ≡ coded_levels (extended Γ (x, t))
added_coded [] x t = refl
added_coded (τ ∷ Γ) x t = refl

pub below_coded : (Γ : Levels) → below (coded_levels Γ) ≡ coded_levels (below Γ)
below_coded [] = refl
below_coded (τ ∷ Γ) = refl

-- ===== operands =====
pub getD_coded : (os : List Ty) (n : ℕ) → get_or (map type_code os) n 5 ≡ type_code (get_or os n Void)
getD_coded [] n = refl
getD_coded (t ∷ os) zero = refl
getD_coded (t ∷ os) (suc n) = getD_coded os n

reverseAux_coded : (ts us : List Ty) → reverse_aux (map type_code ts) (map type_code us) ≡ map type_code (reverse_aux ts us)
reverseAux_coded [] us = refl
reverseAux_coded (t ∷ ts) us = reverseAux_coded ts (t ∷ us)

pub newest_coded : (n : ℕ) (os : List Ty) → reverse (take n (map type_code os)) ≡ map type_code (reverse (take n os))
newest_coded n os = ap reverse (take-map type_code n os) ∙ reverseAux_coded (take n os) []

pub equal_coded : (ts us : List Ty) → equal_all (map type_code ts) (map type_code us) ≡ same_all ts us
equal_coded [] [] = refl
equal_coded [] (u ∷ us) = refl
equal_coded (t ∷ ts) [] = refl
equal_coded (t ∷ ts) (u ∷ us) = ap (λ b. same t u && b) (equal_coded ts us)

-- ===== judgements =====
abbrev pub coded_answer : Result Ty Violation → Result ℕ Violation
coded_answer (Ok t) = Ok (type_code t)
coded_answer (Err v) = Err v

pub need_coded : (v : Violation) (o : Option Ty) → need v (coded_option o) ≡ coded_answer (need v o)
need_coded v None = refl
need_coded v (Some t) = refl

pub variable_coded : (Γ : Levels) (x : ℕ) → need Undeclared (looked (coded_levels Γ) x) ≡ coded_answer (judge_variable Γ x)
variable_coded Γ x = ap (need Undeclared) (looked_coded Γ x) ∙ need_coded Undeclared (looked Γ x)

updated_coded : (o : Option Ty) → updated (coded_option o) ≡ coded_answer (need Undeclared o >>= λ t. need OtherOperands (arithmetic t))
updated_coded None = refl
updated_coded (Some Bool) = refl
updated_coded (Some Int) = refl
updated_coded (Some Double) = refl
updated_coded (Some String) = refl
updated_coded (Some Void) = refl

pub update_coded : (Γ : Levels) (x : ℕ) → updated (looked (coded_levels Γ) x) ≡ coded_answer (judge_update Γ x)
update_coded Γ x = ap updated (looked_coded Γ x) ∙ updated_coded (looked Γ x)

assigned_coded : (o : Option Ty) (t : Ty) → assigned (coded_option o) (type_code t) ≡ coded_answer (need Undeclared o >>= λ u. require OtherAssigned (same u t) >>= λ _. Ok u)
assigned_coded None t = refl
assigned_coded (Some u) t = go (same u t)
  where
    go : (b : Truth) → cond b (Ok (type_code u)) (Err OtherAssigned) ≡ coded_answer (require OtherAssigned b >>= λ _. Ok u)
    go true = refl
    go false = refl

pub assign_coded : (Γ : Levels) (x : ℕ) (t : Ty) → assigned (looked (coded_levels Γ) x) (type_code t) ≡ coded_answer (judge_assign Γ x t)
assign_coded Γ x t = ap (λ o. assigned o (type_code t)) (looked_coded Γ x) ∙ assigned_coded (looked Γ x) t
