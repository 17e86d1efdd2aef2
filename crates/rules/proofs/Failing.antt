-- A frame that breaks its rule fails its judgement.
use Rattle.std.proofs.Common.{◌≡◌, ℕ, true, false, not, List, ◌∷◌, length, is_some, Some, None, Err, Option, sym, refl, ap, ◌∙◌, inl, inr}
use Rattle.std.proofs.lemmas.Bool.{eq-eqb, ne_eqb, cases_Bool}
use Rattle.syntax.specs.declared.frame.«Type».{«Type» as Ty}
use Rattle.syntax.specs.declared.frame.«Type».TheVariants.{Bool}
use Rattle.syntax.specs.Trees.{Operator, Update}
use Rattle.levels.specs.Store.{find}
use Rattle.rules.specs.declared.violation.Violation.{Violation}
use Rattle.rules.specs.Heads.{Signature, Table, Levels}
use Rattle.rules.specs.Judge.{arithmetic, row, same, same_all, judge_variable, judge_update, judge_call, judge_binary, judge_assign, judge_init, judge_return, judge_condition}
use Rattle.rules.specs.Broken.{VariableBroken, undeclared, UpdateBroken, update_undeclared, update_outside_row, CallBroken, no_function, other_count, other_argument, BinaryBroken, operands_differ, operands_outside_row, AssignBroken, assign_undeclared, other_assigned, InitBroken, other_initial, initial_repeated, ReturnBroken, other_return, ConditionBroken, no_condition}
use Rattle.rules.proofs.Results.{same_self, same_true, same_all_true}
use Rattle.rules.proofs.Rows.{row_rule, update_rule}

-- ===== tests =====
same_false : (t u : Ty) → (t ≡ u → ⊥) → same t u ≡ false
same_false t u n = elim (cases_Bool (same t u)) [ inl h ↦ absurd (n (same_true t u h)) | inr h ↦ h ]

same_all_false : (ts us : List Ty) → (ts ≡ us → ⊥) → same_all ts us ≡ false
same_all_false ts us n = elim (cases_Bool (same_all ts us)) [ inl h ↦ absurd (n (same_all_true ts us h)) | inr h ↦ h ]

same_equal : (t u : Ty) → t ≡ u → same t u ≡ true
same_equal t u e = ap (same t) (sym e) ∙ same_self t

outside : (o : Option Ty) → ((r : Ty) → o ≡ Some r → ⊥) → o ≡ None
outside None n = refl
outside (Some r) n = absurd (n r refl)

found : (o : Option Ty) → (o ≡ None → ⊥) → not (is_some o) ≡ false
found None n = absurd (n refl)
found (Some t) n = refl

-- ===== judgements =====
pub variable_failing : (Γ : Levels) (x : ℕ) {v : Violation} → VariableBroken Γ x v → judge_variable Γ x ≡ Err v
variable_failing Γ x (undeclared h) = rw h

pub update_failing : (Γ : Levels) (c : Update) (x : ℕ) {v : Violation} → UpdateBroken Γ c x v → judge_update Γ x ≡ Err v
update_failing Γ c x (update_undeclared h) = rw h
update_failing Γ c x (update_outside_row {t = t} h n) = rw (h, outside (arithmetic t) (λ r e. n (update_rule c t e).0))

pub call_failing : (S : Signature) (f : ℕ) (ts : List Ty) {v : Violation} → CallBroken S f ts v → judge_call S f ts ≡ Err v
call_failing S f ts (no_function h) = rw h
call_failing S f ts (other_count {us = us} h n) = rw (h, ne_eqb (length ts) (length us) n)
call_failing S f ts (other_argument {us = us} h l n) = rw (h, eq-eqb (length ts) (length us) l, same_all_false ts us n)

pub binary_failing : (o : Operator) (t u : Ty) {v : Violation} → BinaryBroken o t u v → judge_binary o t u ≡ Err v
binary_failing o t u (operands_differ n) = rw (same_false t u n)
binary_failing o t u (operands_outside_row e n) = rw (same_equal t u e, outside (row o t) (λ r h. n r (row_rule o t h)))

pub assign_failing : (Γ : Levels) (x : ℕ) (t : Ty) {v : Violation} → AssignBroken Γ x t v → judge_assign Γ x t ≡ Err v
assign_failing Γ x t (assign_undeclared h) = rw h
assign_failing Γ x t (other_assigned {u = u} h n) = rw (h, same_false u t n)

pub init_failing : (τ : Table Ty) (Γ : Levels) (t : Ty) (x : ℕ) (u : Ty) {v : Violation} → InitBroken τ t x u v → judge_init (τ ∷ Γ) t x u ≡ Err v
init_failing τ Γ t x u (other_initial n) = rw (same_false t u n)
init_failing τ Γ t x u (initial_repeated e n) = rw (same_equal t u e, found (find τ x) n)

pub return_failing : (r u : Ty) {v : Violation} → ReturnBroken r u v → judge_return r u ≡ Err v
return_failing r u (other_return n) = rw (same_false r u n)

pub condition_failing : (u : Ty) {v : Violation} → ConditionBroken u v → judge_condition u ≡ Err v
condition_failing u (no_condition n) = rw (same_false Bool u n)
