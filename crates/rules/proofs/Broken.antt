-- What a judgement that fails says, in the words of the rules.
use Rattle.std.proofs.Common.{◌≡◌, ℕ, Bool as Truth, true, false, eqb, List, ◌∷◌, length, Some, None, Ok, Err, Option, Result, refl, subst}
use Rattle.std.proofs.lemmas.Bool.{eqb-true, eqb-false}
use Rattle.syntax.specs.declared.frame.«Type».{«Type» as Ty}
use Rattle.syntax.specs.declared.frame.«Type».TheVariants.{Bool}
use Rattle.syntax.specs.Trees.{Operator, Update}
use Rattle.levels.specs.Store.{looked}
use Rattle.rules.specs.declared.violation.Violation.{Violation}
use Rattle.rules.specs.declared.violation.Violation.TheVariants.{Undeclared, NoFunction, OtherCount, OtherArgument, OtherOperands, OtherAssigned, OtherInitial, Repeated, OtherReturn, NoCondition}
use Rattle.rules.specs.Heads.{Head, head, Signature, Table, Levels}
use Rattle.rules.specs.Faults.{◌>>=◌, need, require}
use Rattle.rules.specs.Judge.{arithmetic, row, same, same_all, judge_variable, judge_update, judge_arguments, judge_call, judge_binary, judge_assign, judge_init, judge_return, judge_condition}
use Rattle.rules.specs.Broken.{VariableBroken, undeclared, UpdateBroken, update_undeclared, update_outside_row, CallBroken, no_function, other_count, other_argument, BinaryBroken, operands_differ, operands_outside_row, AssignBroken, assign_undeclared, other_assigned, InitBroken, other_initial, initial_repeated, ReturnBroken, other_return, ConditionBroken, no_condition}
use Rattle.rules.proofs.Results.{needed, required, same_self, same_true, same_all_self}
use Rattle.rules.proofs.Rows.{row_some, update_some}

-- ===== chains that fail =====
pub fails : {A B E C : Type 0} (m : Result A E) (f : A → Result B E) {x : E} → (m >>= f) ≡ Err x → (m ≡ Err x → C) → ((a : A) → m ≡ Ok a → f a ≡ Err x → C) → C
fails (Ok a) f h k g = g a refl h
fails (Err y) f h k g = k (cc)

pub needs_none : {A : Type 0} (w : Violation) (o : Option A) {v : Violation} → need w o ≡ Err v → (o ≡ None) × (w ≡ v)
needs_none w None h = (refl, cc)
needs_none w (Some a) h = cc

pub requires_false : (w : Violation) (b : Truth) {v : Violation} → require w b ≡ Err v → (b ≡ false) × (w ≡ v)
requires_false w true h = cc
requires_false w false h = (refl, cc)

-- ===== tests that fail =====
same_not : (t u : Ty) → same t u ≡ false → t ≡ u → ⊥
same_not t u h e = cc (same_self t)

same_all_not : (ts us : List Ty) → same_all ts us ≡ false → ts ≡ us → ⊥
same_all_not ts us h e = cc (same_all_self ts)

-- ===== judgements that fail =====
pub variable_fails : (Γ : Levels) (x : ℕ) {v : Violation} → judge_variable Γ x ≡ Err v → VariableBroken Γ x v
variable_fails Γ x h = let k = needs_none Undeclared (looked Γ x) h in subst (VariableBroken Γ x) k.1 (undeclared k.0)

pub update_fails : (Γ : Levels) (c : Update) (x : ℕ) {v : Violation} → judge_update Γ x ≡ Err v → UpdateBroken Γ c x v
update_fails Γ c x h =
    fails (judge_variable Γ x) _ h
    (λ h₁. let k = needs_none Undeclared (looked Γ x) h₁ in subst (UpdateBroken Γ c x) k.1 (update_undeclared k.0))
    (λ t h₁ h₂.
    let k = needs_none OtherOperands (arithmetic t) h₂ in
    subst (UpdateBroken Γ c x) k.1 (update_outside_row (needed Undeclared (looked Γ x) h₁) (λ u. cc (update_some u))))

call_refused : (S : Signature) (f : ℕ) (ts : List Ty) (H : Head) {v : Violation} → S f ≡ Some H → judge_arguments ts H ≡ Err v → CallBroken S f ts v
call_refused S f ts (head us r) e h =
    fails (require OtherCount (eqb (length ts) (length us)) >>= λ _. require OtherArgument (same_all ts us)) _ h
    (λ h₁. fails (require OtherCount (eqb (length ts) (length us))) _ h₁
    (λ h₂. let k = requires_false OtherCount _ h₂ in subst (CallBroken S f ts) k.1 (other_count e (eqb-false (length ts) (length us) k.0)))
    (λ _ h₂ h₃.
    let k = requires_false OtherArgument _ h₃ in
    subst (CallBroken S f ts) k.1 (other_argument e (eqb-true (length ts) (length us) (required OtherCount _ h₂)) (same_all_not ts us k.0))))
    (λ _ h₁ h₂. cc)

pub call_fails : (S : Signature) (f : ℕ) (ts : List Ty) {v : Violation} → judge_call S f ts ≡ Err v → CallBroken S f ts v
call_fails S f ts h =
    fails (need NoFunction (S f)) (judge_arguments ts) h
    (λ h₁. let k = needs_none NoFunction (S f) h₁ in subst (CallBroken S f ts) k.1 (no_function k.0))
    (λ H h₁ h₂. call_refused S f ts H (needed NoFunction (S f) h₁) h₂)

pub binary_fails : (o : Operator) (t u : Ty) {v : Violation} → judge_binary o t u ≡ Err v → BinaryBroken o t u v
binary_fails o t u h =
    fails (require OtherOperands (same t u)) _ h
    (λ h₁. let k = requires_false OtherOperands _ h₁ in subst (BinaryBroken o t u) k.1 (operands_differ (same_not t u k.0)))
    (λ _ h₁ h₂.
    let k = needs_none OtherOperands (row o t) h₂ in
    subst (BinaryBroken o t u) k.1 (operands_outside_row (same_true t u (required OtherOperands _ h₁)) (λ r R. cc (row_some R))))

pub assign_fails : (Γ : Levels) (x : ℕ) (t : Ty) {v : Violation} → judge_assign Γ x t ≡ Err v → AssignBroken Γ x t v
assign_fails Γ x t h =
    fails (judge_variable Γ x) _ h
    (λ h₁. let k = needs_none Undeclared (looked Γ x) h₁ in subst (AssignBroken Γ x t) k.1 (assign_undeclared k.0))
    (λ u h₁ h₂. fails (require OtherAssigned (same u t)) _ h₂
    (λ h₃. let k = requires_false OtherAssigned _ h₃ in subst (AssignBroken Γ x t) k.1 (other_assigned (needed Undeclared (looked Γ x) h₁) (same_not u t k.0)))
    (λ _ h₃ h₄. cc))

pub init_fails : (τ : Table Ty) (Γ : Levels) (t : Ty) (x : ℕ) (u : Ty) {v : Violation} → judge_init (τ ∷ Γ) t x u ≡ Err v → InitBroken τ t x u v
init_fails τ Γ t x u h =
    fails (require OtherInitial (same t u)) _ h
    (λ h₁. let k = requires_false OtherInitial _ h₁ in subst (InitBroken τ t x u) k.1 (other_initial (same_not t u k.0)))
    (λ _ h₁ h₂.
    let k = requires_false Repeated _ h₂ in
    subst (InitBroken τ t x u) k.1 (initial_repeated (same_true t u (required OtherInitial _ h₁)) (λ e. cc k.0)))

pub return_fails : (r u : Ty) {v : Violation} → judge_return r u ≡ Err v → ReturnBroken r u v
return_fails r u h = let k = requires_false OtherReturn _ h in subst (ReturnBroken r u) k.1 (other_return (same_not r u k.0))

pub condition_fails : (u : Ty) {v : Violation} → judge_condition u ≡ Err v → ConditionBroken u v
condition_fails u h = let k = requires_false NoCondition _ h in subst (ConditionBroken u) k.1 (no_condition (same_not Bool u k.0))
