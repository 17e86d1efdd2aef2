-- The checker of expressions answers exactly where a derivation is, with its type and column.
use Rattle.std.proofs.Common.{◌≡◌, ℕ, eqb, List, [], length, Some, Ok, Err, Result, sym, refl, ap, ◌∙◌, subst}
use Rattle.std.proofs.lemmas.Bool.{eq-eqb}
use Rattle.syntax.specs.declared.frame.«Type».{«Type» as Ty}
use Rattle.syntax.specs.Trees.{Literal, true_literal, false_literal, int_literal, double_literal, string_literal, Operator, Update, Expr, literal, variable, update, call, binary, assign, Exprs, none, more}
use Rattle.levels.specs.Store.{looked}
use Rattle.rules.specs.declared.violation.Violation.{Violation}
use Rattle.rules.specs.declared.violation.Violation.TheVariants.{Undeclared, NoFunction, OtherCount, OtherArgument, OtherOperands, OtherAssigned}
use Rattle.rules.specs.Heads.{Head, head, Signature, Levels}
use Rattle.rules.specs.Rows.{OperatorRule, UpdateRule}
use Rattle.rules.specs.Rules.{WellTyped, true_typed, false_typed, int_typed, double_typed, string_typed, variable_typed, call_typed, update_typed, binary_typed, assign_typed, ArgumentsTyped, no_argument, one_argument}
use Rattle.rules.specs.Faults.{◌>>=◌, need, require}
use Rattle.rules.specs.Judge.{arithmetic, row, same, same_all, literal_type, judge_variable, judge_update, judge_arguments, judge_call, judge_binary, judge_assign}
use Rattle.rules.proofs.Checker.{Typed, ended, check_expr, check_exprs}
use Rattle.rules.proofs.Stacked.{expr_stacked, arguments_stacked}
use Rattle.rules.proofs.Rows.{row_some, row_rule, update_some, update_rule}
use Rattle.rules.proofs.Results.{answers_same, bound, needed, required, same_self, same_true, same_all_self, same_all_true}

-- ===== from the derivation to the checker =====
module _ (S : Signature) (Γ : Levels) where
  mutual
    pub expr_complete : {e : Expr} {t : Ty} (d : WellTyped S Γ e t) (a : List ℕ) → check_expr S Γ e a ≡ Ok (t, expr_stacked d a)
    expr_complete true_typed a = refl
    expr_complete false_typed a = refl
    expr_complete int_typed a = refl
    expr_complete double_typed a = refl
    expr_complete string_typed a = refl
    expr_complete (variable_typed h) a = rw h
    expr_complete (call_typed {ts = ts} h ds) a = rw (arguments_complete ds a, h, eq-eqb (length ts) (length ts) refl, same_all_self ts)
    expr_complete (update_typed h k) a = rw (h, update_some k)
    expr_complete (binary_typed {t = t} d₁ d₂ k) a = rw (expr_complete d₁ a, expr_complete d₂ (expr_stacked d₁ a), same_self t, row_some k)
    expr_complete (assign_typed {t = t} d h) a = rw (expr_complete d a, h, same_self t)

    pub arguments_complete : {es : Exprs} {ts : List Ty} (ds : ArgumentsTyped S Γ es ts) (a : List ℕ) → check_exprs S Γ es a ≡ Ok (ts, arguments_stacked ds a)
    arguments_complete no_argument a = refl
    arguments_complete (one_argument d ds) a = rw (expr_complete d a, arguments_complete ds (expr_stacked d a))

-- ===== what a judgement that answered says =====
arguments_judged : (ts : List Ty) (h : Head) {r : Ty} → judge_arguments ts h ≡ Ok r → h ≡ head ts r
arguments_judged ts (head us u) k =
    bound (require OtherCount (eqb (length ts) (length us)) >>= λ _. require OtherArgument (same_all ts us)) _ k λ _ h₁ h₂.
    bound (require OtherCount (eqb (length ts) (length us))) _ h₁ λ _ h₃ h₄.
    let e = same_all_true ts us (required OtherArgument (same_all ts us) h₄) in
    cc

call_judged : (S : Signature) (f : ℕ) (ts : List Ty) {r : Ty} → judge_call S f ts ≡ Ok r → S f ≡ Some (head ts r)
call_judged S f ts k = bound (need NoFunction (S f)) (judge_arguments ts) k λ h h₁ h₂. needed NoFunction (S f) h₁ ∙ ap Some (arguments_judged ts h h₂)

binary_judged : (o : Operator) (t u : Ty) {r : Ty} → judge_binary o t u ≡ Ok r → (t ≡ u) × OperatorRule o t r
binary_judged o t u k = bound (require OtherOperands (same t u)) _ k λ _ h₁ h₂.
    (same_true t u (required OtherOperands (same t u) h₁), row_rule o t (needed OtherOperands (row o t) h₂))

assign_judged : (Γ : Levels) (x : ℕ) (t : Ty) {r : Ty} → judge_assign Γ x t ≡ Ok r → (looked Γ x ≡ Some t) × (t ≡ r)
assign_judged Γ x t k = bound (judge_variable Γ x) _ k λ u h₁ h₂. bound (require OtherAssigned (same u t)) _ h₂ λ _ h₃ h₄.
    let e = same_true u t (required OtherAssigned (same u t) h₃) in
    let e' = needed Undeclared (looked Γ x) h₁ in
    (cc, cc)

update_judged : (Γ : Levels) (c : Update) (x : ℕ) {r : Ty} → judge_update Γ x ≡ Ok r → (looked Γ x ≡ Some r) × UpdateRule c r
update_judged Γ c x k = bound (judge_variable Γ x) _ k λ t h₁ h₂.
    let q = update_rule c t (needed OtherOperands (arithmetic t) h₂) in
    (needed Undeclared (looked Γ x) h₁ ∙ ap Some q.1, subst (UpdateRule c) q.1 q.0)

ended_judged : (a : List ℕ) (Γ : Levels) (m : Result Ty Violation) {p : Typed} → ended a Γ m ≡ Ok p → m ≡ Ok p.0
ended_judged a Γ (Ok t) h = cc
ended_judged a Γ (Err v) h = cc

-- ===== from the checker to the derivation =====
module _ (S : Signature) (Γ : Levels) where
  literal_sound : (l : Literal) (t : Ty) → literal_type l ≡ t → WellTyped S Γ (literal l) t
  literal_sound true_literal t h = subst (WellTyped S Γ (literal true_literal)) h true_typed
  literal_sound false_literal t h = subst (WellTyped S Γ (literal false_literal)) h false_typed
  literal_sound (int_literal n) t h = subst (WellTyped S Γ (literal (int_literal n))) h int_typed
  literal_sound (double_literal n) t h = subst (WellTyped S Γ (literal (double_literal n))) h double_typed
  literal_sound (string_literal n) t h = subst (WellTyped S Γ (literal (string_literal n))) h string_typed

  mutual
    pub expr_sound : (e : Expr) (a : List ℕ) {p : Typed} → check_expr S Γ e a ≡ Ok p → WellTyped S Γ e p.0
    expr_sound (literal l) a {p} h = literal_sound l p.0 (cc)
    expr_sound (variable x) a h = variable_typed (needed Undeclared (looked Γ x) (ended_judged a Γ _ h))
    expr_sound (update c x) a h = let k = update_judged Γ c x (ended_judged a Γ _ h) in update_typed k.0 k.1
    expr_sound (call f es) a h = bound (check_exprs S Γ es a) _ h λ p h₁ h₂. call_typed (call_judged S f p.0 (ended_judged p.1 Γ _ h₂)) (exprs_sound es a h₁)
    expr_sound (binary o e₁ e₂) a h = bound (check_expr S Γ e₁ a) _ h λ p h₁ h₂. bound (check_expr S Γ e₂ p.1) _ h₂ λ q h₃ h₄.
        let k = binary_judged o p.0 q.0 (ended_judged q.1 Γ _ h₄) in
        binary_typed (expr_sound e₁ a h₁) (subst (WellTyped S Γ e₂) (sym k.0) (expr_sound e₂ p.1 h₃)) k.1
    expr_sound (assign x e) a h = bound (check_expr S Γ e a) _ h λ p h₁ h₂.
        let k = assign_judged Γ x p.0 (ended_judged p.1 Γ _ h₂) in
        subst (WellTyped S Γ (assign x e)) k.1 (assign_typed (expr_sound e a h₁) k.0)

    pub exprs_sound : (es : Exprs) (a : List ℕ) {p : List Ty × List ℕ} → check_exprs S Γ es a ≡ Ok p → ArgumentsTyped S Γ es p.0
    exprs_sound none a h = subst (ArgumentsTyped S Γ none) (cc) no_argument
    exprs_sound (more e es) a h = bound (check_expr S Γ e a) _ h λ p h₁ h₂. bound (check_exprs S Γ es p.1) _ h₂ λ q h₃ h₄.
        subst (ArgumentsTyped S Γ (more e es)) (cc) (one_argument (expr_sound e a h₁) (exprs_sound es p.1 h₃))

  -- two derivations of one expression give one type
  pub type_once : {e : Expr} {t u : Ty} → WellTyped S Γ e t → WellTyped S Γ e u → t ≡ u
  type_once d d' = ap (λ (q : Typed). q.0) (answers_same (sym (expr_complete S Γ d []) ∙ expr_complete S Γ d' []))
