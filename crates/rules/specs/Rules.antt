-- The rules for expressions, as derivations: one constructor for each rule, with the rows of the operators.
use Rattle.std.specs.Prelude.{◌≡◌, ℕ, List, [], ◌∷◌, Some}
use Rattle.syntax.specs.declared.frame.«Type».{«Type» as Ty}
use Rattle.syntax.specs.declared.frame.«Type».TheVariants.{Bool, Int, Double, String}
use Rattle.syntax.specs.Trees.{true_literal, false_literal, int_literal, double_literal, string_literal, Operator, Update, Expr, literal, variable, update, call, binary, assign, Exprs, none, more}
use Rattle.levels.specs.Store.{looked}
use Rattle.rules.specs.Heads.{head, Signature, Levels}
use Rattle.rules.specs.Rows.{OperatorRule, UpdateRule}

-- under the heads S and the tables Γ an expression has a type, and the arguments of a call have types one by one
mutual
  pub data WellTyped (S : Signature) (Γ : Levels) : Expr → Ty → Type 0 where
    true_typed : WellTyped S Γ (literal true_literal) Bool
    false_typed : WellTyped S Γ (literal false_literal) Bool
    int_typed : {n : ℕ} → WellTyped S Γ (literal (int_literal n)) Int
    double_typed : {n : ℕ} → WellTyped S Γ (literal (double_literal n)) Double
    string_typed : {n : ℕ} → WellTyped S Γ (literal (string_literal n)) String
    variable_typed : {x : ℕ} {t : Ty} → looked Γ x ≡ Some t → WellTyped S Γ (variable x) t
    call_typed : {f : ℕ} {es : Exprs} {ts : List Ty} {r : Ty}
        → S f ≡ Some (head ts r) → ArgumentsTyped S Γ es ts
        → WellTyped S Γ (call f es) r
    update_typed : {c : Update} {x : ℕ} {t : Ty} → looked Γ x ≡ Some t → UpdateRule c t → WellTyped S Γ (update c x) t
    binary_typed : {o : Operator} {a b : Expr} {t r : Ty}
        → WellTyped S Γ a t → WellTyped S Γ b t → OperatorRule o t r
        → WellTyped S Γ (binary o a b) r
    assign_typed : {x : ℕ} {e : Expr} {t : Ty} → WellTyped S Γ e t → looked Γ x ≡ Some t → WellTyped S Γ (assign x e) t

  pub data ArgumentsTyped (S : Signature) (Γ : Levels) : Exprs → List Ty → Type 0 where
    no_argument : ArgumentsTyped S Γ none []
    one_argument : {e : Expr} {es : Exprs} {t : Ty} {ts : List Ty}
        → WellTyped S Γ e t → ArgumentsTyped S Γ es ts
        → ArgumentsTyped S Γ (more e es) (t ∷ ts)
