-- Where a definition first breaks a rule the walk has its fault.
use Rattle.std.proofs.Common.{◌≡◌, ℕ, Bool as Truth, true, false, List, [], ◌∷◌, reverse, length, Ok, Err, Result, sym, refl, ap, ◌∙◌, inl, inr}
use Rattle.syntax.specs.declared.frame.«Type».{«Type» as Ty}
use Rattle.syntax.specs.declared.frame.«Type».TheVariants.{Void}
use Rattle.syntax.specs.Trees.{Expr, literal, variable, update, call, binary, assign, Exprs, none, more, Stmt, perform, declare, init, return_nothing, return_value, block, while, choose, Stmts, empty, then}
use Rattle.rules.specs.declared.violation.Violation.{Violation}
use Rattle.rules.specs.Heads.{Signature, Table, Levels}
use Rattle.rules.specs.Places.{after_expr}
use Rattle.rules.specs.Faults.{Fault, fault, ◌>>=◌, placed}
use Rattle.rules.specs.Judge.{judge_variable, judge_update, judge_call, judge_binary, judge_assign, judge_init, judge_return, judge_condition}
use Rattle.rules.specs.Decided.{level_left}
use Rattle.rules.specs.Broken.{ExprBroken, ExprsBroken, ThenBroken, InitBroken, ReturnBroken, ConditionBroken, StmtBroken, StmtsBroken, BrokenRule}
use Rattle.rules.proofs.Results.{bind_unit}
use Rattle.rules.proofs.Checker.{Typed, ended, check_expr, check_exprs, top_after, closing, check_stmt, check_stmts}
use Rattle.rules.proofs.Stacked.{expr_stacked, arguments_stacked, sequence_stacked}
use Rattle.rules.proofs.Expressions.{expr_complete, arguments_complete}
use Rattle.rules.proofs.Statements.{only_one, sequence_complete}
use Rattle.rules.proofs.Decided.{top_level, sheet_written, before_body, params_level}
use Rattle.rules.proofs.BrokenExpressions.{blanks_place, sequence_place, expr_place, arguments_place}
use Rattle.rules.proofs.BrokenStatements.{broken_first}
use Rattle.rules.proofs.Failing.{variable_failing, update_failing, call_failing, binary_failing, assign_failing, init_failing, return_failing, condition_failing}
use Rattle.rules.proofs.FailingNames.{names_failing}

-- a frame fails at the place p, and leaves the levels Δ
fails_at : {A : Type 0} (v : Violation) {n p : ℕ} {Γ Δ : Levels} → p ≡ n → Γ ≡ Δ → ◌≡◌ {A = Result A Fault} (Err (fault v n Γ)) (Err (fault v p Δ))
fails_at v e k = λ i. Err (fault v (sym e i) (k i))

ended_failing : (a : List ℕ) (Γ : Levels) (m : Result Ty Violation) {v : Violation} {p : ℕ} → m ≡ Err v → p ≡ length a → ended a Γ m ≡ Err (fault v p Γ)
ended_failing a Γ m {v} h e = ap (λ o. ended a Γ o) h ∙ fails_at v e refl

module _ (S : Signature) (v : Violation) (p : ℕ) where
  mutual
    expr_failing : (Γ : Levels) (e : Expr) (a : List ℕ) → ExprBroken S Γ e (length a) v p → check_expr S Γ e a ≡ Err (fault v p Γ)
    expr_failing Γ (literal l) a h = absurd h
    expr_failing Γ (variable x) a h = ended_failing a Γ (judge_variable Γ x) (variable_failing Γ x h.1) h.0
    expr_failing Γ (update c x) a h = ended_failing a Γ (judge_update Γ x) (update_failing Γ c x h.1) h.0
    expr_failing Γ (call f es) a (inl h) = rw (exprs_failing Γ es a h)
    expr_failing Γ (call f es) a (inr q) =
        rw (arguments_complete S Γ q.1 a)
        (ended_failing (arguments_stacked q.1 a) Γ (judge_call S f q.0) (call_failing S f q.0 q.3) (q.2 ∙ sym (arguments_place q.1 a)))
    expr_failing Γ (binary o e₁ e₂) a (inl h) = rw (expr_failing Γ e₁ a h)
    expr_failing Γ (binary o e₁ e₂) a (inr (t, d, inl h)) =
        rw (expr_complete S Γ d a, expr_failing Γ e₂ (expr_stacked d a) (rw (expr_place d a) h))
    expr_failing Γ (binary o e₁ e₂) a (inr (t, d, inr q)) =
        let at = expr_place q.1 (expr_stacked d a) ∙ ap (after_expr e₂) (expr_place d a) in
        rw (expr_complete S Γ d a, expr_complete S Γ q.1 (expr_stacked d a))
        (ended_failing (expr_stacked q.1 (expr_stacked d a)) Γ (judge_binary o t q.0) (binary_failing o t q.0 q.3) (q.2 ∙ sym at))
    expr_failing Γ (assign x e) a (inl h) = rw (expr_failing Γ e a h)
    expr_failing Γ (assign x e) a (inr q) =
        rw (expr_complete S Γ q.1 a)
        (ended_failing (expr_stacked q.1 a) Γ (judge_assign Γ x q.0) (assign_failing Γ x q.0 q.3) (q.2 ∙ sym (expr_place q.1 a)))

    exprs_failing : (Γ : Levels) (es : Exprs) (a : List ℕ) → ExprsBroken S Γ es (length a) v p → check_exprs S Γ es a ≡ Err (fault v p Γ)
    exprs_failing Γ none a h = absurd h
    exprs_failing Γ (more e es) a (inl h) = rw (expr_failing Γ e a h)
    exprs_failing Γ (more e es) a (inr q) =
        rw (expr_complete S Γ q.1 a, exprs_failing Γ es (expr_stacked q.1 a) (rw (expr_place q.1 a) q.2))

  module _ (Δ : Levels) where
    -- an expression, then a frame that judges its type and goes on by k
    then_failing : (Γ : Levels) (e : Expr) (a : List ℕ) (B : Ty → Violation → Type 0) (judge : Ty → Result (Unit {0}) Violation) (k : Typed → Unit {0} → Result (List ℕ) Fault) → ((u : Ty) → B u v → judge u ≡ Err v)
        → ThenBroken S Γ e (length a) B v p Δ → (check_expr S Γ e a >>= λ q. placed (length q.1) Γ (judge q.0) >>= k q) ≡ Err (fault v p Δ)
    then_failing Γ e a B judge k b (inl h, g) = rw (expr_failing Γ e a h) (fails_at v refl g)
    then_failing Γ e a B judge k b (inr q, g) =
        rw (expr_complete S Γ q.1 a, b q.0 q.3) (fails_at v (q.2 ∙ sym (expr_place q.1 a)) g)

    condition_first : (r : Ty) (Γ : Levels) (e : Expr) (a : List ℕ) (k : List ℕ → Result (List ℕ) Fault) → ThenBroken S Γ e (length a) ConditionBroken v p Δ
        → (check_expr S Γ e a >>= λ q. closing S r q.1 Γ (judge_condition q.0) >>= k) ≡ Err (fault v p Δ)
    condition_first r Γ e a k (inl h, g) = rw (expr_failing Γ e a h) (fails_at v refl g)
    condition_first r Γ e a k (inr q, g) = rw (expr_complete S Γ q.1 a, condition_failing q.0 q.3) (fails_at v (q.2 ∙ sym (expr_place q.1 a)) g)

    module _ (r : Ty) where
      mutual
        stmt_failing : (s : Stmt) (own : Truth) (Γ : Levels) (τ : Table Ty) (a : List ℕ) → StmtBroken S r own Γ τ s (length a) v p Δ → check_stmt S r own Γ τ s a ≡ Err (fault v p Δ)
        stmt_failing (perform e) own Γ τ a h = rw (expr_failing (τ ∷ Γ) e a h.0) (fails_at v refl h.1)
        stmt_failing (declare t xs) own Γ τ a h = names_failing own Γ τ t xs (0 ∷ a) v p Δ h
        stmt_failing (init t x e) own Γ τ a h = then_failing (τ ∷ Γ) e a (InitBroken τ t x) (judge_init (τ ∷ Γ) t x) _ (λ u b. init_failing τ Γ t x u b) h
        stmt_failing return_nothing own Γ τ a h = rw (return_failing r Void h.1) (fails_at v h.0 h.2)
        stmt_failing (return_value e) own Γ τ a h = then_failing (τ ∷ Γ) e a (ReturnBroken r) (judge_return r) _ (λ u b. return_failing r u b) h
        stmt_failing (block ss) own Γ τ a h = rw (stmts_failing ss (τ ∷ Γ) [] (0 ∷ a) h)
        stmt_failing (while e s) own Γ τ a (inl h) = condition_first r (τ ∷ Γ) e a _ h
        stmt_failing (while e s) own Γ τ a (inr (d, h)) =
            rw (expr_complete S (τ ∷ Γ) d a) (stmt_failing s true Γ τ (0 ∷ expr_stacked d a) (rw (expr_place d a) h))
        stmt_failing (choose e s₁ s₂) own Γ τ a (inl h) = condition_first r (τ ∷ Γ) e a _ h
        stmt_failing (choose e s₁ s₂) own Γ τ a (inr (d, inl h)) =
            rw (expr_complete S (τ ∷ Γ) d a, stmt_failing s₁ true Γ τ (0 ∷ expr_stacked d a) (rw (expr_place d a) h))
        stmt_failing (choose e s₁ s₂) own Γ τ a (inr (d, inr (D, h))) =
            let b = 0 ∷ expr_stacked d a in
            rw (expr_complete S (τ ∷ Γ) d a, only_one S r Γ τ s₁ b (sequence_complete S r D b))
            (stmt_failing s₂ true Γ τ (sequence_stacked D b) (rw (sequence_place D b, expr_place d a) h))

        stmts_failing : (ss : Stmts) (Γ : Levels) (τ : Table Ty) (a : List ℕ) → StmtsBroken S r Γ τ ss (length a) v p Δ → check_stmts S r Γ τ ss a ≡ Err (fault v p Δ)
        stmts_failing empty Γ τ a h = absurd h
        stmts_failing (then s ss) Γ τ a (inl h) = rw (stmt_failing s false Γ τ a h)
        stmts_failing (then s ss) Γ τ a (inr (D, h)) =
            let c = sequence_stacked D a in
            rw (sym (bind_unit (check_stmt S r false Γ τ s a)) ∙ sequence_complete S r D a)
            (stmts_failing ss Γ (top_after false s τ) c (rw (top_level s τ, sequence_place D a) h))

pub broken_rule : BrokenRule
broken_rule S d v p Δ = (
  broken_first S d v p Δ,
  (λ h.
      let k = stmts_failing S v p Δ d.returns d.body [] (params_level S d) (before_body S d) (rw (blanks_place d.params (0 ∷ [])) h) in
      sheet_written S d ∙ ap (λ m. m >>= λ c. Ok (reverse (0 ∷ c), level_left d ∷ [])) k),
)
