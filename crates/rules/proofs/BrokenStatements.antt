-- A fault of the walk over a definition is where the definition first breaks a rule.
use Rattle.std.proofs.Common.{◌≡◌, ℕ, suc, Bool as Truth, true, false, ◌⊎◌, List, [], ◌∷◌, length, Ok, Err, Result, sym, ap, ◌∙◌, subst, inl, inr}
use Rattle.syntax.specs.declared.frame.«Type».{«Type» as Ty}
use Rattle.syntax.specs.declared.frame.«Type».TheVariants.{Bool, Void}
use Rattle.syntax.specs.Trees.{Expr, Stmt, perform, declare, init, return_nothing, return_value, block, while, choose, Stmts, empty, then, Definition}
use Rattle.syntax.specs.Writing.{written}
use Rattle.rules.specs.declared.violation.Violation.{Violation}
use Rattle.rules.specs.Heads.{Signature, Table, Levels}
use Rattle.rules.specs.Rules.{WellTyped}
use Rattle.rules.specs.Sequences.{empty_valid}
use Rattle.rules.specs.Places.{after_expr, after_stmt}
use Rattle.rules.specs.Faults.{Fault, fault, ◌>>=◌}
use Rattle.rules.specs.Judge.{judge_init, judge_return, judge_condition}
use Rattle.rules.specs.Walk.{walk_sheet}
use Rattle.rules.specs.Broken.{ThenBroken, InitBroken, ReturnBroken, ConditionBroken, StmtBroken, StmtsBroken, Broken}
use Rattle.rules.proofs.Checker.{check_expr, top_after, closing, check_stmt, check_stmts}
use Rattle.rules.proofs.Expressions.{expr_sound}
use Rattle.rules.proofs.Statements.{only_one, sequence_complete, stmt_sound, condition_judged, closing_judged, expr_as}
use Rattle.rules.proofs.Decided.{top_level, sheet_written, body_checked, before_body, params_level}
use Rattle.rules.proofs.Broken.{fails, init_fails, return_fails, condition_fails}
use Rattle.rules.proofs.BrokenExpressions.{blanks_place, sequence_place, moved_fails, checked_place, expr_breaks, then_breaks}
use Rattle.rules.proofs.BrokenNames.{names_break}

module _ (S : Signature) (r : Ty) where
  -- where a statement that was checked ends
  stmt_place : (own : Truth) (Γ : Levels) (τ : Table Ty) (s : Stmt) (a : List ℕ) {c : List ℕ} → check_stmt S r own Γ τ s a ≡ Ok c → length c ≡ after_stmt s (length a)
  stmt_place true Γ τ s a {c} h =
      let D = stmt_sound S r s true Γ τ a h empty_valid in
      cc (only_one S r Γ τ s a (sequence_complete S r D a), sequence_place D a)
  stmt_place false Γ τ s a {c} h =
      let D = stmt_sound S r s false Γ τ a h empty_valid in
      cc (rw h at (sequence_complete S r D a), sequence_place D a)

  module _ (v : Violation) (p : ℕ) (Δ : Levels) where
    -- a condition, and what it governs
    abbrev Governs : Levels → Expr → List ℕ → (List ℕ → Result (List ℕ) Fault) → Type 0
    Governs Γ e a k = (b : List ℕ) × WellTyped S Γ e Bool × (length b ≡ suc (after_expr e (length a))) × (k b ≡ Err (fault v p Δ))

    governed : (Γ : Levels) (e : Expr) (a : List ℕ) (k : List ℕ → Result (List ℕ) Fault)
        → (check_expr S Γ e a >>= λ q. closing S r q.1 Γ (judge_condition q.0) >>= k) ≡ Err (fault v p Δ) → ThenBroken S Γ e (length a) ConditionBroken v p Δ ⊎ Governs Γ e a k
    governed Γ e a k h =
        fails (check_expr S Γ e a) _ h
        (λ h₁. let j = expr_breaks S v p Δ Γ e a h₁ in inl (inl j.0, j.1))
        (λ q h₁ h₂. fails (closing S r q.1 Γ (judge_condition q.0)) k h₂
        (λ h₃.
        let j = moved_fails (length q.1) Γ (judge_condition q.0) _ h₃ in
        inl (inr (q.0, expr_sound S Γ e a h₁, j.1 ∙ checked_place S Γ e a h₁, condition_fails q.0 j.0), j.2))
        (λ b h₃ h₄.
        let j = closing_judged S r q.1 Γ (judge_condition q.0) h₃ in
        inr (b, expr_as S r Γ e a h₁ (condition_judged q.0 j.0), ap length (sym j.1) ∙ ap suc (checked_place S Γ e a h₁), h₄)))

    mutual
      stmt_breaks : (s : Stmt) (own : Truth) (Γ : Levels) (τ : Table Ty) (a : List ℕ) → check_stmt S r own Γ τ s a ≡ Err (fault v p Δ) → StmtBroken S r own Γ τ s (length a) v p Δ
      stmt_breaks (perform e) own Γ τ a h = fails (check_expr S (τ ∷ Γ) e a) _ h (expr_breaks S v p Δ (τ ∷ Γ) e a) (λ q h₁ h₂. cc)
      stmt_breaks (declare t xs) own Γ τ a h = names_break own Γ τ t xs (0 ∷ a) v p Δ h
      stmt_breaks (init t x e) own Γ τ a h = then_breaks S v p Δ (τ ∷ Γ) e a (InitBroken τ t x) (judge_init (τ ∷ Γ) t x) _ (λ u k. init_fails τ Γ t x u k) h
      stmt_breaks return_nothing own Γ τ a h = let k = moved_fails (length a) (τ ∷ Γ) (judge_return r Void) _ h in (k.1, return_fails r Void k.0, k.2)
      stmt_breaks (return_value e) own Γ τ a h = then_breaks S v p Δ (τ ∷ Γ) e a (ReturnBroken r) (judge_return r) _ (λ u k. return_fails r u k) h
      stmt_breaks (block ss) own Γ τ a h = fails (check_stmts S r (τ ∷ Γ) [] ss (0 ∷ a)) _ h (stmts_break ss (τ ∷ Γ) [] (0 ∷ a)) (λ c h₁ h₂. cc)
      stmt_breaks (while e s) own Γ τ a h =
          elim (governed (τ ∷ Γ) e a _ h) [
            | inl k ↦ inl k
            | inr q ↦ inr (q.1, subst (λ n. StmtBroken S r true Γ τ s n v p Δ) q.2 (stmt_breaks s true Γ τ q.0 q.3))
          ]
      stmt_breaks (choose e s₁ s₂) own Γ τ a h =
          elim (governed (τ ∷ Γ) e a _ h) [
            | inl k ↦ inl k
            | inr q ↦
                inr (
                  q.1,
                  fails (check_stmt S r true Γ τ s₁ q.0) _ q.3
                      (λ h₁. inl (subst (λ n. StmtBroken S r true Γ τ s₁ n v p Δ) q.2 (stmt_breaks s₁ true Γ τ q.0 h₁)))
                      (λ c h₁ h₂. inr (
                        stmt_sound S r s₁ true Γ τ q.0 h₁ empty_valid,
                        subst (λ n. StmtBroken S r true Γ τ s₂ n v p Δ) (stmt_place true Γ τ s₁ q.0 h₁ ∙ ap (after_stmt s₁) q.2) (stmt_breaks s₂ true Γ τ c h₂),
                      )),
                )
          ]

      stmts_break : (ss : Stmts) (Γ : Levels) (τ : Table Ty) (a : List ℕ) → check_stmts S r Γ τ ss a ≡ Err (fault v p Δ) → StmtsBroken S r Γ τ ss (length a) v p Δ
      stmts_break empty Γ τ a h = cc
      stmts_break (then s ss) Γ τ a h =
          fails (check_stmt S r false Γ τ s a) _ h
          (λ h₁. inl (stmt_breaks s false Γ τ a h₁))
          (λ c h₁ h₂. inr (
            stmt_sound S r s false Γ τ a h₁ empty_valid,
            rw (top_level s τ, stmt_place false Γ τ s a h₁) at (stmts_break ss Γ (top_after false s τ) c h₂),
          ))

pub broken_first : (S : Signature) (d : Definition) (v : Violation) (p : ℕ) (Δ : Levels) → walk_sheet S (written d) ≡ Err (fault v p Δ) → Broken S d v p Δ
broken_first S d v p Δ h =
    fails (body_checked S d) _ (sym (sheet_written S d) ∙ h)
    (λ h₁. rw (blanks_place d.params (0 ∷ [])) at (stmts_break S d.returns v p Δ d.body [] (params_level S d) (before_body S d) h₁))
    (λ c h₁ h₂. cc)
