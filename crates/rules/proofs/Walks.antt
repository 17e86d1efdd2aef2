-- The walk over the writing of a tree ends as the checker of that tree does.
use Rattle.std.proofs.Common.{◌≡◌, ℕ, Bool as Truth, true, false, cond, List, [], ◌∷◌, reverse, length, take, drop, Ok, Err, Result, sym, refl, ap, ◌∙◌}
use mathlib.Core.List.{reverse_aux, reverse_aux-eq, reverse-reverse}
use Rattle.std.proofs.lemmas.List.{length-reverse, take_at, drop_at}
use Rattle.syntax.specs.declared.frame.«Type».{«Type» as Ty}
use Rattle.syntax.specs.declared.frame.«Type».TheVariants.{Void}
use Rattle.syntax.specs.declared.frame.Parameter.{Parameter}
use Rattle.syntax.specs.declared.stages.Unfinished.{Unfinished}
use Rattle.syntax.specs.declared.stages.Unfinished.TheVariants.{Block, Loop, Choice}
use Rattle.syntax.specs.Trees.{Expr, literal, variable, update, call, binary, assign, Exprs, none, more, Stmt, perform, declare, init, return_nothing, return_value, block, while, choose, Stmts, empty, then}
use Rattle.syntax.specs.Writing.{type_code, Token, DO, INIT, RET, CLOSE, WHILE, IF, CALL, BINARY, ASSIGN, count, write_expr, write_exprs, write_names, write_stmt, write_stmts, write_params}
use Rattle.syntax.specs.Form.{finish}
use Rattle.rules.specs.declared.violation.Violation.{Violation}
use Rattle.rules.specs.Heads.{Signature, Table, Levels}
use Rattle.rules.specs.Sequences.{declare_all, declare_params}
use Rattle.rules.specs.Faults.{Fault, ◌>>=◌, placed}
use Rattle.rules.specs.Judge.{judge_variable, judge_update, judge_call, judge_binary, judge_assign, judge_init, judge_name, judge_return, judge_condition}
use Rattle.rules.specs.Walk.{idle, State, state, alone, keep, await, walk}
use Rattle.rules.proofs.Checker.{ended, check_expr, check_exprs, check_names, top_after, closing, check_stmt, check_stmts}
use Rattle.rules.proofs.Stacked.{blanks_stacked}
use Rattle.rules.proofs.Results.{bound, bind_on, bind_cong, bind_when, bind_assoc, placed_moved}

-- ===== arguments =====
-- the arguments come back from the operands in their order, and the other operands are left
arguments_taken : (ts os : List Ty) → reverse (take (length ts) (reverse_aux ts os)) ≡ ts
arguments_taken ts os =
    rw (reverse_aux-eq ts os, take_at (reverse ts) os (length ts) (length-reverse ts)) (reverse-reverse ts)

arguments_dropped : (ts os : List Ty) → drop (length ts) (reverse_aux ts os) ≡ os
arguments_dropped ts os =
    rw (reverse_aux-eq ts os) (drop_at (reverse ts) os (length ts) (length-reverse ts))

arguments_counted : (S : Signature) (Γ : Levels) (es : Exprs) (a : List ℕ) {p : List Ty × List ℕ} → check_exprs S Γ es a ≡ Ok p → count es ≡ length p.0
arguments_counted S Γ none a h = cc
arguments_counted S Γ (more e es) a h =
    let ih = λ (b : List ℕ) (q : List Ty × List ℕ) (k : check_exprs S Γ es b ≡ Ok q). arguments_counted S Γ es b k in
    bound (check_expr S Γ e a) _ h λ p h₁ h₂. bound (check_exprs S Γ es p.1) _ h₂ λ q h₃ h₄.
    cc (ih p.1 q h₃)

-- ===== the top after names =====
-- the top after the first name, and then after all
pub kept_rest : (own : Truth) (t : Ty) (x : ℕ) (xs : List ℕ) (τ : Table Ty) → cond own (cond own τ ((x, t) ∷ τ)) (declare_all t xs (cond own τ ((x, t) ∷ τ))) ≡ cond own τ (declare_all t xs ((x, t) ∷ τ))
kept_rest true t x xs τ = refl
kept_rest false t x xs τ = refl

-- no name leaves the top as it was
pub kept_none : (own : Truth) (τ : Table Ty) → cond own τ τ ≡ τ
kept_none true τ = refl
kept_none false τ = refl

module _ (S : Signature) (r : Ty) where
  -- ===== expressions =====
  -- the frame that ends an expression
  ends : (m : Result Ty Violation) (ms : List Token) (a : List ℕ) (os : List Ty) (Γ : Levels) (u : List Unfinished)
      → (placed (length a) Γ (m >>= λ t. Ok (state (type_code t ∷ a) (t ∷ os) Γ u idle)) >>= λ s. walk S r ms s) ≡ (ended a Γ m >>= λ p. walk S r ms (state p.1 (p.0 ∷ os) Γ u idle))
  ends (Ok t) ms a os Γ u = refl
  ends (Err v) ms a os Γ u = refl

  mutual
    pub walk_expr : (e : Expr) (ms : List Token) (a : List ℕ) (os : List Ty) (Γ : Levels) (u : List Unfinished)
        → walk S r (write_expr e ms) (state a os Γ u idle) ≡ (check_expr S Γ e a >>= λ p. walk S r ms (state p.1 (p.0 ∷ os) Γ u idle))
    walk_expr (literal l) ms a os Γ u = refl
    walk_expr (variable x) ms a os Γ u = ends (judge_variable Γ x) ms a os Γ u
    walk_expr (update c x) ms a os Γ u = ends (judge_update Γ x) ms a os Γ u
    walk_expr (call f es) ms a os Γ u =
        walk_exprs es (CALL f (count es) ∷ ms) a os Γ u
        ∙ bind_when (check_exprs S Γ es a) (λ p h. rw (arguments_counted S Γ es a h, arguments_taken p.0 os, arguments_dropped p.0 os) (ends (judge_call S f p.0) ms p.1 os Γ u))
        ∙ sym (bind_assoc (check_exprs S Γ es a) _ _)
    walk_expr (binary o e₁ e₂) ms a os Γ u =
        walk_expr e₁ (write_expr e₂ (BINARY o ∷ ms)) a os Γ u
        ∙ bind_on (check_expr S Γ e₁ a) _ _ (λ p. walk_expr e₂ (BINARY o ∷ ms) p.1 (p.0 ∷ os) Γ u ∙ bind_on (check_expr S Γ e₂ p.1) _ _ (λ q. ends (judge_binary o p.0 q.0) ms q.1 os Γ u))
    walk_expr (assign x e) ms a os Γ u =
        walk_expr e (ASSIGN x ∷ ms) a os Γ u ∙ bind_on (check_expr S Γ e a) _ _ (λ p. ends (judge_assign Γ x p.0) ms p.1 os Γ u)

    pub walk_exprs : (es : Exprs) (ms : List Token) (a : List ℕ) (os : List Ty) (Γ : Levels) (u : List Unfinished)
        → walk S r (write_exprs es ms) (state a os Γ u idle) ≡ (check_exprs S Γ es a >>= λ p. walk S r ms (state p.1 (reverse_aux p.0 os) Γ u idle))
    walk_exprs none ms a os Γ u = refl
    walk_exprs (more e es) ms a os Γ u =
        walk_expr e (write_exprs es ms) a os Γ u
        ∙ bind_on (check_expr S Γ e a) _ _ (λ p. walk_exprs es ms p.1 (p.0 ∷ os) Γ u ∙ sym (bind_assoc (check_exprs S Γ es p.1) _ _))

  -- ===== names =====
  kept_top : {A : Type 0} (own : Truth) (Γ : Levels) (τ : Table Ty) (x : ℕ) (t : Ty) (f : Levels → A) → f (keep own (τ ∷ Γ) x t) ≡ f (cond own τ ((x, t) ∷ τ) ∷ Γ)
  kept_top true Γ τ x t f = refl
  kept_top false Γ τ x t f = refl

  walk_names : (xs : List ℕ) (ms : List Token) (a : List ℕ) (Γ : Levels) (τ : Table Ty) (t : Ty) (earlier : List ℕ) (u : List Unfinished)
      → walk S r (write_names xs ms) (await a [] (τ ∷ Γ) u t (length xs) earlier)
      ≡ (check_names (alone u) Γ τ t earlier xs a >>= λ c. walk S r ms (state c [] (cond (alone u) τ (declare_all t xs τ) ∷ Γ) (finish u) idle))
  walk_names [] ms a Γ τ t earlier u = ap (λ (σ : Table Ty). walk S r ms (state a [] (σ ∷ Γ) (finish u) idle)) (sym (kept_none (alone u) τ))
  walk_names (x ∷ xs) ms a Γ τ t earlier u =
      placed_moved (length a) (τ ∷ Γ) (judge_name (τ ∷ Γ) earlier x) _ _
      ∙ bind_on (placed (length a) (τ ∷ Γ) (judge_name (τ ∷ Γ) earlier x)) _ _ (λ _.
      kept_top (alone u) Γ τ x t (λ Δ. walk S r (write_names xs ms) (await (0 ∷ a) [] Δ u t (length xs) (cond (alone u) (x ∷ earlier) earlier)))
      ∙ walk_names xs ms (0 ∷ a) Γ (cond (alone u) τ ((x, t) ∷ τ)) t (cond (alone u) (x ∷ earlier) earlier) u
      ∙ bind_cong (check_names (alone u) Γ (cond (alone u) τ ((x, t) ∷ τ)) t (cond (alone u) (x ∷ earlier) earlier) xs (0 ∷ a)) (λ c.
      ap (λ (σ : Table Ty). walk S r ms (state c [] (σ ∷ Γ) (finish u) idle)) (kept_rest (alone u) t x xs τ)))

  -- ===== statements =====
  top_alone : (s : Stmt) (τ : Table Ty) → top_after true s τ ≡ τ
  top_alone (perform e) τ = refl
  top_alone (declare t xs) τ = refl
  top_alone (init t x e) τ = refl
  top_alone return_nothing τ = refl
  top_alone (return_value e) τ = refl
  top_alone (block ss) τ = refl
  top_alone (while e s) τ = refl
  top_alone (choose e s₁ s₂) τ = refl

  -- the walk goes on with the column c and the top τ
  abbrev onward : List Token → Levels → List Unfinished → Table Ty → List ℕ → Result State Fault
  onward ms Γ u τ c = walk S r ms (state c [] (τ ∷ Γ) u idle)

  -- a frame that is judged and ends a statement, or begins what it governs
  closes : (m : Result (Unit {0}) Violation) (ms : List Token) (a : List ℕ) (Γ : Levels) (τ : Table Ty) (u : List Unfinished)
      → (placed (length a) (τ ∷ Γ) (m >>= λ _. Ok (state (0 ∷ a) [] (τ ∷ Γ) u idle)) >>= λ s. walk S r ms s) ≡ (closing S r a (τ ∷ Γ) m >>= λ c. onward ms Γ u τ c)
  closes (Ok x) ms a Γ τ u = refl
  closes (Err v) ms a Γ τ u = refl

  -- a statement directly under WHILE or IF leaves the top as it was
  under : (s : Stmt) (ms : List Token) (a : List ℕ) (Γ : Levels) (τ : Table Ty) (u : List Unfinished)
      → (check_stmt S r true Γ τ s a >>= λ c. onward ms Γ u (top_after true s τ) c) ≡ (check_stmt S r true Γ τ s a >>= λ c. onward ms Γ u τ c)
  under s ms a Γ τ u = bind_cong (check_stmt S r true Γ τ s a) (λ c. ap (λ σ. onward ms Γ u σ c) (top_alone s τ))

  -- the top level after a sequence
  abbrev pub tops_after : Stmts → Table Ty → Table Ty
  tops_after empty τ = τ
  tops_after (then s ss) τ = tops_after ss (top_after false s τ)

  mutual
    walk_stmt : (s : Stmt) (ms : List Token) (a : List ℕ) (Γ : Levels) (τ : Table Ty) (u : List Unfinished)
        → walk S r (write_stmt s ms) (state a [] (τ ∷ Γ) u idle) ≡ (check_stmt S r (alone u) Γ τ s a >>= λ c. onward ms Γ (finish u) (top_after (alone u) s τ) c)
    walk_stmt (perform e) ms a Γ τ u = walk_expr e (DO ∷ ms) a [] (τ ∷ Γ) u ∙ sym (bind_assoc (check_expr S (τ ∷ Γ) e a) _ _)
    walk_stmt (declare t xs) ms a Γ τ u = walk_names xs ms (0 ∷ a) Γ τ t [] u
    walk_stmt (init t x e) ms a Γ τ u =
        walk_expr e (INIT t x ∷ ms) a [] (τ ∷ Γ) u
        ∙ bind_on (check_expr S (τ ∷ Γ) e a) _ _ (λ p.
        placed_moved (length p.1) (τ ∷ Γ) (judge_init (τ ∷ Γ) t x p.0) _ _
        ∙ bind_on (placed (length p.1) (τ ∷ Γ) (judge_init (τ ∷ Γ) t x p.0)) _ _ (λ _.
        kept_top (alone u) Γ τ x t (λ Δ. walk S r ms (state (0 ∷ p.1) [] Δ (finish u) idle))))
    walk_stmt return_nothing ms a Γ τ u = closes (judge_return r Void) ms a Γ τ (finish u)
    walk_stmt (return_value e) ms a Γ τ u =
        walk_expr e (RET ∷ ms) a [] (τ ∷ Γ) u ∙ bind_on (check_expr S (τ ∷ Γ) e a) _ _ (λ p. closes (judge_return r p.0) ms p.1 Γ τ (finish u))
    walk_stmt (block ss) ms a Γ τ u =
        walk_stmts ss (CLOSE ∷ ms) (0 ∷ a) (τ ∷ Γ) [] (Block ∷ u) refl refl
        ∙ sym (bind_assoc (check_stmts S r (τ ∷ Γ) [] ss (0 ∷ a)) _ _)
    walk_stmt (while e s) ms a Γ τ u =
        walk_expr e (WHILE ∷ write_stmt s ms) a [] (τ ∷ Γ) u
        ∙ bind_on (check_expr S (τ ∷ Γ) e a) _ _ (λ p.
        closes (judge_condition p.0) (write_stmt s ms) p.1 Γ τ (Loop ∷ u)
        ∙ bind_on (closing S r p.1 (τ ∷ Γ) (judge_condition p.0)) _ _ (λ b. walk_stmt s ms b Γ τ (Loop ∷ u) ∙ under s ms b Γ τ (finish u)))
    walk_stmt (choose e s₁ s₂) ms a Γ τ u =
        walk_expr e (IF ∷ write_stmt s₁ (write_stmt s₂ ms)) a [] (τ ∷ Γ) u
        ∙ bind_on (check_expr S (τ ∷ Γ) e a) _ _ (λ p.
        closes (judge_condition p.0) (write_stmt s₁ (write_stmt s₂ ms)) p.1 Γ τ (Choice 2 ∷ u)
        ∙ bind_on (closing S r p.1 (τ ∷ Γ) (judge_condition p.0)) _ _ (λ b.
        walk_stmt s₁ (write_stmt s₂ ms) b Γ τ (Choice 2 ∷ u)
        ∙ under s₁ (write_stmt s₂ ms) b Γ τ (Choice 1 ∷ u)
        ∙ bind_on (check_stmt S r true Γ τ s₁ b) _ _ (λ c. walk_stmt s₂ ms c Γ τ (Choice 1 ∷ u) ∙ under s₂ ms c Γ τ (finish u))))

    pub walk_stmts : (ss : Stmts) (ms : List Token) (a : List ℕ) (Γ : Levels) (τ : Table Ty) (u : List Unfinished) → alone u ≡ false → finish u ≡ u
        → walk S r (write_stmts ss ms) (state a [] (τ ∷ Γ) u idle) ≡ (check_stmts S r Γ τ ss a >>= λ c. onward ms Γ u (tops_after ss τ) c)
    walk_stmts empty ms a Γ τ u h k = refl
    walk_stmts (then s ss) ms a Γ τ u h k =
        (rw (h, k) at (walk_stmt s (write_stmts ss ms) a Γ τ u))
        ∙ bind_on (check_stmt S r false Γ τ s a) _ _ (λ c. walk_stmts ss ms c Γ (top_after false s τ) u h k)

  -- ===== parameters =====
  pub walk_params : (ps : List Parameter) (ms : List Token) (a : List ℕ) (τ : Table Ty)
      → walk S r (write_params ps ms) (state a [] (τ ∷ []) [] idle) ≡ walk S r ms (state (blanks_stacked ps a) [] (declare_params ps τ ∷ []) [] idle)
  walk_params [] ms a τ = refl
  walk_params (p ∷ ps) ms a τ = walk_params ps ms (0 ∷ a) ((p.name, p.t) ∷ τ)
