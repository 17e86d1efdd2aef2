-- A checker that follows the tree: the bridge between the rules and the walk. Its columns have the last frame first.
use Rattle.std.proofs.Common.{ℕ, Bool as Truth, true, false, cond, List, [], ◌∷◌, length, Ok, Result}
use Rattle.syntax.specs.declared.frame.«Type».{«Type» as Ty}
use Rattle.syntax.specs.declared.frame.«Type».TheVariants.{Void}
use Rattle.syntax.specs.Trees.{Expr, literal, variable, update, call, binary, assign, Exprs, none, more, Stmt, perform, declare, init, return_nothing, return_value, block, while, choose, Stmts, empty, then}
use Rattle.syntax.specs.Writing.{type_code}
use Rattle.rules.specs.declared.violation.Violation.{Violation}
use Rattle.rules.specs.Heads.{Signature, Table, Levels}
use Rattle.rules.specs.Sequences.{declare_all}
use Rattle.rules.specs.Faults.{Fault, ◌>>=◌, placed}
use Rattle.rules.specs.Judge.{literal_type, judge_variable, judge_update, judge_call, judge_binary, judge_assign, judge_init, judge_name, judge_return, judge_condition}

-- a type with the column so far
abbrev pub Typed : Type 0
Typed = Ty × List ℕ

-- the judgement of the frame that ends an expression
abbrev pub ended : List ℕ → Levels → Result Ty Violation → Result Typed Fault
ended a Γ m = placed (length a) Γ m >>= λ t. Ok (t, type_code t ∷ a)

module _ (S : Signature) where
  abbrev mutual
    pub check_expr : Levels → Expr → List ℕ → Result Typed Fault
    check_expr Γ (literal l) a = Ok (literal_type l, type_code (literal_type l) ∷ a)
    check_expr Γ (variable x) a = ended a Γ (judge_variable Γ x)
    check_expr Γ (update c x) a = ended a Γ (judge_update Γ x)
    check_expr Γ (call f es) a = check_exprs Γ es a >>= λ p. ended p.1 Γ (judge_call S f p.0)
    check_expr Γ (binary o e₁ e₂) a = check_expr Γ e₁ a >>= λ p. check_expr Γ e₂ p.1 >>= λ q. ended q.1 Γ (judge_binary o p.0 q.0)
    check_expr Γ (assign x e) a = check_expr Γ e a >>= λ p. ended p.1 Γ (judge_assign Γ x p.0)

    pub check_exprs : Levels → Exprs → List ℕ → Result (List Ty × List ℕ) Fault
    check_exprs Γ none a = Ok ([], a)
    check_exprs Γ (more e es) a = check_expr Γ e a >>= λ p. check_exprs Γ es p.1 >>= λ q. Ok (p.0 ∷ q.0, q.1)

-- the names of a declaration; own says that it stands directly under WHILE or IF
abbrev pub check_names : Truth → Levels → Table Ty → Ty → List ℕ → List ℕ → List ℕ → Result (List ℕ) Fault
check_names own Γ τ t earlier [] a = Ok a
check_names own Γ τ t earlier (x ∷ xs) a =
    placed (length a) (τ ∷ Γ) (judge_name (τ ∷ Γ) earlier x) >>= λ _. check_names own Γ (cond own τ ((x, t) ∷ τ)) t (cond own (x ∷ earlier) earlier) xs (0 ∷ a)

-- the top level after a statement, and after a sequence
abbrev pub top_after : Truth → Stmt → Table Ty → Table Ty
top_after own (perform e) τ = τ
top_after own (declare t xs) τ = cond own τ (declare_all t xs τ)
top_after own (init t x e) τ = cond own τ ((x, t) ∷ τ)
top_after own return_nothing τ = τ
top_after own (return_value e) τ = τ
top_after own (block ss) τ = τ
top_after own (while e s) τ = τ
top_after own (choose e s₁ s₂) τ = τ

module _ (S : Signature) (r : Ty) where
  -- the last frame of a statement, once its expression is checked
  abbrev pub closing : List ℕ → Levels → Result (Unit {0}) Violation → Result (List ℕ) Fault
  closing a Γ m = placed (length a) Γ m >>= λ _. Ok (0 ∷ a)

  abbrev mutual
    pub check_stmt : Truth → Levels → Table Ty → Stmt → List ℕ → Result (List ℕ) Fault
    check_stmt own Γ τ (perform e) a = check_expr S (τ ∷ Γ) e a >>= λ p. Ok (0 ∷ p.1)
    check_stmt own Γ τ (declare t xs) a = check_names own Γ τ t [] xs (0 ∷ a)
    check_stmt own Γ τ (init t x e) a = check_expr S (τ ∷ Γ) e a >>= λ p. closing p.1 (τ ∷ Γ) (judge_init (τ ∷ Γ) t x p.0)
    check_stmt own Γ τ return_nothing a = closing a (τ ∷ Γ) (judge_return r Void)
    check_stmt own Γ τ (return_value e) a = check_expr S (τ ∷ Γ) e a >>= λ p. closing p.1 (τ ∷ Γ) (judge_return r p.0)
    check_stmt own Γ τ (block ss) a = check_stmts (τ ∷ Γ) [] ss (0 ∷ a) >>= λ c. Ok (0 ∷ c)
    check_stmt own Γ τ (while e s) a =
        check_expr S (τ ∷ Γ) e a >>= λ p. closing p.1 (τ ∷ Γ) (judge_condition p.0) >>= λ b. check_stmt true Γ τ s b
    check_stmt own Γ τ (choose e s₁ s₂) a =
        check_expr S (τ ∷ Γ) e a >>= λ p. closing p.1 (τ ∷ Γ) (judge_condition p.0) >>= λ b. check_stmt true Γ τ s₁ b >>= λ c. check_stmt true Γ τ s₂ c

    pub check_stmts : Levels → Table Ty → Stmts → List ℕ → Result (List ℕ) Fault
    check_stmts Γ τ empty a = Ok a
    check_stmts Γ τ (then s ss) a = check_stmt false Γ τ s a >>= λ c. check_stmts Γ (top_after false s τ) ss c
