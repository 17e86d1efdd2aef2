-- Where a definition first breaks a rule, in the rules' own words: every part written before the frame has a derivation, and at the frame the rule cannot be applied.
use Rattle.std.specs.Prelude.{◌≡◌, ℕ, suc, Bool as Truth, true, false, cond, ◌⊎◌, ◌↔◌, List, [], ◌∷◌, ◌++◌, length, Some, None, Err, ◌≢◌}
use Rattle.syntax.specs.declared.frame.«Type».{«Type» as Ty}
use Rattle.syntax.specs.declared.frame.«Type».TheVariants.{Bool, Void}
use Rattle.syntax.specs.Trees.{Operator, Update, Expr, literal, variable, update, call, binary, assign, Exprs, none, more, Stmt, perform, declare, init, return_nothing, return_value, block, while, choose, Stmts, empty, then, Definition}
use Rattle.syntax.specs.Writing.{written}
use Rattle.levels.specs.Store.{looked}
use Rattle.rules.specs.declared.violation.Violation.{Violation}
use Rattle.rules.specs.declared.violation.Violation.TheVariants.{Undeclared, NoFunction, OtherCount, OtherArgument, OtherOperands, OtherAssigned, OtherInitial, Repeated, OtherReturn, NoCondition}
use Rattle.rules.specs.Heads.{head, Signature, Table, Levels}
use Rattle.rules.specs.Rows.{OperatorRule, UpdateRule}
use Rattle.rules.specs.Rules.{WellTyped, ArgumentsTyped}
use Rattle.rules.specs.Sequences.{Distinct, Lacks, LacksAll, declare_all, declare_params, ValidSequence}
use Rattle.rules.specs.Places.{after_expr, after_exprs, after_each, after_stmt}
use Rattle.rules.specs.Faults.{fault}
use Rattle.rules.specs.Walk.{walk_sheet}
use Rattle.rules.specs.Decided.{stmt_level}

-- ===== why a frame breaks its rule, with the types of its parts given =====
pub data VariableBroken (Γ : Levels) (x : ℕ) : Violation → Type 0 where
  undeclared : looked Γ x ≡ None → VariableBroken Γ x Undeclared

pub data UpdateBroken (Γ : Levels) (c : Update) (x : ℕ) : Violation → Type 0 where
  update_undeclared : looked Γ x ≡ None → UpdateBroken Γ c x Undeclared
  update_outside_row : {t : Ty} → looked Γ x ≡ Some t → (UpdateRule c t → ⊥) → UpdateBroken Γ c x OtherOperands

pub data CallBroken (S : Signature) (f : ℕ) (ts : List Ty) : Violation → Type 0 where
  no_function : S f ≡ None → CallBroken S f ts NoFunction
  other_count : {us : List Ty} {r : Ty} → S f ≡ Some (head us r) → (length ts ≢ length us) → CallBroken S f ts OtherCount
  other_argument : {us : List Ty} {r : Ty} → S f ≡ Some (head us r) → length ts ≡ length us → (ts ≢ us) → CallBroken S f ts OtherArgument

pub data BinaryBroken (o : Operator) (t u : Ty) : Violation → Type 0 where
  operands_differ : (t ≢ u) → BinaryBroken o t u OtherOperands
  operands_outside_row : t ≡ u → ((r : Ty) → OperatorRule o t r → ⊥) → BinaryBroken o t u OtherOperands

pub data AssignBroken (Γ : Levels) (x : ℕ) (t : Ty) : Violation → Type 0 where
  assign_undeclared : looked Γ x ≡ None → AssignBroken Γ x t Undeclared
  other_assigned : {u : Ty} → looked Γ x ≡ Some u → (u ≢ t) → AssignBroken Γ x t OtherAssigned

pub data InitBroken (τ : Table Ty) (t : Ty) (x : ℕ) (u : Ty) : Violation → Type 0 where
  other_initial : (t ≢ u) → InitBroken τ t x u OtherInitial
  initial_repeated : t ≡ u → (Lacks τ x → ⊥) → InitBroken τ t x u Repeated

pub data ReturnBroken (r u : Ty) : Violation → Type 0 where
  other_return : (r ≢ u) → ReturnBroken r u OtherReturn

pub data ConditionBroken (u : Ty) : Violation → Type 0 where
  no_condition : (Bool ≢ u) → ConditionBroken u NoCondition

-- the first name of a declaration that is on the top τ already, or is one of the names before it
pub record NamesBroken (own : Truth) (Γ : Levels) (τ : Table Ty) (t : Ty) (xs : List ℕ) (n : ℕ) (v : Violation) (p : ℕ) (Δ : Levels) : Type 0 where
  pub before : List ℕ
  pub name : ℕ
  pub rest : List ℕ
  pub names : xs ≡ before ++ name ∷ rest
  pub distinct : Distinct before
  pub lacking : LacksAll τ before
  pub breaks : Distinct (before ++ name ∷ []) → LacksAll τ (before ++ name ∷ []) → ⊥
  pub violation : Repeated ≡ v
  pub place : p ≡ after_each before n
  -- the names before it stay on the top, unless the declaration stands directly under WHILE or IF
  pub left : cond own τ (declare_all t before τ) ∷ Γ ≡ Δ

-- ===== where: the frame at the place p, of what is written from n on =====
module _ (S : Signature) where
  abbrev mutual
    pub ExprBroken : Levels → Expr → ℕ → Violation → ℕ → Type 0
    ExprBroken Γ (literal l) n v p = ⊥
    ExprBroken Γ (variable x) n v p = (p ≡ n) × VariableBroken Γ x v
    ExprBroken Γ (update c x) n v p = (p ≡ n) × UpdateBroken Γ c x v
    ExprBroken Γ (call f es) n v p = ExprsBroken Γ es n v p ⊎ ((ts : List Ty) × ArgumentsTyped S Γ es ts × (p ≡ after_exprs es n) × CallBroken S f ts v)
    ExprBroken Γ (binary o a b) n v p =
        ExprBroken Γ a n v p
        ⊎ ((t : Ty) × WellTyped S Γ a t × (ExprBroken Γ b (after_expr a n) v p ⊎ ((u : Ty) × WellTyped S Γ b u × (p ≡ after_expr b (after_expr a n)) × BinaryBroken o t u v)))
    ExprBroken Γ (assign x e) n v p = ExprBroken Γ e n v p ⊎ ((t : Ty) × WellTyped S Γ e t × (p ≡ after_expr e n) × AssignBroken Γ x t v)

    pub ExprsBroken : Levels → Exprs → ℕ → Violation → ℕ → Type 0
    ExprsBroken Γ none n v p = ⊥
    ExprsBroken Γ (more e es) n v p = ExprBroken Γ e n v p ⊎ ((t : Ty) × WellTyped S Γ e t × ExprsBroken Γ es (after_expr e n) v p)

  -- in an expression, or at the frame after it, which the type u of the expression breaks; the levels stay
  abbrev pub ThenBroken : Levels → Expr → ℕ → (Ty → Violation → Type 0) → Violation → ℕ → Levels → Type 0
  ThenBroken Γ e n B v p Δ = (ExprBroken Γ e n v p ⊎ ((u : Ty) × WellTyped S Γ e u × (p ≡ after_expr e n) × B u v)) × (Γ ≡ Δ)

  module _ (r : Ty) where
    -- a statement over the top τ, directly under WHILE or IF if own; Δ are the levels left
    abbrev mutual
      pub StmtBroken : Truth → Levels → Table Ty → Stmt → ℕ → Violation → ℕ → Levels → Type 0
      StmtBroken own Γ τ (perform e) n v p Δ = ExprBroken (τ ∷ Γ) e n v p × (τ ∷ Γ ≡ Δ)
      StmtBroken own Γ τ (declare t xs) n v p Δ = NamesBroken own Γ τ t xs (suc n) v p Δ
      StmtBroken own Γ τ (init t x e) n v p Δ = ThenBroken (τ ∷ Γ) e n (InitBroken τ t x) v p Δ
      StmtBroken own Γ τ return_nothing n v p Δ = (p ≡ n) × ReturnBroken r Void v × (τ ∷ Γ ≡ Δ)
      StmtBroken own Γ τ (return_value e) n v p Δ = ThenBroken (τ ∷ Γ) e n (ReturnBroken r) v p Δ
      StmtBroken own Γ τ (block ss) n v p Δ = StmtsBroken (τ ∷ Γ) [] ss (suc n) v p Δ
      StmtBroken own Γ τ (while e s) n v p Δ =
          ThenBroken (τ ∷ Γ) e n ConditionBroken v p Δ ⊎ (WellTyped S (τ ∷ Γ) e Bool × StmtBroken true Γ τ s (suc (after_expr e n)) v p Δ)
      StmtBroken own Γ τ (choose e s₁ s₂) n v p Δ =
          ThenBroken (τ ∷ Γ) e n ConditionBroken v p Δ
          ⊎ (WellTyped S (τ ∷ Γ) e Bool
          × (StmtBroken true Γ τ s₁ (suc (after_expr e n)) v p Δ
          ⊎ (ValidSequence S r (τ ∷ Γ) (then s₁ empty) × StmtBroken true Γ τ s₂ (after_stmt s₁ (suc (after_expr e n))) v p Δ)))

      pub StmtsBroken : Levels → Table Ty → Stmts → ℕ → Violation → ℕ → Levels → Type 0
      StmtsBroken Γ τ empty n v p Δ = ⊥
      StmtsBroken Γ τ (then s ss) n v p Δ =
          StmtBroken false Γ τ s n v p Δ ⊎ (ValidSequence S r (τ ∷ Γ) (then s empty) × StmtsBroken Γ (stmt_level s τ) ss (after_stmt s n) v p Δ)

-- a definition breaks a rule first at the place p, with the levels Δ standing
abbrev pub Broken : Signature → Definition → Violation → ℕ → Levels → Type 0
Broken S d v p Δ = StmtsBroken S d.returns [] (declare_params d.params []) d.body (after_each d.params 1) v p Δ

-- the walk has a fault exactly where the definition first breaks a rule
abbrev pub BrokenRule : Type 0
BrokenRule = (S : Signature) (d : Definition) (v : Violation) (p : ℕ) (Δ : Levels) → (walk_sheet S (written d) ≡ Err (fault v p Δ)) ↔ Broken S d v p Δ
