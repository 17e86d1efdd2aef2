-- Places: the expressions that end at a frame, and the type that a derivation gives there. Frames are counted from 0; an expression's place is its last frame.
use Rattle.std.specs.Prelude.{◌≡◌, ℕ, suc, ◌⊎◌, List, [], ◌∷◌}
use Rattle.syntax.specs.declared.frame.«Type».{«Type» as Ty}
use Rattle.syntax.specs.declared.frame.«Type».TheVariants.{Bool, Int, Double, String}
use Rattle.syntax.specs.Trees.{Expr, literal, variable, update, call, binary, assign, Exprs, none, more, Stmt, perform, declare, init, return_nothing, return_value, block, while, choose, Stmts, empty, then, Definition}
use Rattle.rules.specs.Heads.{Signature, Levels}
use Rattle.rules.specs.Rules.{WellTyped, true_typed, false_typed, int_typed, double_typed, string_typed, variable_typed, call_typed, update_typed, binary_typed, assign_typed, ArgumentsTyped, no_argument, one_argument}
use Rattle.rules.specs.Sequences.{ValidSequence, empty_valid, perform_valid, declare_valid, init_valid, return_nothing_valid, return_value_valid, block_valid, while_valid, choose_valid, ValidDefinition}

-- the place after a tree whose first frame stands at n
abbrev mutual
  pub after_expr : Expr → ℕ → ℕ
  after_expr (literal l) n = suc n
  after_expr (variable x) n = suc n
  after_expr (update c x) n = suc n
  after_expr (call f es) n = suc (after_exprs es n)
  after_expr (binary o a b) n = suc (after_expr b (after_expr a n))
  after_expr (assign x e) n = suc (after_expr e n)

  pub after_exprs : Exprs → ℕ → ℕ
  after_exprs none n = n
  after_exprs (more e es) n = after_exprs es (after_expr e n)

abbrev pub after_each : {A : Type 0} → List A → ℕ → ℕ
after_each [] n = n
after_each (x ∷ xs) n = after_each xs (suc n)

abbrev mutual
  pub after_stmt : Stmt → ℕ → ℕ
  after_stmt (perform e) n = suc (after_expr e n)
  after_stmt (declare t xs) n = after_each xs (suc n)
  after_stmt (init t x e) n = suc (after_expr e n)
  after_stmt return_nothing n = suc n
  after_stmt (return_value e) n = suc (after_expr e n)
  after_stmt (block ss) n = suc (after_stmts ss (suc n))
  after_stmt (while e s) n = after_stmt s (suc (after_expr e n))
  after_stmt (choose e s₁ s₂) n = after_stmt s₂ (after_stmt s₁ (suc (after_expr e n)))

  pub after_stmts : Stmts → ℕ → ℕ
  after_stmts empty n = n
  after_stmts (then s ss) n = after_stmts ss (after_stmt s n)

-- an expression, written from n on, ends at p or a part of it does: the expression x
abbrev mutual
  pub ExprEnds : Expr → ℕ → ℕ → Expr → Type 0
  ExprEnds (literal l) n p x = (p ≡ n) × (literal l ≡ x)
  ExprEnds (variable y) n p x = (p ≡ n) × (variable y ≡ x)
  ExprEnds (update c y) n p x = (p ≡ n) × (update c y ≡ x)
  ExprEnds (call f es) n p x = ExprsEnd es n p x ⊎ ((p ≡ after_exprs es n) × (call f es ≡ x))
  ExprEnds (binary o a b) n p x = ExprEnds a n p x ⊎ (ExprEnds b (after_expr a n) p x ⊎ ((p ≡ after_expr b (after_expr a n)) × (binary o a b ≡ x)))
  ExprEnds (assign y e) n p x = ExprEnds e n p x ⊎ ((p ≡ after_expr e n) × (assign y e ≡ x))

  pub ExprsEnd : Exprs → ℕ → ℕ → Expr → Type 0
  ExprsEnd none n p x = ⊥
  ExprsEnd (more e es) n p x = ExprEnds e n p x ⊎ ExprsEnd es (after_expr e n) p x

abbrev mutual
  pub StmtEnds : Stmt → ℕ → ℕ → Expr → Type 0
  StmtEnds (perform e) n p x = ExprEnds e n p x
  StmtEnds (declare t xs) n p x = ⊥
  StmtEnds (init t y e) n p x = ExprEnds e n p x
  StmtEnds return_nothing n p x = ⊥
  StmtEnds (return_value e) n p x = ExprEnds e n p x
  StmtEnds (block ss) n p x = StmtsEnd ss (suc n) p x
  StmtEnds (while e s) n p x = ExprEnds e n p x ⊎ StmtEnds s (suc (after_expr e n)) p x
  StmtEnds (choose e s₁ s₂) n p x = ExprEnds e n p x ⊎ (StmtEnds s₁ (suc (after_expr e n)) p x ⊎ StmtEnds s₂ (after_stmt s₁ (suc (after_expr e n))) p x)

  pub StmtsEnd : Stmts → ℕ → ℕ → Expr → Type 0
  StmtsEnd empty n p x = ⊥
  StmtsEnd (then s ss) n p x = StmtEnds s n p x ⊎ StmtsEnd ss (after_stmt s n) p x

-- the expression x of a definition ends at the place p
abbrev pub Ends : Definition → ℕ → Expr → Type 0
Ends d p x = StmtsEnd d.body (after_each d.params 1) p x

-- a derivation, of what is written from n on, gives the type u to an expression that ends at p
abbrev mutual
  pub ExprGives : {S : Signature} {Γ : Levels} {e : Expr} {t : Ty} → WellTyped S Γ e t → ℕ → ℕ → Ty → Type 0
  ExprGives true_typed n p u = (p ≡ n) × (Bool ≡ u)
  ExprGives false_typed n p u = (p ≡ n) × (Bool ≡ u)
  ExprGives int_typed n p u = (p ≡ n) × (Int ≡ u)
  ExprGives double_typed n p u = (p ≡ n) × (Double ≡ u)
  ExprGives string_typed n p u = (p ≡ n) × (String ≡ u)
  ExprGives (variable_typed {t = t} h) n p u = (p ≡ n) × (t ≡ u)
  ExprGives (call_typed {es = es} {r = t} h ds) n p u = ArgumentsGive ds n p u ⊎ ((p ≡ after_exprs es n) × (t ≡ u))
  ExprGives (update_typed {t = t} h k) n p u = (p ≡ n) × (t ≡ u)
  ExprGives (binary_typed {a = a} {b = b} {r = t} d₁ d₂ k) n p u = ExprGives d₁ n p u ⊎ (ExprGives d₂ (after_expr a n) p u ⊎ ((p ≡ after_expr b (after_expr a n)) × (t ≡ u)))
  ExprGives (assign_typed {e = e} {t = t} d h) n p u = ExprGives d n p u ⊎ ((p ≡ after_expr e n) × (t ≡ u))

  pub ArgumentsGive : {S : Signature} {Γ : Levels} {es : Exprs} {ts : List Ty} → ArgumentsTyped S Γ es ts → ℕ → ℕ → Ty → Type 0
  ArgumentsGive no_argument n p u = ⊥
  ArgumentsGive (one_argument {e = e} d ds) n p u = ExprGives d n p u ⊎ ArgumentsGive ds (after_expr e n) p u

abbrev pub SequenceGives : {S : Signature} {t : Ty} {Γ : Levels} {ss : Stmts} → ValidSequence S t Γ ss → ℕ → ℕ → Ty → Type 0
SequenceGives empty_valid n p u = ⊥
SequenceGives (perform_valid {e = e} d ds) n p u = ExprGives d n p u ⊎ SequenceGives ds (suc (after_expr e n)) p u
SequenceGives (declare_valid {xs = xs} h k ds) n p u = SequenceGives ds (after_each xs (suc n)) p u
SequenceGives (init_valid {e = e} d h ds) n p u = ExprGives d n p u ⊎ SequenceGives ds (suc (after_expr e n)) p u
SequenceGives (return_nothing_valid h ds) n p u = SequenceGives ds (suc n) p u
SequenceGives (return_value_valid {e = e} d ds) n p u = ExprGives d n p u ⊎ SequenceGives ds (suc (after_expr e n)) p u
SequenceGives (block_valid {rs = rs} d ds) n p u = SequenceGives d (suc n) p u ⊎ SequenceGives ds (suc (after_stmts rs (suc n))) p u
SequenceGives (while_valid {e = e} {s = s} d d₁ ds) n p u =
    (ExprGives d n p u ⊎ SequenceGives d₁ (suc (after_expr e n)) p u) ⊎ SequenceGives ds (after_stmt s (suc (after_expr e n))) p u
SequenceGives (choose_valid {e = e} {s₁ = s₁} {s₂ = s₂} d d₁ d₂ ds) n p u =
    (ExprGives d n p u ⊎ (SequenceGives d₁ (suc (after_expr e n)) p u ⊎ SequenceGives d₂ (after_stmt s₁ (suc (after_expr e n))) p u))
    ⊎ SequenceGives ds (after_stmt s₂ (after_stmt s₁ (suc (after_expr e n)))) p u

-- the derivation D of a definition gives the type u to an expression that ends at the place p
abbrev pub Gives : (S : Signature) (d : Definition) → ValidDefinition S d → ℕ → Ty → Type 0
Gives S d D p u = SequenceGives D (after_each d.params 1) p u
