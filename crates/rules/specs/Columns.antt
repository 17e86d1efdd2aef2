-- The column of a derivation: for each frame of what is derived, in the order of the frames, the number of the type of the expression
-- that ends there, and 0 where none ends. As with the writing of trees, each column is followed by a rest r.
use Rattle.std.specs.Prelude.{ℕ, List, [], ◌∷◌}
use Rattle.syntax.specs.declared.frame.«Type».{«Type» as Ty}
use Rattle.syntax.specs.Trees.{Expr, Exprs, Stmts, Definition}
use Rattle.syntax.specs.Writing.{type_code}
use Rattle.rules.specs.Heads.{Signature, Levels}
use Rattle.rules.specs.Rules.{WellTyped, true_typed, false_typed, int_typed, double_typed, string_typed, variable_typed, call_typed, update_typed, binary_typed, assign_typed, ArgumentsTyped, no_argument, one_argument}
use Rattle.rules.specs.Sequences.{ValidSequence, empty_valid, perform_valid, declare_valid, init_valid, return_nothing_valid, return_value_valid, block_valid, while_valid, choose_valid, ValidDefinition}

-- an expression: its parts' columns, then the number of its own type
abbrev mutual
  pub expr_column : {S : Signature} {Γ : Levels} {e : Expr} {t : Ty} → WellTyped S Γ e t → List ℕ → List ℕ
  expr_column true_typed r = 1 ∷ r
  expr_column false_typed r = 1 ∷ r
  expr_column int_typed r = 2 ∷ r
  expr_column double_typed r = 3 ∷ r
  expr_column string_typed r = 4 ∷ r
  expr_column (variable_typed {t = t} h) r = type_code t ∷ r
  expr_column (call_typed {r = t} h ds) r = arguments_column ds (type_code t ∷ r)
  expr_column (update_typed {t = t} h k) r = type_code t ∷ r
  expr_column (binary_typed {r = t} d₁ d₂ k) r = expr_column d₁ (expr_column d₂ (type_code t ∷ r))
  expr_column (assign_typed {t = t} d h) r = expr_column d (type_code t ∷ r)

  pub arguments_column : {S : Signature} {Γ : Levels} {es : Exprs} {ts : List Ty} → ArgumentsTyped S Γ es ts → List ℕ → List ℕ
  arguments_column no_argument r = r
  arguments_column (one_argument d ds) r = expr_column d (arguments_column ds r)

-- a 0 for each of some names or parameters
abbrev pub blanks : {A : Type 0} → List A → List ℕ → List ℕ
blanks [] r = r
blanks (x ∷ xs) r = 0 ∷ blanks xs r

-- a sequence: the columns of its expressions, and a 0 for each frame that is none
abbrev pub sequence_column : {S : Signature} {t : Ty} {Γ : Levels} {ss : Stmts} → ValidSequence S t Γ ss → List ℕ → List ℕ
sequence_column empty_valid r = r
sequence_column (perform_valid d ds) r = expr_column d (0 ∷ sequence_column ds r)
sequence_column (declare_valid {xs = xs} h k ds) r = 0 ∷ blanks xs (sequence_column ds r)
sequence_column (init_valid d h ds) r = expr_column d (0 ∷ sequence_column ds r)
sequence_column (return_nothing_valid h ds) r = 0 ∷ sequence_column ds r
sequence_column (return_value_valid d ds) r = expr_column d (0 ∷ sequence_column ds r)
sequence_column (block_valid rs ds) r = 0 ∷ sequence_column rs (0 ∷ sequence_column ds r)
sequence_column (while_valid d d₁ ds) r = expr_column d (0 ∷ sequence_column d₁ (sequence_column ds r))
sequence_column (choose_valid d d₁ d₂ ds) r = expr_column d (0 ∷ sequence_column d₁ (sequence_column d₂ (sequence_column ds r)))

-- a definition: a 0 for its head and for each parameter, its body, a 0 for its end
abbrev pub column : (S : Signature) (d : Definition) → ValidDefinition S d → List ℕ
column S d D = 0 ∷ blanks d.params (sequence_column D (0 ∷ []))
