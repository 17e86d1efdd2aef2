-- A place that a derivation gives a type holds an expression.
use Rattle.std.proofs.Common.{◌≡◌, ℕ, zero, suc, true, ◌⊎◌, List, [], ◌∷◌, map, get_or, sym, refl, ◌∙◌, inl, inr}
use Rattle.syntax.specs.declared.frame.«Type».{«Type» as Ty}
use Rattle.syntax.specs.declared.frame.Parameter.{Parameter}
use Rattle.syntax.specs.Trees.{Expr, Exprs, Stmts, Definition, Operator, plus, minus, times, divide, less, less_equal, equal, not_equal, greater_equal, greater, logical_and, logical_or, Update, post_increment, post_decrement, pre_increment, pre_decrement}
use Rattle.syntax.specs.Writing.{Token, UPDATE, BINARY, END, frame_of, write_expr, write_exprs, write_names, write_params, write_stmts, write_definition, written, blank}
use Rattle.rules.specs.Heads.{Signature, Levels}
use Rattle.rules.specs.Rules.{WellTyped, true_typed, false_typed, int_typed, double_typed, string_typed, variable_typed, call_typed, update_typed, binary_typed, assign_typed, ArgumentsTyped, no_argument, one_argument}
use Rattle.rules.specs.Sequences.{ValidSequence, empty_valid, perform_valid, declare_valid, init_valid, return_nothing_valid, return_value_valid, block_valid, while_valid, choose_valid, ValidDefinition}
use Rattle.rules.specs.Columns.{expr_column, arguments_column, blanks, sequence_column, column}
use Rattle.rules.specs.Places.{Gives}
use Rattle.rules.proofs.Places.{code_not_zero}
use Rattle.rules.proofs.Typed.{column_types}
use Rattle.cpp.specs.Sheet.{expression}

-- each number of a column is 0, or the token there is written as an expression's last frame
abbrev Paired : List ℕ → List Token → Type 0
Paired [] ms = Unit {0}
Paired (n ∷ c) [] = ⊥
Paired (n ∷ c) (m ∷ ms) = ((n ≡ 0) ⊎ (expression (frame_of m) ≡ true)) × Paired c ms

-- an update is an expression
update_spoken : (c : Update) (x : ℕ) → expression (frame_of (UPDATE c x)) ≡ true
unfolding expression
update_spoken post_increment x = refl
update_spoken post_decrement x = refl
update_spoken pre_increment x = refl
update_spoken pre_decrement x = refl

-- and so is an operator
binary_spoken : (o : Operator) → expression (frame_of (BINARY o)) ≡ true
unfolding expression
binary_spoken plus = refl
binary_spoken minus = refl
binary_spoken times = refl
binary_spoken divide = refl
binary_spoken less = refl
binary_spoken less_equal = refl
binary_spoken equal = refl
binary_spoken not_equal = refl
binary_spoken greater_equal = refl
binary_spoken greater = refl
binary_spoken logical_and = refl
binary_spoken logical_or = refl

-- an expression's column stands beside its writing
mutual
  unfolding expression

  paired_expr : {S : Signature} {Γ : Levels} {e : Expr} {t : Ty} (d : WellTyped S Γ e t) (c : List ℕ) (ms : List Token) →
      Paired c ms → Paired (expr_column d c) (write_expr e ms)
  paired_expr true_typed c ms h = (inr refl, h)
  paired_expr false_typed c ms h = (inr refl, h)
  paired_expr int_typed c ms h = (inr refl, h)
  paired_expr double_typed c ms h = (inr refl, h)
  paired_expr string_typed c ms h = (inr refl, h)
  paired_expr (variable_typed k) c ms h = (inr refl, h)
  paired_expr (call_typed k ds) c ms h = paired_arguments ds _ _ (inr refl, h)
  paired_expr (update_typed {c = u} {x = x} k l) c ms h = (inr (update_spoken u x), h)
  paired_expr (binary_typed {o = o} d₁ d₂ k) c ms h = paired_expr d₁ _ _ (paired_expr d₂ _ _ (inr (binary_spoken o), h))
  paired_expr (assign_typed d k) c ms h = paired_expr d _ _ (inr refl, h)

  -- arguments
  paired_arguments : {S : Signature} {Γ : Levels} {es : Exprs} {ts : List Ty} (ds : ArgumentsTyped S Γ es ts) (c : List ℕ) (ms : List Token) →
      Paired c ms → Paired (arguments_column ds c) (write_exprs es ms)
  paired_arguments no_argument c ms h = h
  paired_arguments (one_argument d ds) c ms h = paired_expr d _ _ (paired_arguments ds c ms h)

-- names of a declaration are none
paired_names : (xs : List ℕ) (c : List ℕ) (ms : List Token) →
    Paired c ms → Paired (blanks xs c) (write_names xs ms)
paired_names [] c ms h = h
paired_names (x ∷ xs) c ms h = (inl refl, paired_names xs c ms h)

-- nor are parameters
paired_params : (ps : List Parameter) (c : List ℕ) (ms : List Token) →
    Paired c ms → Paired (blanks ps c) (write_params ps ms)
paired_params [] c ms h = h
paired_params (p ∷ ps) c ms h = (inl refl, paired_params ps c ms h)

-- sequences
paired_sequence : {S : Signature} {t : Ty} {Γ : Levels} {ss : Stmts} (d : ValidSequence S t Γ ss) (c : List ℕ) (ms : List Token) →
    Paired c ms → Paired (sequence_column d c) (write_stmts ss ms)
paired_sequence empty_valid c ms h = h
paired_sequence (perform_valid d ds) c ms h = paired_expr d _ _ (inl refl, paired_sequence ds c ms h)
paired_sequence (declare_valid {xs = xs} k l ds) c ms h = (inl refl, paired_names xs _ _ (paired_sequence ds c ms h))
paired_sequence (init_valid d k ds) c ms h = paired_expr d _ _ (inl refl, paired_sequence ds c ms h)
paired_sequence (return_nothing_valid k ds) c ms h = (inl refl, paired_sequence ds c ms h)
paired_sequence (return_value_valid d ds) c ms h = paired_expr d _ _ (inl refl, paired_sequence ds c ms h)
paired_sequence (block_valid rs ds) c ms h = (inl refl, paired_sequence rs _ _ (inl refl, paired_sequence ds c ms h))
paired_sequence (while_valid d d₁ ds) c ms h = paired_expr d _ _ (inl refl, paired_sequence d₁ _ _ (paired_sequence ds c ms h))
paired_sequence (choose_valid d d₁ d₂ ds) c ms h =
    paired_expr d _ _ (inl refl, paired_sequence d₁ _ _ (paired_sequence d₂ _ _ (paired_sequence ds c ms h)))

-- a whole definition
paired_definition : (S : Signature) (d : Definition) (D : ValidDefinition S d) → Paired (column S d D) (write_definition d [])
paired_definition S d D = (inl refl, paired_params d.params _ _ (paired_sequence D (0 ∷ []) (END ∷ []) (inl refl, tt)))

-- at a number that is not 0
paired_at : (c : List ℕ) (ms : List Token) (p : ℕ) → Paired c ms → (get_or c p 0 ≡ 0 → ⊥) → expression (get_or (map frame_of ms) p blank) ≡ true
paired_at [] ms p h some = absurd (some refl)
paired_at (n ∷ c) [] p h some = absurd h
paired_at (n ∷ c) (m ∷ ms) zero (inl z, h) some = absurd (some z)
paired_at (n ∷ c) (m ∷ ms) zero (inr e, h) some = e
paired_at (n ∷ c) (m ∷ ms) (suc p) (e, h) some = paired_at c ms p h some

-- where a derivation gives a type, the frame is an expression's last
pub typed_spoken : (S : Signature) (d : Definition) (D : ValidDefinition S d) (p : ℕ) (u : Ty) → Gives S d D p u → expression (get_or (written d) p blank) ≡ true
unfolding written
typed_spoken S d D p u g =
    paired_at (column S d D) (write_definition d []) p (paired_definition S d D) (λ z. code_not_zero u (sym z ∙ (column_types S d D p u).1 g))
