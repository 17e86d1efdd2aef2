-- A derivation's column has a number for each frame.
use Rattle.std.proofs.Common.{◌≡◌, ℕ, suc, List, [], ◌∷◌, length, sym, refl, ap, ◌∙◌}
use Rattle.std.proofs.lemmas.List.{length-map}
use Rattle.syntax.specs.declared.frame.«Type».{«Type» as Ty}
use Rattle.syntax.specs.declared.frame.Parameter.{Parameter}
use Rattle.syntax.specs.Trees.{Expr, Exprs, Stmts}
use Rattle.syntax.specs.Writing.{Token, HEAD, write_expr, write_exprs, write_names, write_params, write_stmts, write_definition, frame_of, written}
use Rattle.rules.specs.Heads.{Signature, Levels}
use Rattle.rules.specs.Rules.{WellTyped, true_typed, false_typed, int_typed, double_typed, string_typed, variable_typed, call_typed, update_typed, binary_typed, assign_typed, ArgumentsTyped, no_argument, one_argument}
use Rattle.rules.specs.Sequences.{ValidSequence, empty_valid, perform_valid, declare_valid, init_valid, return_nothing_valid, return_value_valid, block_valid, while_valid, choose_valid}
use Rattle.rules.specs.Columns.{expr_column, arguments_column, blanks, sequence_column}
use Rattle.rules.specs.Typed.{ColumnLong}

-- a column and some tokens have one length
record Paired (c : List ℕ) (ms : List Token) : Type 0 where
  lengths : length c ≡ length ms

paired_more : {r : List ℕ} {ms : List Token} (k : ℕ) (m : Token) → Paired r ms → Paired (k ∷ r) (m ∷ ms)
paired_more k m h = record { lengths = ap suc h.lengths }

-- with rests of one length, a column and a writing have one length
mutual
  long_expr : {S : Signature} {Γ : Levels} {e : Expr} {t : Ty} (d : WellTyped S Γ e t) {r : List ℕ} {ms : List Token} → Paired r ms → Paired (expr_column d r) (write_expr e ms)
  long_expr true_typed h = paired_more _ _ h
  long_expr false_typed h = paired_more _ _ h
  long_expr int_typed h = paired_more _ _ h
  long_expr double_typed h = paired_more _ _ h
  long_expr string_typed h = paired_more _ _ h
  long_expr (variable_typed k) h = paired_more _ _ h
  long_expr (call_typed {r = t} k ds) h = long_arguments ds (paired_more _ _ h)
  long_expr (update_typed k j) h = paired_more _ _ h
  long_expr (binary_typed d₁ d₂ k) h = long_expr d₁ (long_expr d₂ (paired_more _ _ h))
  long_expr (assign_typed d k) h = long_expr d (paired_more _ _ h)

  long_arguments : {S : Signature} {Γ : Levels} {es : Exprs} {ts : List Ty} (ds : ArgumentsTyped S Γ es ts) {r : List ℕ} {ms : List Token} → Paired r ms → Paired (arguments_column ds r) (write_exprs es ms)
  long_arguments no_argument h = h
  long_arguments (one_argument d ds) h = long_expr d (long_arguments ds h)

long_names : (xs : List ℕ) {r : List ℕ} {ms : List Token} → Paired r ms → Paired (blanks xs r) (write_names xs ms)
long_names [] h = h
long_names (x ∷ xs) h = paired_more _ _ (long_names xs h)

long_params : (ps : List Parameter) {r : List ℕ} {ms : List Token} → Paired r ms → Paired (blanks ps r) (write_params ps ms)
long_params [] h = h
long_params (p ∷ ps) h = paired_more _ _ (long_params ps h)

long_sequence : {S : Signature} {t : Ty} {Γ : Levels} {ss : Stmts} (d : ValidSequence S t Γ ss) {r : List ℕ} {ms : List Token} → Paired r ms → Paired (sequence_column d r) (write_stmts ss ms)
long_sequence empty_valid h = h
long_sequence (perform_valid d ds) h = long_expr d (paired_more _ _ (long_sequence ds h))
long_sequence (declare_valid {xs = xs} j k ds) h = paired_more _ _ (long_names xs (long_sequence ds h))
long_sequence (init_valid d k ds) h = long_expr d (paired_more _ _ (long_sequence ds h))
long_sequence (return_nothing_valid k ds) h = paired_more _ _ (long_sequence ds h)
long_sequence (return_value_valid d ds) h = long_expr d (paired_more _ _ (long_sequence ds h))
long_sequence (block_valid d ds) h = paired_more _ _ (long_sequence d (paired_more _ _ (long_sequence ds h)))
long_sequence (while_valid d d₁ ds) h = long_expr d (paired_more _ _ (long_sequence d₁ (long_sequence ds h)))
long_sequence (choose_valid d d₁ d₂ ds) h = long_expr d (paired_more _ _ (long_sequence d₁ (long_sequence d₂ (long_sequence ds h))))

pub column_long : ColumnLong
unfolding written
column_long S d D = (paired_more 0 (HEAD d.returns d.name (length d.params)) (long_params d.params (long_sequence D (record { lengths = refl })))).lengths ∙ sym (length-map (write_definition d []) frame_of)
