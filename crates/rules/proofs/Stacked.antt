-- The column of a derivation as the walk piles it up: the last frame first, over what was there.
use Rattle.std.proofs.Common.{◌≡◌, ℕ, List, [], ◌∷◌, refl, ◌∙◌}
use mathlib.Core.List.{reverse_aux}
use Rattle.syntax.specs.declared.frame.«Type».{«Type» as Ty}
use Rattle.syntax.specs.Trees.{Expr, Exprs, Stmts}
use Rattle.syntax.specs.Writing.{type_code}
use Rattle.rules.specs.Heads.{Signature, Levels}
use Rattle.rules.specs.Rules.{WellTyped, true_typed, false_typed, int_typed, double_typed, string_typed, variable_typed, call_typed, update_typed, binary_typed, assign_typed, ArgumentsTyped, no_argument, one_argument}
use Rattle.rules.specs.Sequences.{ValidSequence, empty_valid, perform_valid, declare_valid, init_valid, return_nothing_valid, return_value_valid, block_valid, while_valid, choose_valid}
use Rattle.rules.specs.Columns.{expr_column, arguments_column, blanks, sequence_column}

abbrev mutual
  pub expr_stacked : {S : Signature} {Γ : Levels} {e : Expr} {t : Ty} → WellTyped S Γ e t → List ℕ → List ℕ
  expr_stacked true_typed a = 1 ∷ a
  expr_stacked false_typed a = 1 ∷ a
  expr_stacked int_typed a = 2 ∷ a
  expr_stacked double_typed a = 3 ∷ a
  expr_stacked string_typed a = 4 ∷ a
  expr_stacked (variable_typed {t = t} h) a = type_code t ∷ a
  expr_stacked (call_typed {r = t} h ds) a = type_code t ∷ arguments_stacked ds a
  expr_stacked (update_typed {t = t} h k) a = type_code t ∷ a
  expr_stacked (binary_typed {r = t} d₁ d₂ k) a = type_code t ∷ expr_stacked d₂ (expr_stacked d₁ a)
  expr_stacked (assign_typed {t = t} d h) a = type_code t ∷ expr_stacked d a

  pub arguments_stacked : {S : Signature} {Γ : Levels} {es : Exprs} {ts : List Ty} → ArgumentsTyped S Γ es ts → List ℕ → List ℕ
  arguments_stacked no_argument a = a
  arguments_stacked (one_argument d ds) a = arguments_stacked ds (expr_stacked d a)

abbrev pub blanks_stacked : {A : Type 0} → List A → List ℕ → List ℕ
blanks_stacked [] a = a
blanks_stacked (x ∷ xs) a = blanks_stacked xs (0 ∷ a)

abbrev pub sequence_stacked : {S : Signature} {t : Ty} {Γ : Levels} {ss : Stmts} → ValidSequence S t Γ ss → List ℕ → List ℕ
sequence_stacked empty_valid a = a
sequence_stacked (perform_valid d ds) a = sequence_stacked ds (0 ∷ expr_stacked d a)
sequence_stacked (declare_valid {xs = xs} h k ds) a = sequence_stacked ds (blanks_stacked xs (0 ∷ a))
sequence_stacked (init_valid d h ds) a = sequence_stacked ds (0 ∷ expr_stacked d a)
sequence_stacked (return_nothing_valid h ds) a = sequence_stacked ds (0 ∷ a)
sequence_stacked (return_value_valid d ds) a = sequence_stacked ds (0 ∷ expr_stacked d a)
sequence_stacked (block_valid rs ds) a = sequence_stacked ds (0 ∷ sequence_stacked rs (0 ∷ a))
sequence_stacked (while_valid d d₁ ds) a = sequence_stacked ds (sequence_stacked d₁ (0 ∷ expr_stacked d a))
sequence_stacked (choose_valid d d₁ d₂ ds) a = sequence_stacked ds (sequence_stacked d₂ (sequence_stacked d₁ (0 ∷ expr_stacked d a)))

-- ===== turned round it is the column =====
mutual
  pub expr_turned : {S : Signature} {Γ : Levels} {e : Expr} {t : Ty} (d : WellTyped S Γ e t) (a r : List ℕ) → reverse_aux (expr_stacked d a) r ≡ reverse_aux a (expr_column d r)
  expr_turned true_typed a r = refl
  expr_turned false_typed a r = refl
  expr_turned int_typed a r = refl
  expr_turned double_typed a r = refl
  expr_turned string_typed a r = refl
  expr_turned (variable_typed h) a r = refl
  expr_turned (call_typed {r = t} h ds) a r = arguments_turned ds a (type_code t ∷ r)
  expr_turned (update_typed h k) a r = refl
  expr_turned (binary_typed {r = t} d₁ d₂ k) a r = expr_turned d₂ (expr_stacked d₁ a) (type_code t ∷ r) ∙ expr_turned d₁ a (expr_column d₂ (type_code t ∷ r))
  expr_turned (assign_typed {t = t} d h) a r = expr_turned d a (type_code t ∷ r)

  pub arguments_turned : {S : Signature} {Γ : Levels} {es : Exprs} {ts : List Ty} (ds : ArgumentsTyped S Γ es ts) (a r : List ℕ) → reverse_aux (arguments_stacked ds a) r ≡ reverse_aux a (arguments_column ds r)
  arguments_turned no_argument a r = refl
  arguments_turned (one_argument d ds) a r = arguments_turned ds (expr_stacked d a) r ∙ expr_turned d a (arguments_column ds r)

pub blanks_turned : {A : Type 0} (xs : List A) (a r : List ℕ) → reverse_aux (blanks_stacked xs a) r ≡ reverse_aux a (blanks xs r)
blanks_turned [] a r = refl
blanks_turned (x ∷ xs) a r = blanks_turned xs (0 ∷ a) r

pub sequence_turned : {S : Signature} {t : Ty} {Γ : Levels} {ss : Stmts} (d : ValidSequence S t Γ ss) (a r : List ℕ) → reverse_aux (sequence_stacked d a) r ≡ reverse_aux a (sequence_column d r)
sequence_turned empty_valid a r = refl
sequence_turned (perform_valid d ds) a r = sequence_turned ds (0 ∷ expr_stacked d a) r ∙ expr_turned d a (0 ∷ sequence_column ds r)
sequence_turned (declare_valid {xs = xs} h k ds) a r = sequence_turned ds (blanks_stacked xs (0 ∷ a)) r ∙ blanks_turned xs (0 ∷ a) (sequence_column ds r)
sequence_turned (init_valid d h ds) a r = sequence_turned ds (0 ∷ expr_stacked d a) r ∙ expr_turned d a (0 ∷ sequence_column ds r)
sequence_turned (return_nothing_valid h ds) a r = sequence_turned ds (0 ∷ a) r
sequence_turned (return_value_valid d ds) a r = sequence_turned ds (0 ∷ expr_stacked d a) r ∙ expr_turned d a (0 ∷ sequence_column ds r)
sequence_turned (block_valid rs ds) a r = sequence_turned ds (0 ∷ sequence_stacked rs (0 ∷ a)) r ∙ sequence_turned rs (0 ∷ a) (0 ∷ sequence_column ds r)
sequence_turned (while_valid d d₁ ds) a r =
    let b = 0 ∷ expr_stacked d a in
    sequence_turned ds (sequence_stacked d₁ b) r ∙ sequence_turned d₁ b (sequence_column ds r) ∙ expr_turned d a (0 ∷ sequence_column d₁ (sequence_column ds r))
sequence_turned (choose_valid d d₁ d₂ ds) a r =
    let b = 0 ∷ expr_stacked d a in
    let q = sequence_column ds r in
    sequence_turned ds (sequence_stacked d₂ (sequence_stacked d₁ b)) r ∙ sequence_turned d₂ (sequence_stacked d₁ b) q ∙ sequence_turned d₁ b (sequence_column d₂ q) ∙ expr_turned d a (0 ∷ sequence_column d₁ (sequence_column d₂ q))
