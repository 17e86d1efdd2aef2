-- A fault inside an expression is where the expression first breaks a rule; and the places of what was checked.
use Rattle.std.proofs.Common.{◌≡◌, ℕ, suc, List, [], ◌∷◌, length, Ok, Err, Result, sym, refl, ap, ◌∙◌, subst, inl, inr}
use Rattle.syntax.specs.declared.frame.«Type».{«Type» as Ty}
use Rattle.syntax.specs.Trees.{Expr, literal, variable, update, call, binary, assign, Exprs, none, more, Stmts}
use Rattle.rules.specs.declared.violation.Violation.{Violation}
use Rattle.rules.specs.Heads.{Signature, Levels}
use Rattle.rules.specs.Rules.{WellTyped, true_typed, false_typed, int_typed, double_typed, string_typed, variable_typed, call_typed, update_typed, binary_typed, assign_typed, ArgumentsTyped, no_argument, one_argument}
use Rattle.rules.specs.Sequences.{ValidSequence, empty_valid, perform_valid, declare_valid, init_valid, return_nothing_valid, return_value_valid, block_valid, while_valid, choose_valid}
use Rattle.rules.specs.Places.{after_expr, after_exprs, after_each, after_stmt, after_stmts}
use Rattle.rules.specs.Faults.{fault, ◌>>=◌, placed}
use Rattle.rules.specs.Judge.{judge_call, judge_binary, judge_assign}
use Rattle.rules.specs.Broken.{ExprBroken, ExprsBroken, ThenBroken}
use Rattle.rules.proofs.Checker.{Typed, check_expr, check_exprs}
use Rattle.rules.proofs.Stacked.{expr_stacked, arguments_stacked, blanks_stacked, sequence_stacked}
use Rattle.rules.proofs.Expressions.{expr_complete, arguments_complete, expr_sound, exprs_sound}
use Rattle.rules.proofs.Broken.{fails, variable_fails, update_fails, call_fails, binary_fails, assign_fails}

-- ===== places of a column that was piled up =====
mutual
  pub expr_place : {S : Signature} {Γ : Levels} {e : Expr} {t : Ty} (d : WellTyped S Γ e t) (a : List ℕ) → length (expr_stacked d a) ≡ after_expr e (length a)
  expr_place true_typed a = refl
  expr_place false_typed a = refl
  expr_place int_typed a = refl
  expr_place double_typed a = refl
  expr_place string_typed a = refl
  expr_place (variable_typed h) a = refl
  expr_place (call_typed h ds) a = ap suc (arguments_place ds a)
  expr_place (update_typed h k) a = refl
  expr_place (binary_typed {b = b} d₁ d₂ k) a = ap suc (expr_place d₂ (expr_stacked d₁ a) ∙ ap (after_expr b) (expr_place d₁ a))
  expr_place (assign_typed d h) a = ap suc (expr_place d a)

  pub arguments_place : {S : Signature} {Γ : Levels} {es : Exprs} {ts : List Ty} (ds : ArgumentsTyped S Γ es ts) (a : List ℕ) → length (arguments_stacked ds a) ≡ after_exprs es (length a)
  arguments_place no_argument a = refl
  arguments_place (one_argument {es = es} d ds) a = arguments_place ds (expr_stacked d a) ∙ ap (after_exprs es) (expr_place d a)

pub blanks_place : {A : Type 0} (xs : List A) (a : List ℕ) → length (blanks_stacked xs a) ≡ after_each xs (length a)
blanks_place [] a = refl
blanks_place (x ∷ xs) a = blanks_place xs (0 ∷ a)

pub sequence_place : {S : Signature} {t : Ty} {Γ : Levels} {ss : Stmts} (d : ValidSequence S t Γ ss) (a : List ℕ) → length (sequence_stacked d a) ≡ after_stmts ss (length a)
sequence_place empty_valid a = refl
sequence_place (perform_valid {e = e} {ss = ss} d ds) a = sequence_place ds (0 ∷ expr_stacked d a) ∙ ap (λ n. after_stmts ss (suc n)) (expr_place d a)
sequence_place (declare_valid {xs = xs} {ss = ss} h k ds) a = sequence_place ds (blanks_stacked xs (0 ∷ a)) ∙ ap (after_stmts ss) (blanks_place xs (0 ∷ a))
sequence_place (init_valid {ss = ss} d h ds) a = sequence_place ds (0 ∷ expr_stacked d a) ∙ ap (λ n. after_stmts ss (suc n)) (expr_place d a)
sequence_place (return_nothing_valid h ds) a = sequence_place ds (0 ∷ a)
sequence_place (return_value_valid {ss = ss} d ds) a = sequence_place ds (0 ∷ expr_stacked d a) ∙ ap (λ n. after_stmts ss (suc n)) (expr_place d a)
sequence_place (block_valid {ss = ss} d ds) a = sequence_place ds (0 ∷ sequence_stacked d (0 ∷ a)) ∙ ap (λ n. after_stmts ss (suc n)) (sequence_place d (0 ∷ a))
sequence_place (while_valid {s = s} {ss = ss} d d₁ ds) a =
    sequence_place ds (sequence_stacked d₁ (0 ∷ expr_stacked d a)) ∙ ap (after_stmts ss) (sequence_place d₁ (0 ∷ expr_stacked d a) ∙ ap (λ n. after_stmt s (suc n)) (expr_place d a))
sequence_place (choose_valid {s₁ = s₁} {s₂ = s₂} {ss = ss} d d₁ d₂ ds) a =
    let b = 0 ∷ expr_stacked d a in
    sequence_place ds (sequence_stacked d₂ (sequence_stacked d₁ b))
    ∙ ap (after_stmts ss) (sequence_place d₂ (sequence_stacked d₁ b) ∙ ap (after_stmt s₂) (sequence_place d₁ b ∙ ap (λ n. after_stmt s₁ (suc n)) (expr_place d a)))

-- ===== a frame that fails is the place, and leaves the levels =====
pub placed_fails : {A : Type 0} (n : ℕ) (Γ : Levels) (m : Result A Violation) {v : Violation} {p : ℕ} {Δ : Levels} → placed n Γ m ≡ Err (fault v p Δ) → (m ≡ Err v) × (p ≡ n) × (Γ ≡ Δ)
placed_fails n Γ (Ok a) h = cc
placed_fails n Γ (Err w) {v} {p} {Δ} h =
    let e : fault w n Γ ≡ fault v p Δ = cc in
    let i : w ≡ v = cc in
    let j : n ≡ p = cc in
    let k : Γ ≡ Δ = cc in
    (ap Err i, sym j, k)

pub moved_fails : {A B : Type 0} (n : ℕ) (Γ : Levels) (m : Result A Violation) (f : A → B) {v : Violation} {p : ℕ} {Δ : Levels} → (placed n Γ m >>= λ a. Ok (f a)) ≡ Err (fault v p Δ) → (m ≡ Err v) × (p ≡ n) × (Γ ≡ Δ)
moved_fails n Γ m f h = fails (placed n Γ m) _ h (placed_fails n Γ m) (λ a h₁ h₂. cc)

module _ (S : Signature) where
  -- where an expression that was checked ends
  pub checked_place : (Γ : Levels) (e : Expr) (a : List ℕ) {p : Typed} → check_expr S Γ e a ≡ Ok p → length p.1 ≡ after_expr e (length a)
  checked_place Γ e a h =
      let d = expr_sound S Γ e a h in
      cc (expr_complete S Γ d a, expr_place d a)

  checked_places : (Γ : Levels) (es : Exprs) (a : List ℕ) {p : List Ty × List ℕ} → check_exprs S Γ es a ≡ Ok p → length p.1 ≡ after_exprs es (length a)
  checked_places Γ es a h =
      let d = exprs_sound S Γ es a h in
      cc (arguments_complete S Γ d a, arguments_place d a)

  module _ (v : Violation) (p : ℕ) (Δ : Levels) where
    mutual
      pub expr_breaks : (Γ : Levels) (e : Expr) (a : List ℕ) → check_expr S Γ e a ≡ Err (fault v p Δ) → ExprBroken S Γ e (length a) v p × (Γ ≡ Δ)
      expr_breaks Γ (literal l) a h = cc
      expr_breaks Γ (variable x) a h = let k = moved_fails (length a) Γ _ _ h in ((k.1, variable_fails Γ x k.0), k.2)
      expr_breaks Γ (update c x) a h = let k = moved_fails (length a) Γ _ _ h in ((k.1, update_fails Γ c x k.0), k.2)
      expr_breaks Γ (call f es) a h =
          fails (check_exprs S Γ es a) _ h
          (λ h₁. let k = exprs_break Γ es a h₁ in (inl k.0, k.1))
          (λ q h₁ h₂.
          let k = moved_fails (length q.1) Γ (judge_call S f q.0) _ h₂ in
          (inr (q.0, exprs_sound S Γ es a h₁, k.1 ∙ checked_places Γ es a h₁, call_fails S f q.0 k.0), k.2))
      expr_breaks Γ (binary o e₁ e₂) a h =
          fails (check_expr S Γ e₁ a) _ h
          (λ h₁. let k = expr_breaks Γ e₁ a h₁ in (inl k.0, k.1))
          (λ q h₁ h₂.
          let at = checked_place Γ e₁ a h₁ in
          fails (check_expr S Γ e₂ q.1) _ h₂
          (λ h₃.
          let k = expr_breaks Γ e₂ q.1 h₃ in
          (inr (q.0, expr_sound S Γ e₁ a h₁, inl (subst (λ n. ExprBroken S Γ e₂ n v p) at k.0)), k.1))
          (λ w h₃ h₄.
          let k = moved_fails (length w.1) Γ (judge_binary o q.0 w.0) _ h₄ in
          let there = checked_place Γ e₂ q.1 h₃ ∙ ap (after_expr e₂) at in
          (inr (q.0, expr_sound S Γ e₁ a h₁, inr (w.0, expr_sound S Γ e₂ q.1 h₃, k.1 ∙ there, binary_fails o q.0 w.0 k.0)), k.2)))
      expr_breaks Γ (assign x e) a h =
          fails (check_expr S Γ e a) _ h
          (λ h₁. let k = expr_breaks Γ e a h₁ in (inl k.0, k.1))
          (λ q h₁ h₂.
          let k = moved_fails (length q.1) Γ (judge_assign Γ x q.0) _ h₂ in
          (inr (q.0, expr_sound S Γ e a h₁, k.1 ∙ checked_place Γ e a h₁, assign_fails Γ x q.0 k.0), k.2))

      exprs_break : (Γ : Levels) (es : Exprs) (a : List ℕ) → check_exprs S Γ es a ≡ Err (fault v p Δ) → ExprsBroken S Γ es (length a) v p × (Γ ≡ Δ)
      exprs_break Γ none a h = cc
      exprs_break Γ (more e es) a h =
          fails (check_expr S Γ e a) _ h
          (λ h₁. let k = expr_breaks Γ e a h₁ in (inl k.0, k.1))
          (λ q h₁ h₂. fails (check_exprs S Γ es q.1) _ h₂
          (λ h₃. let k = exprs_break Γ es q.1 h₃ in (inr (q.0, expr_sound S Γ e a h₁, subst (λ n. ExprsBroken S Γ es n v p) (checked_place Γ e a h₁) k.0), k.1))
          (λ w h₃ h₄. cc))

    -- an expression, then a frame that judges its type
    pub then_breaks : (Γ : Levels) (e : Expr) (a : List ℕ) {C : Type 0} (B : Ty → Violation → Type 0) (judge : Ty → Result (Unit {0}) Violation) (f : Typed → C) → ((u : Ty) → judge u ≡ Err v → B u v)
        → (check_expr S Γ e a >>= λ q. placed (length q.1) Γ (judge q.0) >>= λ _. Ok (f q)) ≡ Err (fault v p Δ) → ThenBroken S Γ e (length a) B v p Δ
    then_breaks Γ e a B judge f b h =
        fails (check_expr S Γ e a) _ h
        (λ h₁. let k = expr_breaks Γ e a h₁ in (inl k.0, k.1))
        (λ q h₁ h₂.
        let k = moved_fails (length q.1) Γ (judge q.0) _ h₂ in
        (inr (q.0, expr_sound S Γ e a h₁, k.1 ∙ checked_place Γ e a h₁, b q.0 k.0), k.2))
