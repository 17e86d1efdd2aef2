-- The entries of a derivation's column are the types that it gives, at their places.
use Rattle.std.proofs.Common.{◌≡◌, ℕ, suc, ◌⊎◌, ◌↔◌, List, [], ◌∷◌, ap, inl, inr, arith}
use Rattle.syntax.specs.declared.frame.«Type».{«Type» as Ty}
use Rattle.syntax.specs.declared.frame.«Type».TheVariants.{Bool, Int, Double, String, Void}
use Rattle.syntax.specs.Trees.{Expr, Exprs, Stmts, Definition}
use Rattle.syntax.specs.Writing.{type_code}
use Rattle.syntax.proofs.Types.{type_code_once}
use Rattle.rules.specs.Heads.{Signature, Levels}
use Rattle.rules.specs.Rules.{WellTyped, true_typed, false_typed, int_typed, double_typed, string_typed, variable_typed, call_typed, update_typed, binary_typed, assign_typed, ArgumentsTyped, no_argument, one_argument}
use Rattle.rules.specs.Sequences.{ValidSequence, empty_valid, perform_valid, declare_valid, init_valid, return_nothing_valid, return_value_valid, block_valid, while_valid, choose_valid, ValidDefinition}
use Rattle.rules.specs.Columns.{expr_column, arguments_column, blanks, sequence_column, column}
use Rattle.rules.specs.Places.{after_expr, after_exprs, after_each, after_stmt, after_stmts, ExprGives, ArgumentsGive, SequenceGives, Gives}

-- a list whose first entry stands at n has k at the place p
abbrev pub At : ℕ → List ℕ → ℕ → ℕ → Type 0
At n [] p k = ⊥
At n (m ∷ c) p k = ((p ≡ n) × (m ≡ k)) ⊎ At (suc n) c p k

pub code_not_zero : (u : Ty) → 0 ≡ type_code u → ⊥
code_not_zero Bool h = omega arith
code_not_zero Int h = omega arith
code_not_zero Double h = omega arith
code_not_zero String h = omega arith
code_not_zero Void h = omega arith

module _ (p : ℕ) (u : Ty) where
  -- the column c from n on has u at p where G says so, or where its rest r has it, from m on
  record Adds (n : ℕ) (c : List ℕ) (m : ℕ) (r : List ℕ) (G : Type 0) : Type 0 where
    only : At n c p (type_code u) → G ⊎ At m r p (type_code u)
    gives : G → At n c p (type_code u)
    keeps : At m r p (type_code u) → At n c p (type_code u)

  adds_type : (n : ℕ) (t : Ty) (r : List ℕ) → Adds n (type_code t ∷ r) (suc n) r ((p ≡ n) × (t ≡ u))
  adds_type n t r = record { only = elim [ inl h ↦ inl (h.0, type_code_once t u h.1) | inr h ↦ inr h ]; gives = λ h. inl (h.0, ap type_code h.1); keeps = inr }

  adds_nothing : (n : ℕ) (r : List ℕ) → Adds n r n r ⊥
  adds_nothing n r = record { only = inr; gives = absurd; keeps = λ h. h }

  adds_both : {n m k : ℕ} {c b r : List ℕ} {G H : Type 0} → Adds n c m b G → Adds m b k r H → Adds n c k r (G ⊎ H)
  adds_both {n} {m} {k} {c} {b} {r} {G} {H} f g = record { only = λ h. split (f.only h); gives = give; keeps = λ h. f.keeps (g.keeps h) }
    where
      later : H ⊎ At k r p (type_code u) → (G ⊎ H) ⊎ At k r p (type_code u)
      later (inl h) = inl (inr h)
      later (inr x) = inr x

      split : G ⊎ At m b p (type_code u) → (G ⊎ H) ⊎ At k r p (type_code u)
      split (inl h) = inl (inl h)
      split (inr x) = later (g.only x)

      give : G ⊎ H → At n c p (type_code u)
      give (inl h) = f.gives h
      give (inr h) = f.keeps (g.gives h)

  -- a frame where no expression ends stands before the rest
  adds_blank : {n m : ℕ} {c r : List ℕ} {G : Type 0} → Adds (suc n) c m r G → Adds n (0 ∷ c) m r G
  adds_blank f = record { only = elim [ inl h ↦ absurd (code_not_zero u h.1) | inr h ↦ f.only h ]; gives = λ h. inr (f.gives h); keeps = λ h. inr (f.keeps h) }

  adds_blanks : {A : Type 0} (xs : List A) {n m : ℕ} {c r : List ℕ} {G : Type 0} → Adds (after_each xs n) c m r G → Adds n (blanks xs c) m r G
  adds_blanks [] f = f
  adds_blanks (x ∷ xs) f = adds_blank (adds_blanks xs f)

  mutual
    adds_expr : {S : Signature} {Γ : Levels} {e : Expr} {t : Ty} (d : WellTyped S Γ e t) (n : ℕ) (r : List ℕ) → Adds n (expr_column d r) (after_expr e n) r (ExprGives d n p u)
    adds_expr true_typed n r = adds_type n Bool r
    adds_expr false_typed n r = adds_type n Bool r
    adds_expr int_typed n r = adds_type n Int r
    adds_expr double_typed n r = adds_type n Double r
    adds_expr string_typed n r = adds_type n String r
    adds_expr (variable_typed {t = t} h) n r = adds_type n t r
    adds_expr (call_typed {es = es} {r = t} h ds) n r = adds_both (adds_arguments ds n (type_code t ∷ r)) (adds_type (after_exprs es n) t r)
    adds_expr (update_typed {t = t} h k) n r = adds_type n t r
    adds_expr (binary_typed {a = a} {b = b} {r = t} d₁ d₂ k) n r =
        adds_both (adds_expr d₁ n (expr_column d₂ (type_code t ∷ r))) (adds_both (adds_expr d₂ (after_expr a n) (type_code t ∷ r)) (adds_type (after_expr b (after_expr a n)) t r))
    adds_expr (assign_typed {e = e} {t = t} d h) n r = adds_both (adds_expr d n (type_code t ∷ r)) (adds_type (after_expr e n) t r)

    adds_arguments : {S : Signature} {Γ : Levels} {es : Exprs} {ts : List Ty} (ds : ArgumentsTyped S Γ es ts) (n : ℕ) (r : List ℕ)
        → Adds n (arguments_column ds r) (after_exprs es n) r (ArgumentsGive ds n p u)
    adds_arguments no_argument n r = adds_nothing n r
    adds_arguments (one_argument {e = e} d ds) n r = adds_both (adds_expr d n (arguments_column ds r)) (adds_arguments ds (after_expr e n) r)

  adds_sequence : {S : Signature} {t : Ty} {Γ : Levels} {ss : Stmts} (d : ValidSequence S t Γ ss) (n : ℕ) (r : List ℕ)
      → Adds n (sequence_column d r) (after_stmts ss n) r (SequenceGives d n p u)
  adds_sequence empty_valid n r = adds_nothing n r
  adds_sequence (perform_valid {e = e} d ds) n r = adds_both (adds_expr d n (0 ∷ sequence_column ds r)) (adds_blank (adds_sequence ds (suc (after_expr e n)) r))
  adds_sequence (declare_valid {xs = xs} h k ds) n r = adds_blank (adds_blanks xs (adds_sequence ds (after_each xs (suc n)) r))
  adds_sequence (init_valid {e = e} d h ds) n r = adds_both (adds_expr d n (0 ∷ sequence_column ds r)) (adds_blank (adds_sequence ds (suc (after_expr e n)) r))
  adds_sequence (return_nothing_valid h ds) n r = adds_blank (adds_sequence ds (suc n) r)
  adds_sequence (return_value_valid {e = e} d ds) n r = adds_both (adds_expr d n (0 ∷ sequence_column ds r)) (adds_blank (adds_sequence ds (suc (after_expr e n)) r))
  adds_sequence (block_valid {rs = rs} d ds) n r =
      adds_blank (adds_both (adds_sequence d (suc n) (0 ∷ sequence_column ds r)) (adds_blank (adds_sequence ds (suc (after_stmts rs (suc n))) r)))
  adds_sequence (while_valid {e = e} {s = s} d d₁ ds) n r =
      let m = suc (after_expr e n) in
      let q = sequence_column ds r in
      adds_both (adds_both (adds_expr d n (0 ∷ sequence_column d₁ q)) (adds_blank (adds_sequence d₁ m q))) (adds_sequence ds (after_stmt s m) r)
  adds_sequence (choose_valid {e = e} {s₁ = s₁} {s₂ = s₂} d d₁ d₂ ds) n r =
      let m = suc (after_expr e n) in
      let q = sequence_column ds r in
      adds_both
      (adds_both (adds_expr d n (0 ∷ sequence_column d₁ (sequence_column d₂ q))) (adds_blank (adds_both (adds_sequence d₁ m (sequence_column d₂ q)) (adds_sequence d₂ (after_stmt s₁ m) q))))
      (adds_sequence ds (after_stmt s₂ (after_stmt s₁ m)) r)

  -- the rest of a definition's column is one more blank
  last_blank : {G : Type 0} (m : ℕ) → G ⊎ At m (0 ∷ []) p (type_code u) → G
  last_blank m (inl g) = g
  last_blank m (inr (inl h)) = absurd (code_not_zero u h.1)
  last_blank m (inr (inr h)) = absurd h

  pub at_gives : (S : Signature) (d : Definition) (D : ValidDefinition S d) → At 0 (column S d D) p (type_code u) ↔ Gives S d D p u
  at_gives S d D =
      let n = after_each d.params 1 in
      let k = adds_blank (adds_blanks d.params (adds_sequence D n (0 ∷ []))) in
      ((λ h. last_blank (after_stmts d.body n) (k.only h)), k.gives)
