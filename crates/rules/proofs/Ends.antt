-- A derivation gives a type exactly where an expression ends.
use Rattle.std.proofs.Common.{◌≡◌, ℕ, suc, ◌⊎◌, List, refl, inl, inr}
use Rattle.syntax.specs.declared.frame.«Type».{«Type» as Ty}
use Rattle.syntax.specs.declared.frame.«Type».TheVariants.{Bool, Int, Double, String}
use Rattle.syntax.specs.Trees.{Expr, literal, variable, update, call, binary, assign, Exprs, Stmts, true_literal, false_literal, int_literal, double_literal, string_literal}
use Rattle.rules.specs.Heads.{Signature, Levels}
use Rattle.rules.specs.Rules.{WellTyped, true_typed, false_typed, int_typed, double_typed, string_typed, variable_typed, call_typed, update_typed, binary_typed, assign_typed, ArgumentsTyped, no_argument, one_argument}
use Rattle.rules.specs.Sequences.{ValidSequence, empty_valid, perform_valid, declare_valid, init_valid, return_nothing_valid, return_value_valid, block_valid, while_valid, choose_valid}
use Rattle.rules.specs.Places.{after_expr, after_exprs, after_each, after_stmt, after_stmts, ExprEnds, ExprsEnd, StmtsEnd, ExprGives, ArgumentsGive, SequenceGives}
use Rattle.rules.specs.Typed.{TypedPlaces}

-- some type is such exactly where some expression is
record Matched (A : Ty → Type 0) (B : Expr → Type 0) : Type 0 where
  ends : (u : Ty) → A u → (x : Expr) × B x
  gives : (x : Expr) → B x → (u : Ty) × A u

matched_one : (n p : ℕ) (t : Ty) (e : Expr) → Matched (λ u. (p ≡ n) × (t ≡ u)) (λ x. (p ≡ n) × (e ≡ x))
matched_one n p t e = record { ends = λ u h. (e, (h.0, refl)); gives = λ x h. (t, (h.0, refl)) }

matched_none : Matched (λ u. ⊥) (λ x. ⊥)
matched_none = record { ends = λ u h. absurd h; gives = λ x h. absurd h }

matched_both : {A C : Ty → Type 0} {B D : Expr → Type 0} → Matched A B → Matched C D → Matched (λ u. A u ⊎ C u) (λ x. B x ⊎ D x)
matched_both {A} {C} {B} {D} f g = record { ends = end; gives = give }
  where
    end : (u : Ty) → A u ⊎ C u → (x : Expr) × (B x ⊎ D x)
    end u (inl h) = let k = f.ends u h in (k.0, inl k.1)
    end u (inr h) = let k = g.ends u h in (k.0, inr k.1)

    give : (x : Expr) → B x ⊎ D x → (u : Ty) × (A u ⊎ C u)
    give x (inl h) = let k = f.gives x h in (k.0, inl k.1)
    give x (inr h) = let k = g.gives x h in (k.0, inr k.1)

-- nothing ends before, or after
matched_after : {A : Ty → Type 0} {B : Expr → Type 0} → Matched A B → Matched A (λ x. ⊥ ⊎ B x)
matched_after {A} {B} f = record { ends = λ u h. let k = f.ends u h in (k.0, inr k.1); gives = give }
  where
    give : (x : Expr) → ⊥ ⊎ B x → (u : Ty) × A u
    give x (inl h) = absurd h
    give x (inr h) = f.gives x h

matched_before : {A : Ty → Type 0} {B : Expr → Type 0} → Matched A (λ x. B x ⊎ ⊥) → Matched A B
matched_before {A} {B} f = record { ends = λ u h. let k = f.ends u h in end k.0 k.1; gives = λ x h. f.gives x (inl h) }
  where
    end : (x : Expr) → B x ⊎ ⊥ → (x : Expr) × B x
    end x (inl h) = (x, h)
    end x (inr h) = absurd h

module _ (p : ℕ) where
  mutual
    matched_expr : {S : Signature} {Γ : Levels} {e : Expr} {t : Ty} (d : WellTyped S Γ e t) (n : ℕ) → Matched (λ u. ExprGives d n p u) (λ x. ExprEnds e n p x)
    matched_expr true_typed n = matched_one n p Bool (literal true_literal)
    matched_expr false_typed n = matched_one n p Bool (literal false_literal)
    matched_expr (int_typed {n = k}) n = matched_one n p Int (literal (int_literal k))
    matched_expr (double_typed {n = k}) n = matched_one n p Double (literal (double_literal k))
    matched_expr (string_typed {n = k}) n = matched_one n p String (literal (string_literal k))
    matched_expr (variable_typed {x = x} {t = t} h) n = matched_one n p t (variable x)
    matched_expr (call_typed {f = f} {es = es} {r = t} h ds) n = matched_both (matched_arguments ds n) (matched_one (after_exprs es n) p t (call f es))
    matched_expr (update_typed {c = c} {x = x} {t = t} h k) n = matched_one n p t (update c x)
    matched_expr (binary_typed {o = o} {a = a} {b = b} {r = t} d₁ d₂ k) n =
        matched_both (matched_expr d₁ n) (matched_both (matched_expr d₂ (after_expr a n)) (matched_one (after_expr b (after_expr a n)) p t (binary o a b)))
    matched_expr (assign_typed {x = x} {e = e} {t = t} d h) n = matched_both (matched_expr d n) (matched_one (after_expr e n) p t (assign x e))

    matched_arguments : {S : Signature} {Γ : Levels} {es : Exprs} {ts : List Ty} (ds : ArgumentsTyped S Γ es ts) (n : ℕ) → Matched (λ u. ArgumentsGive ds n p u) (λ x. ExprsEnd es n p x)
    matched_arguments no_argument n = matched_none
    matched_arguments (one_argument {e = e} d ds) n = matched_both (matched_expr d n) (matched_arguments ds (after_expr e n))

  matched_sequence : {S : Signature} {t : Ty} {Γ : Levels} {ss : Stmts} (d : ValidSequence S t Γ ss) (n : ℕ) → Matched (λ u. SequenceGives d n p u) (λ x. StmtsEnd ss n p x)
  matched_sequence empty_valid n = matched_none
  matched_sequence (perform_valid {e = e} d ds) n = matched_both (matched_expr d n) (matched_sequence ds (suc (after_expr e n)))
  matched_sequence (declare_valid {xs = xs} h k ds) n = matched_after (matched_sequence ds (after_each xs (suc n)))
  matched_sequence (init_valid {e = e} d h ds) n = matched_both (matched_expr d n) (matched_sequence ds (suc (after_expr e n)))
  matched_sequence (return_nothing_valid h ds) n = matched_after (matched_sequence ds (suc n))
  matched_sequence (return_value_valid {e = e} d ds) n = matched_both (matched_expr d n) (matched_sequence ds (suc (after_expr e n)))
  matched_sequence (block_valid {rs = rs} d ds) n = matched_both (matched_sequence d (suc n)) (matched_sequence ds (suc (after_stmts rs (suc n))))
  matched_sequence (while_valid {e = e} {s = s} d d₁ ds) n =
      let m = suc (after_expr e n) in
      matched_both (matched_both (matched_expr d n) (matched_before (matched_sequence d₁ m))) (matched_sequence ds (after_stmt s m))
  matched_sequence (choose_valid {e = e} {s₁ = s₁} {s₂ = s₂} d d₁ d₂ ds) n =
      let m = suc (after_expr e n) in
      matched_both
      (matched_both (matched_expr d n) (matched_both (matched_before (matched_sequence d₁ m)) (matched_before (matched_sequence d₂ (after_stmt s₁ m)))))
      (matched_sequence ds (after_stmt s₂ (after_stmt s₁ m)))

pub typed_places : TypedPlaces
typed_places S d D p =
    let k = matched_sequence p D (after_each d.params 1) in
    ((λ q. k.ends q.0 q.1), (λ q. k.gives q.0 q.1))
