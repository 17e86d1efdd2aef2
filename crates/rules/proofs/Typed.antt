-- What a column says at each place.
use Rattle.std.proofs.Common.{◌≡◌, ℕ, zero, suc, ◌+◌, ◌≤◌, ◌⊎◌, List, [], ◌∷◌, get_or, sym, refl, ap, ◌∙◌, subst, inl, inr, arith}
use Rattle.syntax.specs.declared.frame.«Type».{«Type» as Ty}
use Rattle.syntax.specs.declared.frame.«Type».TheVariants.{Bool, Int, Double, String}
use Rattle.syntax.specs.Trees.{Expr, Exprs, Stmts, Definition}
use Rattle.syntax.specs.Writing.{type_code}
use Rattle.syntax.proofs.Types.{type_code_once}
use Rattle.rules.specs.Heads.{Signature, Levels}
use Rattle.rules.specs.Rules.{WellTyped, true_typed, false_typed, int_typed, double_typed, string_typed, variable_typed, call_typed, update_typed, binary_typed, assign_typed, ArgumentsTyped, no_argument, one_argument}
use Rattle.rules.specs.Sequences.{ValidSequence, empty_valid, perform_valid, declare_valid, init_valid, return_nothing_valid, return_value_valid, block_valid, while_valid, choose_valid, ValidDefinition}
use Rattle.rules.specs.Columns.{expr_column, arguments_column, blanks, sequence_column, column}
use Rattle.rules.specs.Typed.{TypeOnce, ColumnTypes, TypesAgree, ColumnBlank}
use Rattle.rules.proofs.Results.{answers_same}
use Rattle.rules.proofs.Expressions.{type_once}
use Rattle.rules.proofs.Decided.{walk_derived}
use Rattle.rules.proofs.Places.{At, code_not_zero, at_gives}
use Rattle.rules.proofs.Ends.{typed_places}

-- ===== reading a list by its places =====
at_from : (c : List ℕ) (n p k : ℕ) → At n c p k → n ≤ p
at_from [] n p k h = absurd h
at_from (m ∷ c) n p k (inl h) = let e = h.0 in omega arith
at_from (m ∷ c) n p k (inr h) = let ih = at_from c (suc n) p k h in omega arith

at_read : (c : List ℕ) (n j k : ℕ) → At n c (n + j) k → get_or c j 0 ≡ k
at_read [] n j k h = absurd h
at_read (m ∷ c) n zero k (inl h) = h.1
at_read (m ∷ c) n zero k (inr h) = let l = at_from c (suc n) (n + 0) k h in absurd (omega arith)
at_read (m ∷ c) n (suc j) k (inl h) = let e = h.0 in absurd (omega arith)
at_read (m ∷ c) n (suc j) k (inr h) = let e : n + suc j ≡ suc n + j = omega arith in at_read c (suc n) j k (rw e at h)

read_at : (c : List ℕ) (n j k : ℕ) → (0 ≡ k → ⊥) → get_or c j 0 ≡ k → At n c (n + j) k
read_at [] n j k z h = absurd (z h)
read_at (m ∷ c) n zero k z h = inl (omega arith, h)
read_at (m ∷ c) n (suc j) k z h = let e : suc n + j ≡ n + suc j = omega arith in inr (rw e at (read_at c (suc n) j k z h))

pub column_types : ColumnTypes
column_types S d D p u =
    let e : 0 + p ≡ p = omega arith in
    let c = column S d D in
    let k = at_gives p u S d D in (
      (λ h. k.0 (subst (λ q. At 0 c q (type_code u)) e (read_at c 0 p (type_code u) (code_not_zero u) h))),
      (λ g. at_read c 0 p (type_code u) (subst (λ q. At 0 c q (type_code u)) (sym e) (k.1 g))),
    )

-- ===== one type, whatever the derivation =====
pub type_is_one : TypeOnce
type_is_one S Γ e t u d d' = type_once S Γ d d'

pub column_once : (S : Signature) (d : Definition) (D D' : ValidDefinition S d) → column S d D ≡ column S d D'
column_once S d D D' = ap (λ (p : List ℕ × Levels). p.0) (answers_same (sym (walk_derived S d D) ∙ walk_derived S d D'))

pub types_agree : TypesAgree
types_agree S d D D' p u v g h =
    type_code_once u v (sym ((column_types S d D p u).1 g) ∙ ap (λ c. get_or c p 0) (column_once S d D D') ∙ (column_types S d D' p v).1 h)

-- ===== every entry is 0 or the number of a type =====
abbrev IsType : ℕ → Type 0
IsType m = (m ≡ 0) ⊎ ((u : Ty) × (m ≡ type_code u))

abbrev AllTypes : List ℕ → Type 0
AllTypes c = (j : ℕ) → IsType (get_or c j 0)

types_none : AllTypes []
types_none j = inl refl

types_more : (m : ℕ) (r : List ℕ) → IsType m → AllTypes r → AllTypes (m ∷ r)
types_more m r h k zero = h
types_more m r h k (suc j) = k j

types_blanks : {A : Type 0} (xs : List A) (r : List ℕ) → AllTypes r → AllTypes (blanks xs r)
types_blanks [] r k = k
types_blanks (x ∷ xs) r k = types_more 0 (blanks xs r) (inl refl) (types_blanks xs r k)

mutual
  types_expr : {S : Signature} {Γ : Levels} {e : Expr} {t : Ty} (d : WellTyped S Γ e t) (r : List ℕ) → AllTypes r → AllTypes (expr_column d r)
  types_expr true_typed r k = types_more 1 r (inr (Bool, refl)) k
  types_expr false_typed r k = types_more 1 r (inr (Bool, refl)) k
  types_expr int_typed r k = types_more 2 r (inr (Int, refl)) k
  types_expr double_typed r k = types_more 3 r (inr (Double, refl)) k
  types_expr string_typed r k = types_more 4 r (inr (String, refl)) k
  types_expr (variable_typed {t = t} h) r k = types_more (type_code t) r (inr (t, refl)) k
  types_expr (call_typed {r = t} h ds) r k = types_arguments ds (type_code t ∷ r) (types_more (type_code t) r (inr (t, refl)) k)
  types_expr (update_typed {t = t} h j) r k = types_more (type_code t) r (inr (t, refl)) k
  types_expr (binary_typed {r = t} d₁ d₂ j) r k = types_expr d₁ (expr_column d₂ (type_code t ∷ r)) (types_expr d₂ (type_code t ∷ r) (types_more (type_code t) r (inr (t, refl)) k))
  types_expr (assign_typed {t = t} d h) r k = types_expr d (type_code t ∷ r) (types_more (type_code t) r (inr (t, refl)) k)

  types_arguments : {S : Signature} {Γ : Levels} {es : Exprs} {ts : List Ty} (ds : ArgumentsTyped S Γ es ts) (r : List ℕ) → AllTypes r → AllTypes (arguments_column ds r)
  types_arguments no_argument r k = k
  types_arguments (one_argument d ds) r k = types_expr d (arguments_column ds r) (types_arguments ds r k)

-- an expression, then a frame that is none
types_then : {S : Signature} {Γ : Levels} {e : Expr} {t : Ty} (d : WellTyped S Γ e t) (r : List ℕ) → AllTypes r → AllTypes (expr_column d (0 ∷ r))
types_then d r k = types_expr d (0 ∷ r) (types_more 0 r (inl refl) k)

types_sequence : {S : Signature} {t : Ty} {Γ : Levels} {ss : Stmts} (d : ValidSequence S t Γ ss) (r : List ℕ) → AllTypes r → AllTypes (sequence_column d r)
types_sequence empty_valid r k = k
types_sequence (perform_valid d ds) r k = types_then d (sequence_column ds r) (types_sequence ds r k)
types_sequence (declare_valid {xs = xs} h j ds) r k = types_more 0 (blanks xs (sequence_column ds r)) (inl refl) (types_blanks xs (sequence_column ds r) (types_sequence ds r k))
types_sequence (init_valid d h ds) r k = types_then d (sequence_column ds r) (types_sequence ds r k)
types_sequence (return_nothing_valid h ds) r k = types_more 0 (sequence_column ds r) (inl refl) (types_sequence ds r k)
types_sequence (return_value_valid d ds) r k = types_then d (sequence_column ds r) (types_sequence ds r k)
types_sequence (block_valid d ds) r k =
    types_more 0 (sequence_column d (0 ∷ sequence_column ds r)) (inl refl) (types_sequence d (0 ∷ sequence_column ds r) (types_more 0 (sequence_column ds r) (inl refl) (types_sequence ds r k)))
types_sequence (while_valid d d₁ ds) r k = types_then d (sequence_column d₁ (sequence_column ds r)) (types_sequence d₁ (sequence_column ds r) (types_sequence ds r k))
types_sequence (choose_valid d d₁ d₂ ds) r k =
    let q = sequence_column ds r in
    types_then d (sequence_column d₁ (sequence_column d₂ q)) (types_sequence d₁ (sequence_column d₂ q) (types_sequence d₂ q (types_sequence ds r k)))

types_column : (S : Signature) (d : Definition) (D : ValidDefinition S d) → AllTypes (column S d D)
types_column S d D =
    types_more 0 (blanks d.params (sequence_column D (0 ∷ []))) (inl refl)
    (types_blanks d.params (sequence_column D (0 ∷ [])) (types_sequence D (0 ∷ []) (types_more 0 [] (inl refl) types_none)))

pub column_blank : ColumnBlank
column_blank S d D p h =
    elim (types_column S d D p) [
      | inl z ↦ z
      | inr q ↦ let x = (typed_places S d D p).0 (q.0, (column_types S d D p q.0).0 q.1) in absurd (h x.0 x.1)
    ]
