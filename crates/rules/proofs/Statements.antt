-- The checker of statements answers exactly where a derivation is, with its column.
use Rattle.std.proofs.Common.{◌≡◌, ℕ, Bool as Truth, true, false, cond, eqb, List, [], ◌∷◌, length, is_some, Some, None, Ok, Err, Option, Result, sym, refl, ◌∙◌, subst}
use Rattle.std.proofs.lemmas.Bool.{or_parts, not-true}
use Rattle.syntax.specs.declared.frame.«Type».{«Type» as Ty}
use Rattle.syntax.specs.declared.frame.«Type».TheVariants.{Bool, Void}
use Rattle.syntax.specs.Trees.{Expr, Stmt, perform, declare, init, return_nothing, return_value, block, while, choose, Stmts, empty, then}
use Rattle.levels.specs.Store.{find}
use Rattle.rules.specs.declared.violation.Violation.{Violation}
use Rattle.rules.specs.declared.violation.Violation.TheVariants.{OtherInitial, Repeated, OtherReturn, NoCondition}
use Rattle.rules.specs.Heads.{Signature, Table, Levels}
use Rattle.rules.specs.Rules.{WellTyped}
use Rattle.rules.specs.Sequences.{NotIn, Distinct, Lacks, LacksAll, ValidSequence, empty_valid, perform_valid, declare_valid, init_valid, return_nothing_valid, return_value_valid, block_valid, while_valid, choose_valid}
use Rattle.rules.specs.Faults.{require, placed}
use Rattle.rules.specs.Judge.{same, among, judge_name, judge_init, judge_return, judge_condition}
use Rattle.rules.proofs.Checker.{check_expr, check_names, top_after, closing, check_stmt, check_stmts}
use Rattle.rules.proofs.Stacked.{expr_stacked, blanks_stacked, sequence_stacked}
use Rattle.rules.proofs.Results.{bound, required, placed_answer, bind_unit, same_self, same_true}
use Rattle.rules.proofs.Expressions.{expr_complete, expr_sound}

-- ===== names =====
is_none : {A : Type 0} (o : Option A) → is_some o ≡ false → o ≡ None
is_none None h = refl
is_none (Some a) h = cc

cond_none : {A : Type 0} (b : Truth) (a : A) (o : Option A) → cond b (Some a) o ≡ None → (b ≡ false) × (o ≡ None)
cond_none true a o h = (cc, cc)
cond_none false a o h = (refl, h)

-- none of the names is one of the earlier ones
abbrev Free : List ℕ → List ℕ → Type 0
Free earlier [] = Unit {0}
Free earlier (x ∷ xs) = (among earlier x ≡ false) × Free earlier xs

pub free_of_none : (xs : List ℕ) → Free [] xs
free_of_none [] = tt
free_of_none (x ∷ xs) = (refl, free_of_none xs)

-- one more name on the table, or among the earlier ones
lacks_less : (xs : List ℕ) (x : ℕ) (t : Ty) (τ : Table Ty) → LacksAll ((x, t) ∷ τ) xs → NotIn x xs × LacksAll τ xs
lacks_less [] x t τ h = (tt, tt)
lacks_less (y ∷ ys) x t τ h =
    let k = cond_none (eqb x y) t (find τ y) h.0 in
    let ih = lacks_less ys x t τ h.1 in
    ((k.0, ih.0), (k.1, ih.1))

lacks_more : (xs : List ℕ) (x : ℕ) (t : Ty) (τ : Table Ty) → NotIn x xs → LacksAll τ xs → LacksAll ((x, t) ∷ τ) xs
lacks_more [] x t τ h k = tt
lacks_more (y ∷ ys) x t τ h k = (rw h.0 k.0, lacks_more ys x t τ h.1 k.1)

free_less : (xs : List ℕ) (x : ℕ) (earlier : List ℕ) → Free (x ∷ earlier) xs → NotIn x xs × Free earlier xs
free_less [] x earlier h = (tt, tt)
free_less (y ∷ ys) x earlier h =
    let k = or_parts (eqb x y) (among earlier y) h.0 in
    let ih = free_less ys x earlier h.1 in
    ((k.0, ih.0), (k.1, ih.1))

free_more : (xs : List ℕ) (x : ℕ) (earlier : List ℕ) → NotIn x xs → Free earlier xs → Free (x ∷ earlier) xs
free_more [] x earlier h k = tt
free_more (y ∷ ys) x earlier h k = (rw h.0 k.0, free_more ys x earlier h.1 k.1)

name_judged : (τ : Table Ty) (Γ : Levels) (earlier : List ℕ) (x : ℕ) {u : Unit {0}} → judge_name (τ ∷ Γ) earlier x ≡ Ok u → Lacks τ x × (among earlier x ≡ false)
name_judged τ Γ earlier x h =
    let k = or_parts (is_some (find τ x)) (among earlier x) (not-true _ (required Repeated _ h)) in
    (is_none (find τ x) k.0, k.1)

-- what the names of a declaration owe: none twice, none on the table, none among the earlier ones
abbrev GoodNames : Table Ty → List ℕ → List ℕ → Type 0
GoodNames τ earlier xs = Distinct xs × LacksAll τ xs × Free earlier xs

pub names_sound : (own : Truth) (Γ : Levels) (τ : Table Ty) (t : Ty) (earlier xs a : List ℕ) {c : List ℕ} → check_names own Γ τ t earlier xs a ≡ Ok c → GoodNames τ earlier xs
names_sound own Γ τ t earlier [] a h = (tt, tt, tt)
names_sound own Γ τ t earlier (x ∷ xs) a {c} h =
    let ih = λ (k : check_names own Γ (cond own τ ((x, t) ∷ τ)) t (cond own (x ∷ earlier) earlier) xs (0 ∷ a) ≡ Ok c). names_sound own Γ (cond own τ ((x, t) ∷ τ)) t (cond own (x ∷ earlier) earlier) xs (0 ∷ a) k in
    bound (placed (length a) (τ ∷ Γ) (judge_name (τ ∷ Γ) earlier x)) _ h λ _ h₁ h₂.
    let k = name_judged τ Γ earlier x (placed_answer (length a) (τ ∷ Γ) _ h₁) in
    joined own k (ih h₂)
  where
    joined : (own : Truth) → Lacks τ x × (among earlier x ≡ false) → GoodNames (cond own τ ((x, t) ∷ τ)) (cond own (x ∷ earlier) earlier) xs → GoodNames τ earlier (x ∷ xs)
    joined true k g = let j = free_less xs x earlier g.2 in ((j.0, g.0), (k.0, g.1), (k.1, j.1))
    joined false k g = let j = lacks_less xs x t τ g.1 in ((j.0, g.0), (k.0, j.1), (k.1, g.2))

pub names_complete : (own : Truth) (Γ : Levels) (τ : Table Ty) (t : Ty) (earlier xs a : List ℕ) → GoodNames τ earlier xs → check_names own Γ τ t earlier xs a ≡ Ok (blanks_stacked xs a)
names_complete own Γ τ t earlier [] a g = refl
names_complete own Γ τ t earlier (x ∷ xs) a g =
    rw (g.1.0, g.2.0) (names_complete own Γ (cond own τ ((x, t) ∷ τ)) t (cond own (x ∷ earlier) earlier) xs (0 ∷ a) (parted own))
  where
    parted : (own : Truth) → GoodNames (cond own τ ((x, t) ∷ τ)) (cond own (x ∷ earlier) earlier) xs
    parted true = (g.0.1, g.1.1, free_more xs x earlier g.0.0 g.2.1)
    parted false = (g.0.1, lacks_more xs x t τ g.0.0 g.1.1, g.2.1)

-- ===== what a judgement that answered says =====
init_judged : (τ : Table Ty) (Γ : Levels) (t : Ty) (x : ℕ) (v : Ty) {u : Unit {0}} → judge_init (τ ∷ Γ) t x v ≡ Ok u → (t ≡ v) × Lacks τ x
init_judged τ Γ t x v h = bound (require OtherInitial (same t v)) _ h λ _ h₁ h₂.
    (same_true t v (required OtherInitial (same t v) h₁), is_none (find τ x) (not-true _ (required Repeated _ h₂)))

return_judged : (r v : Ty) {u : Unit {0}} → judge_return r v ≡ Ok u → r ≡ v
return_judged r v h = same_true r v (required OtherReturn (same r v) h)

pub condition_judged : (v : Ty) {u : Unit {0}} → judge_condition v ≡ Ok u → Bool ≡ v
condition_judged v h = same_true Bool v (required NoCondition (same Bool v) h)

pub closing_judged : (S : Signature) (r : Ty) (a : List ℕ) (Γ : Levels) (m : Result (Unit {0}) Violation) {c : List ℕ} → closing S r a Γ m ≡ Ok c → (m ≡ Ok tt) × (0 ∷ a ≡ c)
closing_judged S r a Γ (Ok u) h = (refl, cc)
closing_judged S r a Γ (Err v) h = cc

module _ (S : Signature) (r : Ty) where
  -- ===== from the derivation to the checker =====
  -- what answers in a sequence answers directly under WHILE or IF
  alone_too : (Γ : Levels) (τ : Table Ty) (s : Stmt) (a : List ℕ) {c : List ℕ} → check_stmt S r false Γ τ s a ≡ Ok c → check_stmt S r true Γ τ s a ≡ Ok c
  alone_too Γ τ (perform e) a h = h
  alone_too Γ τ (declare t xs) a h =
      let g = names_sound false Γ τ t [] xs (0 ∷ a) h in
      names_complete true Γ τ t [] xs (0 ∷ a) g ∙ sym (names_complete false Γ τ t [] xs (0 ∷ a) g) ∙ h
  alone_too Γ τ (init t x e) a h = h
  alone_too Γ τ return_nothing a h = h
  alone_too Γ τ (return_value e) a h = h
  alone_too Γ τ (block ss) a h = h
  alone_too Γ τ (while e s) a h = h
  alone_too Γ τ (choose e s₁ s₂) a h = h

  pub only_one : (Γ : Levels) (τ : Table Ty) (s : Stmt) (a : List ℕ) {c : List ℕ} → check_stmts S r Γ τ (then s empty) a ≡ Ok c → check_stmt S r true Γ τ s a ≡ Ok c
  only_one Γ τ s a h = alone_too Γ τ s a (sym (bind_unit (check_stmt S r false Γ τ s a)) ∙ h)

  pub sequence_complete : {Γ : Levels} {τ : Table Ty} {ss : Stmts} (d : ValidSequence S r (τ ∷ Γ) ss) (a : List ℕ) → check_stmts S r Γ τ ss a ≡ Ok (sequence_stacked d a)
  sequence_complete empty_valid a = refl
  sequence_complete {Γ} {τ} (perform_valid d ds) a = rw (expr_complete S (τ ∷ Γ) d a) (sequence_complete ds (0 ∷ expr_stacked d a))
  sequence_complete {Γ} {τ} (declare_valid {t = t} {xs = xs} h k ds) a =
      rw (names_complete false Γ τ t [] xs (0 ∷ a) (h, k, free_of_none xs)) (sequence_complete ds (blanks_stacked xs (0 ∷ a)))
  sequence_complete {Γ} {τ} (init_valid {t = t} d h ds) a = rw (expr_complete S (τ ∷ Γ) d a, same_self t, h) (sequence_complete ds (0 ∷ expr_stacked d a))
  sequence_complete (return_nothing_valid h ds) a = rw h (sequence_complete ds (0 ∷ a))
  sequence_complete {Γ} {τ} (return_value_valid d ds) a = rw (expr_complete S (τ ∷ Γ) d a, same_self r) (sequence_complete ds (0 ∷ expr_stacked d a))
  sequence_complete (block_valid rs ds) a = rw (sequence_complete rs (0 ∷ a)) (sequence_complete ds (0 ∷ sequence_stacked rs (0 ∷ a)))
  sequence_complete {Γ} {τ} (while_valid {s = s} d d₁ ds) a =
      let b = 0 ∷ expr_stacked d a in
      rw (expr_complete S (τ ∷ Γ) d a, only_one Γ τ s b (sequence_complete d₁ b)) (sequence_complete ds (sequence_stacked d₁ b))
  sequence_complete {Γ} {τ} (choose_valid {s₁ = s₁} {s₂ = s₂} d d₁ d₂ ds) a =
      let b = 0 ∷ expr_stacked d a in
      rw (expr_complete S (τ ∷ Γ) d a, only_one Γ τ s₁ b (sequence_complete d₁ b), only_one Γ τ s₂ (sequence_stacked d₁ b) (sequence_complete d₂ (sequence_stacked d₁ b)))
      (sequence_complete ds (sequence_stacked d₂ (sequence_stacked d₁ b)))

  -- ===== from the checker to the derivation =====
  pub expr_as : (Γ : Levels) (e : Expr) (a : List ℕ) {t u : Ty} {c : List ℕ} → check_expr S Γ e a ≡ Ok (t, c) → u ≡ t → WellTyped S Γ e u
  expr_as Γ e a h i = subst (WellTyped S Γ e) (sym i) (expr_sound S Γ e a h)

  mutual
    pub stmt_sound : (s : Stmt) (own : Truth) (Γ : Levels) (τ : Table Ty) (a : List ℕ) {c : List ℕ} → check_stmt S r own Γ τ s a ≡ Ok c
        → {ss : Stmts} → ValidSequence S r (top_after false s τ ∷ Γ) ss → ValidSequence S r (τ ∷ Γ) (then s ss)
    stmt_sound (perform e) own Γ τ a h d = bound (check_expr S (τ ∷ Γ) e a) _ h λ p h₁ h₂. perform_valid (expr_sound S (τ ∷ Γ) e a h₁) d
    stmt_sound (declare t xs) own Γ τ a h d = let g = names_sound own Γ τ t [] xs (0 ∷ a) h in declare_valid g.0 g.1 d
    stmt_sound (init t x e) own Γ τ a h d = bound (check_expr S (τ ∷ Γ) e a) _ h λ p h₁ h₂.
        let k = init_judged τ Γ t x p.0 (closing_judged S r p.1 (τ ∷ Γ) _ h₂).0 in
        init_valid (expr_as (τ ∷ Γ) e a h₁ k.0) k.1 d
    stmt_sound return_nothing own Γ τ a h d = return_nothing_valid (return_judged r Void (closing_judged S r a (τ ∷ Γ) _ h).0) d
    stmt_sound (return_value e) own Γ τ a h d = bound (check_expr S (τ ∷ Γ) e a) _ h λ p h₁ h₂.
        return_value_valid (expr_as (τ ∷ Γ) e a h₁ (return_judged r p.0 (closing_judged S r p.1 (τ ∷ Γ) _ h₂).0)) d
    stmt_sound (block rs) own Γ τ a h d = bound (check_stmts S r (τ ∷ Γ) [] rs (0 ∷ a)) _ h λ c h₁ h₂. block_valid (stmts_sound rs (τ ∷ Γ) [] (0 ∷ a) h₁) d
    stmt_sound (while e s) own Γ τ a h d = bound (check_expr S (τ ∷ Γ) e a) _ h λ p h₁ h₂.
        bound (closing S r p.1 (τ ∷ Γ) (judge_condition p.0)) _ h₂ λ b h₃ h₄.
        while_valid (expr_as (τ ∷ Γ) e a h₁ (condition_judged p.0 (closing_judged S r p.1 (τ ∷ Γ) _ h₃).0)) (stmt_sound s true Γ τ b h₄ empty_valid) d
    stmt_sound (choose e s₁ s₂) own Γ τ a h d = bound (check_expr S (τ ∷ Γ) e a) _ h λ p h₁ h₂.
        bound (closing S r p.1 (τ ∷ Γ) (judge_condition p.0)) _ h₂ λ b h₃ h₄.
        bound (check_stmt S r true Γ τ s₁ b) _ h₄ λ c h₅ h₆.
        choose_valid (expr_as (τ ∷ Γ) e a h₁ (condition_judged p.0 (closing_judged S r p.1 (τ ∷ Γ) _ h₃).0)) (stmt_sound s₁ true Γ τ b h₅ empty_valid) (stmt_sound s₂ true Γ τ c h₆ empty_valid) d

    pub stmts_sound : (ss : Stmts) (Γ : Levels) (τ : Table Ty) (a : List ℕ) {c : List ℕ} → check_stmts S r Γ τ ss a ≡ Ok c → ValidSequence S r (τ ∷ Γ) ss
    stmts_sound empty Γ τ a h = empty_valid
    stmts_sound (then s ss) Γ τ a h = bound (check_stmt S r false Γ τ s a) _ h λ c h₁ h₂. stmt_sound s false Γ τ a h₁ (stmts_sound ss Γ (top_after false s τ) c h₂)
