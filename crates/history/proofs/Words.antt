-- Laws of the small words: one thing replaced, the lowest answer, a test over a list.
use Rattle.std.proofs.Common.{◌≡◌, ℕ, zero, suc, ◌<◌, Bool, true, false, cond, Some, None, Option, sym, refl, ap, ◌∙◌, subst, ap₂, inl, inr, arith}
use Rattle.std.proofs.lemmas.Bool.{cases_eq, eq-eqb, ne_eqb}
use Rattle.history.specs.Words.{updated, or_else, lowest, filled}

-- the thing that was replaced
pub updated_same : {X : Type 0} (f : ℕ → X) (s : ℕ) (x : X) → updated f s x s ≡ x
unfolding updated
updated_same f s x = rw (eq-eqb s s refl) refl

-- every other is as before
pub updated_other : {X : Type 0} (f : ℕ → X) (s : ℕ) (x : X) (t : ℕ) → (t ≡ s → ⊥) → updated f s x t ≡ f t
unfolding updated
updated_other f s x t h = rw (ne_eqb t s h) refl

-- a fact of every number, from the fact of the replaced one and of the others
pub updated_all : {X : Type 0} (P : ℕ → X → Type 0) (f : ℕ → X) (s : ℕ) (x : X) (t : ℕ) → (t ≡ s → P t x) → ((t ≡ s → ⊥) → P t (f t)) → P t (updated f s x t)
updated_all P f s x t here there =
    elim (cases_eq t s) [
      | inl e ↦ subst (P t) (sym (ap (updated f s x) e ∙ updated_same f s x)) (here e)
      | inr n ↦ subst (P t) (sym (updated_other f s x t n)) (there n)
    ]

-- no second answer
pub or_else_none : {X : Type 0} (o : Option X) → or_else o None ≡ o
or_else_none (Some x) = refl
or_else_none None = refl

-- the same answers have the same lowest
pub lowest_same : {X : Type 0} (k : ℕ) (f g : ℕ → Option X) → ((t : ℕ) → t < k → f t ≡ g t) → lowest k f ≡ lowest k g
unfolding lowest
lowest_same zero f g h = refl
lowest_same (suc k) f g h = ap₂ or_else (lowest_same k f g (λ t l. h t (omega arith))) (h k (omega arith))

-- no answer, so no lowest
pub lowest_none : {X : Type 0} (k : ℕ) (f : ℕ → Option X) → ((t : ℕ) → t < k → f t ≡ None) → lowest k f ≡ None
unfolding lowest
lowest_none zero f h = refl
lowest_none (suc k) f h = ap₂ or_else (lowest_none k f (λ t l. h t (omega arith))) (h k (omega arith))

-- no answer of two
or_else_parts : {X : Type 0} (o w : Option X) → or_else o w ≡ None → (o ≡ None) × (w ≡ None)
or_else_parts (Some x) w e = cc
or_else_parts None w e = (refl, e)

-- no lowest, so no answer
pub lowest_none_at : {X : Type 0} (k : ℕ) (f : ℕ → Option X) → lowest k f ≡ None → (t : ℕ) → t < k → f t ≡ None
unfolding lowest
lowest_none_at zero f e t l = absurd (omega arith)
lowest_none_at (suc k) f e t l =
    elim (cases_eq t k) [
      | inl i ↦ ap f i ∙ (or_else_parts (lowest k f) (f k) e).1
      | inr n ↦ lowest_none_at k f (or_else_parts (lowest k f) (f k) e).0 t (omega arith)
    ]

-- the only answer is the lowest
pub lowest_only : {X : Type 0} (k : ℕ) (f : ℕ → Option X) (s : ℕ) → s < k → ((t : ℕ) → (t ≡ s → ⊥) → f t ≡ None) → lowest k f ≡ f s
unfolding lowest
lowest_only zero f s l h = absurd (omega arith)
lowest_only (suc k) f s l h =
    elim (cases_eq s k) [
      | inl i ↦ ap (λ o. or_else o (f k)) (lowest_none k f (λ t m. h t (λ j. omega arith))) ∙ ap f (sym i)
      | inr n ↦ ap₂ or_else (lowest_only k f s (omega arith) h) (h k (λ j. n (sym j))) ∙ or_else_none (f s)
    ]

-- the lowest answer with one number more
some_next : {X : Type 0} (k : ℕ) (f : ℕ → Option X) (x : X) → (lowest k f ≡ Some x → (t : ℕ) × (t < k) × (f t ≡ Some x) × ((u : ℕ) → u < t → f u ≡ None)) → or_else (lowest k f) (f k) ≡ Some x → (o : Option X) → lowest k f ≡ o → (t : ℕ) × (t < suc k) × (f t ≡ Some x) × ((u : ℕ) → u < t → f u ≡ None)
some_next k f x ih e (Some y) i =
    let r = ih (i ∙ sym (ap (λ o. or_else o (f k)) i) ∙ e) in
    (r.0, omega (arith, r.1), r.2, r.3)
some_next k f x ih e None i = (k, omega arith, sym (ap (λ o. or_else o (f k)) i) ∙ e, lowest_none_at k f i)

-- where the lowest answer comes from
pub lowest_some : {X : Type 0} (k : ℕ) (f : ℕ → Option X) (x : X) → lowest k f ≡ Some x → (t : ℕ) × (t < k) × (f t ≡ Some x) × ((u : ℕ) → u < t → f u ≡ None)
unfolding lowest
lowest_some zero f x e = cc
lowest_some (suc k) f x e = some_next k f x (λ i. lowest_some k f x i) e (lowest k f) refl

-- an answer under a test: the test holds, and that is the answer
pub cond_parts : {X : Type 0} (b : Bool) (o : Option X) {u : X} → cond b o None ≡ Some u → (b ≡ true) × (o ≡ Some u)
cond_parts true o e = (refl, e)
cond_parts false o e = cc

-- what is not filled is not there
pub filled_none : {X : Type 0} (o : Option X) → filled o ≡ false → o ≡ None
filled_none (Some x) e = cc
filled_none None e = refl
