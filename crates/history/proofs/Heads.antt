-- Head tables: where they agree, and what becomes of them when one sheet's signature is replaced.
use Rattle.std.proofs.Common.{◌≡◌, ℕ, ◌<◌, true, false, not, eqb, List, [], ◌∷◌, Some, None, Option, sym, refl, ap, ◌∙◌, ap₂, inl, inr}
use Rattle.std.proofs.lemmas.Bool.{cases_Bool, eq-eqb, or_parts, eqb-true, not-false}
use Rattle.history.specs.Words.{updated, any_of, filled}
use Rattle.history.specs.Language.{Heads, Signatures, head_for, differ, heads_of, Agree}
use Rattle.history.specs.Stands.{Apart}
use Rattle.history.proofs.Words.{updated_same, updated_other, updated_all, lowest_same, lowest_only, filled_none}

-- a head differs not from itself
pub differ_self : (a : Option ℕ) → differ a a ≡ false
differ_self None = refl
differ_self (Some a) = ap not (eq-eqb a a refl)

-- heads that do not differ are the same
pub differ_false : (a b : Option ℕ) → differ a b ≡ false → a ≡ b
differ_false None None e = refl
differ_false None (Some b) e = cc
differ_false (Some a) None e = cc
differ_false (Some a) (Some b) e = ap Some (eqb-true a b (not-false (eqb a b) e))

-- heads that differ are not the same
pub differ_true : (a b : Option ℕ) → differ a b ≡ true → a ≡ b → ⊥
differ_true a b e i = cc (differ_self a)

-- heads that are not the same differ
pub differ_unequal : (a b : Option ℕ) → (a ≡ b → ⊥) → differ a b ≡ true
differ_unequal a b n =
    elim (cases_Bool (differ a b)) [
      | inl y ↦ y
      | inr y ↦ absurd (n (differ_false a b y))
    ]

-- tables that differ on no listed name agree on them
pub agree_since : (h k : Heads) (ns : List ℕ) → any_of (λ n. differ (h n) (k n)) ns ≡ false → Agree h k ns
unfolding any_of
agree_since h k [] e = tt
agree_since h k (n ∷ ns) e =
    let b = or_parts (differ (h n) (k n)) (any_of (λ m. differ (h m) (k m)) ns) e in
    (differ_false (h n) (k n) b.0, agree_since h k ns b.1)

-- no sheet but s has the name
abbrev pub Alone : Signatures → ℕ → ℕ → Type 0
Alone g s n = (t : ℕ) → (t ≡ s → ⊥) → head_for n (g t) ≡ None

-- where names stand apart, a sheet has its name alone
pub alone_of : (g : Signatures) (s n : ℕ) → Apart g → filled (head_for n (g s)) ≡ true → Alone g s n
alone_of g s n apart f t ne =
    elim (cases_Bool (filled (head_for n (g t)))) [
      | inl y ↦ absurd (ne (apart t s n y f))
      | inr y ↦ filled_none (head_for n (g t)) y
    ]

-- the head of a name is that of the one sheet that can have it
heads_alone : (g : Signatures) (s n : ℕ) → s < 32 → Alone g s n → heads_of g n ≡ head_for n (g s)
unfolding heads_of
heads_alone g s n l a = lowest_only 32 (λ t. head_for n (g t)) s l a

-- replacing that sheet's signature keeps it so
alone_updated : (g : Signatures) (s n : ℕ) (w : Option (ℕ × ℕ)) → Alone g s n → Alone (updated g s w) s n
alone_updated g s n w a t ne = ap (head_for n) (updated_other g s w t ne) ∙ a t ne

-- the head of its name is altered as its signature is
pub heads_updated_alone : (g : Signatures) (s n : ℕ) (w : Option (ℕ × ℕ)) → s < 32 → Alone g s n → differ (heads_of g n) (heads_of (updated g s w) n) ≡ differ (head_for n (g s)) (head_for n w)
heads_updated_alone g s n w l a =
    ap₂ differ (heads_alone g s n l a) (heads_alone (updated g s w) s n l (alone_updated g s n w a) ∙ ap (head_for n) (updated_same g s w))

-- the head of another name is not altered
heads_updated_none : (g : Signatures) (s n : ℕ) (w : Option (ℕ × ℕ)) → head_for n (g s) ≡ None → head_for n w ≡ None → heads_of g n ≡ heads_of (updated g s w) n
unfolding heads_of
heads_updated_none g s n w p q =
    lowest_same 32 (λ t. head_for n (g t)) (λ t. head_for n (updated g s w t))
    (λ t l. updated_all (λ u o. head_for n (g u) ≡ head_for n o) g s w t (λ i. ap (λ u. head_for n (g u)) i ∙ p ∙ sym q) (λ _. refl))

-- a name's head is altered exactly when the replaced signatures differ on it
pub heads_altered : (g : Signatures) (s : ℕ) (w : Option (ℕ × ℕ)) → s < 32 → Apart g → ((n : ℕ) → filled (head_for n w) ≡ true → Alone g s n) → (n : ℕ) → differ (heads_of g n) (heads_of (updated g s w) n) ≡ differ (head_for n (g s)) (head_for n w)
heads_altered g s w l apart free n =
    elim (cases_Bool (filled (head_for n (g s)))) [
      | inl y ↦ heads_updated_alone g s n w l (alone_of g s n apart y)
      | inr y ↦
          elim (cases_Bool (filled (head_for n w))) [
            | inl z ↦ heads_updated_alone g s n w l (free n z)
            | inr z ↦
                let p = filled_none (head_for n (g s)) y in
                let q = filled_none (head_for n w) z in
                cc (heads_updated_none g s n w p q, differ_self (heads_of (updated g s w) n))
          ]
    ]
