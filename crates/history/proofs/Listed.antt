-- The filled sheets can be listed.
use Rattle.std.proofs.Common.{◌≡◌, ℕ, zero, suc, ◌<◌, true, false, cond, ◌||◌, eqb, List, [], ◌∷◌, sym, refl, ◌∙◌, ap₂, inl, inr, arith}
use Rattle.std.proofs.lemmas.Bool.{cases_eq, cases_lt, cases_Bool, eq-eqb, ne_eqb, cond_both, or_left, or_right}
use Rattle.history.specs.Words.{any_of, filled}
use Rattle.history.specs.Language.{Language, Entries}
use Rattle.history.specs.Stands.{Orderly}
use Rattle.history.specs.Law.{Lists}

module _ {Frame Def Text : Type 0} (L : Language Frame Def Text) (e : Entries L) where
  -- the filled sheets below k
  filled_below : ℕ → List ℕ
  filled_below zero = []
  filled_below (suc k) = cond (filled (e k)) (k ∷ filled_below k) (filled_below k)

  -- each filled sheet below k is listed
  listed_in : (k t : ℕ) → t < k → filled (e t) ≡ true → any_of (eqb t) (filled_below k) ≡ true
  unfolding filled_below any_of
  listed_in zero t l f = absurd (omega arith)
  listed_in (suc k) t l f =
      cond_both (filled (e k)) (k ∷ filled_below k) (filled_below k) (λ ss. any_of (eqb t) ss ≡ true)
      (λ y.
      elim (cases_eq t k) [
        | inl i ↦ or_left (eqb t k) (any_of (eqb t) (filled_below k)) (eq-eqb t k i)
        | inr n ↦ or_right (eqb t k) (any_of (eqb t) (filled_below k)) (listed_in k t (omega arith) f)
      ])
      (λ y.
      elim (cases_eq t k) [
        | inl i ↦ cc
        | inr n ↦ listed_in k t (omega arith) f
      ])

  -- and no empty one
  listed_not : (k t : ℕ) → filled (e t) ≡ false → any_of (eqb t) (filled_below k) ≡ false
  unfolding filled_below any_of
  listed_not zero t f = refl
  listed_not (suc k) t f =
      cond_both (filled (e k)) (k ∷ filled_below k) (filled_below k) (λ ss. any_of (eqb t) ss ≡ false)
      (λ y. ap₂ ◌||◌ (ne_eqb t k (λ i. cc)) (listed_not k t f))
      (λ y. listed_not k t f)

  -- so the list of the filled sheets below 32 has just the filled ones
  pub listed : Orderly L e → (ss : List ℕ) × Lists L ss e
  listed ok = (
    filled_below 32,
    λ t.
        elim (cases_Bool (filled (e t))) [
          | inl y ↦
              elim (cases_lt t 32) [
                | inl l ↦ listed_in 32 t l y ∙ sym y
                | inr l ↦ cc (ok.small t l)
              ]
          | inr y ↦ listed_not 32 t y ∙ sym y
        ],
  )
