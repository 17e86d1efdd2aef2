-- A touched sheet by the plain book's mark is one by the sentence.
use Rattle.std.proofs.Common.{◌≡◌, ℕ, Bool, true, eqb, ◌⊎◌, List, [], ◌∷◌, Some, None, Ok, Option, refl, ap, ◌∙◌, subst, inl, inr}
use Rattle.std.proofs.lemmas.Bool.{eq-eqb, eqb-true, or_cases, or_left, or_right}
use Rattle.history.specs.Words.{any_of, Among}
use Rattle.history.specs.Language.{differ, Language, Entries, heads_in}
use Rattle.history.specs.Calls.{Call, History, Act, Act.wrote, Act.emptied, Act.walked}
use Rattle.history.specs.Plain.{entries_after, calls_altered, touches, after, stepped, plain, result}
use Rattle.history.specs.Due.{PutOn, CallsAltered, Touched}
use Rattle.history.proofs.Heads.{differ_true, differ_unequal}

-- a test that holds of one of the listed numbers
any_among : (p : ℕ → Bool) (ns : List ℕ) → any_of p ns ≡ true → (n : ℕ) × Among n ns × (p n ≡ true)
unfolding any_of
any_among p [] e = cc
any_among p (n ∷ ns) e =
    elim (or_cases (p n) (any_of p ns) e) [
      | inl y ↦ (n, inl refl, y)
      | inr y ↦ let r = any_among p ns y in (r.0, inr r.1, r.2)
    ]

-- one of the listed numbers of which a test holds
among_any : (p : ℕ → Bool) (ns : List ℕ) (n : ℕ) → Among n ns → p n ≡ true → any_of p ns ≡ true
unfolding any_of
among_any p [] n a e = absurd a
among_any p (m ∷ ms) n (inl i) e = or_left (p m) (any_of p ms) (subst (λ q. p q ≡ true) i e)
among_any p (m ∷ ms) n (inr a) e = or_right (p m) (any_of p ms) (among_any p ms n a e)

module _ {Frame Def Text : Type 0} (L : Language Frame Def Text) where
  open L use {writing, calls}

  -- a marked caller calls an altered name
  altered_at : (e k : Entries L) (t : ℕ) (x : Option Def) → e t ≡ x → calls_altered L (heads_in L e) (heads_in L k) x ≡ true → CallsAltered L e k t
  altered_at e k t None i a = cc
  altered_at e k t (Some d) i a =
      let r = any_among (λ n. differ (heads_in L e n) (heads_in L k n)) (calls (writing d)) a in
      (d, r.0, i, r.1, differ_true (heads_in L e r.0) (heads_in L k r.0) r.2)

  -- the same of a sheet
  altered_words : (e k : Entries L) (t : ℕ) → calls_altered L (heads_in L e) (heads_in L k) (e t) ≡ true → CallsAltered L e k t
  altered_words e k t a = altered_at e k t (e t) refl a

  -- and a caller of an altered name is marked
  altered_mark : (e k : Entries L) (t : ℕ) → CallsAltered L e k t → calls_altered L (heads_in L e) (heads_in L k) (e t) ≡ true
  altered_mark e k t w =
      ap (calls_altered L (heads_in L e) (heads_in L k)) w.2
      ∙ among_any (λ n. differ (heads_in L e n) (heads_in L k n)) (calls (writing w.0)) w.1 w.3 (differ_unequal (heads_in L e w.1) (heads_in L k w.1) w.4)

  -- a touch by the mark is one by the sentence
  touch_words : (e : Entries L) (a : Act L) (t : ℕ) → touches L e a t ≡ true → PutOn L a t ⊎ CallsAltered L e (entries_after L e a) t
  unfolding touches
  touch_words e (wrote s d) t m =
      elim (or_cases (eqb t s) (calls_altered L (heads_in L e) (heads_in L (entries_after L e (wrote s d))) (e t)) m) [
        | inl y ↦ inl (eqb-true t s y)
        | inr y ↦ inr (altered_words e (entries_after L e (wrote s d)) t y)
      ]
  touch_words e (emptied s) t m = inr (altered_words e (entries_after L e (emptied s)) t m)
  touch_words e walked t m = cc

  -- and back
  touch_mark : (e : Entries L) (a : Act L) (t : ℕ) → PutOn L a t ⊎ CallsAltered L e (entries_after L e a) t → touches L e a t ≡ true
  unfolding touches entries_after
  touch_mark e (wrote s d) t (inl i) = or_left (eqb t s) (calls_altered L (heads_in L e) (heads_in L (entries_after L e (wrote s d))) (e t)) (eq-eqb t s i)
  touch_mark e (wrote s d) t (inr w) = or_right (eqb t s) (calls_altered L (heads_in L e) (heads_in L (entries_after L e (wrote s d))) (e t)) (altered_mark e (entries_after L e (wrote s d)) t w)
  touch_mark e (emptied s) t (inl i) = absurd i
  touch_mark e (emptied s) t (inr w) = altered_mark e (entries_after L e (emptied s)) t w
  touch_mark e walked t (inl i) = absurd i
  touch_mark e walked t (inr w) = absurd (w.4 refl)

  -- the entries after an accepted call
  entries_next : (h : History L) (c : Call L) (a : Act L) → result L h c ≡ Ok a → (plain L (c ∷ h)).entries ≡ entries_after L (plain L h).entries a
  unfolding plain stepped after
  entries_next h c a e = ap (λ r. (stepped L (plain L h) r).entries) e

  -- touched by the plain book's mark
  abbrev pub Marked : History L → Call L → ℕ → Type 0
  Marked h c t = (a : Act L) × (result L h c ≡ Ok a) × (touches L (plain L h).entries a t ≡ true)

  -- the same after a history
  pub touched_words : (h : History L) (c : Call L) (t : ℕ) → Marked h c t → Touched L h c t
  touched_words h c t m =
      (m.0, m.1, rw (entries_next h c m.0 m.1) (touch_words (plain L h).entries m.0 t m.2))

  -- and back
  pub touched_mark : (h : History L) (c : Call L) (t : ℕ) → Touched L h c t → Marked h c t
  touched_mark h c t w =
      (w.0, w.1, touch_mark (plain L h).entries w.0 t (rw (entries_next h c w.0 w.1) at w.2))
