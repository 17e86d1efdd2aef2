-- A sheet is marked exactly if after each of its walks came a call that touched it.
use Rattle.std.proofs.Common.{◌≡◌, ℕ, Bool, true, false, cond, ◌||◌, ◌⊎◌, [], ◌∷◌, ◌++◌, Ok, Err, Result, sym, refl, ap, ◌∙◌, subst, inl, inr}
use Rattle.std.proofs.lemmas.Bool.{cond-false, cases_Bool, or_cases, or_left, or_right}
use Rattle.history.specs.Language.{Fault, Language, signatures}
use Rattle.history.specs.Calls.{Call, History, Act, Act.wrote, Act.emptied, Act.walked, outcome}
use Rattle.history.specs.Plain.{touches, Plain, due, walks, after, stepped, plain}
use Rattle.history.specs.Due.{Touched, Walked}
use Rattle.history.proofs.Touching.{touched_words, touched_mark}

module _ {Frame Def Text : Type 0} (L : Language Frame Def Text) where
  -- after each walk of the sheet, if there is any, came a call that touched it
  abbrev pub EachBehind : History L → ℕ → Type 0
  EachBehind h t =
      (new : History L) (c : Call L) (old : History L) → h ≡ new ++ (c ∷ old) → Walked L old c t →
      (late : History L) × (k : Call L) × (early : History L) × (new ≡ late ++ (k ∷ early)) × Touched L (early ++ (c ∷ old)) k t

  -- one step of `since`, by what the call does
  abbrev since_by : Plain L → Result (Act L) Fault → ℕ → Bool
  since_by p (Err f) t = p.since t
  since_by p (Ok a) t = cond (walks L p a t) false (touches L p.entries a t || p.since t)

  -- the step is the one of the plain book
  since_step : (p : Plain L) (r : Result (Act L) Fault) (t : ℕ) → (stepped L p r).since t ≡ since_by p r t
  unfolding stepped after
  since_step p (Ok a) t = refl
  since_step p (Err f) t = refl

  -- a call that leaves the sheet behind: it walks it not, and touches it or found it behind
  walk_is : (p : Plain L) (a : Act L) (t : ℕ) → walks L p a t ≡ true → (a ≡ walked) × (due L p t ≡ true)
  unfolding walks
  walk_is p (wrote s d) t e = cc
  walk_is p (emptied s) t e = cc
  walk_is p walked t e = (refl, e)

  -- a walk ends it
  walked_is : (p : Plain L) (t : ℕ) → due L p t ≡ true → since_by p (Ok walked) t ≡ false
  unfolding walks
  walked_is p t e = rw e refl

  -- the step, forwards and backwards
  step_to : (p : Plain L) (r : Result (Act L) Fault) (t : ℕ) → since_by p r t ≡ true → ((a : Act L) × (r ≡ Ok a) × (touches L p.entries a t ≡ true)) ⊎ (p.since t ≡ true)
  step_to p (Err f) t e = inr e
  step_to p (Ok a) t e =
      elim (cases_Bool (walks L p a t)) [
        | inl y ↦ cc (rw y at e)
        | inr y ↦
            elim (or_cases (touches L p.entries a t) (p.since t) (rw y at e)) [
              | inl z ↦ inl (a, refl, z)
              | inr z ↦ inr z
            ]
      ]

  -- a call that walks not, and touches the sheet or found it behind, leaves it behind
  step_from : (p : Plain L) (r : Result (Act L) Fault) (t : ℕ) → (r ≡ Ok walked → due L p t ≡ true → ⊥) → (((a : Act L) → r ≡ Ok a → touches L p.entries a t ≡ false) → p.since t ≡ true) → since_by p r t ≡ true
  step_from p (Err f) t nowalk old = old (λ a e. cc)
  step_from p (Ok a) t nowalk old =
      elim (cases_Bool (walks L p a t)) [
        | inl y ↦ let w = walk_is p a t y in absurd (nowalk (ap Ok w.0) w.1)
        | inr y ↦
            cond-false (walks L p a t) false (touches L p.entries a t || p.since t) y
            ∙ elim (cases_Bool (touches L p.entries a t)) [
              | inl z ↦ or_left (touches L p.entries a t) (p.since t) z
              | inr z ↦ or_right (touches L p.entries a t) (p.since t) (old (λ b e. let i : a ≡ b = cc in subst (λ q. touches L p.entries q t ≡ false) i z))
            ]
      ]

  -- no call comes after none
  pub none_late : (late : History L) (k : Call L) (early : History L) → ◌≡◌ {A = History L} [] (late ++ (k ∷ early)) → ⊥
  none_late [] k early e = cc
  none_late (x ∷ late) k early e = cc

  -- a touch after a walk is not the newest call, if that touches nothing
  later : (h : History L) (t : ℕ) (k : Call L) (new : History L) (c : Call L) (old : History L) → h ≡ new ++ (c ∷ old) → ((a : Act L) → outcome L (signatures L (plain L h).entries) k ≡ Ok a → touches L (plain L h).entries a t ≡ false) → (late : History L) (m : Call L) (early : History L) → k ∷ new ≡ late ++ (m ∷ early) → Touched L (early ++ (c ∷ old)) m t → (late' : History L) × (m' : Call L) × (early' : History L) × (new ≡ late' ++ (m' ∷ early')) × Touched L (early' ++ (c ∷ old)) m' t
  later h t k new c old i none [] m early e w =
      let em : m ≡ k = cc in
      let ee : early ++ (c ∷ old) ≡ h = cc in
      let v : Touched L h k t = rw (em, ee) at w in
      let m = touched_mark L h k t v in
      cc (none m.0 m.1, m.2)
  later h t k new c old i none (x ∷ late) m early e w = (late, m, early, cc, w)

  -- a marked sheet is behind each of its walks
  pub behind : (h : History L) (t : ℕ) → (plain L h).since t ≡ true → EachBehind h t
  unfolding plain
  behind [] t e [] c old i w = cc
  behind [] t e (x ∷ new) c old i w = cc
  behind (k ∷ h) t e [] c old i w =
      let R : Result (Act L) Fault = outcome L (signatures L (plain L h).entries) k in
      let hc : c ≡ k = cc in
      let ho : old ≡ h = cc in
      let v : Walked L h k t = rw (hc, ho) at w in
      cc (v.0, walked_is (plain L h) t v.1, since_step (plain L h) R t)
  behind (k ∷ h) t e (x ∷ new) c old i w =
      let R : Result (Act L) Fault = outcome L (signatures L (plain L h).entries) k in
      let hx : k ≡ x = cc in
      let hh : h ≡ new ++ (c ∷ old) = cc in
      elim (step_to (plain L h) R t (sym (since_step (plain L h) R t) ∙ e)) [
        | inl m ↦ ([], k, new, ap (λ q. q ∷ new) (sym hx), subst (λ q. Touched L q k t) hh (touched_words L h k t m))
        | inr m ↦ let r = behind h t m new c old hh w in (x ∷ r.0, r.1, r.2, ap (λ q. x ∷ q) r.3, r.4)
      ]

  -- a sheet that is behind each of its walks is marked
  pub since_of : (h : History L) (t : ℕ) → EachBehind h t → (plain L h).since t ≡ true
  unfolding plain
  since_of [] t b = refl
  since_of (k ∷ h) t b =
      let R : Result (Act L) Fault = outcome L (signatures L (plain L h).entries) k in
      since_step (plain L h) R t
      ∙ step_from (plain L h) R t
      (λ i w. let r = b [] k h refl (i, w) in none_late r.0 r.1 r.2 r.3)
      (λ none. since_of h t (λ new c old i w. let r = b (k ∷ new) c old (ap (λ q. k ∷ q) i) w in later h t k new c old i none r.0 r.1 r.2 r.3 r.4))
