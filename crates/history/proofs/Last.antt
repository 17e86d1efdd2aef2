-- Due by the recursion over the history is due by its sentence: the last walk of a sheet stands for all of its walks.
use Rattle.std.proofs.Common.{◌≡◌, ℕ, true, ◌⊎◌, ◌↔◌, [], ◌∷◌, ◌++◌, Ok, Err, Result, sym, refl, ap, ◌∙◌, subst, ap₂, inl, inr, append_assoc}
use Rattle.std.proofs.lemmas.Bool.{cases_Bool, and_parts, and_from}
use Rattle.history.specs.Words.{filled}
use Rattle.history.specs.Language.{Fault, Language}
use Rattle.history.specs.Calls.{Call, History, Act, Act.wrote, Act.emptied, Act.walked}
use Rattle.history.specs.Plain.{due, plain, result}
use Rattle.history.specs.Due.{Touched, Walked, NeverWalked, LastWalk, TouchedSince, Behind}
use Rattle.history.proofs.Due.{EachBehind, none_late, behind, since_of}

module _ {Frame Def Text : Type 0} (L : Language Frame Def Text) where
  -- whether a call walks a sheet is decided
  walked_cases : (h : History L) (c : Call L) (t : ℕ) (r : Result (Act L) Fault) → result L h c ≡ r → Walked L h c t ⊎ (Walked L h c t → ⊥)
  walked_cases h c t (Err f) i = inr (λ w. cc w.0)
  walked_cases h c t (Ok (wrote s d)) i = inr (λ w. cc w.0)
  walked_cases h c t (Ok (emptied s)) i = inr (λ w. cc w.0)
  walked_cases h c t (Ok walked) i =
      elim (cases_Bool (due L (plain L h) t)) [
        | inl y ↦ inl (i, y)
        | inr y ↦ inr (λ w. cc w.1)
      ]

  -- a newest call that walks not leaves a sheet never walked as it was
  never_more : (c : Call L) (h : History L) (t : ℕ) → (Walked L h c t → ⊥) → NeverWalked L h t → NeverWalked L (c ∷ h) t
  never_more c h t idle never [] k early e w =
      let i : k ≡ c = cc in
      let j : early ≡ h = cc in
      idle (rw (i, j) at w)
  never_more c h t idle never (x ∷ late) k early e w = never late k early (cc) w

  -- and its last walk too
  last_more : (c : Call L) (h new : History L) (k : Call L) (old : History L) (t : ℕ) → h ≡ new ++ (k ∷ old) → (Walked L h c t → ⊥) → ((late : History L) (m : Call L) (early : History L) → new ≡ late ++ (m ∷ early) → Walked L (early ++ (k ∷ old)) m t → ⊥) → (late : History L) (m : Call L) (early : History L) → c ∷ new ≡ late ++ (m ∷ early) → Walked L (early ++ (k ∷ old)) m t → ⊥
  last_more c h new k old t all idle last [] m early e w =
      let i : m ≡ c = cc in
      let j : early ++ (k ∷ old) ≡ h = cc in
      idle (rw (i, j) at w)
  last_more c h new k old t all idle last (x ∷ late) m early e w = last late m early (cc) w

  -- one call more
  last_step : (c : Call L) (h : History L) (t : ℕ) → Walked L h c t ⊎ (Walked L h c t → ⊥) → NeverWalked L h t ⊎ LastWalk L h t → NeverWalked L (c ∷ h) t ⊎ LastWalk L (c ∷ h) t
  last_step c h t (inl w) o = inr (record { new = []; walk = c; old = h; all = refl; happened = w; last = λ late k early e _. none_late L late k early e })
  last_step c h t (inr idle) (inl never) = inl (never_more c h t idle never)
  last_step c h t (inr idle) (inr w) =
      inr (record {
        new = c ∷ w.new;
        walk = w.walk;
        old = w.old;
        all = ap (λ q. c ∷ q) w.all;
        happened = w.happened;
        last = last_more c h w.new w.walk w.old t w.all idle w.last;
      })

  -- a history has a last walk of the sheet, or none
  last_walk : (h : History L) (t : ℕ) → NeverWalked L h t ⊎ LastWalk L h t
  last_walk [] t = inl (λ late k early e _. none_late L late k early e)
  last_walk (c ∷ h) t = last_step c h t (walked_cases h c t (result L h c) refl) (last_walk h t)

  -- two places of one history: the second is older, the same, or newer
  abbrev Older : History L → Call L → History L → History L → Call L → History L → Type 0
  Older new c old new' c' old' = (mid : History L) × (new' ≡ new ++ (c ∷ mid)) × (old ≡ mid ++ (c' ∷ old'))

  -- which of the three it is
  places_cases : (new : History L) (c : Call L) (old new' : History L) (c' : Call L) (old' : History L) → new ++ (c ∷ old) ≡ new' ++ (c' ∷ old') → Older new c old new' c' old' ⊎ (((new ≡ new') × (c ≡ c') × (old ≡ old')) ⊎ Older new' c' old' new c old)
  places_cases [] c old [] c' old' e = inr (inl (refl, cc, cc))
  places_cases [] c old (x ∷ new') c' old' e = inl (new', cc, cc)
  places_cases (x ∷ new) c old [] c' old' e = inr (inr (new, cc, cc))
  places_cases (x ∷ new) c old (y ∷ new') c' old' e =
      let i : x ≡ y = cc in
      let j : new ++ (c ∷ old) ≡ new' ++ (c' ∷ old') = cc in
      elim (places_cases new c old new' c' old' j) [
        | inl m ↦ inl (m.0, ap₂ ◌∷◌ (sym i) m.1, m.2)
        | inr (inl m) ↦ inr (inl (ap₂ ◌∷◌ i m.0, m.1, m.2))
        | inr (inr m) ↦ inr (inr (m.0, ap₂ ◌∷◌ i m.1, m.2))
      ]

  -- what came after the last walk came after each
  since_each : (h : History L) (t : ℕ) (w : LastWalk L h t) → TouchedSince L h t w → EachBehind L h t
  since_each h t w s new' c' old' e v =
      elim (places_cases w.new w.walk w.old new' c' old' (sym w.all ∙ e)) [
        | inl m ↦ (
          s.0,
          s.1,
          s.2 ++ (w.walk ∷ m.0),
          m.1 ∙ ap (λ q. q ++ (w.walk ∷ m.0)) s.3 ∙ append_assoc s.0 (s.1 ∷ s.2) (w.walk ∷ m.0),
          subst (λ q. Touched L q s.1 t) (ap (λ q. s.2 ++ (w.walk ∷ q)) m.2 ∙ sym (append_assoc s.2 (w.walk ∷ m.0) (c' ∷ old'))) s.4,
        )
        | inr (inl m) ↦ (s.0, s.1, s.2, sym m.0 ∙ s.3, subst (λ q. Touched L (s.2 ++ q) s.1 t) (ap₂ ◌∷◌ m.1 m.2) s.4)
        | inr (inr m) ↦ absurd (w.last new' c' m.0 m.1 (subst (λ q. Walked L q c' t) m.2 v))
      ]

  -- behind each walk is behind by the sentence
  sentence : (h : History L) (t : ℕ) → EachBehind L h t → Behind L h t
  sentence h t b =
      elim (last_walk h t) [
        | inl n ↦ inl n
        | inr w ↦ inr (w, b w.new w.walk w.old w.all w.happened)
      ]

  -- and back
  each : (h : History L) (t : ℕ) → Behind L h t → EachBehind L h t
  each h t (inl n) new c old e w = absurd (n new c old e w)
  each h t (inr s) new c old e w = since_each h t s.0 s.1 new c old e w

  -- due by its sentence
  pub due_words : (h : History L) (t : ℕ) → (due L (plain L h) t ≡ true) ↔ ((filled ((plain L h).entries t) ≡ true) × Behind L h t)
  due_words h t = (
    (λ e. let p = and_parts (filled ((plain L h).entries t)) ((plain L h).since t) e in (p.0, sentence h t (behind L h t p.1))),
    λ q. and_from (filled ((plain L h).entries t)) ((plain L h).since t) q.0 (since_of L h t (each h t q.1)),
  )
