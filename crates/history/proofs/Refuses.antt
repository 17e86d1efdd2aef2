-- Which fault each refused call tells.
use Rattle.std.proofs.Common.{◌≡◌, ℕ, ◌<◌, true, false, not, ◌||◌, ltb, ◌⊎◌, None, Ok, Err, Result, sym, refl, ap, ◌∙◌, inl, inr, arith}
use Rattle.std.proofs.lemmas.Bool.{cases_Bool, lt-ltb, le-ltb, or_left, or_right}
use Rattle.history.specs.Words.{updated, lowest, filled}
use Rattle.history.specs.Language.{Fault, Signatures, head_for, Language, signatures}
use Rattle.history.specs.Calls.{refusal, sized, History, Act, Act.wrote, Act.emptied, guard, unless_repeated, elsewhere, putting, formed, posting, clearing, checking, outcome, Answer.refused}
use Rattle.history.specs.Plain.{Plain, plain, told}
use Rattle.history.specs.Refuses.{NameTaken, Refuses}
use Rattle.history.proofs.Words.{updated_other, lowest_none_at, filled_none}
use Rattle.history.proofs.Accepts.{both_passed, named, nowhere}

module _ {Frame Def Text : Type 0} (L : Language Frame Def Text) where
  open L use {name, head, repeated, form, reads}

  -- a refused call tells its refusal
  told_err : (p : Plain L) (r : Result (Act L) Fault) (f : Fault) → r ≡ Err f → told L p r ≡ refused f
  unfolding told
  told_err p r f e = ap (told L p) e

  module _ (h : History L) where
    -- the signatures after the history
    abbrev signed : Signatures
    signed = signatures L (plain L h).entries

    -- 33 and 34 of a put
    abbrev names : ℕ → Def → Result (Act L) Fault
    names s d = guard L (elsewhere L signed s (name d)) (refusal 33 s) (unless_repeated L (repeated d) s (wrote s d))

    -- the first two tests, of a call that names a sheet
    first_31 : (s fl cl : ℕ) (r : Result (Act L) Fault) → 31 < s → guard L (ltb 31 s) (refusal 31 s) (guard L (not (sized fl cl)) (refusal 32 s) r) ≡ Err (refusal 31 s)
    first_31 s fl cl r l = rw (lt-ltb 31 s l) refl

    -- 32 of a call that names a sheet
    second_32 : (s fl cl : ℕ) (r : Result (Act L) Fault) → s < 32 → sized fl cl ≡ false → guard L (ltb 31 s) (refusal 31 s) (guard L (not (sized fl cl)) (refusal 32 s) r) ≡ Err (refusal 32 s)
    second_32 s fl cl r l e = rw (le-ltb 31 s (omega arith), e) refl

    -- a taken name is found
    taken : (s n : ℕ) → NameTaken L (plain L h).entries s n → elsewhere L signed s n ≡ true
    taken s n w =
        elim (cases_Bool (elsewhere L signed s n)) [
          | inl y ↦ y
          | inr y ↦
              let none = lowest_none_at 32 (λ t. head_for n (updated signed s None t)) (filled_none (lowest 32 (λ t. head_for n (updated signed s None t))) y) w.0 w.2 in
              absurd (named L n ((plain L h).entries w.0) (sym (ap (head_for n) (updated_other signed s None w.0 w.3)) ∙ none) w.1 w.4 w.5)
        ]

    -- a store is too small
    small_store : (a b : ℕ) → (a < 256) ⊎ (b < 256) → (ltb a 256 || ltb b 256) ≡ true
    small_store a b (inl l) = or_left (ltb a 256) (ltb b 256) (lt-ltb a 256 l)
    small_store a b (inr l) = or_right (ltb a 256) (ltb b 256) (lt-ltb b 256 l)

    -- the refusals after a history
    pub refuses : Refuses L h
    unfolding outcome
    refuses =
        let p = plain L h in
        record {
          put_31 = λ s d fl cl l. told_err p (putting L signed s d fl cl) (refusal 31 s) (first_31 s fl cl (names s d) l);
          put_32 = λ s d fl cl l e. told_err p (putting L signed s d fl cl) (refusal 32 s) (second_32 s fl cl (names s d) l e);
          put_33 = λ s d l w.
              told_err p (putting L signed s d 8192 8192) (refusal 33 s)
              (both_passed L s 8192 8192 (names s d) l refl refl ∙ rw (taken s (name d) w) refl);
          put_34 = λ s d k l free e.
              told_err p (putting L signed s d 8192 8192) (record { number = 34; layer = 3; sheet = s; place = k })
              (both_passed L s 8192 8192 (names s d) l refl refl
              ∙ rw (nowhere L h s (name d) free, e) refl);
          post_read = λ s t room fl cl f e.
              told_err p (posting L signed s (formed L (reads t room)) fl cl) (record { number = f.number; layer = f.layer; sheet = s; place = f.place })
              (ap (λ o. posting L signed s (formed L o) fl cl) e);
          post_form = λ s t room fl cl fs f e i.
              told_err p (posting L signed s (formed L (reads t room)) fl cl) (record { number = f.number; layer = f.layer; sheet = s; place = f.place })
              (ap (λ o. posting L signed s (formed L o) fl cl) e ∙ ap (λ o. posting L signed s o fl cl) i);
          post_put = λ s t room fl cl fs d e i. ap (told L p) (ap (λ o. posting L signed s (formed L o) fl cl) e ∙ ap (λ o. posting L signed s o fl cl) i);
          clear_31 = λ s fl cl l. told_err p (clearing L signed s fl cl) (refusal 31 s) (first_31 s fl cl (guard L (not (filled (signed s))) (refusal 35 s) (Ok (emptied s))) l);
          clear_32 = λ s fl cl l e. told_err p (clearing L signed s fl cl) (refusal 32 s) (second_32 s fl cl (guard L (not (filled (signed s))) (refusal 35 s) (Ok (emptied s))) l e);
          clear_35 = λ s l i.
              told_err p (clearing L signed s 8192 8192) (refusal 35 s)
              (both_passed L s 8192 8192 _ l refl refl
              ∙ rw i refl);
          check_32 = λ fl cl a b e.
              told_err p (checking L fl cl a b) (refusal 32 255) (rw e refl);
          check_39 = λ a b w.
              told_err p (checking L 8192 8192 a b) (refusal 39 255) (rw (small_store a b w) refl);
        }
