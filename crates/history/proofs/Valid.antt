-- Valid by the recursion over the history is valid by its sentence.
use Rattle.std.proofs.Common.{◌≡◌, ℕ, true, not, ◌↔◌, [], ◌∷◌, None, Ok, Err, Result, refl, ap, ◌∙◌}
use Rattle.std.proofs.lemmas.Bool.{not-true}
use Rattle.history.specs.Words.{count_below, filled}
use Rattle.history.specs.Language.{Fault, Language}
use Rattle.history.specs.Calls.{Call, History, Act, Act.wrote, Act.emptied, Act.walked, Answer.refused, Answer.checked}
use Rattle.history.specs.Plain.{fault_of, Plain, due, valid_after, after, stepped, plain, result, told}
use Rattle.history.specs.Due.{CheckedValid, CheckedValid.just_now, CheckedValid.still}
use Rattle.history.proofs.Words.{filled_none}

module _ {Frame Def Text : Type 0} (L : Language Frame Def Text) where
  -- only a check without 32 and 39 answers valid
  told_valid : (p : Plain L) (r : Result (Act L) Fault) (n : ℕ) → told L p r ≡ checked n None → (r ≡ Ok walked) × (fault_of L p.entries ≡ None)
  unfolding told
  told_valid p (Err f) n e = cc
  told_valid p (Ok (wrote s d)) n e = cc
  told_valid p (Ok (emptied s)) n e = cc
  told_valid p (Ok walked) n e = (refl, cc)

  -- only a refused call tells a refusal
  told_refused : (p : Plain L) (r : Result (Act L) Fault) (f : Fault) → told L p r ≡ refused f → r ≡ Err f
  unfolding told
  told_refused p (Err g) f e = cc
  told_refused p (Ok (wrote s d)) f e = cc
  told_refused p (Ok (emptied s)) f e = cc
  told_refused p (Ok walked) f e = cc

  -- a valid book after one more call
  valid_step : (h : History L) (c : Call L) → ((plain L h).valid ≡ true → CheckedValid L h) → (r : Result (Act L) Fault) → result L h c ≡ r → (stepped L (plain L h) r).valid ≡ true → CheckedValid L (c ∷ h)
  unfolding stepped after valid_after told
  valid_step h c ih (Ok (wrote s d)) i e = cc
  valid_step h c ih (Ok (emptied s)) i e = cc
  valid_step h c ih (Ok walked) i e =
      let none = filled_none (fault_of L (plain L h).entries) (not-true (filled (fault_of L (plain L h).entries)) e) in
      just_now (ap (told L (plain L h)) i ∙ ap (checked (count_below 32 (due L (plain L h)))) none)
  valid_step h c ih (Err f) i e = still (ap (told L (plain L h)) i) (ih e)

  -- a valid book's last accepted call answered valid
  valid_to : (h : History L) → (plain L h).valid ≡ true → CheckedValid L h
  unfolding plain
  valid_to [] e = cc
  valid_to (c ∷ h) e = valid_step h c (valid_to h) (result L h c) refl e

  -- and back
  valid_from : {h : History L} → CheckedValid L h → (plain L h).valid ≡ true
  unfolding plain stepped after valid_after
  valid_from (just_now {h = h} {c = c} {n = n} e) =
      let w = told_valid (plain L h) (result L h c) n e in
      ap (λ r. (stepped L (plain L h) r).valid) w.0 ∙ ap (λ o. not (filled o)) w.1
  valid_from (still {h = h} {c = c} {f = f} e v) =
      ap (λ q. (stepped L (plain L h) q).valid) (told_refused (plain L h) (result L h c) f e) ∙ valid_from v

  -- valid by its sentence
  pub valid_words : (h : History L) → ((plain L h).valid ≡ true) ↔ CheckedValid L h
  valid_words h = (valid_to h, λ v. valid_from v)
