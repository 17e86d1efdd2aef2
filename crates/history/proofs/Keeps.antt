-- Every call keeps the working book in step with the plain one.
use Rattle.std.proofs.Common.{◌≡◌, ◌∷◌, Some, None, Ok, Err, Result, sym, refl, ap, ◌∙◌, subst, ap₂}
use Rattle.history.specs.Language.{Fault, Language, signatures}
use Rattle.history.specs.Calls.{Call, History, Act, Act.wrote, Act.emptied, Act.walked, outcome, Answer}
use Rattle.history.specs.Plain.{entries_after, touches, Plain, walks, valid_after, after, stepped, plain, told, answer}
use Rattle.history.specs.Working.{State, working_after, working_stepped, working_told}
use Rattle.history.specs.Runs.{working_answer, Does, Leads, Leads.fresh, Leads.next}
use Rattle.history.specs.Stands.{Sound, Stands}
use Rattle.history.specs.Known.{Known}
use Rattle.history.proofs.Allowed.{Allowed, allowed}
use Rattle.history.proofs.Sounds.{free_none, free_put, sound}
use Rattle.history.proofs.Rows.{same_signatures}
use Rattle.history.proofs.Fresh.{stands_made}
use Rattle.history.proofs.Replaced.{stands_replaced}
use Rattle.history.proofs.Walked.{working_fault_same, working_count_same, stands_walked}

module _ {Frame Def Text : Type 0} (L : Language Frame Def Text) (K : Known L) where
  -- an accepted call keeps the book standing
  pub stands_after : (p : Plain L) (book : State Frame) (a : Act L) → Sound L p → Stands L p book → Allowed L (signatures L p.entries) a → Stands L (after L p a) (working_after L book a)
  unfolding after working_after entries_after valid_after walks touches
  stands_after p book (wrote s d) ok stands al = stands_replaced L K p book s (Some d) ok stands al.0 (free_put L p s d ok al)
  stands_after p book (emptied s) ok stands al = stands_replaced L K p book s None ok stands al (free_none L p.entries s)
  stands_after p book walked ok stands al = stands_walked L K p book ok stands

  -- and so does a refused one
  stands_stepped : (p : Plain L) (book : State Frame) (r : Result (Act L) Fault) → Sound L p → Stands L p book → ((a : Act L) → r ≡ Ok a → Allowed L (signatures L p.entries) a) → Stands L (stepped L p r) (working_stepped L book r)
  unfolding stepped working_stepped
  stands_stepped p book (Ok a) ok stands al = stands_after p book a ok stands (al a refl)
  stands_stepped p book (Err f) ok stands al = stands

  -- each call leads from a history to the next
  pub stands_next : (h : History L) (book : State Frame) (c : Call L) (r : Answer L) (book' : State Frame) → Stands L (plain L h) book → Does L book c r book' → Stands L (plain L (c ∷ h)) book'
  unfolding plain
  stands_next h book c r book' stands d =
      subst (Stands L (plain L (c ∷ h))) (sym (d.left ∙ ap (λ g. working_stepped L book (outcome L g c)) (same_signatures L K (plain L h) book stands)))
      (stands_stepped (plain L h) book (outcome L (signatures L (plain L h).entries) c) (sound L h) stands (λ a e. allowed L (signatures L (plain L h).entries) c a e))

  -- every run since an accepted fresh leaves a book that stands as its history says
  pub stands_run : {h : History L} {book : State Frame} → Leads L h book → Stands L (plain L h) book
  stands_run (fresh f) = stands_made L f
  stands_run (next {h = h} {book = book} {book' = book'} {c = c} {r = r} d l) = stands_next h book c r book' (stands_run l) d

  -- both books tell the same
  told_same : (p : Plain L) (book : State Frame) (r : Result (Act L) Fault) → Sound L p → Stands L p book → working_told L book r ≡ told L p r
  unfolding told working_told
  told_same p book (Err f) ok stands = refl
  told_same p book (Ok (wrote s d)) ok stands = refl
  told_same p book (Ok (emptied s)) ok stands = refl
  told_same p book (Ok walked) ok stands = ap₂ Answer.checked (working_count_same L K p book ok stands) (working_fault_same L K p book ok stands)

  -- each call answers what the plain book says
  pub answers : (h : History L) (book : State Frame) → Stands L (plain L h) book → (c : Call L) → working_answer L book c ≡ answer L h c
  answers h book stands c =
      ap (λ g. working_told L book (outcome L g c)) (same_signatures L K (plain L h) book stands)
      ∙ told_same (plain L h) book (outcome L (signatures L (plain L h).entries) c) (sound L h) stands
