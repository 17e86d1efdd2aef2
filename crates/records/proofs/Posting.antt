-- A post is a reading, a forming and a put.
use Rattle.std.proofs.Common.{◌≡◌, ℕ, List, length, take, Ok, Err, Result, sym, refl, ap, ◌∙◌, subst}
use Rattle.std.specs.Result.{MatchResult, IsErrAnd}
use Rattle.syntax.specs.declared.frame.Frame.{Frame}
use Rattle.syntax.specs.declared.fault.Fault.{Fault as Lower}
use Rattle.syntax.specs.Form.{forms}
use Rattle.codec.specs.Codec.{Reads}
use Rattle.frames.specs.declared.formed.Formed.{Formed}
use Rattle.frames.specs.Sheets.{frames_of}
use Rattle.frames.specs.States.{Refuses, Judged}
use Rattle.history.specs.Language.{Fault}
use Rattle.history.specs.Calls.{Call, Call.post, Call.put, formed, posting, outcome, Answer, Answer.refused}
use Rattle.history.specs.Working.{State, working_signatures, working_stepped, working_told}
use Rattle.history.specs.Runs.{Does}
use Rattle.cpp.specs.Sheet.{Sheet, form}
use Rattle.cpp.specs.Text.{lines_read, reads}
use Rattle.cpp.specs.Reading.{told, filled_with}
use Rattle.cpp.specs.Cpp.{cpp}
use Rattle.cpp.proofs.Sheets.{forms_tied, form_again}
use Rattle.cpp.proofs.Reading.{reads_tied}
use Rattle.records.specs.declared.fault.Fault.{Fault as Refusal}
use Rattle.records.specs.declared.fault.Fault.TheVariants.{Posted}
use Rattle.records.specs.Faults as book
use Rattle.records.specs.Sheets.{sheet_from}
use Rattle.records.proofs.Refusing.{refused_does}

-- the area read into keeps the frames of the lines read
pub room_left : (text : List ℕ) (before after : List Frame) (r : Result ℕ Lower) → Reads text before after r → after ≡ filled_with (lines_read (length before) text).0 before
room_left text before after r w = ((reads_tied.exactly text before after r).0 w).1

module _ (st : State Frame) (s : ℕ) (text : List ℕ) (before after : List Frame) (fl cl : ℕ) (a : Result ℕ Lower) (read : Reads text before after a) where
  -- the call
  abbrev call : Call cpp
  call = post s text (length before) fl cl

  -- what was read and formed decides
  post_outcome : (q : Result Sheet Fault) → formed cpp (reads text (length before)) ≡ q → outcome cpp (working_signatures st) call ≡ posting cpp (working_signatures st) s q fl cl
  unfolding outcome
  post_outcome q e = ap (λ d. posting cpp (working_signatures st) s d fl cl) e

  -- a fault of reading tells the sheet
  pub unread_does : (e : Lower) → a ≡ Err e → Does cpp st call (refused (book.told (Posted e s))) st
  unread_does e i =
      refused_does st call (book.told (Posted e s)) (post_outcome (Err (told e)) (ap (formed cpp) (reads_tied.known text before after (Err e) (subst (Reads text before after) i read))))

  module _ (n : ℕ) (is : a ≡ Ok n) where
    -- the frames read
    frames_read : formed cpp (reads text (length before)) ≡ form (take n after)
    frames_read = ap (formed cpp) (reads_tied.known text before after (Ok n) (subst (Reads text before after) is read))

    -- so does a fault of form
    pub unformed_does : (b : Result (Unit {0}) Lower) → Judged (forms (take n after)) b → (e : Lower) → b ≡ Err e → Does cpp st call (refused (book.told (Posted e s))) st
    unformed_does b w e i =
        let v : Refuses (forms (take n after)) e = subst (Judged (forms (take n after))) i w in
        refused_does st call (book.told (Posted e s))
        (post_outcome (Err (told e)) (frames_read ∙ ((forms_tied.told (take n after)).unformed (told e)).1 (v.same, v.layer, v.sheet)))

    -- of a sheet formed it asks what its put asks
    post_as_put : (x : Formed) → posting cpp (working_signatures st) s (Ok (sheet_from x)) fl cl ≡ outcome cpp (working_signatures st) (put s (sheet_from x) fl cl)
    unfolding outcome
    post_as_put x = refl

    -- so it is the put of the sheet formed
    pub formed_does : (x : Formed) (r : Answer cpp) (st' : State Frame) → frames_of x ≡ take n after → Does cpp st (put s (sheet_from x) fl cl) r st' → Does cpp st call r st'
    formed_does x r st' e d =
        let same = post_outcome (Ok (sheet_from x)) (frames_read ∙ ap form (sym e) ∙ form_again (sheet_from x)) ∙ post_as_put x in
        record {
          answered = d.answered ∙ ap (working_told cpp st) (sym same);
          left = d.left ∙ ap (working_stepped cpp st) (sym same);
        }

-- ## a fault that gets its sheet on the way

module _ {A : Type 0} (s : ℕ) (r : Result A Lower) (m : Result A Refusal) (cases : MatchResult r (λ y. m ≡ Ok y) (λ e. IsErrAnd m (λ z. z ≡ Posted e s))) where
  -- a refusal comes of a fault
  pub posted_err : (x : Refusal) → m ≡ Err x → (e : Lower) × (r ≡ Err e) × (x ≡ Posted e s)
  posted_err x i = by r cases
    where
      by : (r : Result A Lower) → MatchResult r (λ y. m ≡ Ok y) (λ e. IsErrAnd m (λ z. z ≡ Posted e s)) → (e : Lower) × (r ≡ Err e) × (x ≡ Posted e s)
      by (Ok y) c = absurd cc
      by (Err e) c = (e, refl, subst (λ q. IsErrAnd q (λ z. z ≡ Posted e s)) i c)

  -- and what is answered was answered
  pub posted_ok : (y : A) → m ≡ Ok y → r ≡ Ok y
  posted_ok y i = by r cases
    where
      by : (r : Result A Lower) → MatchResult r (λ y. m ≡ Ok y) (λ e. IsErrAnd m (λ z. z ≡ Posted e s)) → r ≡ Ok y
      by (Ok z) c = cc
      by (Err e) c = absurd (subst (λ q. IsErrAnd q (λ z. z ≡ Posted e s)) i c)
