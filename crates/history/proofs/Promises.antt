-- A call that does as it should keeps its promise over every history.
use Rattle.std.proofs.Common.{◌≡◌, ℕ, Bool, true, false, cond, not, ◌||◌, ltb, List, ◌∷◌, Some, None, Ok, Err, Option, Result, sym, refl, ap, ◌∙◌, subst, ap₂, inl, inr}
use Rattle.std.proofs.lemmas.Bool.{cases_Bool}
use Rattle.history.specs.Words.{filled}
use Rattle.history.specs.Language.{Fault, Signatures, Language}
use Rattle.history.specs.Calls.{refusal, sized, reader_refusal, Call, Call.post, Call.put, Call.clear, Call.check, Act, Act.emptied, Act.walked, guard, unless_repeated, elsewhere, putting, formed, posting, outcome, Answer}
use Rattle.history.specs.Working.{State, working_signatures, working_reading, working_stepped, working_told, asked}
use Rattle.history.specs.Runs.{Does}
use Rattle.history.specs.Known.{Known}
use Rattle.history.specs.Promise.{with_areas, fitted, Handed, left_by, Promise, ReaderPromise, QuestionPromise}
use Rattle.history.proofs.Readable.{typed, readable}
use Rattle.history.proofs.Laws.{lawful}

module _ {Frame Def Text : Type 0} (L : Language Frame Def Text) (K : Known L) where
  open L use {name, repeated, reads}

  -- the call is refused
  abbrev Fails : Result (Act L) Fault → Type 0
  Fails r = (f : Fault) × (r ≡ Err f)

  -- the second of two tests refuses, unless the first does
  second : (b : Bool) (f g : Fault) (r : Result (Act L) Fault) (s : Bool) → s ≡ false → Fails (guard L b f (guard L (not s) g r))
  second true f g r s e = (f, refl)
  second false f g r s e = (g, ap (λ q. guard L (not q) g r) e)

  -- a put over areas of another length
  put_refused : (g : Signatures) (s : ℕ) (d : Def) (fl cl : ℕ) → sized fl cl ≡ false → Fails (putting L g s d fl cl)
  put_refused g s d fl cl e =
      second (ltb 31 s) (refusal 31 s) (refusal 32 s) (guard L (elsewhere L g s (name d)) (refusal 33 s) (unless_repeated L (repeated d) s (Act.wrote s d))) (sized fl cl) e

  -- a post over areas of another length
  post_refused : (g : Signatures) (s : ℕ) (r : Result Def Fault) (fl cl : ℕ) → sized fl cl ≡ false → Fails (posting L g s r fl cl)
  post_refused g s (Err f) fl cl e = (_, refl)
  post_refused g s (Ok d) fl cl e = put_refused g s d fl cl e

  -- a call with an area of another length is refused
  unfitted : (g : Signatures) (c : Call L) → fitted L c ≡ false → Fails (outcome L g c)
  unfolding outcome
  unfitted g (post s t room fl cl) e = post_refused g s (formed L (reads t room)) fl cl e
  unfitted g (put s d fl cl) e = put_refused g s d fl cl e
  unfitted g (clear s fl cl) e =
      second (ltb 31 s) (refusal 31 s) (refusal 32 s) (guard L (not (filled (g s))) (refusal 35 s) (Ok (emptied s))) (sized fl cl) e
  unfitted g (check fl cl a b) e =
      (refusal 32 255, ap (λ q. guard L (not q) (refusal 32 255) (guard L (ltb a 256 || ltb b 256) (refusal 39 255) (Ok walked))) e)

  -- what it does to areas of another length it does beside the book's own areas
  aside : (book : State Frame) (c : Call L) (r : Answer L) (book' : State Frame) (f : List Frame) (k : List ℕ) → fitted L c ≡ false → Does L book c r book' → Does L (with_areas book f k) c r (with_areas book' f k)
  unfolding working_told working_stepped
  aside book c r book' f k e d =
      let u = unfitted (working_signatures book) c e in
      record {
        answered = d.answered ∙ ap (working_told L book) u.1 ∙ sym (ap (working_told L (with_areas book f k)) u.1);
        left = ap (λ q. with_areas q f k) (d.left ∙ ap (working_stepped L book) u.1) ∙ sym (ap (working_stepped L (with_areas book f k)) u.1);
      }

  -- a call over the areas handed to it is one over the areas that the calls before left
  does_with_areas : (book : State Frame) (c : Call L) (r : Answer L) (book' : State Frame) (f : List Frame) (k : List ℕ) → Handed L c book f k → Does L book c r book' → Does L (with_areas book f k) c r (left_by L c book' f k)
  does_with_areas book c r book' f k hd d =
      elim (cases_Bool (fitted L c)) [
        | inl y ↦
            let e = hd y in
            let a : book ≡ with_areas book f k = ap₂ (with_areas book) e.0 e.1 in
            let b : book' ≡ left_by L c book' f k = ap (λ q. with_areas book' (cond q book'.frames f) (cond q book'.column k)) (sym y) in
            subst (λ q. Does L q c r (left_by L c book' f k)) a (subst (Does L book c r) b d)
        | inr y ↦
            let b : with_areas book' f k ≡ left_by L c book' f k = ap (λ q. with_areas book' (cond q book'.frames f) (cond q book'.column k)) (sym y) in
            subst (Does L (with_areas book f k) c r) b (aside book c r book' f k y d)
      ]

  -- a call that does as it should keeps its promise
  pub promise : (book : State Frame) (c : Call L) (r : Answer L) (book' : State Frame) → Does L book c r book' → Promise L book c r book'
  promise book c r book' d h f k l hd =
      let e = does_with_areas book c r book' f k hd d in
      let w = lawful L K h (with_areas book f k) l in
      let on = w.next c r (left_by L c book' f k) e in
      record {
        answered = w.answers c r (left_by L c book' f k) e;
        checks = λ acc. w.checks c r (left_by L c book' f k) acc e;
        goes_on = on;
        readable = (lawful L K (c ∷ h) (left_by L c book' f k) on).readable;
      }

  -- one of two refusals is none
  refused_anyway : (b : Bool) (f g : Fault) → cond b (Some f) (Some g) ≡ None → ⊥
  refused_anyway true f g e = cc
  refused_anyway false f g e = cc

  -- a reader is made of a valid book alone
  opened : (v : Bool) (fl cl : ℕ) → reader_refusal v fl cl ≡ None → v ≡ true
  unfolding reader_refusal
  opened true fl cl e = refl
  opened false fl cl e = absurd (refused_anyway (sized fl cl) (refusal 36 255) (refusal 32 255) e)

  -- making a reader keeps its promise
  pub reader_promise : (book : State Frame) (fl cl : ℕ) → ReaderPromise L book fl cl (working_reading book fl cl)
  reader_promise book fl cl h f k stands =
      let w = readable L K h (with_areas book f k) stands in
      record { told = w.opens fl cl; only_lengths = λ v. w.only_lengths v fl cl; only_valid = λ e. w.valid_words.0 (sym stands.flag ∙ opened book.valid fl cl e) }

  -- and so does a question
  pub question_promise : (book : State Frame) (s k : ℕ) → QuestionPromise L book s k (asked L book s k)
  question_promise book s k h stands = typed L K h book stands s k
