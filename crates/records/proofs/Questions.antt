-- A type reader and the questions to it: their tests as the law's answers, and what every history makes of these.
use Rattle.std.proofs.Common.{◌≡◌, ℕ, suc, ◌+◌, ◌*◌, ◌<◌, ◌≤◌, Bool, true, cond, ◌&&◌, ltb, List, get_or, Some, None, Ok, Err, Option, Result, sym, ap, ◌∙◌, subst, ap₂, arith}
use Rattle.std.proofs.lemmas.Bool.{cond-true, cond-false, lt-ltb, le-ltb, and_left}
use Rattle.syntax.specs.declared.frame.Frame.{Frame}
use Rattle.syntax.specs.Writing.{blank}
use Rattle.history.specs.Language.{Fault, as_type}
use Rattle.history.specs.Calls.{refusal, sized, reader_refusal}
use Rattle.history.specs.Areas.{part}
use Rattle.history.specs.Working.{State, working_reading, type_asked, record_at, asked}
use Rattle.history.specs.Promise.{ReaderPromise, QuestionPromise}
use Rattle.history.proofs.Parts.{place_in_part}
use Rattle.cpp.specs.Sheet.{expression}
use Rattle.cpp.specs.Cpp.{cpp}
use Rattle.cpp.proofs.Laws.{promises}
use Rattle.records.specs.declared.record.Record.{Record}
use Rattle.records.specs.Records.{row_of, record_of, state_of}
use Rattle.records.proofs.Rows.{record_read}
use Rattle.records.proofs.Refusing.{OtherLength, other_sized, both_sized}

-- ## what every history makes of an answer

-- a reader made, or refused, as the working book says
pub reader_promised : (book : State Frame) (fl cl : ℕ) (o : Option Fault) → o ≡ working_reading book fl cl → ReaderPromise cpp book fl cl o
reader_promised book fl cl o e = subst (ReaderPromise cpp book fl cl) (sym e) (promises.reader book fl cl)

-- a question answered as the working book says
pub question_promised : (book : State Frame) (s p : ℕ) (r : Result (Option ℕ) Fault) → r ≡ asked cpp book s p → QuestionPromise cpp book s p r
question_promised book s p r e = subst (QuestionPromise cpp book s p) (sym e) (promises.question book s p)

-- ## a reader

module _ (valid : Bool) (fl cl : ℕ) where
  -- one of the areas has another length
  pub reader_other_length : OtherLength fl cl → Some (refusal 32 255) ≡ reader_refusal valid fl cl
  unfolding reader_refusal
  reader_other_length o = sym (cond-false (sized fl cl) (cond valid None (Some (refusal 36 255))) (Some (refusal 32 255)) (other_sized fl cl o))

  -- both have 8,192 places: the book's mark decides
  pub reader_by_mark : fl ≡ 8192 → cl ≡ 8192 → cond valid None (Some (refusal 36 255)) ≡ reader_refusal valid fl cl
  unfolding reader_refusal
  reader_by_mark f c = sym (cond-true (sized fl cl) (cond valid None (Some (refusal 36 255))) (Some (refusal 32 255)) (both_sized fl cl f c))

-- ## a question

module _ (rs : List (Option Record)) (v : Bool) (f : List Frame) (k : List ℕ) (s p : ℕ) where
  -- the question has this answer
  abbrev pub Answered : Option ℕ → Type 0
  Answered o = Ok o ≡ asked cpp (state_of rs v f k) s p

  -- past the last sheet it is refused
  pub asked_beyond : 31 < s → Err (refusal 31 s) ≡ asked cpp (state_of rs v f k) s p
  unfolding asked
  asked_beyond l =
      sym (cond-true (ltb 31 s) (Err (refusal 31 s)) (Ok (type_asked cpp (state_of rs v f k) s p (record_at (state_of rs v f k) s))) (lt-ltb 31 s l))

  -- else the row decides
  asked_row : (o : Option ℕ) → s ≤ 31 → type_asked cpp (state_of rs v f k) s p (record_at (state_of rs v f k) s) ≡ o → Answered o
  unfolding asked
  asked_row o l e =
      sym (cond-false (ltb 31 s) (Err (refusal 31 s)) (Ok (type_asked cpp (state_of rs v f k) s p (record_at (state_of rs v f k) s))) (le-ltb 31 s l) ∙ ap Ok e)

  -- an empty sheet has no types
  pub asked_empty : s ≤ 31 → get_or rs s None ≡ None → Answered None
  asked_empty l e = asked_row None l (ap (type_asked cpp (state_of rs v f k) s p) (record_read rs s ∙ ap record_of e))

  -- a filled one those of its places up to the end
  asked_filled : (r : Record) (o : Option ℕ) → s ≤ 31 → get_or rs s None ≡ Some r → type_asked cpp (state_of rs v f k) s p (Some (row_of r)) ≡ o → Answered o
  asked_filled r o l e i = asked_row o l (ap (type_asked cpp (state_of rs v f k) s p) (record_read rs s ∙ ap record_of e) ∙ i)

  -- so none past it
  pub asked_past : (r : Record) → s ≤ 31 → get_or rs s None ≡ Some r → r.end < p → Answered None
  asked_past r l e m =
      let spoken = expression (get_or (part s f) p blank) in
      let past : suc r.end ≤ p = m in
      asked_filled r None l e
      (cond-false (ltb p (suc r.end) && spoken) (as_type (get_or (part s k) p 0)) None (and_left (ltb p (suc r.end)) spoken (le-ltb p (suc r.end) past)))

  -- at a place up to the end the frame and the column's number decide
  pub asked_place : (r : Record) → s ≤ 31 → get_or rs s None ≡ Some r → p ≤ r.end → r.end < 256 → (i : ℕ) → i ≡ 256 * s + p → (o : Option ℕ) →
      cond (expression (get_or f i blank)) (as_type (get_or k i 0)) None ≡ o → Answered o
  asked_place r l is below short i at o e =
      let near : p < 256 = omega arith in
      let inside : ltb p (suc r.end) ≡ true = lt-ltb p (suc r.end) (omega arith) in
      asked_filled r o l is
      (ap (λ t. cond (t && expression (get_or (part s f) p blank)) (as_type (get_or (part s k) p 0)) None) inside
      ∙ ap₂ (λ x n. cond (expression x) (as_type n) None) (sym (place_in_part f s p blank near)) (sym (place_in_part k s p 0 near))
      ∙ ap (λ j. cond (expression (get_or f j blank)) (as_type (get_or k j 0)) None) (sym at)
      ∙ e)
