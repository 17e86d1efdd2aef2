-- A reader of a valid book is made, and answers every question on one of the 32 sheets.
use Rattle.std.proofs.Common.{◌≡◌, ℕ, ◌<◌, Bool, true, ltb, List, ◌∷◌, ◌++◌, is_ok, IfOk, Some, None, Ok, Err, Option, Result, sym, refl, ap, ap₂, ◌∙◌, subst, append_assoc, arith}
use mathlib.Core.Path.{fun_ext}
use Rattle.std.proofs.lemmas.Bool.{cond-false, le-ltb}
use Rattle.syntax.specs.declared.frame.Frame.{Frame}
use Rattle.syntax.specs.declared.frame.«Type».{«Type» as Ty}
use Rattle.syntax.specs.Writing.{type_code}
use Rattle.history.specs.Words.{map_some}
use Rattle.history.specs.Calls.{refusal}
use Rattle.history.specs.Plain.{plain}
use Rattle.history.specs.Due.{CheckedValid.just_now}
use Rattle.history.specs.Stands.{Stands}
use Rattle.history.specs.Readable.{Typed}
use Rattle.history.specs.Working.{Record as Row, State, record_at, working_reading, type_asked, asked}
use Rattle.cpp.specs.Cpp.{cpp}
use Rattle.cpp.proofs.Laws.{law}
use Rattle.records.specs.declared.fault.Fault.{Fault}
use Rattle.records.specs.declared.record.Record.{Record}
use Rattle.records.specs.Records.{state_of}
use Rattle.records.specs.Faults.{told}
use Rattle.records.specs.Answers.{asked_of}
use Rattle.book.specs.declared.book.Book.{Book}
use Rattle.book.specs.declared.table.Table.{Table}
use Rattle.book.specs.declared.reader.Reader.{Reader}
use Rattle.book.specs.States.{state, valid_state}
use Rattle.driver.specs.Histories.{checking, all_posts}
use Rattle.driver.specs.Reports.{Says, Leaves}
use Rattle.driver.specs.Texts.{outcome_text, line, type_of, type_lines, TypesRead, Reported}

-- a question on one of the 32 sheets is answered, with the type there
asked_type : (book : State Frame) (s p : ℕ) → s < 32 → asked cpp book s p ≡ Ok (type_of book s p)
unfolding asked
asked_type book s p l = cond-false (ltb 31 s) (Err (refusal 31 s)) (Ok (type_of book s p)) (le-ltb 31 s (omega arith))

-- so it is not refused
pub answered : (book : State Frame) (s p : ℕ) (r : Result (Option Ty) Fault) → s < 32 → asked_of r ≡ asked cpp book s p → is_ok r ≡ true
answered book s p (Ok o) l e = refl
answered book s p (Err f) l e =
    let i : Err (told f) ≡ Ok (type_of book s p) = e ∙ asked_type book s p l in
    let z : ◌≡◌ {A = ℕ} 0 1 = cc in
    absurd (omega arith)

-- and its answer is that type
pub type_read : (book : State Frame) (s p : ℕ) (r : Result (Option Ty) Fault) (o : Option Ty) → s < 32 → asked_of r ≡ asked cpp book s p → r ≡ Ok o → map_some type_code o ≡ type_of book s p
type_read book s p r o l e i =
    let same : Ok (map_some type_code o) ≡ Ok (type_of book s p) = sym (ap asked_of i) ∙ e ∙ asked_type book s p l in cc

-- the types do not hang on the book's mark
same_types : (rs : List (Option Record)) (v w : Bool) (f : List Frame) (k : List ℕ) → type_of (state_of rs v f k) ≡ type_of (state_of rs w f k)
same_types rs v w f k = fun_ext (λ s. fun_ext (λ p. go s p (record_at (state_of rs v f k) s)))
  where
    go : (s p : ℕ) (o : Option Row) → type_asked cpp (state_of rs v f k) s p o ≡ type_asked cpp (state_of rs w f k) s p o
    go s p None = refl
    go s p (Some r) = refl

-- what a reader is lent
abbrev pub Lent : Table → List Frame → List ℕ → Result Reader Fault → Type 0
Lent t f k (Ok q) = (q.table.now ≡ t) × (q.frames.now ≡ f) × (q.column.now ≡ k)
Lent t f k (Err e) = Unit {0}

-- a reader gives the types of the book that it was made of
pub lent_types : (b : Book) (f : List Frame) (k : List ℕ) (r : Result Reader Fault) → Lent b.table f k r → IfOk r (λ q. type_of (valid_state q.table.now q.frames.now q.column.now) ≡ type_of (state b f k))
lent_types b f k (Err e) lent = tt
lent_types b f k (Ok q) lent =
    ap (λ t. type_of (valid_state t q.frames.now q.column.now)) lent.0
    ∙ ap (λ x. type_of (valid_state b.table x q.column.now)) lent.1
    ∙ ap (λ x. type_of (valid_state b.table f x)) lent.2
    ∙ same_types b.table.records true b.valid f k

-- whether a reader is made over areas that are the book's own
pub own_reading : (book own : State Frame) (fl cl : ℕ) → book ≡ own → fl ≡ 8192 → cl ≡ 8192 → working_reading book fl cl ≡ working_reading own 8192 8192
own_reading book own fl cl e wide long = ap (λ b. working_reading b fl cl) e ∙ ap₂ (working_reading own) wide long

-- after a run that says valid a reader over the book's own areas is made
pub valid_opens : (input : List ℕ) (n : ℕ) (book : State Frame) → Says input 8192 8192 256 256 (Ok n) → Leaves input 256 256 (Ok n) book → working_reading book 8192 8192 ≡ None
valid_opens input n book said left = (law.lawful (checking 256 256 ∷ all_posts input) book left).readable.only_lengths (just_now said.2) 8192 8192 refl

-- and the types are then those that the law says
types_read : (input : List ℕ) (a b : ℕ) (book : State Frame) → Stands cpp (plain cpp (checking a b ∷ all_posts input)) book → TypesRead input a b (type_of book)
types_read input a b book stands s p l =
    let h = checking a b ∷ all_posts input in
    subst (Typed cpp h s p) (asked_type book s p l) ((law.lawful h book stands).readable.questions s p)

-- so the line of the outcome and those of the types are the report
pub valid_reported : (input : List ℕ) (n : ℕ) (book : State Frame) → Says input 8192 8192 256 256 (Ok n) → Leaves input 256 256 (Ok n) book → (start middle after : List ℕ) → middle ≡ start ++ line (outcome_text (Ok n)) → after ≡ middle ++ type_lines (type_of book) 32 → (bs : List ℕ) × (after ≡ start ++ bs) × Reported input 8192 8192 256 256 bs
valid_reported input n book said left start middle after first rest =
    let types = type_lines (type_of book) 32 in
    let top = line (outcome_text (Ok n)) in (
      top ++ types,
      rest ∙ ap (λ x. x ++ types) first ∙ append_assoc start top types,
      record { outcome = Ok n; said = said; printed = (type_of book, types_read input 256 256 book left, refl) },
    )
