-- The working book: a record for each sheet, two lent areas and a flag; put and clear mark, and a check walks only what is marked.
use Rattle.std.specs.Prelude.{ℕ, Bool, true, false, cond, not, ◌&&◌, ◌||◌, List, take, replicate, Some, None, Ok, Err, Option, Result, ◌==◌, nat_lt, slice_index, slice_index_or}
use Rattle.history.specs.Words.{lowest, count_below, any_of, map_some, filled}
use Rattle.history.specs.Language.{Fault, Verdict, Verdict.bad, Heads, Signatures, head_for, differ, heads_of, zeros, column_of, Blame, blame, fault_on, as_type, Language, size, image, blanks, signature}
use Rattle.history.specs.Calls.{refusal, reader_refusal, Act, Act.wrote, Act.emptied, Act.walked, Answer, Answer.refused, Answer.done, Answer.checked}
use Rattle.history.specs.Areas.{part, with_part, rewritten, table}

-- a filled sheet's record: name, head and count of frames of its last put, the verdict kept, and whether the sheet is due
pub record Record : Type 0 where
  pub name : ℕ
  pub head : ℕ
  pub size : ℕ
  pub kept : Blame
  pub due : Bool

-- the 32 records, the two areas, and whether the book is valid
pub record State (Frame : Type 0) : Type 0 where
  pub records : List (Option Record)
  pub frames : List Frame
  pub column : List ℕ
  pub valid : Bool

-- the record of sheet t, none where it is empty
abbrev pub record_at : {Frame : Type 0} → State Frame → ℕ → Option Record
record_at book t = slice_index_or book.records t None

-- name and head of a record
abbrev pub record_signature : Record → ℕ × ℕ
record_signature r = (r.name, r.head)

-- the signatures are those of the records, whatever the frames hold
abbrev pub working_signatures : {Frame : Type 0} → State Frame → Signatures
working_signatures book t = map_some record_signature (record_at book t)

-- the record is marked due
abbrev pub due_flag : Option Record → Bool
due_flag None = false
due_flag (Some r) = r.due

-- the fault of sheet t that its record keeps
abbrev pub kept_fault : ℕ → Option Record → Option Fault
kept_fault t None = None
kept_fault t (Some r) = fault_on t r.kept

-- the record with the verdict of a walk
abbrev pub walked_record : Record → Blame → Record
walked_record r v = record { name = r.name; head = r.head; size = r.size; kept = v; due = false }

-- a new book: no sheet, not valid, whatever the areas hold
unfoldable pub new_book : {Frame : Type 0} → List Frame → List ℕ → State Frame
new_book f k = record { records = table (λ t. None); frames = f; column = k; valid = false }

-- the refusal of a type reader
abbrev pub working_reading : {Frame : Type 0} → State Frame → ℕ → ℕ → Option Fault
working_reading book fl cl = reader_refusal book.valid fl cl

module _ {Frame Def Text : Type 0} (L : Language Frame Def Text) where
  open L use {blank, expression, name, head, repeated, calls, form, judge}

  -- a fresh book: a new one over blank frames and a column of zeros
  unfoldable pub fresh_state : State Frame
  fresh_state = new_book (replicate 8192 blank) (replicate 8192 0)

  -- where one sheet's signature turns from o to w, a record whose counted frames call a name with another head is marked
  abbrev pub marked : Option (ℕ × ℕ) → Option (ℕ × ℕ) → List Frame → Option Record → Option Record
  marked o w b None = None
  marked o w b (Some r) =
      Some (record { name = r.name; head = r.head; size = r.size; kept = r.kept; due = r.due || any_of (λ n. differ (head_for n o) (head_for n w)) (calls (take r.size b)) })

  -- the record that an accepted put makes
  abbrev pub new_record : Def → Record
  new_record d = record { name = name d; head = head d; size = size L d; kept = None; due = true }

  -- one sheet's record and its parts of the areas are replaced, and the callers of a name with another head are marked
  abbrev pub replaced : State Frame → ℕ → Option Record → Option (ℕ × ℕ) → List Frame → State Frame
  replaced book s r w b =
      record {
        records = table (λ t. cond (t == s) r (marked (working_signatures book s) w (part t book.frames) (record_at book t)));
        frames = with_part s b book.frames;
        column = with_part s zeros book.column;
        valid = false;
      }

  -- the definition has the record's name and head, and no parameter twice
  abbrev pub fits : Record → Def → Bool
  fits r d = name d == r.name && (head d == r.head && not (filled (repeated d)))

  -- the verdict on frames that were formed again: the judge's if they fit their record, else 38 of layer 3 at place 0
  abbrev pub walked_again : Heads → Result Def Fault → Record → Verdict
  walked_again h (Err f) r = bad 3 38 0
  walked_again h (Ok d) r = cond (fits r d) (judge h d) (bad 3 38 0)

  -- a sheet's record after a check: a new verdict if it was due, and due no more
  abbrev pub settled : Heads → List Frame → Option Record → Option Record
  settled h b None = None
  settled h b (Some r) = Some (walked_record r (cond r.due (blame (walked_again h (form (take r.size b)) r)) r.kept))

  -- a walked sheet's part of the column
  abbrev pub walked_column : Heads → List Frame → Option Record → List ℕ
  walked_column h b None = zeros
  walked_column h b (Some r) = column_of (walked_again h (form (take r.size b)) r)

  -- the record of sheet t after a check
  unfoldable pub checked_record : State Frame → ℕ → Option Record
  checked_record book t = settled (heads_of (working_signatures book)) (part t book.frames) (record_at book t)

  -- the part of the column of sheet t if a check walks it
  unfoldable pub checked_column : State Frame → ℕ → List ℕ
  checked_column book t = walked_column (heads_of (working_signatures book)) (part t book.frames) (record_at book t)

  -- the fault that a check answers: the lowest faulty sheet's, walked now or kept
  abbrev pub working_fault : State Frame → Option Fault
  working_fault book = lowest 32 (λ t. kept_fault t (checked_record book t))

  -- the state that an accepted call leaves
  unfoldable pub working_after : State Frame → Act L → State Frame
  working_after book (wrote s d) = replaced book s (Some (new_record d)) (Some (signature L d)) (image L d)
  working_after book (emptied s) = replaced book s None None (blanks L)
  working_after book walked =
      record {
        records = table (checked_record book);
        frames = book.frames;
        column = rewritten 32 (λ t. due_flag (record_at book t)) (checked_column book) book.column;
        valid = not (filled (working_fault book));
      }

  -- a refused call alters nothing
  unfoldable pub working_stepped : State Frame → Result (Act L) Fault → State Frame
  working_stepped book (Ok a) = working_after book a
  working_stepped book (Err f) = book

  -- what a call tells
  unfoldable pub working_told : State Frame → Result (Act L) Fault → Answer L
  working_told book (Err f) = refused f
  working_told book (Ok (wrote s d)) = done
  working_told book (Ok (emptied s)) = done
  working_told book (Ok walked) = checked (count_below 32 (λ t. due_flag (record_at book t))) (working_fault book)

  -- the reader's answer at place p of a sheet: the column's number, if the frame now there is an expression below the end and the number is 1 to 5
  abbrev pub type_asked : State Frame → ℕ → ℕ → Option Record → Option ℕ
  type_asked book s p None = None
  type_asked book s p (Some r) =
      cond (nat_lt p r.size && expression (slice_index_or (part s book.frames) p blank)) (as_type (slice_index (part s book.column) p)) None

  -- a question to the reader: 31 with the sheet as given, else the answer, at any place
  unfoldable pub asked : State Frame → ℕ → ℕ → Result (Option ℕ) Fault
  asked book s p = cond (nat_lt 31 s) (Err (refusal 31 s)) (Ok (type_asked book s p (record_at book s)))
