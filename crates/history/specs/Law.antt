-- The law of kept verdicts, over every history of calls since an accepted fresh.
use Rattle.std.specs.Prelude.{◌≡◌, ℕ, ◌<◌, ◌≤◌, true, false, ◌↔◌, List, [], ◌∷◌, length, Some, None, Ok, Option, nat_eq}
use Rattle.history.specs.Words.{count_below, any_of, filled}
use Rattle.history.specs.Language.{Fault, Verdict.bad, Language, size, Entries, heads_in}
use Rattle.history.specs.Calls.{refusal, Call, History, Act.walked, outcome, Answer, Answer.checked}
use Rattle.history.specs.Plain.{due, plain, answer, AllDone, plain_walks, puts_of}
use Rattle.history.specs.Due.{CheckAccepted, Behind}
use Rattle.history.specs.Accepts.{Accepts}
use Rattle.history.specs.Refuses.{Refuses}
use Rattle.history.specs.Areas.{Holds}
use Rattle.history.specs.Working.{State, record_at, working_signatures, due_flag, new_book, working_reading, asked}
use Rattle.history.specs.Runs.{working_walks, Does, Freshens, Leads}
use Rattle.history.specs.Stands.{image_at, column_at, Stands}
use Rattle.history.specs.Settles.{Settles}
use Rattle.history.specs.Readable.{Shown, Readable}

module _ {Frame Def Text : Type 0} (L : Language Frame Def Text) where
  open L use {judge, Tree, Valid}

  -- ## a check answers valid exactly when the book is, else the fault of the lowest faulty sheet

  -- the fault is the judge's under the heads of the whole book, one of the rules, on a filled sheet, and every lower sheet has a derivation
  pub record LowestFault (e : Entries L) (f : Fault) : Type 0 where
    pub def : Def
    pub there : e f.sheet ≡ Some def
    pub found : judge (heads_in L e) def ≡ bad f.layer f.number f.place
    pub ruled : (f.layer ≡ 4) × (51 ≤ f.number) × (f.number ≤ 60) × (f.place < size L def)
    pub lower : (t : ℕ) (d : Def) → t < f.sheet → e t ≡ Some d → Tree (heads_in L e) d

  -- what a check answers, on a book with these entries
  pub record Decides (e : Entries L) (o : Option Fault) : Type 0 where
    -- valid exactly when the book has a derivation of its validity
    pub valid : (o ≡ None) ↔ Valid e
    pub fault : (f : Fault) → o ≡ Some f → LowestFault e f

  -- ## it answers as a fresh book with the same sheets, checked once

  -- the list has just the filled sheets, in any order
  abbrev pub Lists : List ℕ → Entries L → Type 0
  Lists ss e = (t : ℕ) → any_of (nat_eq t) ss ≡ filled (e t)

  -- the fresh book that takes a put of each listed entry, and then one check without 32 and 39
  pub record AsFresh (e : Entries L) (o : Option Fault) (book' : State Frame) (ss : List ℕ) : Type 0 where
    -- those puts are accepted, and the book has then the same sheets
    pub accepted : AllDone L (puts_of L e ss)
    pub same : (plain L (puts_of L e ss)).entries ≡ e
    -- there is such a book
    pub reached : (other : State Frame) × Leads L (puts_of L e ss) other
    -- its check walks each of its sheets, and answers valid too, or the same number, layer, sheet and place
    pub told : (c : Call L) → CheckAccepted L (puts_of L e ss) c → answer L (puts_of L e ss) c ≡ checked (count_below 32 (λ t. filled (e t))) o
    -- and every book that stands as those calls say has the same frames and column
    pub areas :
        (c : Call L) → CheckAccepted L (puts_of L e ss) c → (other : State Frame) → Stands L (plain L (c ∷ puts_of L e ss)) other →
        (book'.frames ≡ other.frames) × (book'.column ≡ other.column)

  -- ## a check without 32 and 39, after the history h

  -- its answer and what it leaves
  pub record Checks (h : History L) (r : Answer L) (book' : State Frame) : Type 0 where
    pub fault : Option Fault
    -- it answers the count of the sheets due, and the fault if there is one
    pub told : r ≡ checked (count_below 32 (due L (plain L h))) fault
    pub decides : Decides (plain L h).entries fault
    -- the frames are the entries' own, blank ones after them
    pub frames : Holds book'.frames (λ t. image_at L ((plain L h).entries t))
    -- the column has the types of the valid sheets, and 0 elsewhere
    pub column : Holds book'.column (λ t. column_at L (heads_in L (plain L h).entries) ((plain L h).entries t))
    -- a fresh book with the same sheets does the same, in whatever order they are put; and they can be listed
    pub listed : (ss : List ℕ) × Lists ss (plain L h).entries
    pub as_fresh : (ss : List ℕ) → Lists ss (plain L h).entries → AsFresh (plain L h).entries fault book' ss

  -- ## a book that stands as the history h says

  -- of the next call, of what is due, and of reading
  pub record Lawful (h : History L) (book : State Frame) : Type 0 where
    -- which next calls are accepted, and which fault each refused one tells
    pub accepts : Accepts L h
    pub refuses : Refuses L h
    -- each next call, accepted or refused, answers what the plain book says, and leaves a book that stands as the longer history says
    pub answers : (c : Call L) (r : Answer L) (book' : State Frame) → Does L book c r book' → r ≡ answer L h c
    pub next : (c : Call L) (r : Answer L) (book' : State Frame) → Does L book c r book' → Stands L (plain L (c ∷ h)) book'
    -- a refused call alters nothing
    pub refused : (c : Call L) (f : Fault) (r : Answer L) (book' : State Frame) → Does L book c r book' → r ≡ Answer.refused f → book' ≡ book
    -- due by its sentence: filled, and no walk yet or touched after its last one; and the records say the same
    pub due_words : (t : ℕ) → (due L (plain L h) t ≡ true) ↔ ((filled ((plain L h).entries t) ≡ true) × Behind L h t)
    pub flags : (t : ℕ) → due_flag (record_at book t) ≡ due L (plain L h) t
    -- a check walks exactly the sheets due, and a refused call none
    pub walking : (c : Call L) (t : ℕ) → working_walks L book c t ≡ plain_walks L h c t
    pub checks : (c : Call L) (r : Answer L) (book' : State Frame) → CheckAccepted L h c → Does L book c r book' → Checks h r book'
    -- after each call, so after this history too: the type reader and its questions
    pub readable : Readable L h book

  -- ## the beginning

  -- a new book, before any fresh: empty, nothing due, not valid
  pub record New (book : State Frame) : Type 0 where
    pub empty : (t : ℕ) → record_at book t ≡ None
    pub not_due : (t : ℕ) → due_flag (record_at book t) ≡ false
    pub not_valid : working_reading book 8192 8192 ≡ Some (refusal 36 255)

  -- fresh, from any state
  pub record FreshMade (book : State Frame) (r : Option Fault) (book' : State Frame) : Type 0 where
    pub accepted : (r ≡ None) ↔ ((length book.frames ≡ 8192) × (length book.column ≡ 8192))
    -- accepted, it leaves a book that stands as no call says
    pub stands : r ≡ None → Stands L (plain L []) book'
    -- refused, it leaves all as it was
    pub refused : (f : Fault) → r ≡ Some f → (f ≡ refusal 32 255) × (book' ≡ book)

  -- ## the law

  -- of every book that an accepted fresh made and that calls alone have changed since
  pub record Law : Type 0 where
    pub new : (f : List Frame) (k : List ℕ) → New (new_book f k)
    pub fresh : (book : State Frame) (r : Option Fault) (book' : State Frame) → Freshens L book r book' → FreshMade book r book'
    -- every run of calls since an accepted fresh leaves a book that stands as its history says
    pub runs : (h : History L) (book : State Frame) → Leads L h book → Stands L (plain L h) book
    -- and of every book that stands so, all of the above holds
    pub lawful : (h : History L) (book : State Frame) → Stands L (plain L h) book → Lawful h book
    -- outside any history too, whatever the areas hold: what an accepted check makes of each sheet, 38 among it
    pub settles :
        (book : State Frame) (c : Call L) (r : Answer L) (book' : State Frame) → length book.column ≡ 8192 →
        outcome L (working_signatures book) c ≡ Ok walked → Does L book c r book' → Settles L book r book'
    -- and what a question is answered
    pub asks : (book : State Frame) (s k u : ℕ) → s < 32 → (asked L book s k ≡ Ok (Some u)) ↔ Shown L book s k u
