-- What the type reader and its questions answer, of a book that stands as a history says.
use Rattle.std.specs.Prelude.{◌≡◌, ℕ, ◌<◌, ◌≤◌, true, ◌↔◌, get_or, Some, None, Ok, Err, Option, Result, slice_index_or}
use Rattle.history.specs.Language.{Fault, Language, size, heads_in, BookDerives}
use Rattle.history.specs.Calls.{refusal, sized, History}
use Rattle.history.specs.Plain.{plain, reading}
use Rattle.history.specs.Due.{CheckedValid}
use Rattle.history.specs.Areas.{part}
use Rattle.history.specs.Working.{Record, State, record_at, working_reading, asked}

module _ {Frame Def Text : Type 0} (L : Language Frame Def Text) where
  open L use {blank, expression, Tree, Valid, Gives}

  -- the areas, whatever they hold, give place k of sheet s the type u: a filled sheet, below its end, the frame now there an expression, the column's number u and 1 to 5
  pub record Shown (book : State Frame) (s k u : ℕ) : Type 0 where
    pub row : Record
    pub there : record_at book s ≡ Some row
    pub below : k < row.size
    pub spoken : expression (slice_index_or (part s book.frames) k blank) ≡ true
    pub number : get_or (part s book.column) k 0 ≡ u
    pub least : 1 ≤ u
    pub most : u ≤ 5

  -- an answer to the question for the type at place k of sheet s
  pub record Typed (h : History L) (s k : ℕ) (r : Result (Option ℕ) Fault) : Type 0 where
    -- refused by 31 alone, with the sheet as given
    pub beyond : 31 < s → r ≡ Err (refusal 31 s)
    pub within : s < 32 → (o : Option ℕ) × (r ≡ Ok o)
    -- on a valid book each expression has the one type that every derivation gives it
    pub typed :
        CheckedValid L h → (d : Def) → s < 32 → (plain L h).entries s ≡ Some d → (n : Tree (heads_in L (plain L h).entries) d) → (u : ℕ) →
        (r ≡ Ok (Some u)) ↔ Gives (heads_in L (plain L h).entries) d n k u
    -- every other place has none
    pub untyped :
        CheckedValid L h → (d : Def) → s < 32 → (plain L h).entries s ≡ Some d → (n : Tree (heads_in L (plain L h).entries) d) →
        ((u : ℕ) → Gives (heads_in L (plain L h).entries) d n k u → ⊥) → r ≡ Ok None
    -- nor has a place at or past the end, nor an empty sheet, valid or not
    pub past_end : (d : Def) → s < 32 → (plain L h).entries s ≡ Some d → size L d ≤ k → r ≡ Ok None
    pub empty : s < 32 → (plain L h).entries s ≡ None → r ≡ Ok None

  -- the type reader of a book that stands as the history says
  pub record Readable (h : History L) (book : State Frame) : Type 0 where
    -- valid by its sentence: the last accepted call was a check that answered valid
    pub valid_words : ((plain L h).valid ≡ true) ↔ CheckedValid L h
    -- making a reader: 32, then 36 exactly where the book is not valid
    pub opens : (fl cl : ℕ) → working_reading book fl cl ≡ reading L (plain L h) fl cl
    -- so on a valid book 32 alone refuses it
    pub only_lengths : CheckedValid L h → (fl cl : ℕ) → sized fl cl ≡ true → working_reading book fl cl ≡ None
    -- a valid book has a derivation of its validity, and so has each of its definitions
    pub derivable : CheckedValid L h → Valid (plain L h).entries × BookDerives L (plain L h).entries
    pub questions : (s k : ℕ) → Typed h s k (asked L book s k)
