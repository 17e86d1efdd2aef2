-- How the working book stands to the plain one, and what the plain book keeps alone.
use Rattle.std.specs.Prelude.{◌≡◌, ℕ, ◌<◌, ◌≤◌, Bool, true, false, List, length, Some, None, Option}
use Rattle.history.specs.Words.{filled}
use Rattle.history.specs.Language.{Heads, Signatures, head_for, zeros, column_of, Blame, blame, Language, size, image, blanks, Entries, signatures, heads_in}
use Rattle.history.specs.Plain.{fault_of, Plain, due}
use Rattle.history.specs.Areas.{part, Holds}
use Rattle.history.specs.Working.{Record, State, record_at}

-- no two sheets have one name
abbrev pub Apart : Signatures → Type 0
Apart g = (t u n : ℕ) → filled (head_for n (g t)) ≡ true → filled (head_for n (g u)) ≡ true → t ≡ u

module _ {Frame Def Text : Type 0} (L : Language Frame Def Text) where
  open L use {name, head, repeated, judge}

  -- the sheets that puts can make: 32 at most, each name once, no parameter twice
  pub record Orderly (e : Entries L) : Type 0 where
    pub small : (t : ℕ) → 32 ≤ t → e t ≡ None
    pub apart : Apart (signatures L e)
    pub single : (t : ℕ) (d : Def) → e t ≡ Some d → repeated d ≡ None

  -- what every history keeps of the plain book: a valid one has nothing due and no fault
  pub record Sound (p : Plain L) : Type 0 where
    pub orderly : Orderly p.entries
    pub calm : p.valid ≡ true → (t : ℕ) → due L p t ≡ false
    pub clean : p.valid ≡ true → fault_of L p.entries ≡ None

  -- the record of a definition, with a kept verdict and a mark
  abbrev pub record_of : Def → Blame → Bool → Record
  record_of d v b = record { name = name d; head = head d; size = size L d; kept = v; due = b }

  -- a sheet's part of the frames
  abbrev pub image_at : Option Def → List Frame
  image_at None = blanks L
  image_at (Some d) = image L d

  -- a sheet's part of the column: a valid sheet's types, 0 elsewhere
  abbrev pub column_at : Heads → Option Def → List ℕ
  column_at h None = zeros
  column_at h (Some d) = column_of (judge h d)

  -- a record is its entry's, and unless the sheet is due it keeps the verdict under the book's present heads
  abbrev pub Row : Heads → Option Def → Bool → Option Record → Type 0
  Row h None b r = r ≡ None
  Row h (Some d) b r = (v : Blame) × (r ≡ Some (record_of d v b)) × (b ≡ false → v ≡ blame (judge h d))

  -- the book stands as the plain book says
  pub record Stands (p : Plain L) (book : State Frame) : Type 0 where
    pub row : (t : ℕ) → Row (heads_in L p.entries) (p.entries t) (due L p t) (record_at book t)
    pub frames : Holds book.frames (λ t. image_at (p.entries t))
    pub wide : length book.column ≡ 8192
    pub column : (t : ℕ) → t < 32 → due L p t ≡ false → part t book.column ≡ column_at (heads_in L p.entries) (p.entries t)
    pub flag : book.valid ≡ p.valid
