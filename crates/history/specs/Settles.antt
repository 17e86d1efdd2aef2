-- What an accepted check makes of each sheet from any state, whatever was done to the areas from outside.
use Rattle.std.specs.Prelude.{◌≡◌, ℕ, ◌<◌, true, false, List, take, Some, None, Ok}
use Rattle.history.specs.Words.{lowest, count_below}
use Rattle.history.specs.Language.{heads_of, zeros, column_of, Blame, blame, Language}
use Rattle.history.specs.Calls.{Answer, Answer.checked}
use Rattle.history.specs.Areas.{part}
use Rattle.history.specs.Working.{Record, State, record_at, working_signatures, due_flag, kept_fault, walked_record}

module _ {Frame Def Text : Type 0} (L : Language Frame Def Text) where
  open L use {name, head, repeated, form, judge}

  -- the frames that the record of sheet t counts
  abbrev pub counted : State Frame → ℕ → Record → List Frame
  counted book t r = take r.size (part t book.frames)

  -- the frames form a definition of the record's name and head, no parameter twice
  abbrev pub FormsAs : Record → List Frame → Def → Type 0
  FormsAs r fs d = (form fs ≡ Ok d) × (name d ≡ r.name) × (head d ≡ r.head) × (repeated d ≡ None)

  -- a sheet was walked: it keeps this verdict, is not due, and has this part of the column
  abbrev pub Renewed : State Frame → ℕ → Record → Blame → List ℕ → Type 0
  Renewed book' t r v c = (record_at book' t ≡ Some (walked_record r v)) × (part t book'.column ≡ c)

  -- a filled sheet before and after a check, under the heads of all records
  pub record SheetSettles (book book' : State Frame) (t : ℕ) (r : Record) : Type 0 where
    -- a due sheet that forms as its record says gets the judge's verdict and column
    pub walked : r.due ≡ true → (d : Def) → FormsAs r (counted book t r) d → Renewed book' t r (blame (judge (heads_of (working_signatures book)) d)) (column_of (judge (heads_of (working_signatures book)) d))
    -- any other due sheet gets 38 of layer 3 at place 0, and no types
    pub broken : r.due ≡ true → ((d : Def) → FormsAs r (counted book t r) d → ⊥) → Renewed book' t r (Some (3, 38, 0)) zeros
    -- a sheet not due keeps its record and its part of the column, whatever its frames hold
    pub unmoved : r.due ≡ false → (record_at book' t ≡ Some r) × (part t book'.column ≡ part t book.column)

  -- a check without 32 and 39
  pub record Settles (book : State Frame) (r : Answer L) (book' : State Frame) : Type 0 where
    pub sheets : (t : ℕ) (row : Record) → t < 32 → record_at book t ≡ Some row → SheetSettles book book' t row
    -- an empty sheet stays empty, its part of the column as it was
    pub empties : (t : ℕ) → t < 32 → record_at book t ≡ None → (record_at book' t ≡ None) × (part t book'.column ≡ part t book.column)
    pub frames : book'.frames ≡ book.frames
    -- it answers the number of due sheets, and the lowest fault that a record now keeps
    pub told : r ≡ checked (count_below 32 (λ t. due_flag (record_at book t))) (lowest 32 (λ t. kept_fault t (record_at book' t)))
