-- A book over two lent areas as the working book of the law.
use Rattle.std.specs.Prelude.{◌≡◌, ℕ, true, List, Ok, Err, Result}
use Rattle.syntax.specs.declared.frame.Frame.{Frame}
use Rattle.levels.specs.Store.{Store, with_levels}
use Rattle.history.specs.Working.{State}
use Rattle.records.specs.declared.fault.Fault.{Fault}
use Rattle.records.specs.Records.{state_of}
use Rattle.records.specs.Stores.{heads_left, variables_left}
use Rattle.book.specs.declared.book.Book.{Book}
use Rattle.book.specs.declared.reader.Reader.{Reader}
use Rattle.book.specs.declared.table.Table.{Table}

-- the book's records and its mark over the areas
abbrev pub state : Book → List Frame → List ℕ → State Frame
state b f k = state_of b.table.records b.valid f k

-- a valid book by its records alone
abbrev pub valid_state : Table → List Frame → List ℕ → State Frame
valid_state t f k = state_of t.records true f k

-- the valid book that a reader reads
abbrev pub read_state : Reader → State Frame
read_state r = valid_state r.table.now r.frames.now r.column.now

module _ {A : Type 0} where
  -- the store of heads after a check: one level with every record's head, or as it was where the check is refused
  abbrev pub HeadsLeft : State Frame → Store ℕ → Result A Fault → Store ℕ → Type 0
  HeadsLeft book s (Ok a) s' = s' ≡ with_levels s (heads_left book)
  HeadsLeft book s (Err e) s' = s' ≡ s

  -- the store of variables after a check: as the last walk left it, untouched with no walk, or as it was where the check is refused
  abbrev pub VariablesLeft : State Frame → Store ℕ → Result A Fault → Store ℕ → Type 0
  VariablesLeft book s (Ok a) s' = s' ≡ variables_left book s
  VariablesLeft book s (Err e) s' = s' ≡ s
