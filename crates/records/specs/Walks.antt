-- What the walk of one due sheet answers and leaves, in the law's words.
use Rattle.std.specs.Prelude.{◌≡◌, ℕ, suc, List, take}
use Rattle.syntax.specs.declared.frame.Frame.{Frame}
use Rattle.levels.specs.Store.{Store}
use Rattle.walk.specs.declared.verdict.Verdict.{Verdict}
use Rattle.walk.specs.Judge.{Numbers}
use Rattle.walk.specs.Tied.{Holds}
use Rattle.history.specs.Language.{Verdict as Judged, Heads, column_of, blame}
use Rattle.history.specs.Areas.{with_part}
use Rattle.history.specs.Working.{walked_again}
use Rattle.cpp.specs.Sheet.{form}
use Rattle.cpp.specs.Heads.{signature_from}
use Rattle.cpp.specs.Cpp.{cpp}
use Rattle.records.specs.declared.record.Record.{Record}
use Rattle.records.specs.Records.{kept_of, row_of}
use Rattle.records.specs.Stores.{levels_again, releveled}

-- the levels of a store hold these heads, and no other
abbrev pub Held : Heads → List Numbers → Type 0
Held h ls = Holds (signature_from h) ls

-- the verdict on the sheet whose part of the frames is b
abbrev pub judged : Heads → List Frame → Record → Judged
judged h b r = walked_again cpp h (form (take (suc r.end) b)) (row_of r)

-- the sheet t with the record r and the part b was walked: its verdict, its part of the column, and the variables
pub record SheetWalked (h : Heads) (b : List Frame) (t : ℕ) (r : Record) (v : Verdict) (k k' : List ℕ) (s s' : Store ℕ) : Type 0 where
  pub verdict : kept_of v ≡ blame (judged h b r)
  pub column : k' ≡ with_part t (column_of (judged h b r)) k
  pub variables : s' ≡ releveled s (levels_again h (form (take (suc r.end) b)) (row_of r))
