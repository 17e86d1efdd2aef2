-- The sheets of a book as a program: the filled ones in their order.
use Rattle.std.specs.Prelude.{ℕ, zero, suc, [], ◌∷◌, Some, None, Option}
use Rattle.rules.specs.Books.{Book, ValidBook}
use Rattle.cpp.specs.Sheet.{Sheet}

-- a filled sheet after the others
abbrev pub with_sheet : Option Sheet → Book → Book
with_sheet None b = b
with_sheet (Some s) b = s.frames ∷ b

-- the filled sheets below k, the last one first
unfoldable pub sheets_below : ℕ → (ℕ → Option Sheet) → Book
sheets_below zero e = []
sheets_below (suc k) e = with_sheet (e k) (sheets_below k e)

-- the definitions that the 32 sheets write, in the sheets' order, are a valid program
abbrev pub ValidSheets : (ℕ → Option Sheet) → Type 0
ValidSheets e = ValidBook (sheets_below 32 e)
