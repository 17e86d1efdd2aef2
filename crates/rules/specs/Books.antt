-- A book: sheets that together write a program. Its validity, by the rules and by its sheets' walks.
use Rattle.std.specs.Prelude.{◌≡◌, ℕ, true, ◌↔◌, List, [], ◌∷◌, map, take, drop, Ok, slice_index_or}
use Rattle.syntax.specs.declared.frame.Frame.{Frame}
use Rattle.syntax.specs.declared.frame.Parameter.{Parameter}
use Rattle.syntax.specs.Writing.{written, blank}
use Rattle.syntax.specs.Types.{param_of}
use Rattle.syntax.specs.Form.{is_sheet}
use Rattle.levels.specs.Store.{find}
use Rattle.rules.specs.Heads.{Head, head, Signature, Table, Levels}
use Rattle.rules.specs.Sequences.{Distinct, Lacks}
use Rattle.rules.specs.Programs.{Program, param_names, param_types, Generates, Valid}
use Rattle.rules.specs.Walk.{returned, walk_sheet}

-- what a sheet's first frames say: its name, its parameters, its head
abbrev pub sheet_name : List Frame → ℕ
sheet_name fs = (slice_index_or fs 0 blank).name

abbrev pub sheet_params : List Frame → List Parameter
sheet_params fs = map param_of (take (slice_index_or fs 0 blank).load (drop 1 fs))

abbrev pub sheet_head : List Frame → Head
sheet_head fs = head (param_types (sheet_params fs)) (returned fs)

-- sheets, the last one first, and the heads of all of them
abbrev pub Book : Type 0
Book = List (List Frame)

abbrev pub book_heads : Book → Table Head
book_heads [] = []
book_heads (fs ∷ b) = (sheet_name fs, sheet_head fs) ∷ book_heads b

abbrev pub AllSheets : Book → Type 0
AllSheets [] = Unit {0}
AllSheets (fs ∷ b) = (is_sheet fs ≡ true) × AllSheets b

-- the sheets write the definitions of a program, one each
abbrev pub Writes : Book → Program → Type 0
Writes [] [] = Unit {0}
Writes [] (d ∷ p) = ⊥
Writes (fs ∷ b) [] = ⊥
Writes (fs ∷ b) (d ∷ p) = (written d ≡ fs) × Writes b p

-- a book is valid: the program that it writes is
abbrev pub ValidBook : Book → Type 0
ValidBook b = (p : Program) × Writes b p × Valid p

-- no name has two heads, no sheet has a parameter twice, and the walk of each sheet, with the heads S, ends without a fault
abbrev pub NamesApart : Table Head → Type 0
NamesApart [] = Unit {0}
NamesApart (e ∷ H) = Lacks H e.0 × NamesApart H

abbrev pub ParamsApart : Book → Type 0
ParamsApart [] = Unit {0}
ParamsApart (fs ∷ b) = Distinct (param_names (sheet_params fs)) × ParamsApart b

abbrev pub AllWalked : Signature → Book → Type 0
AllWalked S [] = Unit {0}
AllWalked S (fs ∷ b) = ((c : List ℕ) × (Γ : Levels) × (walk_sheet S fs ≡ Ok (c, Γ))) × AllWalked S b

abbrev pub BookDecides : Type 0
BookDecides = (b : Book) → AllSheets b → ValidBook b ↔ (NamesApart (book_heads b) × ParamsApart b × AllWalked (find (book_heads b)) b)

-- a program generates at most one table of heads
abbrev pub HeadsOnce : Type 0
HeadsOnce = (p : Program) (H H' : Table Head) → Generates p H → Generates p H' → H ≡ H'
