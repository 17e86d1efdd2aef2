-- What is printed: the line of the outcome, and of a valid book a line for each expression.
use Rattle.std.specs.Prelude.{◌≡◌, ℕ, zero, suc, ◌<◌, ◌≤◌, List, [], ◌∷◌, ◌++◌, length, Some, None, Ok, codes, decimal, Err, Option, Result}
use Rattle.syntax.specs.declared.frame.Frame.{Frame}
use Rattle.history.specs.Working.{State, record_at, type_asked}
use Rattle.history.specs.Readable.{Typed}
use Rattle.cpp.specs.Cpp.{cpp}
use Rattle.records.specs.declared.fault.Fault.{Fault}
use Rattle.records.specs.Faults.{number, layer, sheet, place}
use Rattle.driver.specs.declared.rejected.Rejected.{Rejected}
use Rattle.driver.specs.declared.rejected.Rejected.TheVariants.{TooLong, Refused}
use Rattle.driver.specs.Histories.{checking, all_posts}
use Rattle.driver.specs.Reports.{Says}

-- the four numbers of a fault
abbrev pub fault_text : Fault → List ℕ
fault_text e =
    codes "refused " ++ (decimal (number e) ++ (codes " " ++ (decimal (layer e) ++ (codes " " ++ (decimal (sheet e) ++ (codes " " ++ decimal (place e)))))))

-- why there is no valid book
abbrev pub rejected_text : Rejected → List ℕ
rejected_text TooLong = codes "too long"
rejected_text (Refused e) = fault_text e

-- what came of an input
abbrev pub outcome_text : Result ℕ Rejected → List ℕ
outcome_text (Ok n) = codes "valid " ++ decimal n
outcome_text (Err r) = rejected_text r

-- a text as a line of its own
abbrev pub line : List ℕ → List ℕ
line bs = bs ++ codes "\n"

-- sheet, place and type of an expression, and nothing of another place
abbrev pub type_line : ℕ → ℕ → Option ℕ → List ℕ
type_line s p None = []
type_line s p (Some t) = decimal s ++ (codes " " ++ (decimal p ++ (codes " " ++ (decimal t ++ codes "\n"))))

-- what the reader of a book answers at a place of a sheet
abbrev pub type_of : State Frame → ℕ → ℕ → Option ℕ
type_of book s p = type_asked cpp book s p (record_at book s)

-- the lines of the places below p of a sheet, in rising order
unfoldable pub sheet_lines : (ℕ → ℕ → Option ℕ) → ℕ → ℕ → List ℕ
sheet_lines types s zero = []
sheet_lines types s (suc p) = sheet_lines types s p ++ type_line s p (types s p)

-- the lines of the sheets below s, in rising order
unfoldable pub type_lines : (ℕ → ℕ → Option ℕ) → ℕ → List ℕ
type_lines types zero = []
type_lines types (suc s) = type_lines types s ++ sheet_lines types s 256

-- the types that a reader gives after the posts and the check, at every place of the 32 sheets
abbrev pub TypesRead : List ℕ → ℕ → ℕ → (ℕ → ℕ → Option ℕ) → Type 0
TypesRead input a b types = (s p : ℕ) → s < 32 → Typed cpp (checking a b ∷ all_posts input) s p (Ok (types s p))

-- the text after this outcome
abbrev pub Prints : List ℕ → ℕ → ℕ → Result ℕ Rejected → List ℕ → Type 0
Prints input a b (Err TooLong) bs = bs ≡ line (outcome_text (Err TooLong))
Prints input a b (Err (Refused e)) bs = bs ≡ line (outcome_text (Err (Refused e)))
Prints input a b (Ok n) bs =
    (types : ℕ → ℕ → Option ℕ) × TypesRead input a b types × (bs ≡ line (outcome_text (Ok n)) ++ type_lines types 32)

-- the text that is printed of an input, over areas of these lengths and stores of these capacities
pub record Reported (input : List ℕ) (fl cl a b : ℕ) (bs : List ℕ) : Type 0 where
  pub outcome : Result ℕ Rejected
  pub said : Says input fl cl a b outcome
  pub printed : Prints input a b outcome bs

-- the text that is printed of some input with at most one byte too many
abbrev pub ReportedOfSome : List ℕ → Type 0
ReportedOfSome bs = (input : List ℕ) × (length input ≤ 65537) × Reported input 8192 8192 256 256 bs
