-- What the program says of an input, and how it leaves the book.
use Rattle.std.specs.Prelude.{◌≡◌, ℕ, ◌<◌, ◌≤◌, List, ◌∷◌, length, Some, None, Ok, Err, Result}
use Rattle.syntax.specs.declared.frame.Frame.{Frame}
use Rattle.history.specs.Calls.{Answer.checked}
use Rattle.history.specs.Plain.{plain, answer}
use Rattle.history.specs.Working.{State}
use Rattle.history.specs.Stands.{Stands}
use Rattle.cpp.specs.Cpp.{cpp}
use Rattle.records.specs.Faults.{told}
use Rattle.driver.specs.declared.rejected.Rejected.{Rejected}
use Rattle.driver.specs.declared.rejected.Rejected.TheVariants.{TooLong, Refused}
use Rattle.driver.specs.Histories.{checking, all_posts, first_fault}

-- over areas of these lengths and stores of these capacities: of an input over 65,536 bytes only that it is too long, else the first fault, else how many sheets the check walked
abbrev pub Says : List ℕ → ℕ → ℕ → ℕ → ℕ → Result ℕ Rejected → Type 0
Says input fl cl a b (Err TooLong) = 65536 < length input
Says input fl cl a b (Err (Refused e)) = (length input ≤ 65536) × (first_fault input fl cl a b ≡ Some (told e))
Says input fl cl a b (Ok n) =
    (length input ≤ 65536) × (first_fault input fl cl a b ≡ None) × (answer cpp (all_posts input) (checking a b) ≡ checked n None)

-- after valid the book stands as the posts and the check say
abbrev pub Leaves : List ℕ → ℕ → ℕ → Result ℕ Rejected → State Frame → Type 0
Leaves input a b (Err TooLong) book = Unit {0}
Leaves input a b (Err (Refused e)) book = Unit {0}
Leaves input a b (Ok n) book = Stands cpp (plain cpp (checking a b ∷ all_posts input)) book
