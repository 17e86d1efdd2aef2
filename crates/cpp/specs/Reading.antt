-- What ties reading as a function to what read answers and leaves.
use Rattle.std.specs.Prelude.{◌≡◌, ℕ, ◌↔◌, List, ◌++◌, length, take, drop, Ok, Err, Result}
use Rattle.syntax.specs.declared.frame.Frame.{Frame}
use Rattle.syntax.specs.declared.fault.Fault.{Fault as SyntaxFault}
use Rattle.syntax.specs.Faults.{number, layer, sheet, place}
use Rattle.codec.specs.Codec.{Reads}
use Rattle.history.specs.Language.{Fault}
use Rattle.cpp.specs.Text.{lines_read, reads}

-- the four numbers of a fault
abbrev pub told : SyntaxFault → Fault
told e = record { number = number e; layer = layer e; sheet = sheet e; place = place e }

-- the count of the frames, or a fault with the same numbers
abbrev pub SameAnswer : Result ℕ SyntaxFault → Result (List Frame) Fault → Type 0
SameAnswer (Ok n) (Ok fs) = n ≡ length fs
SameAnswer (Ok n) (Err f) = ⊥
SameAnswer (Err e) (Ok fs) = ⊥
SameAnswer (Err e) (Err f) = told e ≡ f

-- an area with frames at its front
abbrev pub filled_with : List Frame → List Frame → List Frame
filled_with fs before = fs ++ drop (length fs) before

-- what read answered and left, as reading: the frames counted, or the fault
abbrev pub reading_from : List Frame → Result ℕ SyntaxFault → Result (List Frame) Fault
reading_from after (Ok n) = Ok (take n after)
reading_from after (Err e) = Err (told e)

-- of every text and area
pub record ReadsTied : Type 0 where
  -- read does exactly this: it answers as reading, and leaves the frames of the lines read at the front of the area
  pub exactly :
      (text : List ℕ) (before after : List Frame) (r : Result ℕ SyntaxFault) →
      Reads text before after r ↔ (SameAnswer r (reads text (length before)) × (after ≡ filled_with (lines_read (length before) text).0 before))
  -- so reading is known from what read answered and left
  pub known : (text : List ℕ) (before after : List Frame) (r : Result ℕ SyntaxFault) → Reads text before after r → reads text (length before) ≡ reading_from after r
