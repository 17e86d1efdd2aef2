-- What each fault stands for: its number, layer, sheet and place.
use Rattle.std.specs.Prelude.{ℕ, List, ◌++◌, codes, decimal}
use Rattle.syntax.specs.declared.fault.Fault.{Fault}
use Rattle.syntax.specs.declared.fault.Fault.TheVariants.{BadLine, FramesFull, TextShort, TooLong, UnknownKind, BadField, NotAllowed, TooDeep, NoEnd, AfterEnd}
use Rattle.syntax.specs.declared.fault.Diagnostic.{Diagnostic}

-- the number of a fault
abbrev pub number : Fault → ℕ
number (BadLine k) = 11
number (FramesFull k) = 12
number TextShort = 13
number TooLong = 20
number (UnknownKind k) = 21
number (BadField k) = 22
number (NotAllowed k) = 23
number (TooDeep k) = 24
number (NoEnd k) = 25
number (AfterEnd k) = 26

-- the layer that found it: 1 text, 2 form
abbrev pub layer : Fault → ℕ
layer (BadLine k) = 1
layer (FramesFull k) = 1
layer TextShort = 1
layer TooLong = 2
layer (UnknownKind k) = 2
layer (BadField k) = 2
layer (NotAllowed k) = 2
layer (TooDeep k) = 2
layer (NoEnd k) = 2
layer (AfterEnd k) = 2

-- the sheet: reading, writing and forming name none
abbrev pub sheet : Fault → ℕ
sheet e = 255

-- the line or frame where it was found
abbrev pub place : Fault → ℕ
place (BadLine k) = k
place (FramesFull k) = k
place TextShort = 0
place TooLong = 256
place (UnknownKind k) = k
place (BadField k) = k
place (NotAllowed k) = k
place (TooDeep k) = k
place (NoEnd k) = k
place (AfterEnd k) = k

-- the four together, as a host reports them
abbrev pub diagnosed : Fault → Diagnostic
diagnosed e = record { number = number e; layer = layer e; sheet = sheet e; place = place e }

-- the four as text: in decimal, with a blank between two
abbrev pub diagnostic_text : Diagnostic → List ℕ
diagnostic_text d = decimal d.number ++ (codes " " ++ (decimal d.layer ++ (codes " " ++ (decimal d.sheet ++ (codes " " ++ decimal d.place)))))
