-- What ties the frames that end an expression, and those that call, to their kinds.
use Rattle.std.specs.Prelude.{◌≡◌, ℕ, ◌<◌, Bool, true, false, ◌↔◌, List, length, Some, None, Option, slice_index_or}
use Rattle.syntax.specs.declared.frame.Frame.{Frame}
use Rattle.syntax.specs.declared.kinds.Role.{Role}
use Rattle.syntax.specs.declared.kinds.Role.TheVariants.{Head, Param, End, Operand, Call, Statement, Decl, Name, Open, Close, While, If}
use Rattle.syntax.specs.declared.kinds.Row.{Row}
use Rattle.syntax.specs.Kinds.{row}
use Rattle.syntax.specs.Writing.{blank}
use Rattle.history.specs.Words.{Among}
use Rattle.cpp.specs.Sheet.{expression}
use Rattle.cpp.specs.Cpp.{cpp}

-- a frame of this role adds an operand
abbrev pub adds_operand : Role → Bool
adds_operand Head = false
adds_operand Param = false
adds_operand End = false
adds_operand (Operand n) = true
adds_operand Call = true
adds_operand (Statement n) = false
adds_operand Decl = false
adds_operand Name = false
adds_operand Open = false
adds_operand Close = false
adds_operand While = false
adds_operand If = false

-- a frame of the kind with this row does; a number that is no kind has none
abbrev pub row_adds : Option Row → Bool
row_adds None = false
row_adds (Some r) = adds_operand r.role

-- the frames that end an expression are those that add an operand
abbrev pub ExpressionsTied : Type 0
ExpressionsTied = (f : Frame) → expression f ≡ row_adds (row f.kind)

-- a frame of the call's kind has the name
abbrev pub Called : ℕ → List Frame → Type 0
Called n fs = (i : ℕ) × (i < length fs) × ((slice_index_or fs i blank).kind ≡ 0x26) × ((slice_index_or fs i blank).name ≡ n)

-- the names that frames call are those
abbrev pub CallsTied : Type 0
CallsTied = (fs : List Frame) (n : ℕ) → Among n (cpp.calls fs) ↔ Called n fs
