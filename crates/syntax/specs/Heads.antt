-- What the first frames of a sheet tell of its definition.
use Rattle.std.specs.Prelude.{◌≡◌, ℕ, ◌+◌, ◌<◌, ◌≤◌, List, [], Some, None, Option, slice_index_or}
use Rattle.syntax.specs.declared.frame.Frame.{Frame}
use Rattle.syntax.specs.declared.frame.«Type».TheVariants.{Void}
use Rattle.syntax.specs.declared.frame.Parameter.{Parameter}
use Rattle.syntax.specs.Trees.{empty, Definition}
use Rattle.syntax.specs.Writing.{PARAM, frame_of, blank}

-- the first frame, which is HEAD
abbrev pub head : List Frame → Frame
head fs = slice_index_or fs 0 blank

-- the frame of a parameter
abbrev pub param_frame : Parameter → Frame
param_frame p = frame_of (PARAM p.t p.name)

-- the parameter at place i, if HEAD counts so many: its frame stands one place further on
abbrev pub ParamAt : List Frame → ℕ → Option Parameter → Type 0
ParamAt fs i (Some p) = (i < (head fs).load) × (slice_index_or fs (i + 1) blank ≡ param_frame p)
ParamAt fs i None = (head fs).load ≤ i

-- void with name 0, without parameters and with nothing to do
abbrev pub nothing_done : Definition
nothing_done = record { returns = Void; name = 0; params = []; body = empty }
