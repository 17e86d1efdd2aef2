-- A place among the frames of a sheet.
use Rattle.std.specs.Prelude.{◌≡◌, ℕ, ◌<◌, List, length, slice_index_or, slice_range}
use Rattle.syntax.specs.declared.frame.Frame.{Frame}

-- the frame at a place
pub record At (fs : List Frame) (i : ℕ) (f : Frame) : Type 0 where
  pub within : i < length fs
  pub is : slice_index_or fs i f ≡ f

-- the frames from one place up to another
abbrev pub between : ℕ → ℕ → List Frame → List Frame
between a b fs = slice_range fs a b
