-- What `form` answers and leaves, and what a formed sheet holds.
use Rattle.std.specs.Prelude.{◌≡◌, ◌-◌, List, ◌++◌, length, take, replicate, Ok, Err, Result}
use Rattle.syntax.specs.declared.frame.Frame.{Frame}
use Rattle.syntax.specs.Writing.{blank}
use Rattle.syntax.specs.Law.{HasTree, HasNoTree, Stops}
use Rattle.frames.specs.declared.formed.Formed.{Formed}
use Rattle.syntax.specs.declared.fault.Fault.{Fault}
use Rattle.syntax.specs.Faults.{number, place}

-- the frames of a formed sheet
abbrev pub frames_of : Formed → List Frame
frames_of s = take s.count s.frames

-- the frames of a formed sheet, and blank ones after them up to 256
abbrev pub sheet_of : Formed → List Frame
sheet_of s = frames_of s ++ replicate (256 - length (frames_of s)) blank

-- the sheet holds these frames, and blank ones after them
pub record Filled (fs : List Frame) (after : Formed) : Type 0 where
  pub shows : frames_of after ≡ fs
  pub count : after.count ≡ length fs
  pub frames : after.frames ≡ fs ++ replicate (256 - length fs) blank

-- accepted frames are filled in; a refusal leaves the sheet as it was
abbrev pub Leaves : {A : Type 0} → List Frame → Formed → Formed → Result A Fault → Type 0
Leaves fs before after (Ok u) = Filled fs after
Leaves fs before after (Err e) = after ≡ before

-- accepted are exactly the writings of trees within the limits, each of one tree only; the place of a refusal is
-- where the writing of a tree can go on no more
abbrev pub Lawful : {A : Type 0} → List Frame → Result A Fault → Type 0
Lawful fs (Ok u) = HasTree fs
Lawful fs (Err e) = HasNoTree fs × Stops fs (number e) (place e)
