-- The walk of a sheet stays within 33 levels and 256 names.
use Rattle.std.specs.Prelude.{◌≡◌, ℕ, ◌≤◌, true, List, length, take, Ok, Err, Result}
use Rattle.syntax.specs.declared.frame.Frame.{Frame}
use Rattle.syntax.specs.Form.{is_sheet}
use Rattle.levels.specs.Store.{standing}
use Rattle.rules.specs.Heads.{Signature, Levels}
use Rattle.rules.specs.Faults.{Fault, fault}
use Rattle.rules.specs.Walk.{State, returned, walk_frames}

-- the levels that a walk leaves, at its end or at its fault
abbrev pub levels_left : Result State Fault → Levels
levels_left (Ok s) = s.levels
levels_left (Err (fault v p Γ)) = Γ

-- after each number of frames, also where a fault ended the walk before
abbrev pub WithinBounds : Type 0
WithinBounds = (S : Signature) (fs : List Frame) → is_sheet fs ≡ true → (n : ℕ)
    → (length (levels_left (walk_frames S (returned fs) (take n fs))) ≤ 33) × (standing (levels_left (walk_frames S (returned fs) (take n fs))) ≤ 256)
