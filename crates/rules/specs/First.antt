-- A fault of the walk is the first: every frame before it passed, the frame itself violates a rule, and what follows it does not matter.
use Rattle.std.specs.Prelude.{◌≡◌, ℕ, suc, ◌<◌, ◌≤◌, List, length, take, Ok, Err, slice_index_or}
use Rattle.syntax.specs.declared.frame.Frame.{Frame}
use Rattle.syntax.specs.Writing.{blank}
use Rattle.rules.specs.declared.violation.Violation.{Violation}
use Rattle.rules.specs.Heads.{Signature, Levels}
use Rattle.rules.specs.Faults.{number, fault}
use Rattle.rules.specs.Tokens.{token}
use Rattle.rules.specs.Walk.{State, move, returned, walk_frames, walk_sheet}

-- the frame at the place p is the first that violates a rule, v, with the levels Γ standing
pub record First (S : Signature) (fs : List Frame) (v : Violation) (p : ℕ) (Γ : Levels) : Type 0 where
  -- the number is one of ten, the place one of the sheet
  pub numbered : (51 ≤ number v) × (number v ≤ 60)
  pub inside : p < length fs
  -- the frames before it pass and leave the levels Γ, over which the frame violates the rule
  pub before : State
  pub passes : walk_frames S (returned fs) (take p fs) ≡ Ok before
  pub leaves : before.levels ≡ Γ
  pub violates : move S (returned fs) (token (slice_index_or fs p blank)) before ≡ Err v
  -- every list of frames that begins with these up to the place has the same fault
  pub decides : (gs : List Frame) → take (suc p) gs ≡ take (suc p) fs → walk_sheet S gs ≡ Err (fault v p Γ)

abbrev pub FirstFault : Type 0
FirstFault = (S : Signature) (fs : List Frame) (v : Violation) (p : ℕ) (Γ : Levels) → walk_sheet S fs ≡ Err (fault v p Γ) → First S fs v p Γ
