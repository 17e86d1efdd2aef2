-- What the machine of the code stands for, and what a step of it does.
use Rattle.std.specs.Prelude.{◌≡◌, ℕ, ◌+◌, ◌≤◌, Ok, Err, Result}
use Rattle.frames.specs.declared.machine.Machine.{Machine}
use Rattle.syntax.specs.declared.stages.Stage.{Stage}
use Rattle.syntax.specs.declared.fault.Fault.{Fault}
use Rattle.syntax.specs.Faults.{number, layer, sheet, place}
use Rattle.syntax.specs.Form.{Answer, fine, refused, Verdict, accepted, State, at}

-- the state that the machine is in
abbrev pub state_of : Machine → State
state_of m = at m.stage m.things m.ready

-- a fault is the refusal, by its number and place, of the form
pub record Refuses {A : Type 0} (a : Answer A) (e : Fault) : Type 0 where
  pub same : a ≡ refused (number e) (place e)
  pub layer : layer e ≡ 2
  pub sheet : sheet e ≡ 255

-- the stage and operands that the form goes on with, over the things as they are now, with one operand more at most; a refusal leaves the machine as it was
abbrev pub Allows : Answer State → Machine → Machine → Result (Stage × ℕ) Fault → Type 0
Allows a before after (Ok next) = (a ≡ fine (at next.0 after.things next.1)) × (next.1 ≤ before.ready + 1) × (after.place ≡ before.place)
Allows a before after (Err e) = Refuses a e × (after ≡ before)

-- the code answers as the form does, and a refusal leaves the machine as it was
abbrev pub Does : {A : Type 0} → Answer State → Machine → Machine → Result A Fault → Type 0
Does a before after (Ok u) = a ≡ fine (state_of after)
Does a before after (Err e) = Refuses a e × (state_of after ≡ state_of before)

-- the code answers as the verdict says, and a fault is its refusal
abbrev pub Judged : {A : Type 0} → Verdict → Result A Fault → Type 0
Judged v (Ok u) = v ≡ accepted
Judged v (Err e) = Refuses v e
