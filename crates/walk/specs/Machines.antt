-- The state of the code as the walk has it.
use Rattle.std.specs.Prelude.{◌≡◌, ℕ, zero, suc, ◌+◌, ◌<◌, ◌≤◌, false, cond, List, [], map, reverse, length, Some, None, Ok, Err, Option, Result}
use Rattle.syntax.specs.declared.frame.Frame.{Frame}
use Rattle.syntax.specs.declared.stages.Unfinished.{Unfinished}
use Rattle.syntax.specs.Form.{finish}
use Rattle.levels.specs.Store.{Store, standing, stands}
use Rattle.rules.specs.declared.violation.Violation.{Violation}
use Rattle.rules.specs.Walk.{alone}
use Rattle.walk.specs.declared.machine.Machine.{Machine}
use Rattle.walk.specs.declared.machine.Declaration.{Declaration}
use Rattle.walk.specs.declared.place.Place.{Place}
use Rattle.walk.specs.Places.{between}
use Rattle.walk.specs.Judge.{Numbers, arity}
use Rattle.walk.specs.Step.{Names as Coming, idle, naming, State, state, Turn, turn}

-- the unfinished things where so many names are to come: with none left the declaration is finished
abbrev pub awaited : ℕ → List Unfinished → List Unfinished
awaited zero u = finish u
awaited (suc k) u = u

-- so many names to come, as the code keeps them
abbrev pub pending_of : ℕ → ℕ → ℕ → Option Declaration
pending_of t zero first = None
pending_of t (suc k) first = Some (record { t = t; left = suc k; first = first })

-- the names of some frames
abbrev pub names_of : List Frame → List ℕ
names_of fs = map (λ (f : Frame). f.name) fs

-- the earlier names of a declaration that stand on no level: none but where the statement stands alone
abbrev pub unkept : List Unfinished → List Frame → List ℕ
unkept u earlier = cond (alone u) (reverse (names_of earlier)) []

-- the names to come at the place i
abbrev pub coming_at : ℕ → List Unfinished → Option Declaration → List Frame → Coming
coming_at i u None fs = idle
coming_at i u (Some d) fs = naming d.t d.left (unkept u (between d.first i fs))

-- a level, and room for one more entry
pub record Room (s : Store ℕ) : Type 0 where
  pub level : 0 < length s.levels
  pub entry : standing s.levels < s.capacity

-- the state of the walk before the frame at the place i
abbrev pub state_of : Machine → List Frame → ℕ → List Numbers → State
state_of m fs i ls = state m.operands ls m.things (coming_at i m.things m.pending fs)

-- the state of the walk before the frame at a place, and after it
abbrev pub before : Place → Machine → Store ℕ → State
before p m s = state_of m p.frames.now p.i s.levels

abbrev pub after : Place → Machine → Store ℕ → State
after p m s = state_of m p.frames.now (p.i + 1) s.levels

-- the code answers as the walk does, and a fault leaves the levels as they were
abbrev pub Does : {A : Type 0} → Result State Violation → List Numbers → State → Result A Violation → Type 0
Does went before after (Ok u) = went ≡ Ok after
Does went before after (Err v) = (went ≡ Err v) × (after.levels ≡ before)

-- the same, with the number for the column
abbrev pub Steps : Result Turn Violation → List Numbers → State → Result ℕ Violation → Type 0
Steps went before after (Ok t) = went ≡ Ok (turn t after)
Steps went before after (Err v) = (went ≡ Err v) × (after.levels ≡ before)

-- a name may come at the place i
abbrev pub Awaits : ℕ → Option Declaration → Type 0
Awaits i None = ⊥
Awaits i (Some d) = (d.first ≤ i) × (0 < d.left)

-- the names of a declaration began no later
abbrev pub Within : ℕ → Option Declaration → Type 0
Within i None = Unit {0}
Within i (Some d) = d.first ≤ i

-- what holds after each frame: the store's capacity is as it was, and the names of a declaration began no later than the next place
pub record Onward (p : Place) (old new : Store ℕ) (m : Machine) : Type 0 where
  pub capacity : new.capacity ≡ old.capacity
  pub within : Within (p.i + 1) m.pending

-- what the form of the sheet gives at a frame: no call on a store or a stack is refused
pub record Ready (cap : ℕ) (i : ℕ) (f : Frame) (os : List ℕ) (ls : List Numbers) (u : List Unfinished) (p : Option Declaration) : Type 0 where
  pub enters : f.kind ≤ 0x01 → length ls < 33
  pub level : 0x01 < f.kind → 0 < length ls
  pub entry : 0x01 < f.kind → standing ls < cap
  pub fresh : 0x01 < f.kind → f.kind ≤ 0x02 → stands ls f.name ≡ false
  pub does : 0x0F < f.kind → f.kind ≤ 0x10 → 0 < length os
  pub awaits : 0x11 < f.kind → f.kind ≤ 0x12 → Awaits i p
  pub inits : 0x12 < f.kind → f.kind ≤ 0x13 → 0 < length os
  pub returns : 0x14 < f.kind → f.kind ≤ 0x15 → 0 < length os
  pub opens : 0x15 < f.kind → f.kind ≤ 0x16 → (length ls < 33) × (length u < 32)
  pub begins : 0x17 < f.kind → f.kind ≤ 0x1F → (0 < length os) × (length u < 32)
  pub takes : 0x20 ≤ f.kind → (arity f ≤ length os) × (length os < 256 + arity f)
  pub still : (0x11 < f.kind → f.kind ≤ 0x12 → ⊥) → p ≡ None

-- the same of the code's state before the frame at a place
abbrev pub IsReady : Place → Machine → Store ℕ → Type 0
IsReady p m s = Ready s.capacity p.i p.frame m.operands s.levels m.things m.pending
