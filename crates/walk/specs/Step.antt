-- What one frame does to a walk, on the codes of types and on packed heads, and the walk over all frames.
use Rattle.std.specs.Prelude.{ℕ, zero, suc, ◌-◌, Bool as Truth, false, cond, ◌||◌, List, [], ◌∷◌, length, drop, Ok, Err, Result, ◌==◌, nat_le, nat_lt, slice_index_or}
use Rattle.syntax.specs.declared.frame.Frame.{Frame}
use Rattle.syntax.specs.declared.stages.Unfinished.{Unfinished}
use Rattle.syntax.specs.declared.stages.Unfinished.TheVariants.{Block, Loop, Choice}
use Rattle.syntax.specs.Form.{finish}
use Rattle.levels.specs.Store.{stands, added, below}
use Rattle.rules.specs.declared.violation.Violation.{Violation}
use Rattle.rules.specs.declared.violation.Violation.TheVariants.{OtherInitial, Repeated, OtherReturn, NoCondition}
use Rattle.rules.specs.Judge.{among}
use Rattle.rules.specs.Walk.{alone}
use Rattle.walk.specs.Judge.{Numbers, arity, judge}

-- the names of a declaration: none to come; or the type's code, how many are to come, and the earlier ones that stand on no level
pub data Names : Type 0 where
  idle : Names
  naming : ℕ → ℕ → List ℕ → Names

-- the types of the operands, the newest first; the levels; the unfinished things, the innermost first; the names to come
pub record State : Type 0 where
  pub operands : List ℕ
  pub levels : List Numbers
  pub things : List Unfinished
  pub names : Names

-- the state of these four
abbrev pub state : List ℕ → List Numbers → List Unfinished → Names → State
state os ls u n = record { operands = os; levels = ls; things = u; names = n }

-- so many names are to come of a declaration; with none left it is finished
abbrev pub awaiting : List ℕ → List Numbers → List Unfinished → ℕ → ℕ → List ℕ → State
awaiting os ls u t zero earlier = state os ls (finish u) idle
awaiting os ls u t (suc k) earlier = state os ls u (naming t (suc k) earlier)

-- the levels with a name more, unless the statement stands alone
abbrev pub kept : List Unfinished → List Numbers → ℕ → ℕ → List Numbers
kept u ls x t = cond (alone u) ls (added ls (x, t))

-- the answer where a test holds
abbrev pub asked : Truth → Violation → State → Result State Violation
asked b v s = cond b (Ok s) (Err v)

-- a name of a declaration stands on the top level, or is among the earlier ones that stand on no level
abbrev pub repeating : List Numbers → ℕ → Names → Truth
repeating ls x idle = false
repeating ls x (naming t left earlier) = stands ls x || among earlier x

-- a name of a declaration taken
abbrev pub taken : List ℕ → List Numbers → List Unfinished → ℕ → Names → State
taken os ls u x idle = state os ls u idle
taken os ls u x (naming t left earlier) = awaiting os (kept u ls x t) u t (left - 1) (cond (alone u) (x ∷ earlier) earlier)

-- a name of a declaration
abbrev pub named : List ℕ → List Numbers → List Unfinished → ℕ → Names → Result State Violation
named os ls u x n = cond (repeating ls x n) (Err Repeated) (Ok (taken os ls u x n))

-- a declared name that starts with the newest operand
abbrev pub initial : List ℕ → List Numbers → List Unfinished → Frame → Result State Violation
initial os ls u f =
    cond (f.t == slice_index_or os 0 5)
    (cond (stands ls f.name) (Err Repeated) (Ok (state (drop 1 os) (kept u ls f.name f.t) (finish u) idle)))
    (Err OtherInitial)

-- what a condition of WHILE or IF governs
abbrev pub governed : ℕ → Unfinished
governed k = cond (nat_le k 0x18) Loop (Choice 2)

-- a frame that is no expression, in a function whose return type has the code ρ
abbrev pub statement : ℕ → Frame → List ℕ → List Numbers → List Unfinished → Names → Result State Violation
statement ρ f os ls u n =
    cond (nat_le f.kind 0x01) (Ok (state os ([] ∷ ls) u idle))
    (cond (nat_le f.kind 0x02) (Ok (state os (added ls (f.name, f.t)) u idle))
    (cond (nat_le f.kind 0x0F) (Ok (state os ls u idle))
    (cond (nat_le f.kind 0x10) (Ok (state (drop 1 os) ls (finish u) idle))
    (cond (nat_le f.kind 0x11) (Ok (awaiting os ls u f.t f.load []))
    (cond (nat_le f.kind 0x12) (named os ls u f.name n)
    (cond (nat_le f.kind 0x13) (initial os ls u f)
    (cond (nat_le f.kind 0x14) (asked (ρ == 5) OtherReturn (state os ls (finish u) idle))
    (cond (nat_le f.kind 0x15) (asked (ρ == slice_index_or os 0 5) OtherReturn (state (drop 1 os) ls (finish u) idle))
    (cond (nat_le f.kind 0x16) (Ok (state os ([] ∷ ls) (Block ∷ u) idle))
    (cond (nat_le f.kind 0x17) (Ok (state os (below ls) (finish (drop 1 u)) idle))
    (asked (1 == slice_index_or os 0 5) NoCondition (state (drop 1 os) ls (governed f.kind ∷ u) idle))))))))))))

-- the same from a state
abbrev pub stated : ℕ → Frame → State → Result State Violation
stated ρ f s = statement ρ f s.operands s.levels s.things s.names

-- the number for the column, and the state after
pub record Turn : Type 0 where
  pub byte : ℕ
  pub next : State

-- the two together
abbrev pub turn : ℕ → State → Turn
turn b s = record { byte = b; next = s }

-- a frame that ends no expression has 0 in the column
abbrev pub plain : Result State Violation → Result Turn Violation
plain (Ok s) = Ok (turn 0 s)
plain (Err v) = Err v

-- one that ends an expression has its type there, and as an operand
abbrev pub typed : Frame → State → Result ℕ Violation → Result Turn Violation
typed f s (Ok t) = Ok (turn t (state (t ∷ drop (arity f) s.operands) s.levels s.things idle))
typed f s (Err v) = Err v

-- one frame, under the heads hs
abbrev pub stepped : List Numbers → ℕ → Frame → State → Result Turn Violation
stepped hs ρ f s = cond (nat_lt f.kind 0x20) (plain (stated ρ f s)) (typed f s (judge hs s.levels f s.operands))

-- the types, the last first, and the levels; or the violation, its place and the levels
pub data Outcome : Type 0 where
  ended : List ℕ → List Numbers → Outcome
  broken : Violation → ℕ → List Numbers → Outcome

-- the frames in order, with the types so far
unfoldable pub walked : List Numbers → ℕ → List Frame → List ℕ → State → Outcome
walked hs ρ [] c s = ended c s.levels
walked hs ρ (f ∷ fs) c s = elim (stepped hs ρ f s) [ Ok p ↦ walked hs ρ fs (p.byte ∷ c) p.next | Err v ↦ broken v (length c) s.levels ]

-- no level stands at first
abbrev pub start : State
start = state [] [] [] idle
