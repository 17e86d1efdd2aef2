-- The form of a sheet, as a machine that takes its frames in order.
use Rattle.std.specs.Prelude.{ℕ, ◌+◌, ◌-◌, Bool, true, false, cond, List, [], ◌∷◌, length, Some, None, Option, ◌==◌, nat_le, nat_lt}
use Rattle.syntax.specs.declared.frame.Frame.{Frame}
use Rattle.syntax.specs.declared.kinds.Role.{Role}
use Rattle.syntax.specs.declared.kinds.Role.TheVariants.{Head, Param, End, Operand, Call, Statement, Decl, Name, Open, Close, While, If}
use Rattle.syntax.specs.declared.kinds.Row.{Row}
use Rattle.syntax.specs.declared.stages.Stage.{Stage}
use Rattle.syntax.specs.declared.stages.Stage.TheVariants.{Start, Params, Names, Body, Ended}
use Rattle.syntax.specs.declared.stages.Unfinished.{Unfinished}
use Rattle.syntax.specs.declared.stages.Unfinished.TheVariants.{Block, Loop, Choice}
use Rattle.syntax.specs.Kinds.{row, fields_fit}

-- an answer, or the number and place of a refusal
pub data Answer (A : Type 0) : Type 0 where
  fine : A → Answer A
  refused : ℕ → ℕ → Answer A

-- what comes next, the unfinished things with the innermost first, and the operands ready
pub record State : Type 0 where
  pub stage : Stage
  pub stack : List Unfinished
  pub ready : ℕ

-- the state of these three
abbrev pub at : Stage → List Unfinished → ℕ → State
at g u r = record { stage = g; stack = u; ready = r }

-- only at the start, elsewhere 23
abbrev pub starting : ℕ → Stage → Answer State → Answer State
starting p Start a = a
starting p (Params n) a = refused 23 p
starting p (Names n) a = refused 23 p
starting p Body a = refused 23 p
starting p Ended a = refused 23 p

-- only where n parameters are to come, elsewhere 23
abbrev pub at_params : ℕ → Stage → (ℕ → Answer State) → Answer State
at_params p Start f = refused 23 p
at_params p (Params n) f = f n
at_params p (Names n) f = refused 23 p
at_params p Body f = refused 23 p
at_params p Ended f = refused 23 p

-- only where n names are to come, elsewhere 23
abbrev pub at_names : ℕ → Stage → (ℕ → Answer State) → Answer State
at_names p Start f = refused 23 p
at_names p (Params n) f = refused 23 p
at_names p (Names n) f = f n
at_names p Body f = refused 23 p
at_names p Ended f = refused 23 p

-- only in the body, elsewhere 23
abbrev pub in_body : ℕ → Stage → Answer State → Answer State
in_body p Start a = refused 23 p
in_body p (Params n) a = refused 23 p
in_body p (Names n) a = refused 23 p
in_body p Body a = a
in_body p Ended a = refused 23 p

-- n parameters are to come: with none the body begins
abbrev pub await_params : ℕ → List Unfinished → ℕ → State
await_params n u r = cond (n == 0) (at Body u r) (at (Params n) u r)

-- a finished statement finishes the loop or second half above it, and so on upward
abbrev pub finish : List Unfinished → List Unfinished
finish [] = []
finish (Block ∷ u) = Block ∷ u
finish (Loop ∷ u) = finish u
finish (Choice n ∷ u) = cond (nat_lt 1 n) (Choice (n - 1) ∷ u) (finish u)

-- n names are to come: with none the declaration is finished
abbrev pub await_names : ℕ → List Unfinished → ℕ → State
await_names n u r = cond (n == 0) (at Body (finish u) r) (at (Names n) u r)

-- the operands ready are exactly n
abbrev pub exactly : ℕ → ℕ → ℕ → Answer State → Answer State
exactly p n r a = cond (r == n) a (refused 23 p)

-- n operands are taken and one is added
abbrev pub operand : ℕ → ℕ → List Unfinished → ℕ → Answer State
operand p n u r = cond (nat_le n r) (fine (at Body u (r - n + 1))) (refused 23 p)

-- at most 32 things are unfinished together
abbrev pub begin : ℕ → Unfinished → List Unfinished → Answer State
begin p x u = cond (nat_lt (length u) 32) (fine (at Body (x ∷ u) 0)) (refused 24 p)

-- a block is innermost
abbrev pub close : ℕ → List Unfinished → Answer State
close p [] = refused 23 p
close p (Block ∷ u) = fine (at Body (finish u) 0)
close p (Loop ∷ u) = refused 23 p
close p (Choice n ∷ u) = refused 23 p

-- nothing is unfinished
abbrev pub end : ℕ → List Unfinished → Answer State
end p [] = fine (at Ended [] 0)
end p (x ∷ u) = refused 23 p

-- what a frame of that role and load does
abbrev pub allow : ℕ → Role → ℕ → Stage → List Unfinished → ℕ → Answer State
allow p Head load g u r = starting p g (fine (await_params load u r))
allow p Param load g u r = at_params p g λ n. fine (await_params (n - 1) u r)
allow p Name load g u r = at_names p g λ n. fine (await_names (n - 1) u r)
allow p (Operand n) load g u r = in_body p g (operand p n u r)
allow p Call load g u r = in_body p g (operand p load u r)
allow p (Statement n) load g u r = in_body p g (exactly p n r (fine (at Body (finish u) 0)))
allow p Decl load g u r = in_body p g (exactly p 0 r (fine (await_names load u 0)))
allow p While load g u r = in_body p g (exactly p 1 r (begin p Loop u))
allow p If load g u r = in_body p g (exactly p 1 r (begin p (Choice 2) u))
allow p Open load g u r = in_body p g (exactly p 0 r (begin p Block u))
allow p Close load g u r = in_body p g (exactly p 0 r (close p u))
allow p End load g u r = in_body p g (exactly p 0 r (end p u))

-- END was read
abbrev pub has_ended : Stage → Bool
has_ended Start = false
has_ended (Params n) = false
has_ended (Names n) = false
has_ended Body = false
has_ended Ended = true

-- a frame of a kind with that row, 22 where a field is out of range
abbrev pub judge : ℕ → State → Frame → Row → Answer State
judge p s f r = cond (fields_fit r f) (allow p r.role f.load s.stage s.stack s.ready) (refused 22 p)

-- 21 where the kind is unknown
abbrev pub known : ℕ → State → Frame → Option Row → Answer State
known p s f None = refused 21 p
known p s f (Some r) = judge p s f r

-- the frame at place p, 26 after END
unfoldable pub step : ℕ → State → Frame → Answer State
step p s f = cond (has_ended s.stage) (refused 26 p) (known p s f (row f.kind))

-- what is said of a list of frames
abbrev pub Verdict : Type 0
Verdict = Answer (Unit {0})

-- the frames form a sheet
abbrev pub accepted : Verdict
accepted = fine tt

-- at the end of p frames, 25 where END is missing
abbrev pub ending : ℕ → Stage → Verdict
ending p g = cond (has_ended g) accepted (refused 25 p)

-- the frames from place p on, from the state s
abbrev pub run : ℕ → State → List Frame → Verdict
run p s [] = ending p s.stage
run p s (f ∷ fs) = elim (step p s f) [ fine s' ↦ run (p + 1) s' fs | refused n q ↦ refused n q ]

-- before the first frame
abbrev pub start : State
start = at Start [] 0

-- the verdict on a list of frames, 20 where there are too many
abbrev pub forms : List Frame → Verdict
forms fs = cond (nat_lt 256 (length fs)) (refused 20 256) (run 0 start fs)

-- the verdict is no refusal
abbrev pub is_fine : Verdict → Bool
is_fine (fine u) = true
is_fine (refused n p) = false

-- the frames have the form of a sheet
abbrev pub is_sheet : List Frame → Bool
is_sheet fs = is_fine (forms fs)
