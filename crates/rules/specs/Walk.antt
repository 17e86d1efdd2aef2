-- The walk over a sheet: its frames in order, each judged with the heads and the levels of variables.
use Rattle.std.specs.Prelude.{ℕ, zero, suc, pred, Bool as Truth, true, false, cond, List, [], ◌∷◌, map, reverse, length, get_or, take, drop, Ok, Result, slice_index_or}
use Rattle.syntax.specs.declared.frame.Frame.{Frame}
use Rattle.syntax.specs.declared.frame.«Type».{«Type» as Ty}
use Rattle.syntax.specs.declared.frame.«Type».TheVariants.{Void}
use Rattle.syntax.specs.declared.stages.Unfinished.{Unfinished}
use Rattle.syntax.specs.declared.stages.Unfinished.TheVariants.{Block, Loop, Choice}
use Rattle.syntax.specs.Writing.{Token, HEAD, PARAM, END, DO, DECL, NAME, INIT, RETV, RET, OPEN, CLOSE, WHILE, IF, LITERAL, VARIABLE, CALL, UPDATE, BINARY, ASSIGN, type_code, blank}
use Rattle.syntax.specs.Types.{type_of}
use Rattle.syntax.specs.Form.{finish}
use Rattle.levels.specs.Store.{below}
use Rattle.rules.specs.declared.violation.Violation.{Violation}
use Rattle.rules.specs.Heads.{Signature, Levels}
use Rattle.rules.specs.Faults.{Fault, ◌>>=◌, placed}
use Rattle.rules.specs.Judge.{literal_type, judge_variable, judge_update, judge_call, judge_binary, judge_assign, judge_init, judge_name, judge_return, judge_condition}
use Rattle.rules.specs.Tokens.{token}

-- the names of a declaration: none to come; or its type, how many are to come, and the earlier ones that were added nowhere
pub data Naming : Type 0 where
  idle : Naming
  naming : Ty → ℕ → List ℕ → Naming

-- the types of the frames so far, the last first, 0 where no expression ends; the types of the operands, the newest first;
-- the levels of variables; the unfinished things, the innermost first; the names to come
pub record State : Type 0 where
  pub column : List ℕ
  pub operands : List Ty
  pub levels : Levels
  pub unfinished : List Unfinished
  pub naming_now : Naming

abbrev pub state : List ℕ → List Ty → Levels → List Unfinished → Naming → State
state c os Γ u n = record { column = c; operands = os; levels = Γ; unfinished = u; naming_now = n }

-- the next statement stands directly under WHILE or IF
abbrev pub alone : List Unfinished → Truth
alone [] = false
alone (Block ∷ u) = false
alone (Loop ∷ u) = true
alone (Choice n ∷ u) = true

-- the newest operand and the one before it; where a sheet is well formed they are there
abbrev pub newest : List Ty → Ty
newest os = slice_index_or os 0 Void

abbrev pub before_newest : List Ty → Ty
before_newest os = slice_index_or os 1 Void

-- the levels with an entry more on the top
abbrev pub extended : Levels → ℕ × Ty → Levels
extended [] e = []
extended (τ ∷ Γ) e = (e ∷ τ) ∷ Γ

-- the levels with x declared on the top, or unaltered where the statement stands alone
abbrev pub keep : Truth → Levels → ℕ → Ty → Levels
keep own Γ x t = cond own Γ (extended Γ (x, t))

-- a frame that is no expression, and one that ends an expression of the type t
abbrev pub passed : State → List Ty → Levels → List Unfinished → State
passed s os Γ u = state (0 ∷ s.column) os Γ u idle

abbrev pub given : State → List Ty → Ty → State
given s os t = state (type_code t ∷ s.column) (t ∷ os) s.levels s.unfinished idle

-- so many names are to come of a declaration; with none left it is finished
abbrev pub await : List ℕ → List Ty → Levels → List Unfinished → Ty → ℕ → List ℕ → State
await c os Γ u t zero earlier = state c os Γ (finish u) idle
await c os Γ u t (suc k) earlier = state c os Γ u (naming t (suc k) earlier)

-- a name of a declaration is declared on the top; directly under WHILE or IF it is only remembered
abbrev pub move_name : ℕ → State → Naming → Result State Violation
move_name x s idle = Ok (passed s s.operands s.levels s.unfinished)
move_name x s (naming t k earlier) =
    judge_name s.levels earlier x >>= λ _. let own = alone s.unfinished in
    Ok (await (0 ∷ s.column) s.operands (keep own s.levels x t) s.unfinished t (pred k) (cond own (x ∷ earlier) earlier))

-- what a frame does in a function that returns r, or what it violates
abbrev pub move : Signature → Ty → Token → State → Result State Violation
move S r (HEAD t f n) s = Ok (passed s s.operands ([] ∷ s.levels) s.unfinished)
move S r (PARAM t x) s = Ok (passed s s.operands (extended s.levels (x, t)) s.unfinished)
move S r END s = Ok (passed s s.operands s.levels s.unfinished)
move S r DO s = Ok (passed s (drop 1 s.operands) s.levels (finish s.unfinished))
move S r (DECL t n) s = Ok (await (0 ∷ s.column) s.operands s.levels s.unfinished t n [])
move S r (NAME x) s = move_name x s s.naming_now
move S r (INIT t x) s =
    judge_init s.levels t x (newest s.operands) >>= λ _.
    Ok (passed s (drop 1 s.operands) (keep (alone s.unfinished) s.levels x t) (finish s.unfinished))
move S r RETV s = judge_return r Void >>= λ _. Ok (passed s s.operands s.levels (finish s.unfinished))
move S r RET s = judge_return r (newest s.operands) >>= λ _. Ok (passed s (drop 1 s.operands) s.levels (finish s.unfinished))
move S r OPEN s = Ok (passed s s.operands ([] ∷ s.levels) (Block ∷ s.unfinished))
move S r CLOSE s = Ok (passed s s.operands (below s.levels) (finish (drop 1 s.unfinished)))
move S r WHILE s = judge_condition (newest s.operands) >>= λ _. Ok (passed s (drop 1 s.operands) s.levels (Loop ∷ s.unfinished))
move S r IF s = judge_condition (newest s.operands) >>= λ _. Ok (passed s (drop 1 s.operands) s.levels (Choice 2 ∷ s.unfinished))
move S r (LITERAL l) s = Ok (given s s.operands (literal_type l))
move S r (VARIABLE x) s = judge_variable s.levels x >>= λ t. Ok (given s s.operands t)
move S r (CALL f n) s = judge_call S f (reverse (take n s.operands)) >>= λ t. Ok (given s (drop n s.operands) t)
move S r (UPDATE c x) s = judge_update s.levels x >>= λ t. Ok (given s s.operands t)
move S r (BINARY o) s = judge_binary o (before_newest s.operands) (newest s.operands) >>= λ t. Ok (given s (drop 2 s.operands) t)
move S r (ASSIGN x) s = judge_assign s.levels x (newest s.operands) >>= λ t. Ok (given s (drop 1 s.operands) t)

-- a frame that violates a rule is the fault's place, and leaves the levels as they stood before it
abbrev pub step : Signature → Ty → Token → State → Result State Fault
step S r m s = placed (length s.column) s.levels (move S r m s)

-- the tokens in order, up to the first fault
abbrev pub walk : Signature → Ty → List Token → State → Result State Fault
walk S r [] s = Ok s
walk S r (m ∷ ms) s = step S r m s >>= λ s'. walk S r ms s'

-- no level stands at first
abbrev pub start : State
start = state [] [] [] [] idle

-- what a sheet returns: the type in its first frame
abbrev pub returned : List Frame → Ty
returned fs = type_of (get_or fs 0 blank).t

-- the walk over some frames of a sheet that returns r
abbrev pub walk_frames : Signature → Ty → List Frame → Result State Fault
walk_frames S r fs = walk S r (map token fs) start

-- what the walk of a sheet answers: the types of its frames in order and the levels left, or the fault
abbrev pub walk_sheet : Signature → List Frame → Result (List ℕ × Levels) Fault
walk_sheet S fs = walk_frames S (returned fs) fs >>= λ s. Ok (reverse s.column, s.levels)
