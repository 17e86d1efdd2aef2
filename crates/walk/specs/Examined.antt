-- What the examination of a sheet answers and leaves, for every input.
use Rattle.std.specs.Prelude.{◌≡◌, ℕ, ◌≤◌, Bool as Truth, true, cond, not, ◌&&◌, List, map, length, replicate, Ok, Err, Result, ◌==◌, nat_le}
use Rattle.syntax.specs.declared.frame.Frame.{Frame}
use Rattle.syntax.specs.Heads.{head}
use Rattle.syntax.specs.Form.{is_sheet}
use Rattle.levels.specs.Store.{Store, with_levels}
use Rattle.heads.specs.Heads.{packed}
use Rattle.rules.specs.Heads.{Signature}
use Rattle.rules.specs.Walk.{walk_sheet}
use Rattle.rules.specs.Typed.{column_left}
use Rattle.walk.specs.declared.verdict.Verdict.{Verdict}
use Rattle.walk.specs.declared.verdict.Verdict.TheVariants.{Altered}
use Rattle.walk.specs.declared.verdict.Refusal.{Refusal}
use Rattle.walk.specs.declared.verdict.Refusal.TheVariants.{OtherColumn, SmallStore}
use Rattle.walk.specs.Judge.{Numbers}
use Rattle.walk.specs.Step.{Outcome}
use Rattle.walk.specs.Outcomes.{verdict_of, column_of, levels_of}
use Rattle.walk.specs.Params.{param_frames, param_twice}
use Rattle.walk.specs.Tied.{Holds, walk_verdict, walk_levels}

-- the codes of a sheet's parameter types, and its head in a number
abbrev pub param_codes : List Frame → List ℕ
param_codes fs = map (λ (f : Frame). f.t) (param_frames fs)

abbrev pub sheet_packed : List Frame → ℕ
sheet_packed fs = packed (param_codes fs) (head fs).t

-- the frames have the form of a sheet with this name and head, and no parameter twice
abbrev pub recorded : List Frame → ℕ → ℕ → Truth
recorded fs name h = is_sheet fs && ((head fs).name == name && (sheet_packed fs == h && not (param_twice fs)))

-- the answer: refused where the column has not n = 256 places or the store too little room, else the verdict
abbrev pub examined : ℕ → ℕ → Truth → Outcome → Result Verdict Refusal
examined n capacity b o = cond (n == 256) (cond (nat_le 256 capacity) (Ok (cond b (verdict_of o) Altered)) (Err SmallStore)) (Err OtherColumn)

-- the column after: where the frames are altered 0 alone, where refused as before
abbrev pub column_after : List ℕ → ℕ → Truth → Outcome → List ℕ
column_after c capacity b o = cond (length c == 256) (cond (nat_le 256 capacity) (cond b (column_of o) (replicate 256 0)) c) c

-- the store of variables after: as before but for a walk
abbrev pub store_after : ℕ → Store ℕ → Truth → Outcome → Store ℕ
store_after n s b o = cond (n == 256) (cond (nat_le 256 s.capacity) (cond b (with_levels s (levels_of o)) s) s) s

-- what is left of a column and a store
pub record Leaves (before after : List ℕ) (s t : Store ℕ) (b : Truth) (o : Outcome) : Type 0 where
  pub column : after ≡ column_after before s.capacity b o
  pub variables : t ≡ store_after (length before) s b o

-- answer, column and levels are those of the rules' walk over the sheet with the heads S
pub record Walks (S : Signature) (fs : List Frame) (r : Result Verdict Refusal) (c : List ℕ) (ls : List Numbers) : Type 0 where
  pub verdict : r ≡ Ok (walk_verdict (walk_sheet S fs))
  pub column : c ≡ column_left (walk_sheet S fs)
  pub levels : ls ≡ walk_levels (walk_sheet S fs)

-- so they are for every signature whose heads are held, where nothing is refused and the frames are as recorded
abbrev pub Decides : List Numbers → List Frame → ℕ → ℕ → Truth → Result Verdict Refusal → List ℕ → List Numbers → Type 0
Decides hs fs n capacity b r c ls = (S : Signature) → Holds S hs → n ≡ 256 → 256 ≤ capacity → b ≡ true → Walks S fs r c ls
