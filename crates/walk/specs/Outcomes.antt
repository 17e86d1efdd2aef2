-- What a walk answers, and what it leaves in the column and in the levels.
use Rattle.std.specs.Prelude.{ℕ, ◌-◌, List, [], ◌++◌, reverse, length, replicate}
use Rattle.syntax.specs.declared.frame.Frame.{Frame}
use Rattle.syntax.specs.Heads.{head}
use Rattle.walk.specs.declared.verdict.Verdict.{Verdict}
use Rattle.walk.specs.declared.verdict.Verdict.TheVariants.{Valid, Broken}
use Rattle.walk.specs.Judge.{Numbers}
use Rattle.walk.specs.Step.{Outcome, ended, broken, walked, start}

-- the walk over a sheet under the heads hs
abbrev pub outcome : List Numbers → List Frame → Outcome
outcome hs fs = walked hs (head fs).t fs [] start

-- valid, or broken at the place
abbrev pub verdict_of : Outcome → Verdict
verdict_of (ended c ls) = Valid
verdict_of (broken v p ls) = Broken v p

-- the types in order and 0 up to 256 numbers; a fault leaves 0 alone
abbrev pub column_of : Outcome → List ℕ
column_of (ended c ls) = reverse c ++ replicate (256 - length c) 0
column_of (broken v p ls) = replicate 256 0

-- the levels at the end or at the fault
abbrev pub levels_of : Outcome → List Numbers
levels_of (ended c ls) = ls
levels_of (broken v p ls) = ls
