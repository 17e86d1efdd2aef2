use Rattle.std.proofs.Common.{◌≡◌, take, Some}
use Rattle.syntax.specs.Heads.{head}
use Rattle.frames.specs.Sheets.{frames_of}
use Rattle.heads.specs.Heads.{head_of}
use Rattle.walk.specs.Examined.{param_codes}
use Rattle.walk.proofs.params.head_of.Given as goal

abbrev pub invariant-loop-parameter : goal.invariant-loop-parameter
invariant-loop-parameter l = head_of (take l.parameter-index (param_codes (frames_of l.sheet))) (head (frames_of l.sheet)).t ≡ Some l.head
