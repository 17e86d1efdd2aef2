use Rattle.std.proofs.Common.{◌≡◌, take, Some}
use Rattle.heads.specs.Heads.{head_of}
use Rattle.heads.proofs.pack.Given as goal

-- the head of the parameters so far
abbrev pub invariant-loop-code : goal.invariant-loop-code
invariant-loop-code l = head_of (take l.code-index l.parameters) l.returns ≡ Some l.head
