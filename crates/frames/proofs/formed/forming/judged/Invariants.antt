use Rattle.std.proofs.Common.{◌≡◌, drop}
use Rattle.syntax.specs.Form.{run, start}
use Rattle.frames.specs.States.{state_of}
use Rattle.frames.proofs.formed.forming.judged.Given as goal

abbrev pub invariant-loop-f : goal.invariant-loop-f
invariant-loop-f l = (l.m.place ≡ l.f-index) × (run l.f-index (state_of l.m) (drop l.f-index l.frames) ≡ run 0 start l.frames)
