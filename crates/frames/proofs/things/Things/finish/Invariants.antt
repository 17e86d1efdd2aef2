use Rattle.std.proofs.Common.{◌≡◌, length}
use Rattle.syntax.specs.Form.{finish}
use Rattle.frames.proofs.things.Things.finish.Given as goal

abbrev pub invariant-loop-thing : goal.invariant-loop-thing
invariant-loop-thing l = finish l.self ≡ finish l.initial.self

abbrev pub decreases-loop-thing : goal.decreases-loop-thing
decreases-loop-thing l = length l.self
