use Rattle.std.proofs.Common.{◌≡◌, ◌*◌, ◌++◌, take, drop}
use Rattle.codec.specs.Text.{text_of}
use Rattle.codec.proofs.text.write.Given as goal

abbrev pub invariant-loop-i : goal.invariant-loop-i
invariant-loop-i l = l.text ≡ text_of (take l.i l.frames) ++ drop (17 * l.i) l.initial.text
