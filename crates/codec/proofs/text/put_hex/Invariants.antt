use Rattle.std.proofs.Common.{◌≡◌, ◌++◌, length, drop}
use Rattle.codec.specs.Text.{hexes}
use Rattle.codec.proofs.text.put_hex.Given as goal

abbrev pub invariant-loop-k : goal.invariant-loop-k
invariant-loop-k l = hexes l.k l.left ++ drop l.k l.digits ≡ hexes (length l.initial.digits) l.n
