use Rattle.std.proofs.Common.{◌≡◌, ◌^◌, ◌<◌, take}
use Rattle.codec.specs.Text.{hexes}
use Rattle.codec.proofs.text.hex_value.Given as goal

abbrev pub invariant-loop-b : goal.invariant-loop-b
invariant-loop-b l = (l.n < 16 ^ l.b-index) × (take l.b-index l.digits ≡ hexes l.b-index l.n)
