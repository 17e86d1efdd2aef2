use Rattle.std.proofs.Common.{length, get_or, refl, ap, ◌∙◌, arith}
use Rattle.std.proofs.lemmas.List.{take_more}
use Rattle.codec.specs.Text.{hexes}
use Rattle.codec.proofs.Hex.{hexes_digit, hexes_more, pow_step, pow_bound}
use Rattle.codec.proofs.text.hex_value.Goals as goal

pub loop-b-init : goal.loop-b-init
unfolding hexes
loop-b-init c = (omega arith, refl)

pub overflow_mul-n : goal.overflow_mul-n
overflow_mul-n c = omega (arith, pow_bound c.loop-b.n c.loop-b.b-index 7 c.loop-b.invariant.0 (omega arith))

pub returns-in_err-digit_value : goal.returns-in_err-digit_value
returns-in_err-digit_value c =
    rw c.from_residual.ensures (λ n e.
    let r = hexes_digit (length c.args.digits.now) n c.loop-b.b-index (omega arith) in
    c.in_err-digit_value.ensures r.0 r.1 (ap (λ l. get_or l c.loop-b.b-index 0) e ∙ r.2))

pub loop-b-preserved : goal.loop-b-preserved
loop-b-preserved c =
    let d = c.in_ok-digit_value.field-0 in
    let h = c.in_ok-digit_value.ensures in
    let v = h.1 in
    let m = hexes_more c.loop-b.b-index c.loop-b.n d h.0 in
    let t = take_more c.args.digits.now c.loop-b.b-index 0 (omega arith) in
    let i = c.loop-b.invariant.1 in
    rw c.from.ensures (pow_step _ _ _ c.loop-b.invariant.0 h.0, (cc))
