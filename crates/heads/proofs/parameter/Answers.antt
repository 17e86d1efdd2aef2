use Rattle.std.proofs.Common.{◌≡◌, ◌+◌, ◌-◌, ◌*◌, ◌/◌, ◌%◌, ◌^◌, ◌<◌, ◌≤◌, Some, sym, ap, ◌∙◌, arith, rules}
use Rattle.heads.proofs.Unpacking.{length_parameters, parameter_is, shifted}
use Rattle.heads.proofs.parameter.Goals as goal

pub overflow_cast-later : goal.overflow_cast-later
overflow_cast-later c =
    let n = c.count.ensures.result ∙ sym (length_parameters c.args.head) in
    let k : c.in_ok-later.later ≤ c.count.result = search rules in
    omega arith

pub overflow_mul-later : goal.overflow_mul-later
overflow_mul-later c =
    let n = c.count.ensures.result ∙ sym (length_parameters c.args.head) in
    let k : c.in_ok-later.later ≤ c.count.result = search rules in
    omega arith

pub overflow_add-later : goal.overflow_add-later
overflow_add-later c =
    let n = c.count.ensures.result ∙ sym (length_parameters c.args.head) in
    let k : c.in_ok-later.later ≤ c.count.result = search rules in
    omega arith

pub returns : goal.returns
returns c =
    let h = c.args.head in
    let n = c.count.ensures.result ∙ sym (length_parameters h) in
    let k = c.in_ok-later.later in
    let l : c.args.i < c.count.result = search rules in
    let e : k ≡ c.count.result - c.args.i - 1 = search rules in
    let u : c.unwrap_or-digits.result ≡ h / 2 ^ (8 + 3 * k) = c.unwrap_or-digits.ensures ∙ shifted h (8 + 3 * k) c.checked_shr.result (omega arith) c.checked_shr.ensures in
    record { result = ap (λ d. Some (d % 8)) u ∙ parameter_is h c.args.i k (omega arith) (omega arith) }
