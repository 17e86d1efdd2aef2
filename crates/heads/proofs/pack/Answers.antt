use Rattle.std.proofs.Common.{◌+◌, take, Some, sym, ap, ◌∙◌}
use Rattle.std.proofs.lemmas.List.{take_more, take_all}
use Rattle.heads.specs.Heads.{head_of}
use Rattle.heads.proofs.Pushing.{head_bare, head_none, unpacked}
use Rattle.heads.proofs.pack.Goals as goal

pub returns-in_err-head : goal.returns-in_err-head
returns-in_err-head c =
    let ps = c.args.parameters.now in
    let t = c.args.returns in
    let e = c.from_residual.ensures ∙ head_none 0 ps t (c.in_err-head.ensures.result ∙ head_bare t) in
    record { result = e; law = unpacked ps t _ e }

pub loop-code-init : goal.loop-code-init
loop-code-init c = sym (c.in_ok-head.ensures.result ∙ head_bare c.args.returns)

pub returns-in_err-head-2 : goal.returns-in_err-head-2
returns-in_err-head-2 c =
    let ps = c.args.parameters.now in
    let t = c.args.returns in
    let i = c.loop-code.code-index in
    let more = c.in_err-head-2.ensures.law (take i ps) t c.loop-code.invariant in
    let e = c.from_residual-in_err-head-2.ensures ∙ head_none (i + 1) ps t (more ∙ sym (ap (λ l. head_of l t) (take_more ps i 0 c.loop-code-test.true))) in
    record { result = e; law = unpacked ps t _ e }

pub loop-code-preserved : goal.loop-code-preserved
loop-code-preserved c =
    let ps = c.args.parameters.now in
    let t = c.args.returns in
    let i = c.loop-code.code-index in
    let more = c.in_ok-head-2.ensures.law (take i ps) t c.loop-code.invariant in
    ap (λ l. head_of l t) (take_more ps i 0 c.loop-code-test.true) ∙ sym more

pub returns : goal.returns
returns c =
    let ps = c.args.parameters.now in
    let t = c.args.returns in
    let e = sym (sym (ap (λ l. head_of l t) (take_all c.loop-code.code-index ps c.loop-code-test.false)) ∙ c.loop-code.invariant) in
    record { result = e; law = unpacked ps t (Some c.loop-code.head) e }
