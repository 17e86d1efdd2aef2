use Rattle.std.proofs.Common.{◌<◌, ◌≤◌, length, get_or, sym, ap, ◌∙◌, subst}
use Rattle.syntax.specs.Writing.{blank}
use Rattle.frames.specs.Sheets.{frames_of}
use Rattle.heads.specs.Heads.{bare_head, Pushes}
use Rattle.walk.proofs.HeadCodes as codes
use Rattle.walk.proofs.params.head_of.Goals as goal

pub unwrap-head-requires : goal.unwrap-head-requires
unwrap-head-requires c =
    codes.bare_there (frames_of c.args.sheet.now) c.args.sheet.now.formed c.bare.result (c.bare.ensures.result ∙ ap (λ l. bare_head (get_or l 0 blank).t) c.frames.ensures.result)

pub unwrap-head-requires-in-loop-parameter : goal.unwrap-head-requires-in-loop-parameter
unwrap-head-requires-in-loop-parameter c =
    let i = c.loop-parameter.parameter-index in
    let p = c.parameters-parameter-items.ensures in
    codes.pushed_there (frames_of c.args.sheet.now) c.args.sheet.now.formed i c.loop-parameter.head c.push.result
    (subst (λ l. i < length l) p c.loop-parameter-test.true) c.loop-parameter.invariant (subst (λ l. Pushes c.loop-parameter.head (get_or l i blank).t c.push.result) p c.push.ensures.law)

pub loop-parameter-preserved : goal.loop-parameter-preserved
loop-parameter-preserved c =
    let i = c.loop-parameter.parameter-index in
    let p = c.parameters-parameter-items.ensures in
    sym (codes.pushed_more (frames_of c.args.sheet.now) c.args.sheet.now.formed i c.loop-parameter.head c.push.result
    (subst (λ l. i < length l) p c.loop-parameter-test.true) c.loop-parameter.invariant (subst (λ l. Pushes c.loop-parameter.head (get_or l i blank).t c.push.result) p c.push.ensures.law))
    ∙ c.unwrap-head-in-loop-parameter.ensures

pub returns : goal.returns
returns c =
    let fs = frames_of c.args.sheet.now in
    let i = c.loop-parameter.parameter-index in
    let e = codes.packed_all fs c.args.sheet.now.formed i c.loop-parameter.head (subst (λ l. length l ≤ i) c.parameters-parameter-items.ensures c.loop-parameter-test.false) c.loop-parameter.invariant in
    record { result = e; tree = λ d w. e ∙ codes.packed_tree fs d w }
