use Rattle.std.proofs.Common.{◌≡◌, ◌-◌, ◌≤◌, length, drop, take, ap, ◌∙◌, rules, arith, tests}
use Rattle.std.specs.Slice.Iter.{iter_rest}
use Rattle.std.proofs.lemmas.List.{length-reverse, take_rest}
use Rattle.std.proofs.lemmas.Iterator.{YieldsList-from_slice}
use Rattle.std.proofs.lemmas.Iterator.Consumers.{YieldsList-from_enumerate}
use Rattle.std.proofs.lemmas.Iterator.Search.{all_from_yields_List}
use Rattle.heads.specs.Heads.{parameters_of}
use Rattle.walk.specs.Judge.{fitting}
use Rattle.walk.proofs.Fits.{is_nth, fits_last}
use Rattle.walk.proofs.operands.Operands.fit.Goals as goal

pub returns : goal.returns
returns c =
    let cs = parameters_of c.args.head in
    let os = c.self.inside.types.items in
    let r = length-reverse os in
    let v = c.self.view_is in
    let l : length cs ≤ length os = omega (arith, ap length v) in
    let k = c.len.result - c.count.result in
    let n : k ≡ length os - length cs = omega arith in
    let rest : iter_rest c.iter.result ≡ drop (length os - length cs) os =
    c.iter.ensures.rest ∙ ap (λ l. take (length l - k) (drop k l)) c.deref.ensures.0 ∙ take_rest os k ∙ ap (λ n. drop n os) n in
    all_from_yields_List (is_nth cs) _ _ c.all.result c.all.ensures.ran (YieldsList-from_enumerate (YieldsList-from_slice _ (ap iter_rest c.enumerate.ensures.source ∙ rest)) c.enumerate.ensures.count) (λ x b q k. search (rules, tests))
    ∙ fits_last os cs l ∙ ap (fitting cs) v
