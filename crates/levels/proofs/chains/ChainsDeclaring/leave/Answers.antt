use Rattle.std.proofs.Common.{◌≡◌, Some, sym, ap, ◌∙◌, arith, rules}
use Rattle.levels.specs.Layout.{layout, top_of}
use Rattle.levels.proofs.Storing.{count_closed}
use Rattle.levels.proofs.Chaining.{linked_same}
use Rattle.levels.proofs.chains.ChainsDeclaring.leave.Goals as goal

pub invariant_of-self : goal.invariant_of-self
invariant_of-self g c =
    let p = c.loop-self.self in
    let t : Some c.in_ok-start.start ≡ c.top.result = search rules in
    let l = linked_same p.entries.now p.buckets.heads p.levels.count c.leave.new.self.count
    (count_closed (layout p.levels) (layout c.leave.new.self) c.in_ok-start.start p.levels.sound c.leave.ensures.leaves
    (t ∙ c.top.ensures.result ∙ ap top_of (sym c.loop-self.invariant.0)) (omega (arith, c.loop-self-test.false, c.count.ensures.result)))
    (record { within = p.within; threaded = p.threaded; headed = p.headed }) in
    record { within = l.within; threaded = l.threaded; headed = l.headed }
