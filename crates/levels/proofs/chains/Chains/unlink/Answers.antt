use Rattle.std.proofs.Common.{◌-◌, ap, arith}
use Rattle.levels.proofs.Chaining.{linked_less}
use Rattle.levels.proofs.chains.Chains.unlink.Goals as goal

pub invariant_of-self : goal.invariant_of-self
invariant_of-self g c =
    let p = c.args.self.now in
    let less = ap (λ y. y.count) c.shrink.ensures.leaves in
    let l = linked_less p.entries.now p.buckets.heads p.levels.count c.set_head.new.self.heads c.shrink.new.self.count (c.count.result - 1)
    c.index-self-count.result p.buckets.size less (omega (arith, less, c.count.ensures.result)) c.set_head.ensures.leaves
    (record { within = p.within; threaded = p.threaded; headed = p.headed }) in
    record { within = l.within; threaded = l.threaded; headed = l.headed }
