use Rattle.levels.specs.Layout.{layout}
use Rattle.levels.proofs.Chaining.{declared_linked}
use Rattle.levels.proofs.chains.ChainsDeclaring.declare.Goals as goal

pub invariant_of-self : goal.invariant_of-self
invariant_of-self g c =
    let p = c.args.self.now in
    let l = declared_linked (layout p.levels) (layout c.grow.new.self) p.entries.now c.here.result c.capacity.result c.in_ok-place.place p.buckets.heads c.set_head.new.self.heads
    (record { name = c.args.name; value = c.args.value; next = c.head.result }) c.in_ok-place.ensures.result c.capacity.ensures.result c.grow.ensures.leaves p.buckets.size
    c.head.ensures.result c.set_head.ensures.leaves (record { within = p.within; threaded = p.threaded; headed = p.headed }) in
    record { within = l.within; threaded = l.threaded; headed = l.headed }
