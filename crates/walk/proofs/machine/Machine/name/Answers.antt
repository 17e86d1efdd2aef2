use Rattle.std.proofs.Common.{◌+◌, ◌-◌, sym, ap, ◌∙◌, subst}
use Rattle.walk.specs.Step.{kept, taken}
use Rattle.walk.specs.Machines.{coming_at, Awaits, Within}
use Rattle.walk.proofs.Earlier as earlier
use Rattle.walk.proofs.machine.Machine.name.Goals as goal

pub returns : goal.returns
returns g c =
    let m = c.args.self.now in
    let p = c.args.place.now in
    let fs = p.frames.now in
    let i = p.i in
    let ls = (g.S.Looking.meaning c.args.variables.now).levels in
    let os = m.operands in
    let u = m.things in
    let d = c.in-Some.declaration in
    let a = subst (Awaits i) c.in-Some.is c.requires.awaits in
    let e = c.await_names.ensures in
    record {
      does =
          ap (λ q. taken os ls u p.frame.name (coming_at i u q fs)) c.in-Some.is
          ∙ earlier.awaiting_more d.t p.frame fs d.first i p.at.is a.0 p.at.within u os (kept u ls p.frame.name d.t) (d.left - 1)
          ∙ earlier.states (i + 1) fs (sym e.operands) (sym (ap (λ s. s.levels) c.keep.ensures)) (sym e.things) (sym e.pending);
      onward = record {
        capacity = ap (λ s. s.capacity) c.keep.ensures;
        within = subst (Within (i + 1)) (sym e.pending) (earlier.within_more d.t (d.left - 1) d.first i a.0);
      };
    }
