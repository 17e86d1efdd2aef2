use Rattle.std.proofs.Common.{◌≡◌}
use Rattle.syntax.specs.Heads.{head}
use Rattle.walk.specs.Machines.{state_of}
use Rattle.walk.proofs.Turns.{Held}
use Rattle.walk.proofs.running.run.Given as goal

abbrev pub invariant-loop-i : goal.invariant-loop-i
invariant-loop-i g l =
    let m = g.S.Looking.meaning l.variables in
    Held (g.H.Looking.meaning l.heads).levels (head l.frames).t l.frames l.i l.column (state_of l.machine l.frames l.i m.levels) l.machine.pending m.capacity
    × (m.capacity ≡ (g.S.Looking.meaning l.initial.variables).capacity)
