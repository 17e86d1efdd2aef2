-- The sheets below are settled.
use Rattle.std.proofs.Common.{◌≡◌, length}
use Rattle.records.proofs.Settling.{SettledBelow}
use Rattle.book.proofs.table.Table.walk_due.Given as goal

abbrev pub invariant-loop-t : goal.invariant-loop-t
invariant-loop-t g l =
    record {
      full : length l.slot-items ≡ 32;
      settled :
          SettledBelow l.fn.self.records l.frames l.initial.column (g.S.Looking.meaning l.initial.variables) l.t l.slot-items l.column
          (g.S.Looking.meaning l.variables) l.walked;
    }
