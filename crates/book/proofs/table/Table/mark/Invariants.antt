-- The sheets below are marked as they should be.
use Rattle.std.proofs.Common.{◌≡◌, length, None}
use Rattle.history.specs.Areas.{part}
use Rattle.records.specs.Records.{signed, marked_record}
use Rattle.records.proofs.Updates.{UpdatedTo}
use Rattle.book.proofs.table.Table.mark.Given as goal

abbrev pub invariant-loop-t : goal.invariant-loop-t
invariant-loop-t l =
    record {
      full : length l.slot-items ≡ 32;
      marked : UpdatedTo None (λ t. marked_record (signed l.old) (signed l.new) (part t l.frames)) l.fn.self.records l.t l.slot-items;
    }
