-- No sheet below has a fault.
use Rattle.std.proofs.Common.{◌≡◌, None}
use Rattle.history.specs.Words.{lowest}
use Rattle.records.proofs.Lowest.{kept_at}
use Rattle.book.proofs.table.Table.lowest_fault.Given as goal

abbrev pub invariant-loop-t : goal.invariant-loop-t
invariant-loop-t l = lowest l.t (kept_at l.fn.self.records) ≡ None
