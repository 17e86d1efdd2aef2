-- Empty rows have no head and no name.
use Rattle.std.proofs.Common.{refl}
use Rattle.records.proofs.Rows.{new_headed, new_apart}
use Rattle.book.proofs.table.Table.new.Goals as goal

pub invariant_of-result : goal.invariant_of-result
invariant_of-result c = record { full = refl; heads = new_headed; apart = new_apart }
