-- A mark leaves every sheet's signature; where the one sheet's stays, nothing is marked.
use Rattle.std.proofs.Common.{None, get_or}
use Rattle.history.specs.Areas.{part}
use Rattle.records.specs.Records.{signed}
use Rattle.records.proofs.Rows.{headed_kept, apart_kept}
use Rattle.records.proofs.Marking.{marks_signed, unmarked}
use Rattle.book.proofs.table.Table.mark.Goals as goal

pub invariant_of-self : goal.invariant_of-self
invariant_of-self c =
    let old = c.args.self.now in
    let new = c.loop-t.slot-items in
    let same = marks_signed (signed c.args.old) (signed c.args.new) c.args.frames.now old.records c.loop-t.t new c.loop-t.invariant.marked in
    record { full = c.loop-t.invariant.full; heads = headed_kept old.records new same old.heads; apart = apart_kept old.records new same old.apart }

pub returns-then-stays : goal.returns-then-stays
returns-then-stays c =
    λ t l. unmarked (signed c.args.old) (signed c.args.new) (c.stays.ensures c.if-stays.true) (part t c.args.frames.now) (get_or c.args.self.now.records t None)
