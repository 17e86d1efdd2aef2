-- The row written has a packed head and a name that stands on no other sheet.
use Rattle.std.proofs.Common.{◌<◌, length, sym, ◌∙◌, arith, length-set}
use Rattle.records.proofs.Rows.{headed_after, apart_after}
use Rattle.book.proofs.table.Table.replace.Goals as goal

pub invariant_of-self : goal.invariant_of-self
invariant_of-self c =
    let table = c.args.self.now in
    let s = c.index.result in
    let within : s < length table.records = omega (arith, table.full, c.index.ensures, c.args.sheet.below) in
    record {
      full = length-set table.records s c.args.row ∙ table.full;
      heads = headed_after table.records s c.args.row within c.requires.head table.heads;
      apart = apart_after table.records s c.args.row within (λ t ne. c.requires.free t (λ e. ne (e ∙ sym c.index.ensures))) table.apart;
    }
