-- Names are apart, so the one place found decides.
use Rattle.std.proofs.Common.{rules}
use Rattle.records.proofs.Naming.{named_told}
use Rattle.book.proofs.table.Table.named_elsewhere.Goals as goal

pub returns : goal.returns
returns c =
    let table = c.args.self.now in
    named_told table.records c.args.name table.full table.apart c.args.sheet.number c.newest_filled.result c.is_some_and.result c.newest_filled.ensures.law (search rules)
