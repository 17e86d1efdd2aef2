-- The buffer is as long as an input may be, and one byte more.
use Rattle.std.proofs.Common.{rules}
use Rattle.input.proofs.ReadLaws.{read_kept}
use Rattle.input.proofs.reading.read_input.Goals as goal

pub returns-clause-known : goal.returns-clause-known
returns-clause-known g c =
    let read = c.in_ok-count.ensures in
    read_kept (g.R.Read.remaining c.args.input) c.fill.new.buffer _ c.truncate.new.self.items c.in_ok-count.count _ _ 65537 read.known c.truncate.ensures.items read.bound (search rules) (search rules)
