-- What was read stands after the front.
use Rattle.std.proofs.Common.{arith, length-take-le}
use Rattle.input.proofs.ReadLaws.{read_in_place}
use Rattle.input.proofs.reading.read_at.Goals as goal

pub returns-clause-ok : goal.returns-clause-ok
returns-clause-ok g c =
    read_in_place _ _ c.read_retrying.result _ c.read_retrying.new.buffer _ c.args.at (length-take-le _ c.args.buffer.now (omega (arith, c.requires)))
    c.read_retrying.ensures.bound c.read_retrying.ensures.ok
