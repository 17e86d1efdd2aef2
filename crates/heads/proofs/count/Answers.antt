use Rattle.heads.proofs.Unpacking.{length_parameters}
use Rattle.heads.proofs.count.Goals as goal

pub returns : goal.returns
returns c = record { result = length_parameters c.args.head }
