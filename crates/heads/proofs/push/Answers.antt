use Rattle.std.proofs.Common.{None, rules}
use Rattle.heads.proofs.Pushing.{pushes}
use Rattle.heads.proofs.push.Goals as goal

pub returns-then-count-ge-MOST_PARAMETERS-clause-law : goal.returns-then-count-ge-MOST_PARAMETERS-clause-law
returns-then-count-ge-MOST_PARAMETERS-clause-law c = pushes c.args.head c.args.code None (search rules)

pub returns-clause-law : goal.returns-clause-law
returns-clause-law c = pushes c.args.head c.args.code _ (search rules)
