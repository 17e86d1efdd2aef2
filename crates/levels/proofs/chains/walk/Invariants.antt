use Rattle.levels.specs.Entries.{names}
use Rattle.levels.proofs.Linking.{up_to}
use Rattle.levels.proofs.Walking.{Walked}
use Rattle.levels.proofs.chains.walk.Given as goal

abbrev pub invariant-loop-next : goal.invariant-loop-next
invariant-loop-next g l = Walked (names l.entries) l.count l.name l.next

abbrev pub decreases-loop-next : goal.decreases-loop-next
decreases-loop-next g l = up_to l.next
