use Rattle.std.proofs.Common.{◌≡◌}
use Rattle.levels.specs.Layout.{layout}
use Rattle.levels.proofs.chains.ChainsDeclaring.leave.Given as goal

-- the levels start where they did, and the entries are what they were
abbrev pub invariant-loop-self : goal.invariant-loop-self
invariant-loop-self g l =
    ((layout l.self.levels).starts ≡ (layout l.initial.self.levels).starts)
    × (l.self.entries.now ≡ l.initial.self.entries.now)

abbrev pub decreases-loop-self : goal.decreases-loop-self
decreases-loop-self g l = l.self.levels.count
