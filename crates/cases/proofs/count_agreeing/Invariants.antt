-- What the calls at the cases that are left answer is what those at all of them answer.
use Rattle.std.proofs.Common.{ℕ, ◌+◌, ◌≤◌, drop}
use Rattle.cases.specs.Agreed.{Agreed, Stopped}
use Rattle.cases.proofs.count_agreeing.Given as goal

abbrev pub invariant-loop-case : goal.invariant-loop-case
invariant-loop-case g l =
    (l.agreed ≤ l.case-index)
    × ((e : _) → Stopped (λ p x r q. g.T.Tried.tries p x.now r q) l.tried (drop l.case-index l.cases) e → Stopped (λ p x r q. g.T.Tried.tries p x.now r q) l.initial.tried l.cases e)
    × ((m : ℕ) (last : _) → Agreed (λ p x r q. g.T.Tried.tries p x.now r q) l.tried (drop l.case-index l.cases) m last → Agreed (λ p x r q. g.T.Tried.tries p x.now r q) l.initial.tried l.cases (l.agreed + m) last)
