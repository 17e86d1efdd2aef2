-- One call more is one item less to call at.
use Rattle.std.proofs.Common.{arith, rules}
use Rattle.cases.proofs.CountLaws.{agreed_next, differed_next, all_called, failed_there, differed_there, stopped_after, handed_on}
use Rattle.cases.proofs.count_agreeing.Goals as goal
use Rattle.cases.proofs.count_agreeing.Goals.{then-branch, else-branch+in_ok-println}

pub loop-case-preserved : goal.loop-case-preserved
loop-case-preserved g c =
    let l = c.loop-case in
    let i = l.invariant in
    let xs = c.args.cases.now in
    elim c.if-branch.branch [
      | then-branch w ↦ (
        omega (arith, w.agreed-is),
        λ e. stopped_after (λ p x r q. g.T.Tried.tries p x.now r q) _ l.tried xs l.case-index e (i.1 e) _ _ (omega arith) _ c.in_ok-agrees.ensures.answers,
        agreed_next (λ p x r q. g.T.Tried.tries p x.now r q) _ l.tried xs l.case-index l.agreed i.2 _ _ (omega arith) _ _ w.if-branch.true w.agreed-is c.in_ok-agrees.ensures.answers,
      )
      | else-branch+in_ok-println w ↦ (
        omega (arith, w.agreed-is),
        λ e. stopped_after (λ p x r q. g.T.Tried.tries p x.now r q) _ l.tried xs l.case-index e (i.1 e) _ _ (omega arith) _ c.in_ok-agrees.ensures.answers,
        differed_next (λ p x r q. g.T.Tried.tries p x.now r q) _ l.tried xs l.case-index l.agreed i.2 _ _ (omega arith) _ _ w.if-branch.false w.agreed-is c.in_ok-agrees.ensures.answers,
      )
    ]

pub returns-in_err-agrees-clause-err : goal.returns-in_err-agrees-clause-err
returns-in_err-agrees-clause-err g c =
    let l = c.loop-case in
    let e = c.in_err-agrees.field-0.0 in
    let s = failed_there (λ p x r q. g.T.Tried.tries p x.now r q) _ l.tried c.args.cases.now l.case-index e (l.invariant.1 e) _ _ (omega arith) c.in_err-agrees.ensures.answers in
    handed_on (λ p x r q. g.T.Tried.tries p x.now r q) c.args.tried.now c.args.cases.now c.from_residual.result e (search rules) s

pub returns-in_err-println-clause-err : goal.returns-in_err-println-clause-err
returns-in_err-println-clause-err g c =
    let l = c.loop-case in
    let e = c.in_err-println.field-0.0 in
    let s = differed_there (λ p x r q. g.T.Tried.tries p x.now r q) _ l.tried c.args.cases.now l.case-index e (l.invariant.1 e) _ _ (omega arith) _ c.if-branch.false c.in_ok-agrees.ensures.answers in
    handed_on (λ p x r q. g.T.Tried.tries p x.now r q) c.args.tried.now c.args.cases.now c.from_residual-in_err-println.result e (search rules) s

pub returns-clause-ok : goal.returns-clause-ok
returns-clause-ok g c =
    let l = c.loop-case in
    all_called (λ p x r q. g.T.Tried.tries p x.now r q) _ l.tried c.args.cases.now l.case-index l.agreed l.invariant.2 (omega arith)
