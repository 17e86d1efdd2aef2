-- Each call's promise hands the history on to the next.
use Rattle.std.proofs.Common.{None, inl, inr, arith}
use Rattle.std.proofs.lemmas.Result.{err_from_is_err_and}
use Rattle.driver.proofs.RunLaws.{ends, stops, on_sheet, goes_on, posting_told}
use Rattle.driver.proofs.workspace.Workspace.post_pieces.Goals as goal

pub loop-piece-preserved : goal.loop-piece-preserved
loop-piece-preserved c =
    let i = c.loop-piece.invariant in
    let s = c.in-Some.ensures.steps in
    let p = c.in_ok-post.ensures.history in
    let few = on_sheet _ _ _ _ i.3 c.in-Some.piece.now _ s.0 _ s.1.0 _ p in
    (i.0, i.1, omega arith, goes_on _ _ _ _ i.3 c.in-Some.piece.now _ s.0 _ s.1.0 _ _ s.1.1 p)

pub returns-in_err-post-clause-result : goal.returns-in_err-post-clause-result
returns-in_err-post-clause-result c =
    let i = c.loop-piece.invariant in
    let s = c.in-Some.ensures.steps in
    let e = err_from_is_err_and c.from_residual-in_err-post.result c.from_residual-in_err-post.ensures.1 in
    rw (e.1, e.2) (posting_told c.args.input.now _ (stops _ _ _ _ i.3 c.in-Some.piece.now _ s.0 _ s.1.0 _ _ c.in_err-post.ensures.history))

pub returns : goal.returns
returns c =
    let i = c.loop-piece.invariant in
    let all = ends _ _ _ _ i.3 (elim c.in-None.ensures.steps [ inl u ↦ u.1.0 | inr u ↦ absurd (omega arith) ]) in
    record { result = posting_told c.args.input.now None all.0; history = λ _. all.1 }
