-- Each part that the split yields is the next line.
use Rattle.std.proofs.Common.{rules, arith, length, length-drop, length-append, ap}
use Rattle.std.proofs.lemmas.List.Sorted.{answers_always}
use Rattle.std.specs.Slice.Iter.{split_inclusive_rest}
use Rattle.input.proofs.LineLaws.{ends_line, first_line}
use Rattle.input.proofs.PieceLaws.{left, piece_goes_on, piece_ends, piece_is_all}
use Rattle.input.proofs.pieces.piece_length.Goals as goal

pub returns-then-is_end-clause-result : goal.returns-then-is_end-clause-result
returns-then-is_end-clause-result c =
    let s = c.in-Some.ensures.steps in
    let i = c.loop-line.invariant in
    let law = s.1.2 ends_line (answers_always _ _ _ (λ f a r g h. search rules)) in
    piece_ends c.args.input.now _ c.in-Some.line.now _ c.loop-line.length i.2 s.0 (first_line _ _ _ s.1.0 s.0 s.1.1 law.1 s.2) i.3 c.if-is_end.ensures

pub loop-line-preserved : goal.loop-line-preserved
loop-line-preserved c =
    let s = c.in-Some.ensures.steps in
    let i = c.loop-line.invariant in
    let law = s.1.2 ends_line (answers_always _ _ _ (λ f a r g h. search rules)) in
    let first = first_line _ _ _ s.1.0 s.0 s.1.1 law.1 s.2 in (
      search rules,
      omega (arith, ap length s.0, ap length i.2, length-drop c.loop-line.length c.args.input.now, length-append c.in-Some.line.now (split_inclusive_rest c.next.new.self)),
      left c.args.input.now _ c.in-Some.line.now _ c.loop-line.length i.2 s.0 first i.3,
      piece_goes_on c.args.input.now _ c.in-Some.line.now _ c.loop-line.length i.2 s.0 first i.3 c.if-is_end.ensures,
    )

pub returns-clause-result : goal.returns-clause-result
returns-clause-result c =
    let i = c.loop-line.invariant in
    piece_is_all c.args.input.now _ c.loop-line.length c.requires i.2 c.in-None.ensures.steps.0 i.3
