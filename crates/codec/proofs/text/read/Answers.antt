use Rattle.std.proofs.Common.{◌≡◌, ℕ, ◌*◌, ◌/◌, List, [], length, take, Ok, Err, ap, subst, arith, rules}
use Rattle.std.proofs.lemmas.List.{nil_from_length, length-append, length-take-le}
use Rattle.syntax.specs.declared.frame.Frame.{Frame}
use Rattle.codec.specs.Text.{text_of}
use Rattle.codec.specs.Codec.{Begun}
use Rattle.syntax.specs.declared.fault.Fault.TheVariants.{BadLine, FramesFull}
use Rattle.codec.proofs.Lines.{no_line, length_text}
use Rattle.codec.proofs.TextLaw.{reads_once}
use Rattle.codec.proofs.text.read.Goals as goal

-- where nothing is left, as many lines were read as the text has
begun_whole : (text : List ℕ) (before after : List Frame) (n : ℕ) (rest : List ℕ) → Begun text before after n rest → length rest ≡ 0 →
    Begun text before after (length text / 17) []
begun_whole text before after n rest b none =
    let r : rest ≡ [] = nil_from_length rest none in
    let l : length text ≡ 17 * length (take n after) = omega (arith, ap length b.front, length-append (text_of (take n after)) rest, length_text (take n after)) in
    let k : n ≡ length text / 17 = omega (arith, length-take-le n after (omega (arith, b.within, b.size))) in
    subst (λ i. Begun text before after i []) k (subst (Begun text before after n) r b)

pub returns-then-n-frames-clause-only : goal.returns-then-n-frames-clause-only
returns-then-n-frames-clause-only c = reads_once c.args.text.now c.args.frames.now c.loop-n.frames (Err (FramesFull c.in-Some.n)) (search rules)

pub returns-in_default-clause-only : goal.returns-in_default-clause-only
returns-in_default-clause-only c = reads_once c.args.text.now c.args.frames.now c.loop-n.frames (Err (BadLine c.in-Some.n)) (search (rules, no_line))

pub returns-clause-does : goal.returns-clause-does
returns-clause-does c = begun_whole _ _ _ _ _ c.loop-n.invariant.3 c.in-None.ensures.steps.0.1.0

pub returns-clause-only : goal.returns-clause-only
returns-clause-only c = reads_once _ _ _ (Ok _) (begun_whole _ _ _ _ _ c.loop-n.invariant.3 c.in-None.ensures.steps.0.1.0)
