use Rattle.std.proofs.Common.{◌≡◌, ℕ, ◌+◌, ◌≤◌, List, length, take, drop, ap, ◌∙◌, arith}
use Rattle.std.proofs.lemmas.List.{length-take-le, length-drop}
use Rattle.codec.proofs.Hex.{sized, resized}
use Rattle.codec.proofs.Lines.{apart_line, together_line, length_line}
use Rattle.codec.proofs.text.read_line.Goals as goal
use Rattle.codec.proofs.text.read_line.Goals.{then-line-ne-LINE-via-then-line-ne-LINE, then-line-ne-LINE-via-else-line-ne-LINE+then-line-ne-NEWLINE}

pub returns-then-line-ne-LINE : goal.returns-then-line-ne-LINE
returns-then-line-ne-LINE c =
    λ f e. elim c.then-line-ne-LINE.branch [
      | then-line-ne-LINE-via-then-line-ne-LINE w ↦ w.if-line-ne-LINE.true (ap length e ∙ length_line f)
      | then-line-ne-LINE-via-else-line-ne-LINE+then-line-ne-NEWLINE w ↦ w.if-line-ne-NEWLINE.true (apart_line _ f e).feed
    ]

pub returns-in_err-kind : goal.returns-in_err-kind
returns-in_err-kind c = rw c.from_residual.ensures (λ f e. c.in_err-kind.ensures f.kind (sized _ 2 _ (apart_line _ f e).kind))

pub returns-in_err-t : goal.returns-in_err-t
returns-in_err-t c = rw c.from_residual-in_err-t.ensures (λ f e. c.in_err-t.ensures f.t (sized _ 2 _ (apart_line _ f e).t))

pub returns-in_err-name : goal.returns-in_err-name
returns-in_err-name c = rw c.from_residual-in_err-name.ensures (λ f e. c.in_err-name.ensures f.name (sized _ 4 _ (apart_line _ f e).name))

pub returns-in_err-load : goal.returns-in_err-load
returns-in_err-load c = rw c.from_residual-in_err-load.ensures (λ f e. c.in_err-load.ensures f.load (sized _ 8 _ (apart_line _ f e).load))

part : (line : List ℕ) (i k : ℕ) → length line ≡ 17 → i + k ≤ 16 → length (take k (drop i line)) ≡ k
part line i k size h = length-take-le k (drop i line) (omega (arith, length-drop i line))

pub returns : goal.returns
returns c =
    let line = c.args.line.now in
    let size = c.if-line-ne-LINE.false in
    let k = resized _ 2 _ (part line 0 2 size (omega arith)) c.in_ok-kind.ensures in
    let t = resized _ 2 _ (part line 2 2 size (omega arith)) c.in_ok-t.ensures in
    let n = resized _ 4 _ (part line 4 4 size (omega arith)) c.in_ok-name.ensures in
    let l = resized _ 8 _ (part line 8 8 size (omega arith)) c.in_ok-load.ensures in (
      record { kind = k.0; t = t.0; name = n.0; load = l.0 },
      together_line line _ size (record { long = omega arith; kind = k.1; t = t.1; name = n.1; load = l.1; feed = c.if-line-ne-NEWLINE.false }),
    )
