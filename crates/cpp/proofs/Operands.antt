-- The frames that end an expression are those whose kind adds an operand.
use Rattle.std.proofs.Common.{◌≡◌, ℕ, ◌≤◌, true, false, leb, refl, ap, ◌∙◌, inl, inr, arith}
use Rattle.std.proofs.lemmas.Bool.{agree_below, agree_below_at, cases_lt, and_right, or_from, lt-leb}
use Rattle.syntax.specs.Writing.{frame}
use Rattle.syntax.specs.Kinds.{row, from}
use Rattle.syntax.proofs.Rows.{row_past}
use Rattle.cpp.specs.Sheet.{expression}
use Rattle.cpp.specs.Kinds.{row_adds, ExpressionsTied}

-- the kinds of the table, computed
table_alike : agree_below (λ k. expression (frame k 0 0 0)) (λ k. row_adds (row k)) 61 ≡ true
unfolding expression
table_alike = refl

-- past the table no frame ends an expression
none_past : (k : ℕ) → 61 ≤ k → expression (frame k 0 0 0) ≡ false
unfolding expression
none_past k l =
    or_from (from k 0x20 0x2A) (from k 0x30 0x3C) (and_right (leb 0x20 k) (leb k 0x2A) (lt-leb k 0x2A (omega arith)))
    (and_right (leb 0x30 k) (leb k 0x3C) (lt-leb k 0x3C (omega arith)))

kind_tied : (k : ℕ) → expression (frame k 0 0 0) ≡ row_adds (row k)
kind_tied k =
    elim (cases_lt k 61) [
      | inl l ↦ agree_below_at (λ k. expression (frame k 0 0 0)) (λ k. row_adds (row k)) 61 k table_alike l
      | inr l ↦ none_past k l ∙ ap row_adds (row_past k l)
    ]

-- the kind alone counts
pub expressions_tied : ExpressionsTied
unfolding expression
expressions_tied f = kind_tied f.kind
