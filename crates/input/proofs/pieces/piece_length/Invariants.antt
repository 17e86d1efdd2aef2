-- The bytes of the lines so far go to the first piece, and the others are left to split.
use Rattle.std.proofs.Common.{◌≡◌, ◌≤◌, length, take, drop}
use Rattle.std.specs.Slice.Iter.{split_inclusive_rest}
use Rattle.input.specs.Pieces.{before, pieces}
use Rattle.input.proofs.pieces.piece_length.Given as goal

abbrev pub invariant-loop-line : goal.invariant-loop-line
invariant-loop-line l =
    (goal.iterator-loop-line).can_next l.line-iterator
    × (l.length ≤ length l.input)
    × (split_inclusive_rest l.line-iterator ≡ drop l.length l.input)
    × (pieces l.input ≡ before (take l.length l.input) (pieces (drop l.length l.input)))
