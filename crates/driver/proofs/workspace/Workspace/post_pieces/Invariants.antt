-- The pieces before the rest were accepted, one on each sheet.
use Rattle.std.proofs.Common.{◌≤◌}
use Rattle.driver.specs.Workspaces.{book_of}
use Rattle.driver.proofs.RunLaws.{Onward}
use Rattle.driver.proofs.workspace.Workspace.post_pieces.Given as goal

abbrev pub invariant-loop-piece : goal.invariant-loop-piece
invariant-loop-piece l =
    (goal.iterator-loop-piece).can_next l.piece-iterator
    × (goal.iterator-loop-piece).is_finite l.piece-iterator
    × (l.piece-iterator.b.start ≤ 32)
    × Onward l.input l.piece-iterator.a l.piece-iterator.b.start (book_of l.self)
