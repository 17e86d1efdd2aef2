-- The lines of the sheets before this one are written.
use Rattle.std.proofs.Common.{◌≡◌, ◌++◌, string_bytes}
use Rattle.driver.specs.Texts.{type_of, type_lines}
use Rattle.driver.specs.Workspaces.{book_of}
use Rattle.driver.proofs.workspace.Workspace.write_types.Given as goal

abbrev pub invariant-loop-sheet : goal.invariant-loop-sheet
invariant-loop-sheet l =
    string_bytes l.text ≡ string_bytes l.initial.text ++ type_lines (type_of (book_of l.self)) l.sheet
