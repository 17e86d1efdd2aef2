-- The lines of the places before this one are written.
use Rattle.std.proofs.Common.{◌≡◌, ◌++◌, string_bytes}
use Rattle.book.specs.States.{valid_state}
use Rattle.driver.specs.Texts.{type_of, sheet_lines}
use Rattle.driver.proofs.workspace.writing.write_sheet.Given as goal

abbrev pub invariant-loop-place : goal.invariant-loop-place
invariant-loop-place l =
    string_bytes l.text
    ≡ string_bytes l.initial.text ++ sheet_lines (type_of (valid_state l.reader.table.now l.reader.frames.now l.reader.column.now)) l.sheet l.place
