-- A book with its areas as the working book of the law, and what its calls keep.
use Rattle.syntax.specs.declared.frame.Frame.{Frame}
use Rattle.history.specs.Calls.{Call, History, Answer}
use Rattle.history.specs.Plain.{plain}
use Rattle.history.specs.Promise.{Keeps}
use Rattle.history.specs.Stands.{Stands}
use Rattle.history.specs.Working.{State}
use Rattle.cpp.specs.Cpp.{cpp}
use Rattle.book.specs.States.{state}
use Rattle.driver.specs.declared.workspace.Workspace.{Workspace}

-- the book over its own areas
abbrev pub book_of : Workspace → State Frame
book_of w = state w.book w.frames.items w.column.items

-- the call found `book`, answered r and left `book'`, and kept the law after each history that the book stands at
abbrev pub Goes : State Frame → Call cpp → Answer cpp → State Frame → Type 0
Goes book c r book' = (h : History cpp) → Stands cpp (plain cpp h) book → Keeps cpp h c r book'
