-- The areas are the book's own.
use Rattle.std.proofs.Common.{sym, ap₂, ◌∙◌}
use Rattle.std.proofs.lemmas.List.{with_items_is}
use Rattle.records.specs.Answers.{edited}
use Rattle.book.specs.States.{state}
use Rattle.driver.specs.Workspaces.{book_of}
use Rattle.driver.proofs.RunLaws.{own_post}
use Rattle.driver.proofs.workspace.Workspace.post.Goals as goal

pub returns : goal.returns
returns c =
    let w = c.args.self.now in
    let new = c.post.new in
    let f = c.deref_mut.ensures in
    let k = c.deref_mut-2.ensures in
    let frames = sym (with_items_is w.frames new.frames (c.post.auto.frames ∙ f.len)) in
    let column = sym (with_items_is w.column new.column (c.post.auto.column ∙ k.len)) in
    record {
      history = own_post c.args.sheet c.args.piece.now _ (book_of w) _ _ (edited c.post.result) _ _ (ap₂ (state w.book) f.value k.value) (ap₂ (state new.self) frames column)
          (f.len ∙ w.wide) (k.len ∙ w.long) c.post.ensures.history;
    }
