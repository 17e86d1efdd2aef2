-- The areas are the book's own, and the stores have room.
use Rattle.std.proofs.Common.{sym, ap, ap₂, ◌∙◌}
use Rattle.std.proofs.lemmas.List.{with_items_is}
use Rattle.records.specs.Answers.{checked_of}
use Rattle.book.specs.States.{state}
use Rattle.driver.specs.Workspaces.{book_of}
use Rattle.driver.proofs.RunLaws.{own_check}
use Rattle.driver.proofs.workspace.Workspace.check.Goals as goal

pub returns : goal.returns
returns c =
    let w = c.args.self.now in
    let new = c.check.new in
    let f = c.deref.ensures in
    let k = c.deref_mut.ensures in
    let column = sym (with_items_is w.column new.column (c.check.auto.column ∙ k.len)) in
    record {
      history = own_check _ (book_of w) _ _ (checked_of c.check.result) _ _ _ _ (ap₂ (state w.book) f.value k.value) (ap₂ (state new.self) f.value column)
          (f.len ∙ w.wide) (k.len ∙ w.long) (ap (λ s. s.capacity) c.new.ensures.result) (ap (λ s. s.capacity) c.new-2.ensures.result) c.check.ensures.history;
    }
