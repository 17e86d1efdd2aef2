-- A table of empty rows is the law's new book.
use Rattle.std.proofs.Common.{sym, subst}
use Rattle.history.specs.Law.{New}
use Rattle.cpp.specs.Cpp.{cpp}
use Rattle.cpp.proofs.Laws.{law}
use Rattle.records.proofs.Rows.{new_state}
use Rattle.book.proofs.book.Book.new.Goals as goal

pub returns : goal.returns
returns c =
    let rows = c.new.result.records in
    record {
      result = new_state rows c.new.ensures;
      history = λ f k. subst (New cpp) (sym (new_state rows c.new.ensures f k)) (law.new f k);
    }
