use Rattle.rules.proofs.Books.{book_decides}
use Rattle.rules.proofs.theorems.book_decides.Goals as goal

pub returns : goal.returns
returns _ = record { law = book_decides }
