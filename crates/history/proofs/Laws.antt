-- The law over every history.
use Rattle.std.proofs.Common.{◌≡◌, Ok, Err, Result, sym, refl, ap, ◌∙◌, ap₂}
use Rattle.history.specs.Language.{Fault, Language}
use Rattle.history.specs.Calls.{History, Act, Act.wrote, Act.emptied, Act.walked, outcome, Answer}
use Rattle.history.specs.Plain.{plain, walks_by}
use Rattle.history.specs.Working.{State, working_signatures, working_stepped, working_told}
use Rattle.history.specs.Stands.{Stands}
use Rattle.history.specs.Known.{Known}
use Rattle.history.specs.Law.{Lawful, Law}
use Rattle.history.proofs.Last.{due_words}
use Rattle.history.proofs.Accepts.{accepts}
use Rattle.history.proofs.Refuses.{refuses}
use Rattle.history.proofs.Rows.{same_signatures, same_flags}
use Rattle.history.proofs.Fresh.{new, fresh_made}
use Rattle.history.proofs.Keeps.{stands_next, stands_run, answers}
use Rattle.history.proofs.Readable.{readable}
use Rattle.history.proofs.Settles.{settles}
use Rattle.history.proofs.Shown.{asks}
use Rattle.history.proofs.Checks.{checks}

module _ {Frame Def Text : Type 0} (L : Language Frame Def Text) (K : Known L) where
  -- a refused call alters nothing
  refused_left : (book : State Frame) (r : Result (Act L) Fault) (f : Fault) → working_told L book r ≡ Answer.refused f → working_stepped L book r ≡ book
  unfolding working_told working_stepped
  refused_left book (Err g) f e = refl
  refused_left book (Ok (wrote s d)) f e = cc
  refused_left book (Ok (emptied s)) f e = cc
  refused_left book (Ok walked) f e = cc

  -- all that the law says of a book that stands as a history says
  pub lawful : (h : History L) (book : State Frame) → Stands L (plain L h) book → Lawful L h book
  lawful h book l =
      record {
        accepts = accepts L h;
        refuses = refuses L h;
        answers = λ c r book' d. d.answered ∙ answers L K h book l c;
        next = λ c r book' d. stands_next L K h book c r book' l d;
        refused = λ c f r book' d e. d.left ∙ refused_left book (outcome L (working_signatures book) c) f (sym d.answered ∙ e);
        due_words = due_words L h;
        flags = same_flags L K (plain L h) book l;
        walking = λ c t. ap₂ (walks_by L) (ap (λ g. outcome L g c) (same_signatures L K (plain L h) book l)) (same_flags L K (plain L h) book l t);
        checks = λ c r book' acc d. checks L K h book l c acc r book' d;
        readable = readable L K h book l;
      }

  -- the law, for every language that is known to have a local judge
  pub law : Law L
  law = record { new = new L; fresh = fresh_made L; runs = λ h book l. stands_run L K l; lawful = lawful; settles = settles L K; asks = asks L }
