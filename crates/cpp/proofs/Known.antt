-- CPP is of the kind that the law asks for.
use Rattle.std.proofs.Common.{◌≡◌, ℕ, true, List, get_or, subst}
use Rattle.syntax.specs.declared.frame.Frame.{Frame}
use Rattle.syntax.specs.Writing.{blank}
use Rattle.history.specs.Language.{Heads}
use Rattle.history.specs.Known.{Known}
use Rattle.cpp.specs.Sheet.{Sheet, expression}
use Rattle.cpp.specs.Heads.{signature_from}
use Rattle.cpp.specs.Judge.{Derivation, GivesNumber}
use Rattle.cpp.specs.Cpp.{cpp}
use Rattle.cpp.proofs.Sheets.{at_most_256, form_again}
use Rattle.cpp.proofs.Spoken.{typed_spoken}
use Rattle.cpp.proofs.Judged.{column_whole, derived, judged, types_given, ruled, nearby}
use Rattle.cpp.proofs.Books.{valid_derives}

-- a typed place of a sheet holds an expression
spoken : (h : Heads) (s : Sheet) (n : Derivation (signature_from h) s) (p u : ℕ) → GivesNumber (signature_from h) s n p u → expression (get_or s.frames p blank) ≡ true
spoken h s n p u g =
    subst (λ (fs : List Frame). expression (get_or fs p blank) ≡ true) n.writes (typed_spoken (signature_from h) n.definition n.tree p g.0 g.2)

-- all that the law asks for
pub known : Known cpp
known =
    record {
      short = at_most_256;
      forms = form_again;
      column_length = column_whole;
      derived = derived;
      judged = λ h s n. (_, judged h s n, types_given h s n);
      spoken = spoken;
      ruled = ruled;
      nearby = nearby;
      whole = valid_derives;
    }
