-- CPP as the language of a book.
use Rattle.std.specs.Prelude.{ℕ, List}
use Rattle.syntax.specs.declared.frame.Frame.{Frame}
use Rattle.syntax.specs.Writing.{blank}
use Rattle.rules.specs.Calls.{calls}
use Rattle.history.specs.Language.{Language}
use Rattle.cpp.specs.Sheet.{Sheet, form, expression}
use Rattle.cpp.specs.Heads.{signature_from, name_of, head_number, repeated_in}
use Rattle.cpp.specs.Text.{reads}
use Rattle.cpp.specs.Judge.{judge, Derivation, GivesNumber}
use Rattle.cpp.specs.Books.{ValidSheets}

-- a definition is a sheet, a text is its bytes
abbrev pub cpp : Language Frame Sheet (List ℕ)
cpp =
    record {
      blank = blank;
      expression = expression;
      name = name_of;
      head = head_number;
      repeated = repeated_in;
      writing = λ s. s.frames;
      calls = calls;
      form = form;
      reads = reads;
      judge = judge;
      Tree = λ h. Derivation (signature_from h);
      Gives = λ h. GivesNumber (signature_from h);
      Valid = ValidSheets;
    }
