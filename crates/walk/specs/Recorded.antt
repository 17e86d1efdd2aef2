-- What it is that the frames are those of a record, in the words of the rules.
use Rattle.std.specs.Prelude.{◌≡◌, ℕ, true, ◌↔◌, List}
use Rattle.syntax.specs.declared.frame.Frame.{Frame}
use Rattle.syntax.specs.Form.{is_sheet}
use Rattle.rules.specs.Sequences.{Distinct}
use Rattle.rules.specs.Programs.{param_names}
use Rattle.rules.specs.Books.{sheet_name, sheet_params, sheet_head}
use Rattle.walk.specs.Tied.{packed_head}
use Rattle.walk.specs.Examined.{recorded}

-- a sheet with this name and this packed head, and with no parameter twice
pub record Recorded (fs : List Frame) (name h : ℕ) : Type 0 where
  pub sheet : is_sheet fs ≡ true
  pub named : sheet_name fs ≡ name
  pub headed : packed_head (sheet_head fs) ≡ h
  pub apart : Distinct (param_names (sheet_params fs))

-- the test that an examination makes decides it
abbrev pub RecordDecides : Type 0
RecordDecides = (fs : List Frame) (name h : ℕ) → (recorded fs name h ≡ true) ↔ Recorded fs name h
