-- A sheet: frames that have the form of one, and what form answers.
use Rattle.std.specs.Prelude.{◌≡◌, Bool, ◌||◌, T, List, Ok, Err, Result, refl}
use Rattle.std.proofs.Common.{sym, subst}
use Rattle.syntax.specs.declared.frame.Frame.{Frame}
use Rattle.syntax.specs.Kinds.{from}
use Rattle.syntax.specs.Form.{fine, refused, Verdict, forms, is_fine, is_sheet}
use Rattle.history.specs.Language.{Fault}

-- two sheets with the same frames are the same sheet
pub record Sheet : Type 0 where
  pub frames : List Frame
  pub formed : T (is_sheet frames)

-- the sheet of accepted frames; a refusal is of layer 2 and names no sheet
abbrev pub formed_by : (fs : List Frame) (v : Verdict) → forms fs ≡ v → Result Sheet Fault
formed_by fs (fine u) e = Ok (record { frames = fs; formed = subst (λ v. T (is_fine v)) (sym e) tt })
formed_by fs (refused n p) e = Err (record { number = n; layer = 2; sheet = 255; place = p })

-- the sheet that frames form
unfoldable pub form : List Frame → Result Sheet Fault
form fs = formed_by fs (forms fs) refl

-- the frame ends an expression: its kind is one of 20 to 2A or of 30 to 3C
unfoldable pub expression : Frame → Bool
expression f = from f.kind 0x20 0x2A || from f.kind 0x30 0x3C
