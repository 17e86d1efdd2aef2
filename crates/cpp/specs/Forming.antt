-- What ties form to the verdict on the frames.
use Rattle.std.specs.Prelude.{◌≡◌, ◌↔◌, List, Ok, Err}
use Rattle.syntax.specs.declared.frame.Frame.{Frame}
use Rattle.syntax.specs.Form.{refused, accepted, forms}
use Rattle.history.specs.Language.{Fault}
use Rattle.cpp.specs.Sheet.{Sheet, form}

-- form answers the sheet exactly of accepted frames, and else the verdict's refusal
pub record FormTold (fs : List Frame) : Type 0 where
  pub formed : (s : Sheet) → (form fs ≡ Ok s) ↔ ((forms fs ≡ accepted) × (s.frames ≡ fs))
  pub unformed : (f : Fault) → (form fs ≡ Err f) ↔ ((forms fs ≡ refused f.number f.place) × (f.layer ≡ 2) × (f.sheet ≡ 255))

-- of all frames; and a sheet is its frames
pub record FormsTied : Type 0 where
  pub told : (fs : List Frame) → FormTold fs
  pub same : (s t : Sheet) → s.frames ≡ t.frames → s ≡ t
