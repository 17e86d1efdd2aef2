-- A formed sheet as a definition of the law.
use Rattle.std.specs.Prelude.{T}
use Rattle.std.proofs.Common.{sym, subst}
use Rattle.frames.specs.declared.formed.Formed.{Formed}
use Rattle.frames.specs.Sheets.{frames_of}
use Rattle.cpp.specs.Sheet.{Sheet}

-- its frames, which have the form of a sheet
abbrev pub sheet_from : Formed → Sheet
sheet_from s = record { frames = frames_of s; formed = subst T (sym s.formed) tt }
