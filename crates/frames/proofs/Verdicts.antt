-- The law of the form follows from the verdict.
use Rattle.std.proofs.Common.{List, Ok, Err, Result}
use Rattle.syntax.specs.declared.frame.Frame.{Frame}
use Rattle.syntax.specs.Form.{forms}
use Rattle.syntax.proofs.Law.{has_tree, has_no_tree}
use Rattle.syntax.proofs.Stops.{stops}
use Rattle.syntax.specs.declared.fault.Fault.{Fault}
use Rattle.syntax.specs.Faults.{number, place}
use Rattle.frames.specs.States.{Judged}
use Rattle.frames.specs.Sheets.{Lawful}

pub lawful : {A : Type 0} (fs : List Frame) (r : Result A Fault) → Judged (forms fs) r → Lawful fs r
lawful fs (Ok u) h = has_tree fs h
lawful fs (Err e) h = (has_no_tree fs (number e) (place e) h.same, stops fs (number e) (place e) h.same)
