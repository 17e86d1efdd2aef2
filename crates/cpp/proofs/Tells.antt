-- A sheet's name, number of head and first repeat are those of the definition that it writes.
use Rattle.std.proofs.Common.{◌≡◌, List, map, sym, ap, ◌∙◌, ap₂}
use Rattle.syntax.specs.declared.frame.«Type».{«Type» as Ty}
use Rattle.syntax.specs.declared.frame.Parameter.{Parameter}
use Rattle.syntax.specs.Writing.{type_code}
use Rattle.heads.specs.Heads as packing
use Rattle.rules.specs.Programs.{param_names, param_types}
use Rattle.rules.specs.Walk.{returned}
use Rattle.rules.specs.Books.{sheet_name, sheet_params, sheet_head}
use Rattle.rules.proofs.Decoded.{returned_written}
use Rattle.rules.proofs.Books.{params_written, name_written, head_written}
use Rattle.cpp.specs.Heads.{repeated_in}
use Rattle.cpp.specs.Tells.{SheetsTied}
use Rattle.cpp.proofs.Heads.{head_stands, head_packed}
use Rattle.cpp.proofs.Repeats.{repeat_distinct}
use Rattle.cpp.proofs.Lowest.{repeat_lowest}

-- of every sheet and definition
pub sheets_tied : SheetsTied
unfolding repeated_in
sheets_tied s d w =
    let ps : sheet_params s.frames ≡ d.params = ap sheet_params (sym w) ∙ params_written d in
    let r : returned s.frames ≡ d.returns = ap returned (sym w) ∙ returned_written d in
    record {
      named = ap sheet_name (sym w) ∙ name_written d;
      packed = ap₂ (λ (qs : List Parameter) (t : Ty). packing.head_of (map type_code (param_types qs)) (type_code t)) (sym ps) (sym r) ∙ head_packed s;
      stands = head_stands s ∙ ap sheet_head (sym w) ∙ head_written d;
      distinct = rw (← ps) (repeat_distinct (param_names (sheet_params s.frames)));
      repeats = λ p. rw (← ps) (repeat_lowest (param_names (sheet_params s.frames)) p);
    }
