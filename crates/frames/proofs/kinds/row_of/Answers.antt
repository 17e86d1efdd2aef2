use Rattle.std.proofs.Common.{ap, ◌∙◌}
use Rattle.syntax.specs.Kinds.{row}
use Rattle.syntax.proofs.Rows.{get_d_rows}
use Rattle.frames.proofs.kinds.row_of.Goals as goal

pub returns : goal.returns
returns c = let h = c.in_ok-get.ensures.lookup in h.1 ∙ get_d_rows _ _ h.3.0 ∙ ap row c.from.ensures
