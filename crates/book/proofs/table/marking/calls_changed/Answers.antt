-- Any frame that calls a changed name is what the chain asks.
use Rattle.std.proofs.Common.{◌&&◌, eqb, rules, tests, ◌∙◌}
use Rattle.std.proofs.lemmas.Iterator.{YieldsList-from_slice}
use Rattle.std.proofs.lemmas.Iterator.Search.{any_from_yields_List}
use Rattle.syntax.specs.declared.frame.Frame.{Frame}
use Rattle.history.specs.Language.{head_for, differ}
use Rattle.records.specs.Records.{signed}
use Rattle.records.proofs.Marking.{calls_any}
use Rattle.book.proofs.table.marking.calls_changed.Goals as goal

pub returns : goal.returns
returns c =
    let o = signed c.args.old in
    let w = signed c.args.new in
    any_from_yields_List (λ (f : Frame). eqb f.kind 0x26 && differ (head_for f.name o) (head_for f.name w)) _ _ _ c.any.ensures.ran
    (YieldsList-from_slice c.args.frames.now cc) (λ x b q k. search (rules, tests))
    ∙ calls_any o w c.args.frames.now
