-- The examination of the sheet's own frames is its walk by the law.
use Rattle.history.specs.Areas.{part}
use Rattle.walk.specs.Outcomes.{outcome}
use Rattle.records.proofs.Examining.{sheet_walked}
use Rattle.book.proofs.table.walking.walk_sheet.Goals as goal

pub returns : goal.returns
returns g c =
    let t = c.args.sheet.number in
    let own = c.own_frames-own.result.now in
    let hs = (g.H.Looking.meaning c.args.heads.now).levels in
    sheet_walked (part t c.args.frames.now) t c.range.result.start c.range.result.end c.args.row own hs c.args.column.now c.examine.new.column
    (g.S.Looking.meaning c.args.variables.now) (g.S.Looking.meaning c.examine.new.variables) c.examine.result c.unwrap.result (outcome hs own)
    c.args.sheet.below c.range.ensures.start c.range.ensures.end c.told-column c.requires c.own_frames-own.ensures c.examine.ensures.result c.examine.ensures.leaves c.examine.ensures.law c.unwrap.ensures
