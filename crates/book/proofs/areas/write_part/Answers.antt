use Rattle.records.proofs.Spans.{part_written}
use Rattle.book.proofs.areas.write_part.Goals as goal

pub returns : goal.returns
returns g c = part_written c.args.area.now c.args.part.now c.copy_from_slice.new.self c.args.sheet.number _ _ c.range.ensures.start c.range.ensures.end c.copy_from_slice.ensures.after
