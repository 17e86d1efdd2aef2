use Rattle.records.proofs.Spans.{front_of_part}
use Rattle.book.proofs.areas.own_frames.Goals as goal

pub returns : goal.returns
returns c = front_of_part c.args.frames.now c.args.sheet.number c.args.end c.range.result.start c.range.result.end c.range.ensures.start c.range.ensures.end c.ranges.end.fits
