-- Each read goes on where the one before ended.
use Rattle.std.proofs.Common.{◌∙◌}
use Rattle.input.proofs.ReadLaws.{read_more}
use Rattle.input.proofs.reading.fill.Goals as goal

pub loop-n-preserved : goal.loop-n-preserved
loop-n-preserved g c =
    let i = c.loop-n.invariant in
    let read = c.in_ok-more.ensures in (
      read.fits,
      c.read_at.ensures.length ∙ i.1,
      read_more _ _ _ c.loop-n.buffer c.read_at.new.buffer c.loop-n.n c.in_ok-more.more read.front i.2 read.ok,
    )
