-- One level has the heads of the sheets below.
use Rattle.std.proofs.Common.{◌≡◌, [], ◌∷◌}
use Rattle.levels.specs.Store.{with_levels}
use Rattle.records.specs.Records.{signatures_of}
use Rattle.records.specs.Stores.{heads_below}
use Rattle.book.proofs.table.Table.declare_heads.Given as goal

abbrev pub invariant-loop-slot : goal.invariant-loop-slot
invariant-loop-slot g l = g.H.Looking.meaning l.heads ≡ with_levels (g.H.Looking.meaning l.initial.heads) (heads_below l.slot-index (signatures_of l.fn.self.records) ∷ [])
