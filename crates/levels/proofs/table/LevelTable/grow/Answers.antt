use Rattle.std.proofs.Common.{reverse}
use Rattle.levels.proofs.Starting.{ordered_grown}
use Rattle.levels.proofs.table.LevelTable.grow.Goals as goal

pub invariant_of-self : goal.invariant_of-self
invariant_of-self c =
    let t = c.args.self.now in
    record { sound = ordered_grown (reverse t.starts.items) t.count c.requires.level t.sound }
