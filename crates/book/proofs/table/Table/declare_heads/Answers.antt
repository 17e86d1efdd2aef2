-- Each filled sheet's head is declared on the one level, and none of the calls is refused.
use Rattle.std.proofs.Common.{◌≡◌, ◌<◌, [], ◌∷◌, ap, ◌∙◌, arith}
use Rattle.levels.specs.Store.{with_levels}
use Rattle.records.specs.Records.{signatures_of}
use Rattle.records.specs.Stores.{heads_below}
use Rattle.records.proofs.Declaring.{enter_answered, level_start, same_capacity, level_end, level_kept, declare_answered, level_more}
use Rattle.book.proofs.table.Table.declare_heads.Goals as goal
use Rattle.book.proofs.table.Table.declare_heads.Goals.{in-Some, in_default}

pub unwrap-requires : goal.unwrap-requires
unwrap-requires g c =
    let meaning = g.H.Looking.meaning in
    enter_answered (meaning c.args.heads.now) (meaning c.wipe.new.self) (meaning c.enter.new.self) c.wipe.ensures.leaves c.enter.ensures.leaves c.enter.result c.enter.ensures.result

pub loop-slot-init : goal.loop-slot-init
loop-slot-init g c =
    let meaning = g.H.Looking.meaning in
    level_start (meaning c.args.heads.now) (meaning c.wipe.new.self) (meaning c.enter.new.self) c.wipe.ensures.leaves c.enter.ensures.leaves (signatures_of c.args.self.now.records)

pub unwrap-requires-in-Some : goal.unwrap-requires-in-Some
unwrap-requires-in-Some g c =
    let meaning = g.H.Looking.meaning in
    let entered = meaning c.enter.new.self in
    let same = same_capacity (meaning c.args.heads.now) (meaning c.wipe.new.self) entered c.wipe.ensures.leaves c.enter.ensures.leaves in
    let room : c.loop-slot.slot-index < entered.capacity = omega (arith, same, c.requires) in
    declare_answered c.args.self.now.records c.loop-slot.slot-index (meaning c.loop-slot.heads) entered c.loop-slot.invariant c.args.self.now.apart c.in-Some.record
    c.in-Some.is room c.declare.result c.declare.ensures.result

pub loop-slot-preserved : goal.loop-slot-preserved
loop-slot-preserved g c =
    let meaning = g.H.Looking.meaning in
    let rs = c.args.self.now.records in
    let t = c.loop-slot.slot-index in
    let m = meaning c.loop-slot.heads in
    let entered = meaning c.enter.new.self in
    let same = same_capacity (meaning c.args.heads.now) (meaning c.wipe.new.self) entered c.wipe.ensures.leaves c.enter.ensures.leaves in
    let room : t < entered.capacity = omega (arith, same, c.requires) in
    elim c.match-slot.branch [
      | in-Some w ↦
          ap meaning w.heads-is
          ∙ level_more rs t m entered c.loop-slot.invariant c.args.self.now.apart w.in-Some.record w.in-Some.is room (meaning w.declare.new.self) w.declare.ensures.leaves
      | in_default w ↦ ap meaning w.heads-is ∙ level_kept rs t m entered c.loop-slot.invariant w.in_default.is
    ]

pub returns : goal.returns
returns g c =
    let meaning = g.H.Looking.meaning in
    let entered = meaning c.enter.new.self in
    let e : c.loop-slot.slot-index ≡ 32 = omega arith in
    c.loop-slot.invariant
    ∙ ap (λ n. with_levels entered (heads_below n (signatures_of c.args.self.now.records) ∷ [])) e
    ∙ level_end (meaning c.args.heads.now) (meaning c.wipe.new.self) entered c.wipe.ensures.leaves c.enter.ensures.leaves (heads_below 32 (signatures_of c.args.self.now.records) ∷ [])
