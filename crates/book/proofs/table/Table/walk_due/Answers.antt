-- Each turn settles one sheet more: a due one by its walk, any other as it is.
use Rattle.std.proofs.Common.{◌≡◌, ◌+◌, ◌<◌, false, length, get_or, Some, None, refl, ap, ◌∙◌, subst, arith, length-set}
use Rattle.history.specs.Areas.{part}
use Rattle.history.specs.Language.{heads_of}
use Rattle.history.specs.Working.{due_flag}
use Rattle.records.specs.Records.{record_of, renewed, signatures_of}
use Rattle.records.specs.Walks.{SheetWalked}
use Rattle.records.proofs.Rows.{headed_kept, apart_kept}
use Rattle.records.proofs.Settling.{settled_start, settled_idle, settled_walked, settled_same, settled_few, settled_signed}
use Rattle.book.proofs.table.Table.walk_due.Goals as goal
use Rattle.book.proofs.table.Table.walk_due.Goals.{in-Some+then-record, in-Some+else-record, in_default}

pub loop-t-init : goal.loop-t-init
loop-t-init g c = record { full = c.args.self.now.full; settled = settled_start c.args.self.now.records c.args.frames.now c.args.column.now (g.S.Looking.meaning c.args.variables.now) }

pub overflow_add-walked : goal.overflow_add-walked
overflow_add-walked g c = omega (arith, settled_few c.loop-t.invariant.settled, c.loop-t-test.true)

pub loop-t-preserved : goal.loop-t-preserved
loop-t-preserved g c =
    let meaning = g.S.Looking.meaning in
    let rs₀ = c.args.self.now.records in
    let fs = c.args.frames.now in
    let k₀ = c.args.column.now in
    let s₀ = meaning c.args.variables.now in
    let t = c.loop-t.t in
    let rs = c.loop-t.slot-items in
    let k = c.loop-t.column in
    let s = meaning c.loop-t.variables in
    let n = c.loop-t.walked in
    let full = c.loop-t.invariant.full in
    let so_far = c.loop-t.invariant.settled in
    let l : t < length rs = omega (arith, full, c.loop-t-test.true) in
    elim c.match-slot.branch [
      | in-Some+then-record w ↦
          let r = w.in-Some.record in
          let v = w.walk_sheet-record.result in
          record {
            full = ap length w.slot-items-is ∙ length-set rs t (Some (renewed r v false)) ∙ full;
            settled = settled_same rs₀ fs k₀ s₀ {t = t + 1} refl w.slot-items-is w.column-is (ap meaning w.variables-is) w.walked-is
                (settled_walked rs₀ fs k₀ s₀ t rs k s n so_far r v w.walk_sheet-record.new.column (meaning w.walk_sheet-record.new.variables) l w.in-Some.is w.if-record.true
                (subst (λ u. SheetWalked (heads_of (signatures_of rs₀)) (part u fs) u r v k w.walk_sheet-record.new.column s (meaning w.walk_sheet-record.new.variables)) w.at.ensures
                (w.walk_sheet-record.ensures (heads_of (signatures_of rs₀)) c.requires.held)));
          }
      | in-Some+else-record w ↦
          let r = w.in-Some.record in
          record {
            full = ap length w.slot-items-is ∙ length-set rs t (Some r) ∙ full;
            settled = settled_same rs₀ fs k₀ s₀ {t = t + 1} refl w.slot-items-is w.column-is (ap meaning w.variables-is) w.walked-is
                (settled_idle rs₀ fs k₀ s₀ t rs k s n so_far (Some r) l w.in-Some.is w.if-record.false);
          }
      | in_default w ↦
          record {
            full = ap length w.slot-items-is ∙ length-set rs t (get_or rs t None) ∙ full;
            settled = settled_same rs₀ fs k₀ s₀ {t = t + 1} refl w.slot-items-is w.column-is (ap meaning w.variables-is) w.walked-is
                (settled_idle rs₀ fs k₀ s₀ t rs k s n so_far (get_or rs t None) l refl (ap (λ o. due_flag (record_of o)) w.in_default.is));
          }
    ]

pub invariant_of-self : goal.invariant_of-self
invariant_of-self g c =
    let old = c.args.self.now in
    let new = c.loop-t.slot-items in
    let same = settled_signed old.records c.args.frames.now c.args.column.now (g.S.Looking.meaning c.args.variables.now) c.loop-t.t new c.loop-t.column (g.S.Looking.meaning c.loop-t.variables) c.loop-t.walked c.loop-t.invariant.settled in
    record { full = c.loop-t.invariant.full; heads = headed_kept old.records new same old.heads; apart = apart_kept old.records new same old.apart }

pub returns : goal.returns
returns g c =
    let e : c.loop-t.t ≡ 32 = omega arith in
    let w = settled_same c.args.self.now.records c.args.frames.now c.args.column.now (g.S.Looking.meaning c.args.variables.now) {t' = 32} e refl refl refl refl c.loop-t.invariant.settled in
    record { result = w.count; records = w.below; column = w.column; variables = w.variables }
