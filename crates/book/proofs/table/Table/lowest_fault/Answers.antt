-- The first fault found is the lowest, and without one there is none.
use Rattle.std.proofs.Common.{◌≡◌, sym, ap, ◌∙◌, arith}
use Rattle.history.specs.Words.{lowest}
use Rattle.history.specs.Working.{kept_fault}
use Rattle.records.specs.Records.{record_of}
use Rattle.records.proofs.Lowest.{lowest_start, lowest_more, lowest_found, kept_at, told_there, told_none}
use Rattle.book.proofs.table.Table.lowest_fault.Goals as goal
use Rattle.book.proofs.table.Table.lowest_fault.Goals.{in-Some+else-is_some, in_default}

pub loop-t-init : goal.loop-t-init
loop-t-init c = lowest_start (kept_at c.args.self.now.records)

pub loop-t-preserved : goal.loop-t-preserved
loop-t-preserved c =
    let rs = c.args.self.now.records in
    let t = c.loop-t.t in
    lowest_more t (kept_at rs) c.loop-t.invariant
    (elim c.match-slot.branch [
      | in-Some+else-is_some w ↦
          ap (λ o. kept_fault t (record_of o)) w.in-Some.is ∙ sym w.fault-fault.ensures ∙ told_none w.fault-fault.result (sym w.is_some.ensures ∙ w.if-is_some.false)
      | in_default w ↦ ap (λ o. kept_fault t (record_of o)) w.in_default.is
    ])

pub returns-then-is_some : goal.returns-then-is_some
returns-then-is_some c =
    let rs = c.args.self.now.records in
    let t = c.loop-t.t in
    let w = told_there c.fault-fault.result (sym c.is_some.ensures ∙ c.if-is_some.true) in
    w.1 ∙ sym (lowest_found 32 t (kept_at rs) w.0 c.loop-t.invariant (ap (λ o. kept_fault t (record_of o)) c.in-Some.is ∙ sym c.fault-fault.ensures ∙ w.1) c.loop-t-test.true)

pub returns : goal.returns
returns c =
    let e : c.loop-t.t ≡ 32 = omega arith in
    sym (ap (λ n. lowest n (kept_at c.args.self.now.records)) (sym e) ∙ c.loop-t.invariant)
