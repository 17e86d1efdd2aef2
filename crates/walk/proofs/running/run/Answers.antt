use Rattle.std.proofs.Common.{ℕ, replicate, sym, refl, ap, ◌∙◌, subst, arith}
use Rattle.syntax.specs.Form.{is_sheet}
use Rattle.levels.specs.Store.{with_levels}
use Rattle.walk.specs.Params.{param_twice}
use Rattle.walk.specs.Outcomes.{outcome, verdict_of, column_of, levels_of}
use Rattle.walk.specs.Machines.{state_of, Within}
use Rattle.walk.proofs.Earlier as earlier
use Rattle.walk.proofs.Nexts as nexts
use Rattle.walk.proofs.Turns as turns
use Rattle.walk.proofs.running.run.Goals as goal

pub loop-i-init : goal.loop-i-init
loop-i-init g c =
    let fs = c.frames-frames.result.now in
    let f = c.frames-frames.ensures.result in
    let e = c.new-machine.ensures in (
      turns.begin _ _ fs c.args.column.now _ c.new-machine.result.pending _
          (earlier.states 0 fs e.operands (ap (λ s. s.levels) c.wipe.ensures.leaves) e.things e.pending)
          (subst (Within 0) (sym e.pending) tt)
          (omega (arith, ap (λ s. s.capacity) c.wipe.ensures.leaves, c.requires.capacity))
          c.requires.blank
          (nexts.sound_start fs (ap is_sheet f ∙ c.args.sheet.now.formed) (ap param_twice f ∙ c.requires.apart)),
      refl,
    )

pub step-requires : goal.step-requires
step-requires g c =
    let fs = c.frames-frames.result.now in
    let few = nexts.sheet_short fs (ap is_sheet c.frames-frames.ensures.result ∙ c.args.sheet.now.formed) in
    record { ready = turns.ready _ _ fs c.loop-i.i c.loop-i.column c.loop-i.machine _ _ _ few (turns.at_place fs c.loop-i.i c.loop-i-test.true) c.loop-i.invariant.0 }

pub loop-i-preserved : goal.loop-i-preserved
loop-i-preserved g c =
    let fs = c.frames-frames.result.now in
    let few = nexts.sheet_short fs (ap is_sheet c.frames-frames.ensures.result ∙ c.args.sheet.now.formed) in
    let e = c.in-Ok.ensures in (
      turns.again _ _ fs c.loop-i.i c.loop-i.column c.loop-i.machine _ _ _ few (turns.at_place fs c.loop-i.i c.loop-i-test.true) c.loop-i.invariant.0
          c.step.new.self _ _ c.in-Ok.t e.does e.onward.capacity e.onward.within,
      e.onward.capacity ∙ c.loop-i.invariant.1,
    )

pub returns-in-Err : goal.returns-in-Err
returns-in-Err g c =
    let fs = c.frames-frames.result.now in
    let few = nexts.sheet_short fs (ap is_sheet c.frames-frames.ensures.result ∙ c.args.sheet.now.formed) in
    let e = c.in-Err.ensures in
    let store = g.S.Looking.meaning c.args.variables.now in
    let hs = (g.H.Looking.meaning c.args.heads.now).levels in
    let ls = (g.S.Looking.meaning c.loop-i.variables).levels in
    let out =
    ap (outcome hs) (sym c.frames-frames.ensures.result)
    ∙ turns.stops _ _ fs c.loop-i.i c.loop-i.column (state_of c.loop-i.machine fs c.loop-i.i ls) c.loop-i.machine.pending _ _ (turns.at_place fs c.loop-i.i c.loop-i-test.true) c.loop-i.invariant.0
    c.in-Err.violation few e.does.0 in
    record {
      result = sym (ap verdict_of out);
      column = c.fill.ensures.after (λ y h. h) ∙ ap (λ (n : ℕ). replicate n 0) c.loop-i.invariant.0.long ∙ sym (ap column_of out);
      levels = turns.same_store _ store ls (e.onward.capacity ∙ c.loop-i.invariant.1 ∙ ap (λ s. s.capacity) c.wipe.ensures.leaves) e.does.1 ∙ ap (with_levels store) (sym (ap levels_of out));
    }

pub returns : goal.returns
returns g c =
    let fs = c.frames-frames.result.now in
    let store = g.S.Looking.meaning c.args.variables.now in
    let hs = (g.H.Looking.meaning c.args.heads.now).levels in
    let ls = (g.S.Looking.meaning c.loop-i.variables).levels in
    let few = nexts.sheet_short fs (ap is_sheet c.frames-frames.ensures.result ∙ c.args.sheet.now.formed) in
    let out =
    ap (outcome hs) (sym c.frames-frames.ensures.result)
    ∙ turns.at_end _ _ fs c.loop-i.i c.loop-i.column (state_of c.loop-i.machine fs c.loop-i.i ls) c.loop-i.machine.pending _ c.loop-i.invariant.0 c.loop-i-test.false in
    let col = turns.column_end _ _ fs c.loop-i.i c.loop-i.column (state_of c.loop-i.machine fs c.loop-i.i ls) c.loop-i.machine.pending _ c.loop-i.invariant.0 (omega (arith, few, c.loop-i.auto.i-end)) in
    record {
      result = sym (ap verdict_of out);
      column = sym col ∙ sym (ap column_of out);
      levels = turns.same_store _ store ls (c.loop-i.invariant.1 ∙ ap (λ s. s.capacity) c.wipe.ensures.leaves) refl ∙ ap (with_levels store) (sym (ap levels_of out));
    }
