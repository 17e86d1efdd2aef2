use Rattle.std.proofs.Common.{◌≡◌, ◌≤◌, true, length, Ok, rules, sym, refl, ap, ◌∙◌, arith}
use Rattle.levels.specs.Store.{with_levels}
use Rattle.walk.specs.Outcomes.{outcome, verdict_of, column_of, levels_of}
use Rattle.walk.specs.Examined.{recorded}
use Rattle.walk.proofs.Walked as walked
use Rattle.walk.proofs.examining.examine.Goals as goal

pub returns : goal.returns
returns g c =
    let fs = c.args.frames.now in
    let col = c.args.column.now in
    let hs = (g.H.Looking.meaning c.args.heads.now).levels in
    let store = g.S.Looking.meaning c.args.variables.now in
    let o = outcome hs fs in
    let b = recorded fs c.args.signature.name c.args.signature.head in
    let n : length col ≡ 256 = c.if-column-ne-PLACES.false in
    let l : 256 ≤ store.capacity = omega (arith, c.capacity.ensures.result, c.if-capacity-lt-ROOM.false) in
    let t : b ≡ true = sym c.if-not-as_recorded.ensures.test in
    let same = ap (outcome hs) (c.if-not-as_recorded.ensures.sheet (search rules)) in
    let verdict = c.run.ensures.result ∙ ap verdict_of same in
    let column = c.run.ensures.column ∙ ap column_of same in
    let levels = c.run.ensures.levels ∙ ap (λ o. with_levels store (levels_of o)) same in
    record {
      result = ap Ok verdict ∙ walked.examined_walked (length col) store.capacity b o n l t;
      leaves = record {
        column = column ∙ walked.column_walked col store.capacity b o n l t;
        variables = levels ∙ walked.store_walked (length col) store.capacity b o n l t store refl;
      };
      law = walked.decides_walked hs fs (length col) store.capacity b (Ok c.run.result) c.run.new.column _
          (walked.recorded_sheet fs c.args.signature.name c.args.signature.head t) (ap Ok verdict) column (ap (λ s. s.levels) levels);
    }
