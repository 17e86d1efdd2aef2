use Rattle.std.proofs.Common.{◌<◌, ◌≤◌, length, get_or, take, is_some, sym, ap, ◌∙◌, subst}
use Rattle.syntax.specs.Writing.{blank}
use Rattle.frames.specs.Sheets.{frames_of}
use Rattle.levels.specs.Search.{newest_of}
use Rattle.walk.specs.Machines.{names_of}
use Rattle.walk.specs.Params.{param_frames, Placed}
use Rattle.walk.proofs.RepeatPlaces.{from_more, from_stops, from_none, repeat_placed}
use Rattle.walk.proofs.params.repeated_parameter.Goals as goal

pub returns-then-is_some : goal.returns-then-is_some
returns-then-is_some c =
    let fs = frames_of c.args.sheet.now in
    let i = c.loop-i.i in
    let ps = c.parameters-parameters.result.now in
    let found = ap is_some (c.newest.ensures.result ∙ ap (λ l. newest_of (names_of (take i l)) (get_or l i blank).name) c.parameters-parameters.ensures) in
    let e = sym (from_stops (param_frames fs) i (subst (λ l. i < length l) c.parameters-parameters.ensures c.loop-i-test.true) (sym (c.if-is_some.ensures ∙ found))) ∙ c.loop-i.invariant in
    record { result = e; bound = subst (Placed fs) (sym e) (repeat_placed fs c.args.sheet.now.formed) }

pub loop-i-preserved : goal.loop-i-preserved
loop-i-preserved c =
    let fs = frames_of c.args.sheet.now in
    let i = c.loop-i.i in
    let ps = c.parameters-parameters.result.now in
    let found = ap is_some (c.newest.ensures.result ∙ ap (λ l. newest_of (names_of (take i l)) (get_or l i blank).name) c.parameters-parameters.ensures) in
    sym (from_more (param_frames fs) i (subst (λ l. i < length l) c.parameters-parameters.ensures c.loop-i-test.true) (sym (c.if-is_some.ensures ∙ found))) ∙ c.loop-i.invariant

pub returns : goal.returns
returns c =
    let fs = frames_of c.args.sheet.now in
    let e = sym (from_none (param_frames fs) c.loop-i.i (subst (λ l. length l ≤ c.loop-i.i) c.parameters-parameters.ensures c.loop-i-test.false)) ∙ c.loop-i.invariant in
    record { result = e; bound = subst (Placed fs) (sym e) (repeat_placed fs c.args.sheet.now.formed) }
