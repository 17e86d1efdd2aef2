-- The tests in their order; an accepted clear marks the callers, empties the record and blanks both parts.
use Rattle.std.proofs.Common.{◌≡◌, ◌<◌, ◌≤◌, true, false, length, replicate, None, Err, refl, sym, ap, ◌∙◌, subst, inl, inr, arith}
use Rattle.std.proofs.lemmas.Result.{err_from_is_err_and}
use Rattle.syntax.specs.Writing.{blank}
use Rattle.history.specs.Words.{filled}
use Rattle.history.specs.Areas.{with_part}
use Rattle.history.specs.Calls.{refusal, Call.clear, Answer.done}
use Rattle.history.specs.Working.{working_signatures}
use Rattle.history.specs.Runs.{Does}
use Rattle.cpp.specs.Cpp.{cpp}
use Rattle.records.specs.declared.fault.Fault.TheVariants.{NoSheet}
use Rattle.records.specs.Answers.{edited}
use Rattle.records.specs.Records.{signed, state_of}
use Rattle.records.proofs.Refusing.{signed_filled, clear_31, clear_32, clear_35, clear_done, refused_does, emptied_does, does_over}
use Rattle.records.proofs.Replacing.{state_after, clear_after, zeros_part, blanks_part}
use Rattle.book.specs.States.{state}
use Rattle.book.proofs.Keeping.{kept}
use Rattle.book.proofs.book.Book.clear.Goals as goal

pub returns-in_err-k : goal.returns-in_err-k
returns-in_err-k c =
    let st = state c.args.self.now c.args.frames.now c.args.column.now in
    let call = clear c.args.sheet (length c.args.frames.now) (length c.args.column.now) in
    let p = err_from_is_err_and c.from_residual.result c.from_residual.ensures.1 in
    let q : c.from_residual.result ≡ Err (NoSheet c.args.sheet) = p.1 ∙ ap Err (p.2 ∙ c.in_err-k.ensures.1) in
    let l : 31 < c.args.sheet = omega (arith, c.in_err-k.ensures.0) in
    kept _ _ _ _
    (subst (λ r. Does cpp st call (edited r) st) (sym q)
    (refused_does st call (refusal 31 c.args.sheet) (clear_31 (working_signatures st) c.args.sheet (length c.args.frames.now) (length c.args.column.now) l)))

pub returns-in_default : goal.returns-in_default
returns-in_default c =
    let st = state c.args.self.now c.args.frames.now c.args.column.now in
    let l : c.args.sheet ≤ 31 = omega (arith, c.in_ok-k.ensures.0) in
    kept _ _ _ _
    (refused_does st _ _ (clear_32 (working_signatures st) c.args.sheet (length c.args.frames.now) (length c.args.column.now) l (inl c.in_default.ensures.cases)))

pub returns-in_default-as_mut_array : goal.returns-in_default-as_mut_array
returns-in_default-as_mut_array c =
    let st = state c.args.self.now c.args.frames.now c.args.column.now in
    let back = state c.args.self.now c.in-Some.frames.now c.args.column.now in
    let l : c.args.sheet ≤ 31 = omega (arith, c.in_ok-k.ensures.0) in
    kept _ _ _ _
    (does_over st c.in-Some.frames.now c.args.column.now c.in-Some.ensures.cases.same refl _ _ _
    (refused_does back _ _
    (clear_32 (working_signatures st) c.args.sheet (length c.args.frames.now) (length c.args.column.now) l (inr (c.in-Some.ensures.cases.long, c.in_default-as_mut_array.ensures.cases)))))

pub returns-then-is_none : goal.returns-then-is_none
returns-then-is_none c =
    let st = state c.args.self.now c.args.frames.now c.args.column.now in
    let back = state c.args.self.now c.in-Some.frames.now c.in-Some-as_mut_array.column.now in
    let l : c.args.sheet ≤ 31 = omega (arith, c.in_ok-k.ensures.0) in
    let none : filled (working_signatures st c.args.sheet) ≡ false =
    ap (λ t. filled (working_signatures st t)) (sym c.in_ok-k.ensures.1) ∙ ap filled (sym c.signature-old.ensures) ∙ signed_filled c.signature-old.result ∙ c.if-is_none.ensures in
    kept _ _ _ _
    (does_over st c.in-Some.frames.now c.in-Some-as_mut_array.column.now c.in-Some.ensures.cases.same c.in-Some-as_mut_array.ensures.cases.same _ _ _
    (refused_does back _ _
    (clear_35 (working_signatures st) c.args.sheet (length c.args.frames.now) (length c.args.column.now) l c.in-Some.ensures.cases.long c.in-Some-as_mut_array.ensures.cases.long none)))

pub returns : goal.returns
returns c =
    let rs = c.args.self.now.table.records in
    let f = c.in-Some.frames.now in
    let k = c.in-Some-as_mut_array.column.now in
    let fl = length c.args.frames.now in
    let cl = length c.args.column.now in
    let s = c.in_ok-k.k.number in
    let st = state c.args.self.now f k in
    let marks = c.mark.new.self.records in
    let there : filled (working_signatures st s) ≡ true = ap filled (sym c.signature-old.ensures) ∙ signed_filled c.signature-old.result ∙ c.if-is_none.ensures in
    let l : s < 32 = c.in_ok-k.k.below in
    let m : s ≤ 31 = omega arith in
    let after =
    ap (λ q. state_of q false c.write_part.new.area c.write_part-2.new.area) c.replace.ensures
    ∙ state_after rs c.args.self.now.valid f k s (signed c.signature-old.result) None marks l c.mark.new.self.full c.signature-old.ensures c.mark.ensures None
    (replicate 256 blank) c.write_part.new.area c.write_part-2.new.area c.write_part.ensures (c.write_part-2.ensures ∙ ap (λ z. with_part s z k) zeros_part) in
    let d = emptied_does st _ _ s (clear_done (working_signatures st) s fl cl m c.in-Some.ensures.cases.long c.in-Some-as_mut_array.ensures.cases.long there) (clear_after st _ s (replicate 256 blank) blanks_part after) in
    kept _ _ _ _
    (does_over (state c.args.self.now c.args.frames.now c.args.column.now) f k c.in-Some.ensures.cases.same c.in-Some-as_mut_array.ensures.cases.same _ _ _
    (subst (λ t. Does cpp st (clear t fl cl) done (state_of c.replace.new.self.records false c.write_part.new.area c.write_part-2.new.area)) c.in_ok-k.ensures.1 d))
