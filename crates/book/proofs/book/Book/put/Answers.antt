-- The tests in their order; an accepted put marks the callers, writes the record and both parts.
use Rattle.std.proofs.Common.{◌≡◌, suc, ◌-◌, ◌<◌, ◌≤◌, true, false, length, Some, None, Err, refl, sym, ap, ◌∙◌, subst, inl, inr, arith}
use Rattle.std.proofs.lemmas.Result.{err_from_is_err_and}
use Rattle.frames.specs.Sheets.{frames_of, sheet_of}
use Rattle.walk.specs.declared.verdict.Verdict.TheVariants.{Valid}
use Rattle.history.specs.Areas.{with_part}
use Rattle.history.specs.Calls.{refusal, Call.put, Answer.done, elsewhere}
use Rattle.history.specs.Working.{working_signatures}
use Rattle.history.specs.Runs.{Does}
use Rattle.cpp.specs.Heads.{name_of, head_number, repeated_in}
use Rattle.cpp.specs.Cpp.{cpp}
use Rattle.records.specs.declared.fault.Fault.TheVariants.{NoSheet}
use Rattle.records.specs.Answers.{edited}
use Rattle.records.specs.Records.{signed, state_of, is_head}
use Rattle.records.specs.Sheets.{sheet_from}
use Rattle.records.proofs.Refusing.{put_31, put_32, put_33, put_34, put_done, refused_does, wrote_does, does_over}
use Rattle.records.proofs.Telling.{packed_number, number_is_head, repeated_told}
use Rattle.records.proofs.Replacing.{free_apart, state_after, put_record, put_record_told, put_signature, put_after, sheet_image, zeros_part}
use Rattle.book.specs.States.{state}
use Rattle.book.proofs.Keeping.{kept}
use Rattle.book.proofs.book.Book.put.Goals as goal

pub returns-in_err-k : goal.returns-in_err-k
returns-in_err-k c =
    let st = state c.args.self.now c.args.frames.now c.args.column.now in
    let d = sheet_from c.args.formed.now in
    let p = err_from_is_err_and c.from_residual.result c.from_residual.ensures.1 in
    let q : c.from_residual.result ≡ Err (NoSheet c.args.sheet) = p.1 ∙ ap Err (p.2 ∙ c.in_err-k.ensures.1) in
    let l : 31 < c.args.sheet = omega (arith, c.in_err-k.ensures.0) in
    kept _ _ _ _
    (subst (λ r. Does cpp st (put c.args.sheet d (length c.args.frames.now) (length c.args.column.now)) (edited r) st) (sym q)
    (refused_does st _ (refusal 31 c.args.sheet) (put_31 (working_signatures st) c.args.sheet d (length c.args.frames.now) (length c.args.column.now) l)))

pub returns-in_default : goal.returns-in_default
returns-in_default c =
    let st = state c.args.self.now c.args.frames.now c.args.column.now in
    let l : c.args.sheet ≤ 31 = omega (arith, c.in_ok-k.ensures.0) in
    kept _ _ _ _
    (refused_does st _ _ (put_32 (working_signatures st) c.args.sheet (sheet_from c.args.formed.now) (length c.args.frames.now) (length c.args.column.now) l (inl c.in_default.ensures.cases)))

pub returns-in_default-as_mut_array : goal.returns-in_default-as_mut_array
returns-in_default-as_mut_array c =
    let st = state c.args.self.now c.args.frames.now c.args.column.now in
    let back = state c.args.self.now c.in-Some.frames.now c.args.column.now in
    let l : c.args.sheet ≤ 31 = omega (arith, c.in_ok-k.ensures.0) in
    kept _ _ _ _
    (does_over st c.in-Some.frames.now c.args.column.now c.in-Some.ensures.cases.same refl _ _ _
    (refused_does back _ _
    (put_32 (working_signatures st) c.args.sheet (sheet_from c.args.formed.now) (length c.args.frames.now) (length c.args.column.now) l (inr (c.in-Some.ensures.cases.long, c.in_default-as_mut_array.ensures.cases)))))

pub returns-then-named_elsewhere : goal.returns-then-named_elsewhere
returns-then-named_elsewhere c =
    let st = state c.args.self.now c.args.frames.now c.args.column.now in
    let back = state c.args.self.now c.in-Some.frames.now c.in-Some-as_mut_array.column.now in
    let d = sheet_from c.args.formed.now in
    let l : c.args.sheet ≤ 31 = omega (arith, c.in_ok-k.ensures.0) in
    let taken : elsewhere cpp (working_signatures st) c.args.sheet (name_of d) ≡ true =
    ap (λ t. elsewhere cpp (working_signatures st) t (name_of d)) (sym c.in_ok-k.ensures.1) ∙ ap (elsewhere cpp (working_signatures st) c.in_ok-k.k.number) (sym c.name-name.ensures.result) ∙ sym c.if-named_elsewhere.ensures in
    kept _ _ _ _
    (does_over st c.in-Some.frames.now c.in-Some-as_mut_array.column.now c.in-Some.ensures.cases.same c.in-Some-as_mut_array.ensures.cases.same _ _ _
    (refused_does back _ _
    (put_33 (working_signatures st) c.args.sheet d (length c.args.frames.now) (length c.args.column.now) l c.in-Some.ensures.cases.long c.in-Some-as_mut_array.ensures.cases.long taken)))

pub returns-in-Some-repeated_parameter : goal.returns-in-Some-repeated_parameter
returns-in-Some-repeated_parameter c =
    let st = state c.args.self.now c.args.frames.now c.args.column.now in
    let back = state c.args.self.now c.in-Some.frames.now c.in-Some-as_mut_array.column.now in
    let d = sheet_from c.args.formed.now in
    let place = c.in-Some-repeated_parameter.place in
    let l : c.args.sheet ≤ 31 = omega (arith, c.in_ok-k.ensures.0) in
    let free : elsewhere cpp (working_signatures st) c.args.sheet (name_of d) ≡ false =
    ap (λ t. elsewhere cpp (working_signatures st) t (name_of d)) (sym c.in_ok-k.ensures.1) ∙ ap (elsewhere cpp (working_signatures st) c.in_ok-k.k.number) (sym c.name-name.ensures.result) ∙ sym c.if-named_elsewhere.ensures in
    let twice : repeated_in d ≡ Some place = sym (repeated_told c.args.formed.now) ∙ sym c.in-Some-repeated_parameter.ensures.result in
    kept _ _ _ _
    (does_over st c.in-Some.frames.now c.in-Some-as_mut_array.column.now c.in-Some.ensures.cases.same c.in-Some-as_mut_array.ensures.cases.same _ _ _
    (refused_does back _ _
    (put_34 (working_signatures st) c.args.sheet d (length c.args.frames.now) (length c.args.column.now) l c.in-Some.ensures.cases.long c.in-Some-as_mut_array.ensures.cases.long free place twice)))

pub replace-requires : goal.replace-requires
replace-requires c =
    let x = c.args.formed.now in
    let n = c.name-name.result in
    let h = c.head_of-head.result in
    record {
      head = ap is_head (c.head_of-head.ensures.result ∙ packed_number x) ∙ number_is_head (sheet_from x);
      free =
          free_apart c.args.self.now.table.records c.args.self.now.valid c.in-Some.frames.now c.in-Some-as_mut_array.column.now c.in_ok-k.k.number (signed c.signature-old.result) (Some (n, h)) c.mark.new.self.records
          c.in_ok-k.k.below c.mark.new.self.full c.signature-old.ensures c.mark.ensures
          (record { signature = record { name = n; head = h }; end = c.count.result - 1; due = true; kept = Valid }) c.if-named_elsewhere.ensures;
    }

pub returns : goal.returns
returns c =
    let x = c.args.formed.now in
    let rs = c.args.self.now.table.records in
    let f = c.in-Some.frames.now in
    let k = c.in-Some-as_mut_array.column.now in
    let fl = length c.args.frames.now in
    let cl = length c.args.column.now in
    let s = c.in_ok-k.k.number in
    let st = state c.args.self.now f k in
    let n = c.name-name.result in
    let h = c.head_of-head.result in
    let e = c.count.result - 1 in
    let named = c.name-name.ensures.result in
    let headed : h ≡ head_number (sheet_from x) = c.head_of-head.ensures.result ∙ packed_number x in
    let ends : suc e ≡ length (frames_of x) = omega (arith, c.count.ensures.result, c.count.ensures.bound) in
    let l : s < 32 = c.in_ok-k.k.below in
    let m : s ≤ 31 = omega arith in
    let free : elsewhere cpp (working_signatures st) s (name_of (sheet_from x)) ≡ false =
    ap (elsewhere cpp (working_signatures st) s) (sym named) ∙ sym c.if-named_elsewhere.ensures in
    let once : repeated_in (sheet_from x) ≡ None = sym (repeated_told x) ∙ sym c.in_default-repeated_parameter.ensures.result in
    let after =
    ap (λ q. state_of q false c.write_part.new.area c.write_part-2.new.area) c.replace.ensures
    ∙ state_after rs c.args.self.now.valid f k s (signed c.signature-old.result) (Some (n, h)) c.mark.new.self.records l c.mark.new.self.full c.signature-old.ensures c.mark.ensures
    (Some (put_record x n h e named headed ends)) (sheet_of x) c.write_part.new.area c.write_part-2.new.area
    (c.write_part.ensures ∙ ap (λ b. with_part s b f) c.sheet.ensures.result) (c.write_part-2.ensures ∙ ap (λ z. with_part s z k) zeros_part) in
    let d = wrote_does st _ _ s (sheet_from x)
    (put_done (working_signatures st) s (sheet_from x) fl cl m c.in-Some.ensures.cases.long c.in-Some-as_mut_array.ensures.cases.long free once)
    (put_after st _ s (sheet_from x) _ (Some (n, h)) (sheet_of x) (put_record_told x n h e named headed ends) (put_signature x n h e named headed ends) (sheet_image x) after) in
    kept _ _ _ _
    (does_over (state c.args.self.now c.args.frames.now c.args.column.now) f k c.in-Some.ensures.cases.same c.in-Some-as_mut_array.ensures.cases.same _ _ _
    (subst (λ t. Does cpp st (put t (sheet_from x) fl cl) done (state_of c.replace.new.self.records false c.write_part.new.area c.write_part-2.new.area)) c.in_ok-k.ensures.1 d))
