-- The tests are the refusal's, and what follows of every history the law promises.
use Rattle.std.proofs.Common.{cond, length, Some, None, sym, refl, ap, ◌∙◌, inl, inr}
use Rattle.history.specs.Calls.{refusal}
use Rattle.records.proofs.Questions.{reader_other_length, reader_by_mark, reader_promised}
use Rattle.book.specs.States.{state}
use Rattle.book.proofs.book.Book.reader.Goals as goal

pub returns-in_default : goal.returns-in_default
returns-in_default c =
    let e = reader_other_length c.args.self.now.valid (length c.args.frames.now) (length c.args.column.now) (inl c.in_default.ensures.cases) in
    record { result = e; lends = tt; unnamed = refl; history = reader_promised (state c.args.self.now c.args.frames.now c.args.column.now) _ _ _ e }

pub returns-in_default-as_array : goal.returns-in_default-as_array
returns-in_default-as_array c =
    let e = reader_other_length c.args.self.now.valid (length c.args.frames.now) (length c.args.column.now) (inr (c.in-Some.ensures.cases.long, c.in_default-as_array.ensures.cases)) in
    record { result = e; lends = tt; unnamed = refl; history = reader_promised (state c.args.self.now c.args.frames.now c.args.column.now) _ _ _ e }

pub returns-then-not-self : goal.returns-then-not-self
returns-then-not-self c =
    let e = ap (λ v. cond v None (Some (refusal 36 255))) (sym c.if-not-self.true) ∙ reader_by_mark c.args.self.now.valid (length c.args.frames.now) (length c.args.column.now) c.in-Some.ensures.cases.long c.in-Some-as_array.ensures.cases.long in
    record { result = e; lends = tt; unnamed = refl; history = reader_promised (state c.args.self.now c.args.frames.now c.args.column.now) _ _ _ e }

pub returns : goal.returns
returns c =
    let e = ap (λ v. cond v None (Some (refusal 36 255))) (sym c.if-not-self.false) ∙ reader_by_mark c.args.self.now.valid (length c.args.frames.now) (length c.args.column.now) c.in-Some.ensures.cases.long c.in-Some-as_array.ensures.cases.long in
    record { result = e; lends = (refl, c.in-Some.ensures.cases.same, c.in-Some-as_array.ensures.cases.same); unnamed = tt; history = reader_promised (state c.args.self.now c.args.frames.now c.args.column.now) _ _ _ e }
