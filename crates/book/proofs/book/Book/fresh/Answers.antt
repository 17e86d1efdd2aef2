-- A refusal alters nothing; else both areas are blank, and the book is a new one.
use Rattle.std.proofs.Common.{refl, inl, inr}
use Rattle.cpp.proofs.Laws.{law}
use Rattle.records.proofs.Freshening.{unfreshened, freshened}
use Rattle.book.specs.States.{state}
use Rattle.book.proofs.book.Book.fresh.Goals as goal

pub returns-in_default : goal.returns-in_default
returns-in_default c =
    let d = unfreshened (state c.args.self.now c.args.frames.now c.args.column.now) c.args.frames.now (inl c.in_default.ensures.cases) refl in
    record { does = d; unnamed = refl; history = law.fresh _ _ _ d }

pub returns-in_default-as_mut_array : goal.returns-in_default-as_mut_array
returns-in_default-as_mut_array c =
    let d =
    unfreshened (state c.args.self.now c.args.frames.now c.args.column.now) c.in-Some.frames.now
    (inr (c.in-Some.ensures.cases.long, c.in_default-as_mut_array.ensures.cases)) c.in-Some.ensures.cases.same in
    record { does = d; unnamed = refl; history = law.fresh _ _ _ d }

pub returns : goal.returns
returns c =
    let d =
    freshened (state c.args.self.now c.args.frames.now c.args.column.now) (state c.new.result) c.in-Some.frames.now c.fill.new.self c.in-Some-as_mut_array.column.now c.fill-2.new.self c.new.ensures.result
    c.in-Some.ensures.cases.long c.in-Some-as_mut_array.ensures.cases.long c.in-Some.ensures.cases.same c.in-Some-as_mut_array.ensures.cases.same (c.fill.ensures.after (λ y e. e)) (c.fill-2.ensures.after (λ y e. e)) in
    record { does = d; unnamed = tt; history = law.fresh _ _ _ d }
