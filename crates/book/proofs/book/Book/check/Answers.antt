-- A refusal alters nothing; an accepted check settles every sheet.
use Rattle.std.proofs.Common.{◌≡◌, ◌<◌, ◌≤◌, false, ◌⊎◌, length, refl, ◌∙◌, subst, ap₂, inl, inr, arith}
use Rattle.history.specs.Words.{map_some}
use Rattle.history.specs.Calls.{refusal, Call.check, Answer.refused, Answer.checked}
use Rattle.history.specs.Working.{working_signatures}
use Rattle.history.specs.Runs.{Does}
use Rattle.cpp.specs.Cpp.{cpp}
use Rattle.cpp.proofs.Laws.{law, promises}
use Rattle.records.specs.Faults.{told}
use Rattle.records.specs.Records.{state_of}
use Rattle.records.specs.Stores.{variables_left}
use Rattle.records.proofs.Holding.{held_left}
use Rattle.records.proofs.Refusing.{refused_does, does_over}
use Rattle.records.proofs.Checking.{check_sizes, check_rooms, check_accepted, valid_told, check_does, variables_same}
use Rattle.book.specs.States.{state}
use Rattle.book.proofs.book.Book.check.Goals as goal
use Rattle.book.proofs.book.Book.check.Goals.{then-capacity-lt-ROOM-via-then-capacity-lt-ROOM, then-capacity-lt-ROOM-via-else-capacity-lt-ROOM+then-capacity-lt-ROOM-2}

pub returns-in_default : goal.returns-in_default
returns-in_default g c =
    let fl = length c.args.frames.now in
    let cl = length c.args.column.now in
    let a = (g.H.Looking.meaning c.args.heads.now).capacity in
    let b = (g.S.Looking.meaning c.args.variables.now).capacity in
    let book = state c.args.self.now c.args.frames.now c.args.column.now in
    let f = refusal 32 255 in
    let d = refused_does book (check fl cl a b) f (check_sizes (working_signatures book) fl cl a b (inl c.in_default.ensures.cases)) in
    record { does = d; heads = refl {a = g.H.Looking.meaning c.args.heads.now}; variables = refl {a = g.S.Looking.meaning c.args.variables.now}; unnamed = refl; history = promises.calls book (check fl cl a b) (refused f) book d; law = law }

pub returns-in_default-as_mut_array : goal.returns-in_default-as_mut_array
returns-in_default-as_mut_array g c =
    let fl = length c.args.frames.now in
    let cl = length c.args.column.now in
    let a = (g.H.Looking.meaning c.args.heads.now).capacity in
    let b = (g.S.Looking.meaning c.args.variables.now).capacity in
    let book = state c.args.self.now c.args.frames.now c.args.column.now in
    let f = refusal 32 255 in
    let d = refused_does book (check fl cl a b) f (check_sizes (working_signatures book) fl cl a b (inr (c.in-Some.ensures.cases.long, c.in_default-as_mut_array.ensures.cases))) in
    record { does = d; heads = refl {a = g.H.Looking.meaning c.args.heads.now}; variables = refl {a = g.S.Looking.meaning c.args.variables.now}; unnamed = refl; history = promises.calls book (check fl cl a b) (refused f) book d; law = law }

pub returns-then-capacity-lt-ROOM : goal.returns-then-capacity-lt-ROOM
returns-then-capacity-lt-ROOM g c =
    let fl = length c.args.frames.now in
    let cl = length c.args.column.now in
    let a = (g.H.Looking.meaning c.args.heads.now).capacity in
    let b = (g.S.Looking.meaning c.args.variables.now).capacity in
    let book = state c.args.self.now c.args.frames.now c.args.column.now in
    let f = refusal 39 255 in
    let small : (a < 256) ⊎ (b < 256) =
    elim c.then-capacity-lt-ROOM.branch [
      | then-capacity-lt-ROOM-via-then-capacity-lt-ROOM w ↦ inl (omega (arith, c.capacity.ensures.result, w.if-capacity-lt-ROOM.true))
      | then-capacity-lt-ROOM-via-else-capacity-lt-ROOM+then-capacity-lt-ROOM-2 w ↦ inr (omega (arith, w.capacity-else-capacity-lt-ROOM.ensures.result, w.if-capacity-lt-ROOM-2.true))
    ]
    in
    let k = c.then-capacity-lt-ROOM.column in
    let same : k ≡ c.args.column.now =
    elim c.then-capacity-lt-ROOM.branch [
      | then-capacity-lt-ROOM-via-then-capacity-lt-ROOM w ↦ w.column-is ∙ c.in-Some-as_mut_array.ensures.cases.same
      | then-capacity-lt-ROOM-via-else-capacity-lt-ROOM+then-capacity-lt-ROOM-2 w ↦ w.column-is ∙ c.in-Some-as_mut_array.ensures.cases.same
    ]
    in
    let back = state c.args.self.now c.args.frames.now k in
    let d = does_over book c.args.frames.now k refl same (check fl cl a b) (refused f) back
    (refused_does back (check fl cl a b) f (check_rooms (working_signatures book) fl cl a b c.in-Some.ensures.cases.long c.in-Some-as_mut_array.ensures.cases.long small)) in
    record { does = d; heads = refl {a = g.H.Looking.meaning c.args.heads.now}; variables = refl {a = g.S.Looking.meaning c.args.variables.now}; unnamed = refl; history = promises.calls book (check fl cl a b) (refused f) back d; law = law }

pub walk_due-walked-requires : goal.walk_due-walked-requires
walk_due-walked-requires g c =
    let table = c.args.self.now.table in
    record {
      room = omega (arith, c.capacity-else-capacity-lt-ROOM.ensures.result, c.if-capacity-lt-ROOM-2.false);
      held = held_left table.records table.heads table.apart (g.H.Looking.meaning c.args.heads.now) (g.H.Looking.meaning c.declare_heads.new.heads) c.declare_heads.ensures;
    }

pub returns : goal.returns
returns g c =
    let fs₀ = c.args.frames.now in
    let k₀ = c.args.column.now in
    let fs = c.in-Some.frames.now in
    let k = c.in-Some-as_mut_array.column.now in
    let k' = c.walk_due-walked.new.column in
    let fl = length fs₀ in
    let cl = length k₀ in
    let a = (g.H.Looking.meaning c.args.heads.now).capacity in
    let s = g.S.Looking.meaning c.args.variables.now in
    let b = s.capacity in
    let l : 256 ≤ a = omega (arith, c.capacity.ensures.result, c.if-capacity-lt-ROOM.false) in
    let m : 256 ≤ b = omega (arith, c.capacity-else-capacity-lt-ROOM.ensures.result, c.if-capacity-lt-ROOM-2.false) in
    let rs = c.args.self.now.table.records in
    let v = c.args.self.now.valid in
    let after = c.walk_due-walked.new.self in
    let n = c.walk_due-walked.result in
    let o = map_some told c.lowest_fault-fault.result in
    let v' = c.is_none-self.result in
    let same_f = c.in-Some.ensures.cases.same in
    let same_k = c.in-Some-as_mut_array.ensures.cases.same in
    let book = state c.args.self.now fs₀ k₀ in
    let call = check fl cl a b in
    let left = state (record { table = after; valid = v' }) fs₀ k' in
    let w = c.walk_due-walked.ensures in
    let over = check_does rs after.records v v' fs k k' n o after.full w.result w.records w.column c.lowest_fault-fault.ensures
    (valid_told c.lowest_fault-fault.result v' c.is_none-self.ensures) call
    (check_accepted (working_signatures book) fl cl a b c.in-Some.ensures.cases.long c.in-Some-as_mut_array.ensures.cases.long l m)
    in
    let d = does_over book fs k same_f same_k call (checked n o) left (subst (λ q. Does cpp (state_of rs v fs k) call (checked n o) (state_of after.records v' q k')) same_f over) in
    record {
      does = d;
      heads = c.declare_heads.ensures;
      variables = w.variables ∙ variables_same rs false v fs k s ∙ ap₂ (λ f q. variables_left (state_of rs v f q) s) same_f same_k;
      unnamed = tt;
      history = promises.calls book call (checked n o) left d;
      law = law;
    }
