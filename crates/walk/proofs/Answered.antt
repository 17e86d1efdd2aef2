-- What a step that answered has left.
use Rattle.std.proofs.Common.{◌≡◌, ℕ, ◌≤◌, Bool as Truth, true, false, cond, ltb, List, ◌∷◌, drop, Ok, Err, Result, sym, ap, ◌∙◌}
use Rattle.std.proofs.lemmas.Bool.{le-ltb, cond-false}
use Rattle.syntax.specs.declared.frame.Frame.{Frame}
use Rattle.rules.specs.declared.violation.Violation.{Violation}
use Rattle.rules.proofs.Results.{no_answer, answers_same}
use Rattle.walk.specs.Judge.{Numbers, arity, judge}
use Rattle.walk.specs.Step.{idle, State, state, asked, stated, stepped, Turn, turn, plain, typed}

-- an expression's frame
pub stepped_typed : (hs : List Numbers) (ρ : ℕ) (f : Frame) (s : State) → 0x20 ≤ f.kind → stepped hs ρ f s ≡ typed f s (judge hs s.levels f s.operands)
stepped_typed hs ρ f s h = cond-false (ltb f.kind 0x20) (plain (stated ρ f s)) (typed f s (judge hs s.levels f s.operands)) (le-ltb f.kind 0x20 h)

pub typed_is : (f : Frame) (s : State) (r : Result ℕ Violation) (b : ℕ) (s' : State) → typed f s r ≡ Ok (turn b s') → s' ≡ state (b ∷ drop (arity f) s.operands) s.levels s.things idle
typed_is f s (Ok t) b s' h =
    let e = answers_same h in
    sym (ap (λ (p : Turn). p.next) e) ∙ ap (λ t. state (t ∷ drop (arity f) s.operands) s.levels s.things idle) (ap (λ (p : Turn). p.byte) e)
typed_is f s (Err v) b s' h = no_answer h

pub plain_is : (r : Result State Violation) (b : ℕ) (s' : State) → plain r ≡ Ok (turn b s') → r ≡ Ok s'
plain_is (Ok s) b s' h = ap (λ (p : Turn). Ok p.next) (answers_same h)
plain_is (Err v) b s' h = no_answer h

pub ok_is : {s s' : State} → ◌≡◌ {A = Result State Violation} (Ok s) (Ok s') → s' ≡ s
ok_is h = sym (answers_same h)

pub asked_is : (b : Truth) (v : Violation) (s : State) {s' : State} → asked b v s ≡ Ok s' → s' ≡ s
asked_is true v s h = ok_is h
asked_is false v s h = no_answer h

pub unless_is : (b : Truth) (v : Violation) (s : State) {s' : State} → cond b (Err v) (Ok s) ≡ Ok s' → s' ≡ s
unless_is true v s h = no_answer h
unless_is false v s h = ok_is h

pub init_is : (a b : Truth) (v w : Violation) (s : State) {s' : State} → cond a (cond b (Err v) (Ok s)) (Err w) ≡ Ok s' → s' ≡ s
init_is true b v w s h = unless_is b v s h
init_is false b v w s h = no_answer h
