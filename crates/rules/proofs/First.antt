-- The fault of a walk is at the first frame that violates a rule.
use Rattle.std.proofs.Common.{◌≡◌, ℕ, zero, suc, ◌+◌, ◌<◌, ◌≤◌, List, [], ◌∷◌, map, reverse, length, get_or, take, Ok, Err, Result, sym, refl, ap, ◌∙◌, arith}
use Rattle.std.proofs.lemmas.List.{take-map, length-map}
use Rattle.syntax.specs.declared.frame.Frame.{Frame}
use Rattle.syntax.specs.declared.frame.«Type».{«Type» as Ty}
use Rattle.syntax.specs.Writing.{Token, END, blank}
use Rattle.rules.specs.declared.violation.Violation.{Violation}
use Rattle.rules.specs.declared.violation.Violation.TheVariants.{Undeclared, NoFunction, OtherCount, OtherArgument, OtherOperands, OtherAssigned, OtherInitial, Repeated, OtherReturn, NoCondition}
use Rattle.rules.specs.Heads.{Signature, Levels}
use Rattle.rules.specs.Faults.{number, Fault, fault, ◌>>=◌, placed}
use Rattle.rules.specs.Tokens.{token}
use Rattle.rules.specs.Walk.{State, move, step, walk, start, returned, walk_frames}
use Rattle.rules.specs.First.{FirstFault}
use Rattle.rules.proofs.Moves.{Passes, Grown, move_grown}

number_range : (v : Violation) → (51 ≤ number v) × (number v ≤ 60)
number_range Undeclared = (omega arith, omega arith)
number_range NoFunction = (omega arith, omega arith)
number_range OtherCount = (omega arith, omega arith)
number_range OtherArgument = (omega arith, omega arith)
number_range OtherOperands = (omega arith, omega arith)
number_range OtherAssigned = (omega arith, omega arith)
number_range OtherInitial = (omega arith, omega arith)
number_range Repeated = (omega arith, omega arith)
number_range OtherReturn = (omega arith, omega arith)
number_range NoCondition = (omega arith, omega arith)

-- ===== chains that end in a fault =====
fails_alike : {A : Type 0} (m : Result State Fault) (f g : State → Result A Fault) (x : Fault) → ((s : State) → f s ≡ Err x → g s ≡ Err x) → (m >>= f) ≡ Err x → (m >>= g) ≡ Err x
fails_alike (Ok s) f g x h k = h s k
fails_alike (Err y) f g x h k = k

-- a fault in a list's front is the fault of the list
front_fails : (S : Signature) (r : Ty) (ms : List Token) (n : ℕ) (s : State) (x : Fault) → walk S r (take n ms) s ≡ Err x → walk S r ms s ≡ Err x
front_fails S r ms zero s x h = cc
front_fails S r [] (suc n) s x h = cc
front_fails S r (m ∷ ms) (suc n) s x h = fails_alike (step S r m s) _ _ x (λ t k. front_fails S r ms n t x k) h

ended_fails : {A : Type 0} (m : Result State Fault) (f : State → A) (x : Fault) → (m >>= λ s. Ok (f s)) ≡ Err x → m ≡ Err x
ended_fails (Ok s) f x h = cc
ended_fails (Err y) f x h = cc

-- ===== where a walk over tokens stops =====
record Stop (S : Signature) (r : Ty) (ms : List Token) (s : State) (v : Violation) (p : ℕ) (Γ : Levels) : Type 0 where
  passed : ℕ
  place : p ≡ length s.column + passed
  inside : passed < length ms
  before : State
  passes : walk S r (take passed ms) s ≡ Ok before
  leaves : before.levels ≡ Γ
  violates : move S r (get_or ms passed END) before ≡ Err v
  fails : walk S r (take (suc passed) ms) s ≡ Err (fault v p Γ)

module _ (S : Signature) (r : Ty) where
  stop_here : (m : Token) (ms : List Token) (s : State) (w v : Violation) (p : ℕ) (Γ : Levels) → move S r m s ≡ Err w
      → ◌≡◌ {A = Result State Fault} (Err (fault w (length s.column) s.levels)) (Err (fault v p Γ)) → Stop S r (m ∷ ms) s v p Γ
  stop_here m ms s w v p Γ e h =
      let i : length s.column ≡ p = cc in
      let j : w ≡ v = cc in
      let k : s.levels ≡ Γ = cc in
      record {
        passed = 0;
        place = omega (arith, i);
        inside = omega arith;
        before = s;
        passes = refl;
        leaves = k;
        violates = e ∙ ap Err j;
        fails = ap (λ o. placed (length s.column) s.levels o >>= λ t. Ok t) e ∙ h;
      }

  stop_later : (m : Token) (ms : List Token) (s t : State) (v : Violation) (p : ℕ) (Γ : Levels) → move S r m s ≡ Ok t → length t.column ≡ suc (length s.column)
      → Stop S r ms t v p Γ → Stop S r (m ∷ ms) s v p Γ
  stop_later m ms s t v p Γ e l q =
      let onward = λ (ns : List Token). ap (λ o. placed (length s.column) s.levels o >>= λ t. walk S r ns t) e in
      record {
        passed = suc q.passed;
        place = omega (arith, q.place, l);
        inside = omega (arith, q.inside);
        before = q.before;
        passes = onward (take q.passed ms) ∙ q.passes;
        leaves = q.leaves;
        violates = q.violates;
        fails = onward (take (suc q.passed) ms) ∙ q.fails;
      }

  stops : (ms : List Token) (s : State) (v : Violation) (p : ℕ) (Γ : Levels) → walk S r ms s ≡ Err (fault v p Γ) → Stop S r ms s v p Γ
  stops [] s v p Γ h = cc
  stops (m ∷ ms) s v p Γ h = go (move S r m s) refl (move_grown S r m s) h (λ t k. stops ms t v p Γ k)
    where
      go : (o : Result State Violation) → move S r m s ≡ o → Passes (Grown s) o → (placed (length s.column) s.levels o >>= λ t. walk S r ms t) ≡ Err (fault v p Γ)
          → ((t : State) → walk S r ms t ≡ Err (fault v p Γ) → Stop S r ms t v p Γ) → Stop S r (m ∷ ms) s v p Γ
      go (Ok t) e g h ih = stop_later m ms s t v p Γ e g.column_more (ih t h)
      go (Err w) e g h ih = stop_here m ms s w v p Γ e h

-- ===== frames =====
first_token : (fs : List Frame) (n : ℕ) → get_or (map token fs) n END ≡ token (get_or fs n blank)
first_token [] n = refl
first_token (f ∷ fs) zero = refl
first_token (f ∷ fs) (suc n) = first_token fs n

returned_front : (fs : List Frame) (n : ℕ) → returned (take (suc n) fs) ≡ returned fs
returned_front [] n = refl
returned_front (f ∷ fs) n = refl

pub first_fault : FirstFault
first_fault S fs v p Γ h =
    let r = returned fs in
    let q = stops S r (map token fs) start v p Γ (ended_fails (walk_frames S r fs) _ (fault v p Γ) h) in
    let e : q.passed ≡ p = omega (arith, q.place) in
    record {
      numbered = number_range v;
      inside = omega (arith, e, q.inside, length-map fs token);
      before = q.before;
      passes = ap (λ ms. walk S r ms start) (sym (take-map token p fs) ∙ ap (λ n. take n (map token fs)) (sym e)) ∙ q.passes;
      leaves = q.leaves;
      violates = ap (λ m. move S r m q.before) (sym (first_token fs p) ∙ ap (λ n. get_or (map token fs) n END) (sym e)) ∙ q.violates;
      decides = λ gs k.
          let i : returned gs ≡ r = sym (returned_front gs p) ∙ ap returned k ∙ returned_front fs p in
          let j : take (suc p) (map token gs) ≡ take (suc q.passed) (map token fs) =
          take-map token (suc p) gs ∙ ap (map token) k ∙ sym (take-map token (suc p) fs) ∙ ap (λ n. take (suc n) (map token fs)) (sym e) in
          let f : walk S r (map token gs) start ≡ Err (fault v p Γ) = front_fails S r (map token gs) (suc p) start (fault v p Γ) (ap (λ ms. walk S r ms start) j ∙ q.fails) in
          ap (λ (t : Ty). walk_frames S t gs >>= λ s. Ok (reverse s.column, s.levels)) i ∙ ap (λ o. o >>= λ s. Ok (reverse s.column, s.levels)) f;
    }
