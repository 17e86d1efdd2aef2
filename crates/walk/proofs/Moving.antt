-- One frame on codes does what its token does by the rules.
use Rattle.std.proofs.Common.{◌≡◌, ℕ, zero, suc, pred, ◌-◌, Bool as Truth, true, false, cond, not, ◌||◌, eqb, List, [], ◌∷◌, map, reverse, get_or, take, drop, Ok, Err, Result, sym, refl, ap, ◌∙◌, subst, ap₂, arith}
use Rattle.std.proofs.lemmas.List.{drop-map}
use Rattle.syntax.specs.declared.frame.Frame.{Frame}
use Rattle.syntax.specs.declared.frame.«Type».{«Type» as Ty}
use Rattle.syntax.specs.declared.frame.«Type».TheVariants.{Bool, Void}
use Rattle.syntax.specs.declared.stages.Unfinished.{Unfinished}
use Rattle.syntax.specs.declared.stages.Unfinished.TheVariants.{Loop, Choice}
use Rattle.syntax.specs.Trees.{true_literal, false_literal, int_literal, double_literal, string_literal, Operator, plus, minus, times, divide, less, less_equal, equal, not_equal, greater_equal, greater, logical_and, logical_or, post_increment, post_decrement, pre_increment, pre_decrement}
use Rattle.syntax.specs.Writing.{Token, HEAD, PARAM, END, DO, DECL, NAME, INIT, RETV, RET, OPEN, CLOSE, WHILE, IF, LITERAL, VARIABLE, CALL, UPDATE, BINARY, ASSIGN, frame_of, type_code, operator_kind}
use Rattle.syntax.specs.Form.{finish}
use Rattle.levels.specs.Store.{looked, stands, added}
use Rattle.rules.specs.declared.violation.Violation.{Violation}
use Rattle.rules.specs.declared.violation.Violation.TheVariants.{OtherInitial, Repeated, OtherReturn, NoCondition}
use Rattle.rules.specs.Heads.{Signature, Levels}
use Rattle.rules.specs.Faults.{◌>>=◌, require}
use Rattle.rules.specs.Judge.{among, same, judge_variable, judge_update, judge_call, judge_binary, judge_assign, judge_condition}
use Rattle.rules.specs.Walk.{Naming, idle as idle_now, naming as naming_of, State as Walking, alone, newest, before_newest, extended, keep, passed, given, await, move_name, move}
use Rattle.walk.specs.Judge.{Numbers, arity, operated, updated, assigned}
use Rattle.walk.specs.Step.{Names, idle, naming, State, state, awaiting, kept, asked, named, stepped, Turn, plain, typed}
use Rattle.walk.specs.Tied.{coded_levels, Holds}
use Rattle.walk.proofs.Coding.{coded_answer, stands_coded, added_coded, below_coded, getD_coded, variable_coded, update_coded, assign_coded}
use Rattle.walk.proofs.CodingRows.{binary_coded, call_coded}

-- the state of the rules' walk in codes
abbrev pub coded_names : Naming → Names
coded_names idle_now = idle
coded_names (naming_of t k earlier) = naming (type_code t) k earlier

abbrev pub coded_state : Walking → State
coded_state s = state (map type_code s.operands) (coded_levels s.levels) s.unfinished (coded_names s.naming_now)

-- the same violation, or one number more in the column and the same state
abbrev pub Same : Walking → Result Turn Violation → Result Walking Violation → Type 0
Same s (Ok p) (Ok s') = (s'.column ≡ p.byte ∷ s.column) × (p.next ≡ coded_state s')
Same s (Ok p) (Err v) = ⊥
Same s (Err v) (Ok s') = ⊥
Same s (Err v) (Err w) = v ≡ w

module _ (s : Walking) where
  -- an expression
  typed_same : (f : Frame) (os : List Ty) (r : Result ℕ Violation) (j : Result Ty Violation) → drop (arity f) (map type_code s.operands) ≡ map type_code os → r ≡ coded_answer j
      → Same s (typed f (coded_state s) r) (j >>= λ t. Ok (given s os t))
  typed_same f os r j e h = subst (λ r. Same s (typed f (coded_state s) r) (j >>= λ t. Ok (given s os t))) (sym h) (go j)
    where
      go : (j : Result Ty Violation) → Same s (typed f (coded_state s) (coded_answer j)) (j >>= λ t. Ok (given s os t))
      go (Ok t) = (refl, ap (λ o. state (type_code t ∷ o) (coded_levels s.levels) s.unfinished idle) e)
      go (Err v) = refl

  -- a statement that is tested
  asked_same : (b b' : Truth) (v : Violation) (x : State) (s' : Walking) → b ≡ b' → s'.column ≡ 0 ∷ s.column → x ≡ coded_state s'
      → Same s (plain (asked b v x)) (require v b' >>= λ _. Ok s')
  asked_same b b' v x s' e c h = subst (λ b'. Same s (plain (asked b v x)) (require v b' >>= λ _. Ok s')) e (go b)
    where
      go : (b : Truth) → Same s (plain (asked b v x)) (require v b >>= λ _. Ok s')
      go true = (c, h)
      go false = refl

  -- a name that must be new
  new_same : (b b' : Truth) (x : State) (s' : Walking) → b ≡ b' → s'.column ≡ 0 ∷ s.column → x ≡ coded_state s'
      → Same s (plain (cond b (Err Repeated) (Ok x))) (require Repeated (not b') >>= λ _. Ok s')
  new_same b b' x s' e c h = subst (λ b'. Same s (plain (cond b (Err Repeated) (Ok x))) (require Repeated (not b') >>= λ _. Ok s')) e (go b)
    where
      go : (b : Truth) → Same s (plain (cond b (Err Repeated) (Ok x))) (require Repeated (not b) >>= λ _. Ok s')
      go true = refl
      go false = (c, h)

  init_same : (a a' b b' : Truth) (x : State) (s' : Walking) → a ≡ a' → b ≡ b' → s'.column ≡ 0 ∷ s.column → x ≡ coded_state s'
      → Same s (plain (cond a (cond b (Err Repeated) (Ok x)) (Err OtherInitial))) (require OtherInitial a' >>= (λ _. require Repeated (not b')) >>= λ _. Ok s')
  init_same a a' b b' x s' e₁ e₂ c h =
      subst (λ a'. Same s (plain (cond a (cond b (Err Repeated) (Ok x)) (Err OtherInitial))) (require OtherInitial a' >>= (λ _. require Repeated (not b')) >>= λ _. Ok s')) e₁ (go a)
    where
      go : (a : Truth) → Same s (plain (cond a (cond b (Err Repeated) (Ok x)) (Err OtherInitial))) (require OtherInitial a >>= (λ _. require Repeated (not b')) >>= λ _. Ok s')
      go true = new_same b b' x s' e₂ c h
      go false = refl

-- ===== declarations =====
kept_coded : (u : List Unfinished) (Γ : Levels) (x : ℕ) (t : Ty) → kept u (coded_levels Γ) x (type_code t) ≡ coded_levels (keep (alone u) Γ x t)
kept_coded u Γ x t = go (alone u)
  where
    go : (b : Truth) → cond b (coded_levels Γ) (added (coded_levels Γ) (x, type_code t)) ≡ coded_levels (cond b Γ (extended Γ (x, t)))
    go true = refl
    go false = added_coded Γ x t

awaiting_coded : (c : List ℕ) (os : List Ty) (Γ : Levels) (u : List Unfinished) (t : Ty) (k : ℕ) (earlier : List ℕ)
    → awaiting (map type_code os) (coded_levels Γ) u (type_code t) k earlier ≡ coded_state (await c os Γ u t k earlier)
awaiting_coded c os Γ u t zero earlier = refl
awaiting_coded c os Γ u t (suc k) earlier = refl

column_await : (c : List ℕ) (os : List Ty) (Γ : Levels) (u : List Unfinished) (t : Ty) (k : ℕ) (earlier : List ℕ) → (await c os Γ u t k earlier).column ≡ c
column_await c os Γ u t zero earlier = refl
column_await c os Γ u t (suc k) earlier = refl

pred_less : (k : ℕ) → k - 1 ≡ pred k
pred_less zero = refl
pred_less (suc k) = omega arith

name_same : (x : ℕ) (s : Walking) (w : Naming) → Same s (plain (named (map type_code s.operands) (coded_levels s.levels) s.unfinished x (coded_names w))) (move_name x s w)
name_same x s idle_now = (refl, refl)
name_same x s (naming_of t k earlier) =
    let u = s.unfinished in
    let later = cond (alone u) (x ∷ earlier) earlier in
    new_same s (stands (coded_levels s.levels) x || among earlier x) (stands s.levels x || among earlier x)
    (awaiting (map type_code s.operands) (kept u (coded_levels s.levels) x (type_code t)) u (type_code t) (k - 1) later)
    (await (0 ∷ s.column) s.operands (keep (alone u) s.levels x t) u t (pred k) later)
    (ap (λ b. b || among earlier x) (stands_coded s.levels x))
    (column_await (0 ∷ s.column) s.operands (keep (alone u) s.levels x t) u t (pred k) later)
    (ap₂ (λ ls n. awaiting (map type_code s.operands) ls u (type_code t) n later) (kept_coded u s.levels x t) (pred_less k)
    ∙ awaiting_coded (0 ∷ s.column) s.operands (keep (alone u) s.levels x t) u t (pred k) later)

-- ===== every token =====
module _ (S : Signature) (hs : List Numbers) (holds : Holds S hs) (r : Ty) (s : Walking) where
  abbrev Moves : Token → Type 0
  Moves m = Same s (stepped hs (type_code r) (frame_of m) (coded_state s)) (move S r m s)

  binary_same : (o : Operator) (f : Frame) → arity f ≡ 2
      → Same s (typed f (coded_state s) (operated (operator_kind o) (get_or (map type_code s.operands) 1 5) (get_or (map type_code s.operands) 0 5)))
      (judge_binary o (before_newest s.operands) (newest s.operands) >>= λ t. Ok (given s (drop 2 s.operands) t))
  binary_same o f e =
      typed_same s f (drop 2 s.operands) _ (judge_binary o (before_newest s.operands) (newest s.operands))
      (ap (λ n. drop n (map type_code s.operands)) e ∙ drop-map type_code 2 s.operands)
      (ap₂ (operated (operator_kind o)) (getD_coded s.operands 1) (getD_coded s.operands 0) ∙ binary_coded o (before_newest s.operands) (newest s.operands))

  update_same : (x : ℕ) (f : Frame) → arity f ≡ 0 → Same s (typed f (coded_state s) (updated (looked (coded_levels s.levels) x))) (judge_update s.levels x >>= λ t. Ok (given s s.operands t))
  update_same x f e = typed_same s f s.operands _ (judge_update s.levels x) (ap (λ n. drop n (map type_code s.operands)) e) (update_coded s.levels x)

  governs_same : (x : Unfinished)
      → Same s (plain (asked (eqb 1 (get_or (map type_code s.operands) 0 5)) NoCondition (state (drop 1 (map type_code s.operands)) (coded_levels s.levels) (x ∷ s.unfinished) idle)))
      (judge_condition (newest s.operands) >>= λ _. Ok (passed s (drop 1 s.operands) s.levels (x ∷ s.unfinished)))
  governs_same x =
      asked_same s (eqb 1 (get_or (map type_code s.operands) 0 5)) (same Bool (newest s.operands)) NoCondition
      (state (drop 1 (map type_code s.operands)) (coded_levels s.levels) (x ∷ s.unfinished) idle)
      (passed s (drop 1 s.operands) s.levels (x ∷ s.unfinished))
      (ap (eqb 1) (getD_coded s.operands 0)) refl (ap (λ o. state o (coded_levels s.levels) (x ∷ s.unfinished) idle) (drop-map type_code 1 s.operands))

  pub moves_same : (m : Token) → Moves m
  moves_same (LITERAL true_literal) = (refl, refl)
  moves_same (LITERAL false_literal) = (refl, refl)
  moves_same (LITERAL (int_literal n)) = (refl, refl)
  moves_same (LITERAL (double_literal n)) = (refl, refl)
  moves_same (LITERAL (string_literal n)) = (refl, refl)
  moves_same (VARIABLE x) = typed_same s (frame_of (VARIABLE x)) s.operands _ (judge_variable s.levels x) refl (variable_coded s.levels x)
  moves_same (CALL f k) = typed_same s (frame_of (CALL f k)) (drop k s.operands) _ (judge_call S f (reverse (take k s.operands))) (drop-map type_code k s.operands) (call_coded (S f) (looked hs f) k s.operands (holds f))
  moves_same (UPDATE post_increment x) = update_same x (frame_of (UPDATE post_increment x)) refl
  moves_same (UPDATE post_decrement x) = update_same x (frame_of (UPDATE post_decrement x)) refl
  moves_same (UPDATE pre_increment x) = update_same x (frame_of (UPDATE pre_increment x)) refl
  moves_same (UPDATE pre_decrement x) = update_same x (frame_of (UPDATE pre_decrement x)) refl
  moves_same (BINARY plus) = binary_same plus (frame_of (BINARY plus)) refl
  moves_same (BINARY minus) = binary_same minus (frame_of (BINARY minus)) refl
  moves_same (BINARY times) = binary_same times (frame_of (BINARY times)) refl
  moves_same (BINARY divide) = binary_same divide (frame_of (BINARY divide)) refl
  moves_same (BINARY less) = binary_same less (frame_of (BINARY less)) refl
  moves_same (BINARY less_equal) = binary_same less_equal (frame_of (BINARY less_equal)) refl
  moves_same (BINARY equal) = binary_same equal (frame_of (BINARY equal)) refl
  moves_same (BINARY not_equal) = binary_same not_equal (frame_of (BINARY not_equal)) refl
  moves_same (BINARY greater_equal) = binary_same greater_equal (frame_of (BINARY greater_equal)) refl
  moves_same (BINARY greater) = binary_same greater (frame_of (BINARY greater)) refl
  moves_same (BINARY logical_and) = binary_same logical_and (frame_of (BINARY logical_and)) refl
  moves_same (BINARY logical_or) = binary_same logical_or (frame_of (BINARY logical_or)) refl
  moves_same (ASSIGN x) =
      typed_same s (frame_of (ASSIGN x)) (drop 1 s.operands) _ (judge_assign s.levels x (newest s.operands)) (drop-map type_code 1 s.operands)
      (ap (assigned (looked (coded_levels s.levels) x)) (getD_coded s.operands 0) ∙ assign_coded s.levels x (newest s.operands))
  moves_same (HEAD t f k) = (refl, refl)
  moves_same (PARAM t x) = (refl, ap (λ ls. state (map type_code s.operands) ls s.unfinished idle) (added_coded s.levels x t))
  moves_same END = (refl, refl)
  moves_same DO = (refl, ap (λ o. state o (coded_levels s.levels) (finish s.unfinished) idle) (drop-map type_code 1 s.operands))
  moves_same (DECL t k) =
      (column_await (0 ∷ s.column) s.operands s.levels s.unfinished t k [], awaiting_coded (0 ∷ s.column) s.operands s.levels s.unfinished t k [])
  moves_same (NAME x) = name_same x s s.naming_now
  moves_same (INIT t x) =
      init_same s (eqb (type_code t) (get_or (map type_code s.operands) 0 5)) (same t (newest s.operands)) (stands (coded_levels s.levels) x) (stands s.levels x)
      (state (drop 1 (map type_code s.operands)) (kept s.unfinished (coded_levels s.levels) x (type_code t)) (finish s.unfinished) idle)
      (passed s (drop 1 s.operands) (keep (alone s.unfinished) s.levels x t) (finish s.unfinished))
      (ap (eqb (type_code t)) (getD_coded s.operands 0)) (stands_coded s.levels x) refl
      (ap₂ (λ o ls. state o ls (finish s.unfinished) idle) (drop-map type_code 1 s.operands) (kept_coded s.unfinished s.levels x t))
  moves_same RETV =
      asked_same s (eqb (type_code r) 5) (same r Void) OtherReturn (state (map type_code s.operands) (coded_levels s.levels) (finish s.unfinished) idle)
      (passed s s.operands s.levels (finish s.unfinished)) refl refl refl
  moves_same RET =
      asked_same s (eqb (type_code r) (get_or (map type_code s.operands) 0 5)) (same r (newest s.operands)) OtherReturn
      (state (drop 1 (map type_code s.operands)) (coded_levels s.levels) (finish s.unfinished) idle)
      (passed s (drop 1 s.operands) s.levels (finish s.unfinished))
      (ap (eqb (type_code r)) (getD_coded s.operands 0)) refl (ap (λ o. state o (coded_levels s.levels) (finish s.unfinished) idle) (drop-map type_code 1 s.operands))
  moves_same OPEN = (refl, refl)
  moves_same CLOSE = (refl, ap (λ ls. state (map type_code s.operands) ls (finish (drop 1 s.unfinished)) idle) (below_coded s.levels))
  moves_same WHILE = governs_same Loop
  moves_same IF = governs_same (Choice 2)
