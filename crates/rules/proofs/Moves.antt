-- What every frame does to the column and to the levels, where it passes.
use Rattle.std.proofs.Common.{◌≡◌, ℕ, zero, suc, pred, ◌≤◌, Bool as Truth, true, false, List, [], ◌∷◌, reverse, length, take, Ok, Err, Result, refl, arith}
use Rattle.syntax.specs.declared.frame.«Type».{«Type» as Ty}
use Rattle.syntax.specs.declared.frame.«Type».TheVariants.{Void}
use Rattle.syntax.specs.declared.stages.Unfinished.{Unfinished}
use Rattle.syntax.specs.Writing.{Token, HEAD, PARAM, END, DO, DECL, NAME, INIT, RETV, RET, OPEN, CLOSE, WHILE, IF, LITERAL, VARIABLE, CALL, UPDATE, BINARY, ASSIGN}
use Rattle.levels.specs.Store.{standing, below}
use Rattle.rules.specs.declared.violation.Violation.{Violation}
use Rattle.rules.specs.Heads.{Signature, Levels}
use Rattle.rules.specs.Faults.{◌>>=◌}
use Rattle.rules.specs.Judge.{judge_variable, judge_update, judge_call, judge_binary, judge_assign, judge_init, judge_name, judge_return, judge_condition}
use Rattle.rules.specs.Walk.{Naming, idle, naming, State, state, alone, newest, before_newest, extended, keep, await, move_name, move}

-- P holds of the state after a frame that passes
abbrev pub Passes : (State → Type 0) → Result State Violation → Type 0
Passes P (Ok s) = P s
Passes P (Err v) = Unit {0}

pub passes_judged : {A : Type 0} (P : State → Type 0) (m : Result A Violation) (f : A → State) → ((a : A) → P (f a)) → Passes P (m >>= λ a. Ok (f a))
passes_judged P (Ok a) f h = h a
passes_judged P (Err v) f h = tt

-- ===== levels =====
pub length_extended : (Γ : Levels) (e : ℕ × Ty) → length (extended Γ e) ≡ length Γ
length_extended [] e = refl
length_extended (τ ∷ Γ) e = refl

pub length_keep : (own : Truth) (Γ : Levels) (x : ℕ) (t : Ty) → length (keep own Γ x t) ≡ length Γ
length_keep true Γ x t = refl
length_keep false Γ x t = length_extended Γ (x, t)

standing_extended : (Γ : Levels) (e : ℕ × Ty) → standing (extended Γ e) ≤ suc (standing Γ)
standing_extended [] e = omega arith
standing_extended (τ ∷ Γ) e = omega arith

standing_keep : (own : Truth) (Γ : Levels) (x : ℕ) (t : Ty) → standing (keep own Γ x t) ≤ suc (standing Γ)
standing_keep true Γ x t = omega arith
standing_keep false Γ x t = standing_extended Γ (x, t)

standing_below : (Γ : Levels) → standing (below Γ) ≤ standing Γ
standing_below [] = omega arith
standing_below (τ ∷ Γ) = omega arith

-- ===== one more entry, at most one more name =====
-- what a frame leaves: a column with one more entry, and at most one more name
pub record Grown (s s' : State) : Type 0 where
  pub column_more : length s'.column ≡ suc (length s.column)
  pub names_more : standing s'.levels ≤ suc (standing s.levels)

grown : (s : State) (k : ℕ) (os : List Ty) (Γ : Levels) (u : List Unfinished) (w : Naming) → standing Γ ≤ suc (standing s.levels) → Grown s (state (k ∷ s.column) os Γ u w)
grown s k os Γ u w h = record { column_more = refl; names_more = h }

-- the levels are as before
same_levels : (s : State) (k : ℕ) (os : List Ty) (u : List Unfinished) (w : Naming) → Grown s (state (k ∷ s.column) os s.levels u w)
same_levels s k os u w = grown s k os s.levels u w (omega arith)

grown_await : (s : State) (os : List Ty) (Γ : Levels) (u : List Unfinished) (t : Ty) (n : ℕ) (earlier : List ℕ) → standing Γ ≤ suc (standing s.levels) → Grown s (await (0 ∷ s.column) os Γ u t n earlier)
grown_await s os Γ u t zero earlier h = grown s 0 os Γ _ idle h
grown_await s os Γ u t (suc n) earlier h = grown s 0 os Γ u (naming t (suc n) earlier) h

grown_name : (x : ℕ) (s : State) (w : Naming) → Passes (Grown s) (move_name x s w)
grown_name x s idle = same_levels s 0 s.operands s.unfinished idle
grown_name x s (naming t k earlier) =
    passes_judged (Grown s) (judge_name s.levels earlier x) _
    (λ _. grown_await s s.operands _ s.unfinished t (pred k) _ (standing_keep (alone s.unfinished) s.levels x t))

pub move_grown : (S : Signature) (r : Ty) (m : Token) (s : State) → Passes (Grown s) (move S r m s)
move_grown S r (HEAD t f n) s = grown s 0 _ ([] ∷ s.levels) _ idle (omega arith)
move_grown S r (PARAM t x) s = grown s 0 _ (extended s.levels (x, t)) _ idle (standing_extended s.levels (x, t))
move_grown S r END s = same_levels s 0 _ _ idle
move_grown S r DO s = same_levels s 0 _ _ idle
move_grown S r (DECL t n) s = grown_await s s.operands s.levels s.unfinished t n [] (omega arith)
move_grown S r (NAME x) s = grown_name x s s.naming_now
move_grown S r (INIT t x) s =
    passes_judged (Grown s) (judge_init s.levels t x (newest s.operands)) _ (λ _. grown s 0 _ _ _ idle (standing_keep (alone s.unfinished) s.levels x t))
move_grown S r RETV s = passes_judged (Grown s) (judge_return r Void) _ (λ _. same_levels s 0 _ _ idle)
move_grown S r RET s = passes_judged (Grown s) (judge_return r (newest s.operands)) _ (λ _. same_levels s 0 _ _ idle)
move_grown S r OPEN s = grown s 0 _ ([] ∷ s.levels) _ idle (omega arith)
move_grown S r CLOSE s = let h = standing_below s.levels in grown s 0 _ (below s.levels) _ idle (omega arith)
move_grown S r WHILE s = passes_judged (Grown s) (judge_condition (newest s.operands)) _ (λ _. same_levels s 0 _ _ idle)
move_grown S r IF s = passes_judged (Grown s) (judge_condition (newest s.operands)) _ (λ _. same_levels s 0 _ _ idle)
move_grown S r (LITERAL l) s = same_levels s _ _ _ idle
move_grown S r (VARIABLE x) s = passes_judged (Grown s) (judge_variable s.levels x) _ (λ t. same_levels s _ _ _ idle)
move_grown S r (CALL f n) s = passes_judged (Grown s) (judge_call S f (reverse (take n s.operands))) _ (λ t. same_levels s _ _ _ idle)
move_grown S r (UPDATE c x) s = passes_judged (Grown s) (judge_update s.levels x) _ (λ t. same_levels s _ _ _ idle)
move_grown S r (BINARY o) s = passes_judged (Grown s) (judge_binary o (before_newest s.operands) (newest s.operands)) _ (λ t. same_levels s _ _ _ idle)
move_grown S r (ASSIGN x) s = passes_judged (Grown s) (judge_assign s.levels x (newest s.operands)) _ (λ t. same_levels s _ _ _ idle)
