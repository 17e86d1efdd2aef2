-- How many levels stand along the walk over the writing of a tree.
use Rattle.std.proofs.Common.{◌≡◌, ℕ, zero, suc, pred, ◌+◌, ◌≤◌, List, [], ◌∷◌, reverse, length, take, Ok, Err, Result, refl, ◌∙◌, arith}
use native.Mathlib.Nat.{le-max_left, le-max_right}
use Rattle.syntax.specs.declared.frame.«Type».{«Type» as Ty}
use Rattle.syntax.specs.declared.frame.«Type».TheVariants.{Void}
use Rattle.syntax.specs.declared.frame.Parameter.{Parameter}
use Rattle.syntax.specs.declared.stages.Unfinished.{Unfinished}
use Rattle.syntax.specs.Trees.{Expr, literal, variable, update, call, binary, assign, Exprs, none, more, Stmt, perform, declare, init, return_nothing, return_value, block, while, choose, Stmts, empty, then, Definition}
use Rattle.syntax.specs.Writing.{Token, HEAD, PARAM, END, DO, DECL, NAME, INIT, RETV, RET, OPEN, CLOSE, WHILE, IF, LITERAL, VARIABLE, CALL, UPDATE, BINARY, ASSIGN, count, write_expr, write_exprs, write_names, write_stmt, write_stmts, write_params, write_definition}
use Rattle.syntax.specs.Limits.{depth, depths}
use Rattle.levels.specs.Store.{below}
use Rattle.rules.specs.declared.violation.Violation.{Violation}
use Rattle.rules.specs.Heads.{Signature, Levels}
use Rattle.rules.specs.Faults.{◌>>=◌, placed}
use Rattle.rules.specs.Judge.{judge_variable, judge_update, judge_call, judge_binary, judge_assign, judge_init, judge_name, judge_return, judge_condition}
use Rattle.rules.specs.Walk.{Naming, idle, naming, State, alone, newest, before_newest, await, move_name, move, walk, start}
use Rattle.rules.specs.Bounds.{levels_left}
use Rattle.rules.proofs.Moves.{Passes, passes_judged, length_extended, length_keep}

length_below : (Γ : Levels) (n : ℕ) → length Γ ≡ suc n → length (below Γ) ≡ n
length_below [] n h = absurd (omega arith)
length_below (τ ∷ Γ) n h = omega arith

-- two states have as many levels
abbrev Even : State → State → Type 0
Even s t = length t.levels ≡ length s.levels

module _ (S : Signature) (r : Ty) (k : ℕ) where
  -- along the walk over the tokens, from the state s, at most k levels stand
  abbrev pub Along : List Token → State → Type 0
  Along ms s = (n : ℕ) → length (levels_left (walk S r (take n ms) s)) ≤ k

  along_end : (s : State) → length s.levels ≤ k → Along [] s
  along_end s h zero = h
  along_end s h (suc n) = h

  along_more : (m : Token) (ms : List Token) (s : State) → length s.levels ≤ k → Passes (Along ms) (move S r m s) → Along (m ∷ ms) s
  along_more m ms s h g zero = h
  along_more m ms s h g (suc n) = go (move S r m s) g
    where
      go : (o : Result State Violation) → Passes (Along ms) o → length (levels_left (placed (length s.column) s.levels o >>= λ t. walk S r (take n ms) t)) ≤ k
      go (Ok t) g = g n
      go (Err v) g = h

  -- a frame that is judged and leaves the levels as they are
  along_judged : {A : Type 0} (m : Token) (ms : List Token) (s : State) (o : Result A Violation) (f : A → State) → length s.levels ≤ k
      → move S r m s ≡ (o >>= λ a. Ok (f a)) → ((a : A) → Along ms (f a)) → Along (m ∷ ms) s
  along_judged m ms s o f h e g = along_more m ms s h (rw e (passes_judged (Along ms) o f g))

  mutual
    along_expr : (e : Expr) (ms : List Token) (s : State) → length s.levels ≤ k → ((t : State) → Even s t → Along ms t) → Along (write_expr e ms) s
    along_expr (literal l) ms s h g = along_more (LITERAL l) ms s h (g _ refl)
    along_expr (variable x) ms s h g = along_judged (VARIABLE x) ms s (judge_variable s.levels x) _ h refl (λ t. g _ refl)
    along_expr (update c x) ms s h g = along_judged (UPDATE c x) ms s (judge_update s.levels x) _ h refl (λ t. g _ refl)
    along_expr (call f es) ms s h g =
        along_exprs es (CALL f (count es) ∷ ms) s h (λ t e.
        along_judged (CALL f (count es)) ms t (judge_call S f (reverse (take (count es) t.operands))) _ (omega (arith, h, e)) refl (λ u. g _ e))
    along_expr (binary o a b) ms s h g =
        along_expr a (write_expr b (BINARY o ∷ ms)) s h (λ t e.
        along_expr b (BINARY o ∷ ms) t (omega (arith, h, e)) (λ v i.
        along_judged (BINARY o) ms v (judge_binary o (before_newest v.operands) (newest v.operands)) _ (omega (arith, h, e, i)) refl (λ u. g _ (i ∙ e))))
    along_expr (assign x e) ms s h g =
        along_expr e (ASSIGN x ∷ ms) s h (λ t i. along_judged (ASSIGN x) ms t (judge_assign t.levels x (newest t.operands)) _ (omega (arith, h, i)) refl (λ u. g _ i))

    along_exprs : (es : Exprs) (ms : List Token) (s : State) → length s.levels ≤ k → ((t : State) → Even s t → Along ms t) → Along (write_exprs es ms) s
    along_exprs none ms s h g = g s refl
    along_exprs (more e es) ms s h g = along_expr e (write_exprs es ms) s h (λ t i. along_exprs es ms t (omega (arith, h, i)) (λ u j. g u (j ∙ i)))

  -- an expression, then a frame that judges its type
  along_then : (e : Expr) (m : Token) (ms : List Token) (s : State) (o : State → Result (Unit {0}) Violation) (f : State → State) → length s.levels ≤ k
      → ((t : State) → move S r m t ≡ (o t >>= λ _. Ok (f t))) → ((t : State) → Even t (f t)) → ((t : State) → Even s t → Along ms t) → Along (write_expr e (m ∷ ms)) s
  along_then e m ms s o f h i j g = along_expr e (m ∷ ms) s h (λ t l. along_judged m ms t (o t) (λ _. f t) (omega (arith, h, l)) (i t) (λ _. g (f t) (j t ∙ l)))

  even_await : (c : List ℕ) (os : List Ty) (Γ : Levels) (u : List Unfinished) (t : Ty) (n : ℕ) (earlier : List ℕ) → length (await c os Γ u t n earlier).levels ≡ length Γ
  even_await c os Γ u t zero earlier = refl
  even_await c os Γ u t (suc n) earlier = refl

  along_names : (xs : List ℕ) (ms : List Token) (s : State) → length s.levels ≤ k → ((t : State) → Even s t → Along ms t) → Along (write_names xs ms) s
  along_names [] ms s h g = g s refl
  along_names (x ∷ xs) ms s h g =
      along_more (NAME x) (write_names xs ms) s h (go (λ t e. along_names xs ms t (omega (arith, h, e)) (λ u i. g u (i ∙ e))) s.naming_now)
    where
      go : ((t : State) → Even s t → Along (write_names xs ms) t) → (w : Naming) → Passes (Along (write_names xs ms)) (move_name x s w)
      go again idle = again _ refl
      go again (naming t n earlier) =
          passes_judged (Along (write_names xs ms)) (judge_name s.levels earlier x) _
          (λ _. again _ (even_await _ _ _ s.unfinished t (pred n) _ ∙ length_keep (alone s.unfinished) s.levels x t))

  mutual
    along_stmt : (b : Stmt) (ms : List Token) (s : State) → length s.levels + depth b ≤ k → ((t : State) → Even s t → Along ms t) → Along (write_stmt b ms) s
    along_stmt (perform e) ms s h g = along_expr e (DO ∷ ms) s (omega arith) (λ t i. along_more DO ms t (omega (arith, i)) (g _ i))
    along_stmt (declare t xs) ms s h g =
        along_more (DECL t (length xs)) (write_names xs ms) s (omega arith)
        (along_names xs ms (await _ _ s.levels s.unfinished t (length xs) []) (omega (arith, even_await (0 ∷ s.column) s.operands s.levels s.unfinished t (length xs) []))
        (λ v i. g v (i ∙ even_await (0 ∷ s.column) s.operands s.levels s.unfinished t (length xs) [])))
    along_stmt (init t x e) ms s h g =
        along_then e (INIT t x) ms s (λ v. judge_init v.levels t x (newest v.operands)) _ (omega arith) (λ v. refl) (λ v. length_keep (alone v.unfinished) v.levels x t) g
    along_stmt return_nothing ms s h g = along_judged RETV ms s (judge_return r Void) _ (omega arith) refl (λ _. g _ refl)
    along_stmt (return_value e) ms s h g = along_then e RET ms s (λ v. judge_return r (newest v.operands)) _ (omega arith) (λ v. refl) (λ v. refl) g
    along_stmt (block ss) ms s h g =
        along_more OPEN (write_stmts ss (CLOSE ∷ ms)) s (omega arith)
        (along_stmts ss (CLOSE ∷ ms) _ (omega arith) (λ t i. along_more CLOSE ms t (omega (arith, i)) (g _ (length_below t.levels (length s.levels) i))))
    along_stmt (while e b) ms s h g =
        along_then e WHILE (write_stmt b ms) s (λ v. judge_condition (newest v.operands)) _ (omega arith) (λ v. refl) (λ v. refl)
        (λ t i. along_stmt b ms t (omega (arith, i)) (λ v j. g v (j ∙ i)))
    along_stmt (choose e b₁ b₂) ms s h g =
        let l₁ = le-max_left (depth b₁) (depth b₂) in
        let l₂ = le-max_right (depth b₁) (depth b₂) in
        along_then e IF (write_stmt b₁ (write_stmt b₂ ms)) s (λ v. judge_condition (newest v.operands)) _ (omega arith) (λ v. refl) (λ v. refl)
        (λ t i. along_stmt b₁ (write_stmt b₂ ms) t (omega (arith, i, l₁)) (λ v j. along_stmt b₂ ms v (omega (arith, i, j, l₂)) (λ w n. g w (n ∙ j ∙ i))))

    along_stmts : (ss : Stmts) (ms : List Token) (s : State) → length s.levels + depths ss ≤ k → ((t : State) → Even s t → Along ms t) → Along (write_stmts ss ms) s
    along_stmts empty ms s h g = g s refl
    along_stmts (then b ss) ms s h g =
        let l₁ = le-max_left (depth b) (depths ss) in
        let l₂ = le-max_right (depth b) (depths ss) in
        along_stmt b (write_stmts ss ms) s (omega (arith, l₁)) (λ t i. along_stmts ss ms t (omega (arith, i, l₂)) (λ v j. g v (j ∙ i)))

  along_params : (ps : List Parameter) (ms : List Token) (s : State) → length s.levels ≤ k → ((t : State) → Even s t → Along ms t) → Along (write_params ps ms) s
  along_params [] ms s h g = g s refl
  along_params (p ∷ ps) ms s h g =
      let e = length_extended s.levels (p.name, p.t) in
      along_more (PARAM p.t p.name) (write_params ps ms) s h (along_params ps ms _ (omega (arith, h, e)) (λ t i. g t (i ∙ e)))

  pub along_definition : (d : Definition) → 1 + depths d.body ≤ k → Along (write_definition d []) start
  along_definition d h =
      along_more (HEAD d.returns d.name (length d.params)) _ start (omega arith)
      (along_params d.params _ _ (omega arith) (λ t i. along_stmts d.body (END ∷ []) t (omega (arith, i)) (λ v j.
      along_more END [] v (omega (arith, i, j)) (along_end _ (omega (arith, i, j))))))
