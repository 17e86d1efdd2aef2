-- The form's machine does what is left of building a tree when the tree is forgotten.
use Rattle.std.proofs.Common.{◌≡◌, ℕ, zero, suc, ◌+◌, ◌-◌, Bool, true, false, cond, ltb, List, [], ◌∷◌, length, sym, refl, ap, ◌∙◌, ap₂, arith, Some, None, Option}
use mathlib.Core.List.{reverse_aux}
use lib.Dec.{eqb-suc-zero, eqb-suc-suc, leb-zero, leb-suc-zero, leb-suc-suc}
use Rattle.std.specs.Option.{option_and_then, option_map}
use Rattle.std.proofs.Math.Numerals.{sub-one}
use Rattle.syntax.specs.declared.frame.«Type».{«Type» as Ty}
use Rattle.syntax.specs.declared.frame.Parameter.{Parameter}
use Rattle.syntax.specs.declared.stages.Stage.TheVariants.{Start, Params, Names, Body, Ended}
use Rattle.syntax.specs.declared.stages.Unfinished.{Unfinished}
use Rattle.syntax.specs.declared.stages.Unfinished.TheVariants.{Block, Loop, Choice}
use Rattle.syntax.specs.Trees.{Operator, Expr, literal, variable, update, call, binary, assign, Exprs, none, more, Stmt, perform, declare, init, return_nothing, return_value, block, while, choose, empty}
use Rattle.syntax.specs.Writing.{Token, HEAD, PARAM, END, DO, DECL, NAME, INIT, RETV, RET, OPEN, CLOSE, WHILE, IF, LITERAL, VARIABLE, CALL, UPDATE, BINARY, ASSIGN, frame_of}
use Rattle.syntax.specs.Form.{Answer, fine, refused, State, at, starting, at_params, at_names, in_body, await_params, await_names, finish, exactly, operand, begin, close, end, allow}
use Rattle.syntax.proofs.TokenRows.{role}
use Rattle.syntax.proofs.Builder.{when, parameter, Open, open_block, open_loop, open_choice, open_half, Heading, Tree, nothing_yet, taking_params, building, taking_names, done, if_nothing, if_params, if_building, if_names, if_none, if_one, add, enter, naming, takes, stmts, closes, ends, opens, if_two, if_top, build}

-- the thing that is unfinished
abbrev unfinished : Open → Unfinished
unfinished (open_block b) = Block
unfinished (open_loop e) = Loop
unfinished (open_choice e) = Choice 2
unfinished (open_half e s) = Choice 1

abbrev stack : List Open → List Unfinished
stack [] = []
stack (c ∷ cs) = unfinished c ∷ stack cs

abbrev pub erase : Tree → State
erase nothing_yet = at Start [] 0
erase (taking_params ρ f k ps) = at (Params (suc k)) [] 0
erase (building H es cs d) = at Body (stack cs) (length es)
erase (taking_names H cs d t k xs) = at (Names (suc k)) (stack cs) 0
erase (done D) = at Ended [] 0

abbrev pub heed : Answer State → Option State
heed (fine s) = Some s
heed (refused n p) = None

stack_length : (cs : List Open) → length (stack cs) ≡ length cs
stack_length [] = refl
stack_length (c ∷ cs) = ap suc (stack_length cs)

erase_add : (H : Heading) (s : Stmt) (cs : List Open) (d : List Stmt) → erase (add H s cs d) ≡ at Body (finish (stack cs)) 0
erase_add H s [] d = refl
erase_add H s (open_block b ∷ cs) d = refl
erase_add H s (open_loop e ∷ cs) d = erase_add H (while e s) cs d
erase_add H s (open_choice e ∷ cs) d = refl
erase_add H s (open_half e s₁ ∷ cs) d = erase_add H (choose e s₁ s) cs d

erase_enter : (ρ : Ty) (f k : ℕ) (ps : List Parameter) → erase (enter ρ f k ps) ≡ await_params k [] 0
erase_enter ρ f zero ps = refl
erase_enter ρ f (suc k) ps = rw (eqb-suc-zero k) refl

erase_naming : (H : Heading) (cs : List Open) (d : List Stmt) (t : Ty) (k : ℕ) (xs : List ℕ) → erase (naming H cs d t k xs) ≡ await_names k (stack cs) 0
erase_naming H cs d t zero xs = erase_add H (declare t (reverse_aux xs [])) cs d
erase_naming H cs d t (suc k) xs = rw (eqb-suc-zero k) refl

module _ (p : ℕ) where
  erases_start : (s : Tree) (o : Option Tree) (a : List Unfinished → ℕ → Answer State) → option_map erase o ≡ heed (a [] 0)
      → option_map erase (if_nothing s o) ≡ heed (starting p (erase s).stage (a (erase s).stack (erase s).ready))
  erases_start nothing_yet o a h = h
  erases_start (taking_params ρ f k ps) o a h = refl
  erases_start (building H es cs d) o a h = refl
  erases_start (taking_names H cs d t k xs) o a h = refl
  erases_start (done D) o a h = refl

  erases_params : (s : Tree) (g : Ty → ℕ → ℕ → List Parameter → Option Tree) (a : List Unfinished → ℕ → ℕ → Answer State)
      → ((ρ : Ty) (f k : ℕ) (ps : List Parameter) → option_map erase (g ρ f k ps) ≡ heed (a [] 0 (suc k)))
      → option_map erase (if_params s g) ≡ heed (at_params p (erase s).stage (a (erase s).stack (erase s).ready))
  erases_params nothing_yet g a h = refl
  erases_params (taking_params ρ f k ps) g a h = h ρ f k ps
  erases_params (building H es cs d) g a h = refl
  erases_params (taking_names H cs d t k xs) g a h = refl
  erases_params (done D) g a h = refl

  erases_body : (s : Tree) (g : Heading → List Expr → List Open → List Stmt → Option Tree) (a : List Unfinished → ℕ → Answer State)
      → ((H : Heading) (es : List Expr) (cs : List Open) (d : List Stmt) → option_map erase (g H es cs d) ≡ heed (a (stack cs) (length es)))
      → option_map erase (if_building s g) ≡ heed (in_body p (erase s).stage (a (erase s).stack (erase s).ready))
  erases_body nothing_yet g a h = refl
  erases_body (taking_params ρ f k ps) g a h = refl
  erases_body (building H es cs d) g a h = h H es cs d
  erases_body (taking_names H cs d t k xs) g a h = refl
  erases_body (done D) g a h = refl

  erases_names : (s : Tree) (g : Heading → List Open → List Stmt → Ty → ℕ → List ℕ → Option Tree) (a : List Unfinished → ℕ → ℕ → Answer State)
      → ((H : Heading) (cs : List Open) (d : List Stmt) (t : Ty) (k : ℕ) (xs : List ℕ) → option_map erase (g H cs d t k xs) ≡ heed (a (stack cs) 0 (suc k)))
      → option_map erase (if_names s g) ≡ heed (at_names p (erase s).stage (a (erase s).stack (erase s).ready))
  erases_names nothing_yet g a h = refl
  erases_names (taking_params ρ f k ps) g a h = refl
  erases_names (building H es cs d) g a h = refl
  erases_names (taking_names H cs d t k xs) g a h = h H cs d t k xs
  erases_names (done D) g a h = refl

  erases_none : (es : List Expr) (o : Option Tree) (a : Answer State) → option_map erase o ≡ heed a → option_map erase (if_none es o) ≡ heed (exactly p 0 (length es) a)
  erases_none [] o a h = h
  erases_none (e ∷ es) o a h = rw (eqb-suc-zero (length es)) refl

  erases_one : (es : List Expr) (g : Expr → Option Tree) (a : Answer State) → ((e : Expr) → option_map erase (g e) ≡ heed a) → option_map erase (if_one es g) ≡ heed (exactly p 1 (length es) a)
  erases_one [] g a h = refl
  erases_one (e ∷ []) g a h = h e
  erases_one (e ∷ e' ∷ es) g a h = rw (eqb-suc-suc (suc (length es)) 0, eqb-suc-zero (length es)) refl

  erases_open : (H : Heading) (c : Open) (cs : List Open) (d : List Stmt) → option_map erase (opens H c cs d) ≡ heed (begin p (unfinished c) (stack cs))
  erases_open H c cs d = go (ltb (length cs) 32) ∙ ap (λ n. heed (cond (ltb n 32) (fine (at Body (unfinished c ∷ stack cs) 0)) (refused 24 p))) (sym (stack_length cs))
    where
      go : (b : Bool) → option_map erase (when b (Some (building H [] (c ∷ cs) d))) ≡ heed (cond b (fine (at Body (unfinished c ∷ stack cs) 0)) (refused 24 p))
      go true = refl
      go false = refl

  erases_close : (H : Heading) (cs : List Open) (d : List Stmt) → option_map erase (closes H cs d) ≡ heed (close p (stack cs))
  erases_close H [] d = refl
  erases_close H (open_block b ∷ cs) d = ap Some (erase_add H (block (stmts b empty)) cs d)
  erases_close H (open_loop e ∷ cs) d = refl
  erases_close H (open_choice e ∷ cs) d = refl
  erases_close H (open_half e s ∷ cs) d = refl

  erases_end : (H : Heading) (cs : List Open) (d : List Stmt) → option_map erase (ends H cs d) ≡ heed (end p (stack cs))
  erases_end H [] d = refl
  erases_end H (c ∷ cs) d = refl

  -- operands, counted down
  pub operand_none : (u : List Unfinished) (r : ℕ) → operand p 0 u r ≡ fine (at Body u (suc r))
  operand_none u r =
      let n : r - 0 + 1 ≡ suc r = omega arith in
      rw (leb-zero r) (ap (λ k. fine (at Body u k)) n)

  operand_few : (n : ℕ) (u : List Unfinished) → operand p (suc n) u 0 ≡ refused 23 p
  operand_few n u = rw (leb-suc-zero n) refl

  pub operand_less : (n : ℕ) (u : List Unfinished) (r : ℕ) → operand p (suc n) u (suc r) ≡ operand p n u r
  operand_less n u r =
      let k : suc r - suc n + 1 ≡ r - n + 1 = omega arith in
      ap₂ (λ b m. cond b (fine (at Body u m)) (refused 23 p)) (leb-suc-suc n r) k

  erases_call : (f : ℕ) (H : Heading) (cs : List Open) (d : List Stmt) (n : ℕ) (es : List Expr) (ar : Exprs)
      → option_map erase (option_and_then (λ q. Some (building H (call f q.0 ∷ q.1) cs d)) (takes n es ar)) ≡ heed (operand p n (stack cs) (length es))
  erases_call f H cs d zero es ar = sym (ap heed (operand_none (stack cs) (length es)))
  erases_call f H cs d (suc n) [] ar = sym (ap heed (operand_few n (stack cs)))
  erases_call f H cs d (suc n) (e ∷ es) ar = erases_call f H cs d n es (more e ar) ∙ sym (ap heed (operand_less n (stack cs) (length es)))

  erases_two : (H : Heading) (cs : List Open) (d : List Stmt) (o : Operator) (es : List Expr)
      → option_map erase (if_two es λ a b es. Some (building H (binary o a b ∷ es) cs d)) ≡ heed (operand p 2 (stack cs) (length es))
  erases_two H cs d o [] = refl
  erases_two H cs d o (b ∷ []) = refl
  erases_two H cs d o (b ∷ a ∷ es) = sym (ap heed (operand_less 1 (stack cs) (suc (length es)) ∙ operand_less 0 (stack cs) (length es) ∙ operand_none (stack cs) (length es)))

  erases_last : (H : Heading) (cs : List Open) (d : List Stmt) (x : ℕ) (es : List Expr)
      → option_map erase (if_top es λ a es. Some (building H (assign x a ∷ es) cs d)) ≡ heed (operand p 1 (stack cs) (length es))
  erases_last H cs d x [] = refl
  erases_last H cs d x (a ∷ es) = sym (ap heed (operand_less 0 (stack cs) (length es) ∙ operand_none (stack cs) (length es)))

  erases_leaf : (H : Heading) (es : List Expr) (cs : List Open) (d : List Stmt) (e : Expr) → option_map erase (Some (building H (e ∷ es) cs d)) ≡ heed (operand p 0 (stack cs) (length es))
  erases_leaf H es cs d e = sym (ap heed (operand_none (stack cs) (length es)))

  abbrev finished : List Unfinished → Answer State
  finished u = fine (at Body (finish u) 0)

  pub forgets : (m : Token) (s : Tree) → option_map erase (build m s) ≡ heed (allow p (role m) (frame_of m).load (erase s).stage (erase s).stack (erase s).ready)
  forgets (HEAD ρ f n) s = erases_start s _ (λ u r. fine (await_params n u r)) (ap Some (erase_enter ρ f n []))
  forgets (PARAM t x) s = erases_params s _ (λ u r n. fine (await_params (n - 1) u r)) (λ ρ f k ps. ap Some (erase_enter ρ f k (parameter t x ∷ ps) ∙ ap (λ n. await_params n [] 0) (sym (sub-one (suc k)))))
  forgets (NAME x) s = erases_names s _ (λ u r n. fine (await_names (n - 1) u r)) (λ H cs d t k xs. ap Some (erase_naming H cs d t k (x ∷ xs) ∙ ap (λ n. await_names n (stack cs) 0) (sym (sub-one (suc k)))))
  forgets END s = erases_body s _ (λ u r. exactly p 0 r (end p u)) (λ H es cs d. erases_none es _ _ (erases_end H cs d))
  forgets DO s = erases_body s _ (λ u r. exactly p 1 r (finished u)) (λ H es cs d. erases_one es _ _ (λ e. ap Some (erase_add H (perform e) cs d)))
  forgets (DECL t k) s = erases_body s _ (λ u r. exactly p 0 r (fine (await_names k u 0))) (λ H es cs d. erases_none es _ _ (ap Some (erase_naming H cs d t k [])))
  forgets (INIT t x) s = erases_body s _ (λ u r. exactly p 1 r (finished u)) (λ H es cs d. erases_one es _ _ (λ e. ap Some (erase_add H (init t x e) cs d)))
  forgets RETV s = erases_body s _ (λ u r. exactly p 0 r (finished u)) (λ H es cs d. erases_none es _ _ (ap Some (erase_add H return_nothing cs d)))
  forgets RET s = erases_body s _ (λ u r. exactly p 1 r (finished u)) (λ H es cs d. erases_one es _ _ (λ e. ap Some (erase_add H (return_value e) cs d)))
  forgets OPEN s = erases_body s _ (λ u r. exactly p 0 r (begin p Block u)) (λ H es cs d. erases_none es _ _ (erases_open H (open_block []) cs d))
  forgets CLOSE s = erases_body s _ (λ u r. exactly p 0 r (close p u)) (λ H es cs d. erases_none es _ _ (erases_close H cs d))
  forgets WHILE s = erases_body s _ (λ u r. exactly p 1 r (begin p Loop u)) (λ H es cs d. erases_one es _ _ (λ e. erases_open H (open_loop e) cs d))
  forgets IF s = erases_body s _ (λ u r. exactly p 1 r (begin p (Choice 2) u)) (λ H es cs d. erases_one es _ _ (λ e. erases_open H (open_choice e) cs d))
  forgets (LITERAL l) s = erases_body s _ (λ u r. operand p 0 u r) (λ H es cs d. erases_leaf H es cs d (literal l))
  forgets (VARIABLE x) s = erases_body s _ (λ u r. operand p 0 u r) (λ H es cs d. erases_leaf H es cs d (variable x))
  forgets (CALL f n) s = erases_body s _ (λ u r. operand p n u r) (λ H es cs d. erases_call f H cs d n es none)
  forgets (UPDATE c x) s = erases_body s _ (λ u r. operand p 0 u r) (λ H es cs d. erases_leaf H es cs d (update c x))
  forgets (BINARY o) s = erases_body s _ (λ u r. operand p 2 u r) (λ H es cs d. erases_two H cs d o es)
  forgets (ASSIGN x) s = erases_body s _ (λ u r. operand p 1 u r) (λ H es cs d. erases_last H cs d x es)
