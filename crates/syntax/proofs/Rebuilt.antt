-- The writing of a tree builds that tree.
use Rattle.std.proofs.Common.{◌≡◌, ℕ, suc, ◌+◌, Bool, true, false, ◌&&◌, ltb, List, [], ◌∷◌, length, sym, refl, ap, ◌∙◌, add-zero, add-suc, suc-add, zero-add, Some, Option}
use mathlib.Core.List.{reverse_aux}
use Rattle.std.specs.Option.{option_and_then}
use Rattle.syntax.specs.declared.frame.«Type».{«Type» as Ty}
use Rattle.syntax.specs.declared.frame.Parameter.{Parameter}
use Rattle.syntax.specs.Trees.{Expr, literal, variable, update, call, binary, assign, Exprs, none, more, Stmt, perform, declare, init, return_nothing, return_value, block, while, choose, Stmts, empty, then, Definition}
use Rattle.syntax.specs.Writing.{Token, END, DO, INIT, RET, CLOSE, WHILE, IF, CALL, BINARY, ASSIGN, count, write_expr, write_exprs, write_names, write_stmt, write_stmts, write_params, write_definition}
use Rattle.syntax.proofs.Builder.{when, Open, open_block, open_loop, open_choice, open_half, Heading, heading, nothing_yet, building, done, add, enter, naming, takes, stmts, builds}

-- no more than 32 unfinished together, k of them around the statement
abbrev mutual
  pub shallow : ℕ → Stmt → Bool
  shallow k (perform e) = true
  shallow k (declare t xs) = true
  shallow k (init t x e) = true
  shallow k return_nothing = true
  shallow k (return_value e) = true
  shallow k (block ss) = ltb k 32 && shallows (suc k) ss
  shallow k (while e s) = ltb k 32 && shallow (suc k) s
  shallow k (choose e s₁ s₂) = ltb k 32 && (shallow (suc k) s₁ && shallow (suc k) s₂)

  pub shallows : ℕ → Stmts → Bool
  shallows k empty = true
  shallows k (then s ss) = shallow k s && shallows k ss

abbrev pushes : Exprs → List Expr → List Expr
pushes none es = es
pushes (more e ar) es = pushes ar (e ∷ es)

abbrev joined : Exprs → Exprs → Exprs
joined none br = br
joined (more e ar) br = more e (joined ar br)

joined_none : (ar : Exprs) → joined ar none ≡ ar
joined_none none = refl
joined_none (more e ar) = ap (more e) (joined_none ar)

takes_back : (ar : Exprs) (es : List Expr) (br : Exprs) (m : ℕ) → takes (count ar + m) (pushes ar es) br ≡ takes m es (joined ar br)
takes_back none es br m = rw (zero-add m)
takes_back (more e ar) es br m = rw (suc-add (count ar) m, ← add-suc (count ar) m) (takes_back ar (e ∷ es) br (suc m))

takes_all : (ar : Exprs) (es : List Expr) → takes (count ar) (pushes ar es) none ≡ Some (ar, es)
takes_all ar es = ap (λ n. takes n (pushes ar es) none) (sym (add-zero (count ar))) ∙ takes_back ar es none 0 ∙ ap (λ x. Some (x, es)) (joined_none ar)

mutual
  builds_expr : (e : Expr) (r : List Token) (H : Heading) (es : List Expr) (cs : List Open) (d : List Stmt)
      → builds (write_expr e r) (building H es cs d) ≡ builds r (building H (e ∷ es) cs d)
  builds_expr (literal l) r H es cs d = refl
  builds_expr (variable x) r H es cs d = refl
  builds_expr (update i x) r H es cs d = refl
  builds_expr (call f ar) r H es cs d = builds_exprs ar (CALL f (count ar) ∷ r) H es cs d ∙ rw (takes_all ar es)
  builds_expr (binary o a b) r H es cs d = builds_expr a (write_expr b (BINARY o ∷ r)) H es cs d ∙ builds_expr b (BINARY o ∷ r) H (a ∷ es) cs d
  builds_expr (assign x e) r H es cs d = builds_expr e (ASSIGN x ∷ r) H es cs d

  builds_exprs : (ar : Exprs) (r : List Token) (H : Heading) (es : List Expr) (cs : List Open) (d : List Stmt)
      → builds (write_exprs ar r) (building H es cs d) ≡ builds r (building H (pushes ar es) cs d)
  builds_exprs none r H es cs d = refl
  builds_exprs (more e ar) r H es cs d = builds_expr e (write_exprs ar r) H es cs d ∙ builds_exprs ar r H (e ∷ es) cs d

builds_names : (xs : List ℕ) (r : List Token) (H : Heading) (cs : List Open) (d : List Stmt) (t : Ty) (got : List ℕ)
    → builds (write_names xs r) (naming H cs d t (length xs) got) ≡ builds r (add H (declare t (reverse_aux got xs)) cs d)
builds_names [] r H cs d t got = refl
builds_names (x ∷ xs) r H cs d t got = builds_names xs r H cs d t (x ∷ got)

builds_params : (ps : List Parameter) (r : List Token) (ρ : Ty) (f : ℕ) (got : List Parameter)
    → builds (write_params ps r) (enter ρ f (length ps) got) ≡ builds r (building (heading ρ f (reverse_aux got ps)) [] [] [])
builds_params [] r ρ f got = refl
builds_params (p ∷ ps) r ρ f got = builds_params ps r ρ f (p ∷ got)

when_bind : {A B : Type 0} (b : Bool) (a : A) (f : A → Option B) → option_and_then f (when b (Some a)) ≡ when b (f a)
when_bind true a f = refl
when_bind false a f = refl

when_and : {A : Type 0} (a b : Bool) (o : Option A) → when a (when b o) ≡ when (a && b) o
when_and true b o = refl
when_and false b o = refl

-- a sequence stands at the top of the sheet or in a block
data Where : Type 0 where
  outer : Where
  inside : List Open → Where

abbrev opened : Where → List Stmt → List Open
opened outer b = []
opened (inside cs) b = open_block b ∷ cs

abbrev outermost : Where → List Stmt → List Stmt → List Stmt
outermost outer d b = b
outermost (inside cs) d b = d

abbrev levels : Where → ℕ
levels outer = 0
levels (inside cs) = suc (length cs)

length_opened : (w : Where) (b : List Stmt) → length (opened w b) ≡ levels w
length_opened outer b = refl
length_opened (inside cs) b = refl

add_sequence : (H : Heading) (w : Where) (d b : List Stmt) (s : Stmt) → add H s (opened w b) (outermost w d b) ≡ building H [] (opened w (s ∷ b)) (outermost w d (s ∷ b))
add_sequence H outer d b s = refl
add_sequence H (inside cs) d b s = refl

abbrev reversed : Stmts → List Stmt → List Stmt
reversed empty b = b
reversed (then s ss) b = reversed ss (s ∷ b)

abbrev followed : Stmts → Stmts → Stmts
followed empty rs = rs
followed (then s ss) rs = then s (followed ss rs)

followed_empty : (ss : Stmts) → followed ss empty ≡ ss
followed_empty empty = refl
followed_empty (then s ss) = ap (then s) (followed_empty ss)

stmts_reversed : (ss : Stmts) (b : List Stmt) (rs : Stmts) → stmts (reversed ss b) rs ≡ stmts b (followed ss rs)
stmts_reversed empty b rs = refl
stmts_reversed (then s ss) b rs = stmts_reversed ss (s ∷ b) rs

stmts_reversed_all : (ss : Stmts) → stmts (reversed ss []) empty ≡ ss
stmts_reversed_all ss = stmts_reversed ss [] empty ∙ followed_empty ss

mutual
  builds_stmt : (s : Stmt) (r : List Token) (H : Heading) (cs : List Open) (d : List Stmt)
      → builds (write_stmt s r) (building H [] cs d) ≡ when (shallow (length cs) s) (builds r (add H s cs d))
  builds_stmt (perform e) r H cs d = builds_expr e (DO ∷ r) H [] cs d
  builds_stmt (declare t xs) r H cs d = builds_names xs r H cs d t []
  builds_stmt (init t x e) r H cs d = builds_expr e (INIT t x ∷ r) H [] cs d
  builds_stmt return_nothing r H cs d = refl
  builds_stmt (return_value e) r H cs d = builds_expr e (RET ∷ r) H [] cs d
  builds_stmt (block ss) r H cs d =
      when_bind (ltb (length cs) 32) (building H [] (open_block [] ∷ cs) d) _
      ∙ ap (when (ltb (length cs) 32)) (builds_stmts ss (CLOSE ∷ r) H (inside cs) d [] ∙ rw (stmts_reversed_all ss))
      ∙ when_and (ltb (length cs) 32) (shallows (suc (length cs)) ss) _
  builds_stmt (while e s) r H cs d =
      builds_expr e (WHILE ∷ write_stmt s r) H [] cs d
      ∙ when_bind (ltb (length cs) 32) (building H [] (open_loop e ∷ cs) d) _
      ∙ ap (when (ltb (length cs) 32)) (builds_stmt s r H (open_loop e ∷ cs) d)
      ∙ when_and (ltb (length cs) 32) (shallow (suc (length cs)) s) _
  builds_stmt (choose e s₁ s₂) r H cs d =
      builds_expr e (IF ∷ write_stmt s₁ (write_stmt s₂ r)) H [] cs d
      ∙ when_bind (ltb (length cs) 32) (building H [] (open_choice e ∷ cs) d) _
      ∙ ap (when (ltb (length cs) 32)) (builds_stmt s₁ (write_stmt s₂ r) H (open_choice e ∷ cs) d
      ∙ ap (when (shallow (suc (length cs)) s₁)) (builds_stmt s₂ r H (open_half e s₁ ∷ cs) d)
      ∙ when_and (shallow (suc (length cs)) s₁) (shallow (suc (length cs)) s₂) _)
      ∙ when_and (ltb (length cs) 32) (shallow (suc (length cs)) s₁ && shallow (suc (length cs)) s₂) _

  builds_stmts : (ss : Stmts) (r : List Token) (H : Heading) (w : Where) (d b : List Stmt)
      → builds (write_stmts ss r) (building H [] (opened w b) (outermost w d b)) ≡ when (shallows (levels w) ss) (builds r (building H [] (opened w (reversed ss b)) (outermost w d (reversed ss b))))
  builds_stmts empty r H w d b = refl
  builds_stmts (then s ss) r H w d b =
      builds_stmt s (write_stmts ss r) H (opened w b) (outermost w d b)
      ∙ rw (length_opened w b, add_sequence H w d b s) (ap (when (shallow (levels w) s)) (builds_stmts ss r H w d (s ∷ b)))
      ∙ when_and (shallow (levels w) s) (shallows (levels w) ss) _

pub build_all : (D : Definition) → builds (write_definition D []) nothing_yet ≡ when (shallows 0 D.body) (Some (done D))
build_all D =
    builds_params D.params (write_stmts D.body (END ∷ [])) D.returns D.name []
    ∙ builds_stmts D.body (END ∷ []) (heading D.returns D.name D.params) outer [] []
    ∙ rw (stmts_reversed_all D.body)
