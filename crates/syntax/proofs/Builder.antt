-- A machine that builds the tree of a sheet from its tokens: what the form's machine counts, it keeps.
use Rattle.std.proofs.Common.{ℕ, zero, suc, Bool, cond, ltb, List, [], ◌∷◌, length, Some, None, Option}
use mathlib.Core.List.{reverse_aux}
use Rattle.std.specs.Option.{option_and_then}
use Rattle.syntax.specs.declared.frame.«Type».{«Type» as Ty}
use Rattle.syntax.specs.declared.frame.Parameter.{Parameter}
use Rattle.syntax.specs.Trees.{Expr, literal, variable, update, call, binary, assign, Exprs, none, more, Stmt, perform, declare, init, return_nothing, return_value, block, while, choose, Stmts, empty, then, Definition}
use Rattle.syntax.specs.Writing.{Token, HEAD, PARAM, END, DO, DECL, NAME, INIT, RETV, RET, OPEN, CLOSE, WHILE, IF, LITERAL, VARIABLE, CALL, UPDATE, BINARY, ASSIGN}

abbrev pub when : {A : Type 0} → Bool → Option A → Option A
when b o = cond b o None

abbrev pub parameter : Ty → ℕ → Parameter
parameter t x = record { t = t; name = x }

-- an unfinished thing with what it has: the statements of a block last first
pub data Open : Type 0 where
  open_block : List Stmt → Open
  open_loop : Expr → Open
  open_choice : Expr → Open
  open_half : Expr → Stmt → Open

pub data Heading : Type 0 where
  heading : Ty → ℕ → List Parameter → Heading

pub data Tree : Type 0 where
  nothing_yet : Tree
  taking_params : Ty → ℕ → ℕ → List Parameter → Tree
  building : Heading → List Expr → List Open → List Stmt → Tree
  taking_names : Heading → List Open → List Stmt → Ty → ℕ → List ℕ → Tree
  done : Definition → Tree

abbrev pub if_nothing : Tree → Option Tree → Option Tree
if_nothing nothing_yet o = o
if_nothing (taking_params ρ f k ps) o = None
if_nothing (building H es cs d) o = None
if_nothing (taking_names H cs d t k xs) o = None
if_nothing (done D) o = None

abbrev pub if_params : Tree → (Ty → ℕ → ℕ → List Parameter → Option Tree) → Option Tree
if_params nothing_yet g = None
if_params (taking_params ρ f k ps) g = g ρ f k ps
if_params (building H es cs d) g = None
if_params (taking_names H cs d t k xs) g = None
if_params (done D) g = None

abbrev pub if_building : Tree → (Heading → List Expr → List Open → List Stmt → Option Tree) → Option Tree
if_building nothing_yet g = None
if_building (taking_params ρ f k ps) g = None
if_building (building H es cs d) g = g H es cs d
if_building (taking_names H cs d t k xs) g = None
if_building (done D) g = None

abbrev pub if_names : Tree → (Heading → List Open → List Stmt → Ty → ℕ → List ℕ → Option Tree) → Option Tree
if_names nothing_yet g = None
if_names (taking_params ρ f k ps) g = None
if_names (building H es cs d) g = None
if_names (taking_names H cs d t k xs) g = g H cs d t k xs
if_names (done D) g = None

abbrev pub if_none : List Expr → Option Tree → Option Tree
if_none [] o = o
if_none (e ∷ es) o = None

abbrev pub if_one : List Expr → (Expr → Option Tree) → Option Tree
if_one [] g = None
if_one (e ∷ es) g = if_none es (g e)

-- a finished statement goes to what is unfinished innermost
abbrev pub add : Heading → Stmt → List Open → List Stmt → Tree
add H s [] d = building H [] [] (s ∷ d)
add H s (open_block b ∷ cs) d = building H [] (open_block (s ∷ b) ∷ cs) d
add H s (open_loop e ∷ cs) d = add H (while e s) cs d
add H s (open_choice e ∷ cs) d = building H [] (open_half e s ∷ cs) d
add H s (open_half e s₁ ∷ cs) d = add H (choose e s₁ s) cs d

abbrev pub enter : Ty → ℕ → ℕ → List Parameter → Tree
enter ρ f zero ps = building (heading ρ f (reverse_aux ps [])) [] [] []
enter ρ f (suc k) ps = taking_params ρ f k ps

abbrev pub naming : Heading → List Open → List Stmt → Ty → ℕ → List ℕ → Tree
naming H cs d t zero xs = add H (declare t (reverse_aux xs [])) cs d
naming H cs d t (suc k) xs = taking_names H cs d t k xs

abbrev pub takes : ℕ → List Expr → Exprs → Option (Exprs × List Expr)
takes zero es ar = Some (ar, es)
takes (suc n) [] ar = None
takes (suc n) (e ∷ es) ar = takes n es (more e ar)

abbrev pub stmts : List Stmt → Stmts → Stmts
stmts [] ss = ss
stmts (s ∷ d) ss = stmts d (then s ss)

abbrev pub closes : Heading → List Open → List Stmt → Option Tree
closes H [] d = None
closes H (open_block b ∷ cs) d = Some (add H (block (stmts b empty)) cs d)
closes H (open_loop e ∷ cs) d = None
closes H (open_choice e ∷ cs) d = None
closes H (open_half e s ∷ cs) d = None

abbrev pub whole : Heading → List Stmt → Definition
whole (heading ρ f ps) d = record { returns = ρ; name = f; params = ps; body = stmts d empty }

abbrev pub ends : Heading → List Open → List Stmt → Option Tree
ends H [] d = Some (done (whole H d))
ends H (c ∷ cs) d = None

abbrev pub opens : Heading → Open → List Open → List Stmt → Option Tree
opens H c cs d = when (ltb (length cs) 32) (Some (building H [] (c ∷ cs) d))

abbrev pub if_two : List Expr → (Expr → Expr → List Expr → Option Tree) → Option Tree
if_two [] g = None
if_two (b ∷ []) g = None
if_two (b ∷ a ∷ es) g = g a b es

abbrev pub if_top : List Expr → (Expr → List Expr → Option Tree) → Option Tree
if_top [] g = None
if_top (a ∷ es) g = g a es

abbrev pub build : Token → Tree → Option Tree
build (HEAD ρ f n) s = if_nothing s (Some (enter ρ f n []))
build (PARAM t x) s = if_params s λ ρ f k ps. Some (enter ρ f k (parameter t x ∷ ps))
build END s = if_building s λ H es cs d. if_none es (ends H cs d)
build DO s = if_building s λ H es cs d. if_one es λ e. Some (add H (perform e) cs d)
build (DECL t k) s = if_building s λ H es cs d. if_none es (Some (naming H cs d t k []))
build (NAME x) s = if_names s λ H cs d t k xs. Some (naming H cs d t k (x ∷ xs))
build (INIT t x) s = if_building s λ H es cs d. if_one es λ e. Some (add H (init t x e) cs d)
build RETV s = if_building s λ H es cs d. if_none es (Some (add H return_nothing cs d))
build RET s = if_building s λ H es cs d. if_one es λ e. Some (add H (return_value e) cs d)
build OPEN s = if_building s λ H es cs d. if_none es (opens H (open_block []) cs d)
build CLOSE s = if_building s λ H es cs d. if_none es (closes H cs d)
build WHILE s = if_building s λ H es cs d. if_one es λ e. opens H (open_loop e) cs d
build IF s = if_building s λ H es cs d. if_one es λ e. opens H (open_choice e) cs d
build (LITERAL l) s = if_building s λ H es cs d. Some (building H (literal l ∷ es) cs d)
build (VARIABLE x) s = if_building s λ H es cs d. Some (building H (variable x ∷ es) cs d)
build (CALL f n) s = if_building s λ H es cs d. option_and_then (λ p. Some (building H (call f p.0 ∷ p.1) cs d)) (takes n es none)
build (UPDATE i x) s = if_building s λ H es cs d. Some (building H (update i x ∷ es) cs d)
build (BINARY o) s = if_building s λ H es cs d. if_two es λ a b es. Some (building H (binary o a b ∷ es) cs d)
build (ASSIGN x) s = if_building s λ H es cs d. if_top es λ a es. Some (building H (assign x a ∷ es) cs d)

abbrev pub builds : List Token → Tree → Option Tree
builds [] s = Some s
builds (f ∷ r) s = option_and_then (builds r) (build f s)
