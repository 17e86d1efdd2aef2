-- The writing of a definition has HEAD, a frame for each parameter and END at least.
use Rattle.std.proofs.Common.{ℕ, ◌+◌, ◌≤◌, List, [], ◌∷◌, length, arith}
use Rattle.std.proofs.lemmas.List.{length-map}
use Rattle.syntax.specs.declared.frame.Parameter.{Parameter}
use Rattle.syntax.specs.Trees.{Expr, literal, variable, update, call, binary, assign, Exprs, none, more, Stmt, perform, declare, init, return_nothing, return_value, block, while, choose, Stmts, empty, then, Definition}
use Rattle.syntax.specs.Writing.{Token, END, DO, INIT, RET, CLOSE, WHILE, IF, CALL, BINARY, ASSIGN, count, write_expr, write_exprs, write_names, write_stmt, write_stmts, write_params, write_definition, written, frame_of}

mutual
  expr_longer : (e : Expr) (r : List Token) → length r ≤ length (write_expr e r)
  expr_longer (literal l) r = omega arith
  expr_longer (variable x) r = omega arith
  expr_longer (update c x) r = omega arith
  expr_longer (call f es) r = let k = exprs_longer es (CALL f (count es) ∷ r) in omega arith
  expr_longer (binary o a b) r = let k = expr_longer a (write_expr b (BINARY o ∷ r)) in let m = expr_longer b (BINARY o ∷ r) in omega arith
  expr_longer (assign x e) r = let k = expr_longer e (ASSIGN x ∷ r) in omega arith

  exprs_longer : (es : Exprs) (r : List Token) → length r ≤ length (write_exprs es r)
  exprs_longer none r = omega arith
  exprs_longer (more e es) r = let k = expr_longer e (write_exprs es r) in let m = exprs_longer es r in omega arith

names_longer : (xs : List ℕ) (r : List Token) → length r ≤ length (write_names xs r)
names_longer [] r = omega arith
names_longer (x ∷ xs) r = let k = names_longer xs r in omega arith

mutual
  stmt_longer : (s : Stmt) (r : List Token) → length r ≤ length (write_stmt s r)
  stmt_longer (perform e) r = let k = expr_longer e (DO ∷ r) in omega arith
  stmt_longer (declare t xs) r = let k = names_longer xs r in omega arith
  stmt_longer (init t x e) r = let k = expr_longer e (INIT t x ∷ r) in omega arith
  stmt_longer return_nothing r = omega arith
  stmt_longer (return_value e) r = let k = expr_longer e (RET ∷ r) in omega arith
  stmt_longer (block ss) r = let k = stmts_longer ss (CLOSE ∷ r) in omega arith
  stmt_longer (while e s) r = let k = expr_longer e (WHILE ∷ write_stmt s r) in let m = stmt_longer s r in omega arith
  stmt_longer (choose e s₁ s₂) r =
      let k = expr_longer e (IF ∷ write_stmt s₁ (write_stmt s₂ r)) in
      let m = stmt_longer s₁ (write_stmt s₂ r) in
      let n = stmt_longer s₂ r in omega arith

  stmts_longer : (ss : Stmts) (r : List Token) → length r ≤ length (write_stmts ss r)
  stmts_longer empty r = omega arith
  stmts_longer (then s ss) r = let k = stmt_longer s (write_stmts ss r) in let m = stmts_longer ss r in omega arith

params_longer : (ps : List Parameter) (r : List Token) → length r + length ps ≤ length (write_params ps r)
params_longer [] r = omega arith
params_longer (p ∷ ps) r = let k = params_longer ps r in omega arith

pub length_written : (d : Definition) → length d.params + 2 ≤ length (written d)
unfolding written
length_written d =
    omega (arith, length-map (write_definition d []) frame_of, params_longer d.params (write_stmts d.body (END ∷ [])), stmts_longer d.body (END ∷ []))
