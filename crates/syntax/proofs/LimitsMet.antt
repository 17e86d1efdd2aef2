-- The tokens of a writing are within their ranges where the tree is within the limits.
use Rattle.std.proofs.Common.{◌≡◌, ℕ, suc, ◌+◌, ◌≤◌, true, ◌&&◌, ltb, List, [], ◌∷◌, length, refl, arith}
use native.Mathlib.Nat.{le-max_left, le-max_right}
use Rattle.std.proofs.lemmas.Bool.{ltb-true, lt-ltb, and_parts, and_from}
use Rattle.syntax.specs.declared.frame.Parameter.{Parameter}
use Rattle.syntax.specs.Trees.{literal, variable, update, call, binary, assign, Expr, Exprs, none, more, Stmt, perform, declare, init, return_nothing, return_value, block, while, choose, Stmts, empty, then, Definition}
use Rattle.syntax.specs.Writing.{Token, write_expr, write_exprs, write_names, write_stmt, write_stmts, write_params, write_definition}
use Rattle.syntax.specs.Limits.{ExprFits, ExprsFit, NamesFit, StmtFits, StmtsFit, ParamsFit, IsName, depth, depths}
use Rattle.syntax.proofs.TokenFields.{Legal}
use Rattle.syntax.proofs.Rebuilt.{shallow, shallows}

abbrev pub AllLegal : List Token → Type 0
AllLegal [] = Unit {0}
AllLegal (m ∷ ms) = Legal m × AllLegal ms

-- ===== from the tree to its tokens =====
mutual
  expr_legal : (e : Expr) (r : List Token) → ExprFits e → AllLegal r → AllLegal (write_expr e r)
  expr_legal (literal l) r h k = (h, k)
  expr_legal (variable x) r h k = (h, k)
  expr_legal (update c x) r h k = (h, k)
  expr_legal (call f es) r h k = exprs_legal es _ h.2 ((h.0, h.1), k)
  expr_legal (binary o a b) r h k = expr_legal a _ h.0 (expr_legal b _ h.1 (tt, k))
  expr_legal (assign x e) r h k = expr_legal e _ h.1 (h.0, k)

  exprs_legal : (es : Exprs) (r : List Token) → ExprsFit es → AllLegal r → AllLegal (write_exprs es r)
  exprs_legal none r h k = k
  exprs_legal (more e es) r h k = expr_legal e _ h.0 (exprs_legal es r h.1 k)

names_legal : (xs : List ℕ) (r : List Token) → NamesFit xs → AllLegal r → AllLegal (write_names xs r)
names_legal [] r h k = k
names_legal (x ∷ xs) r h k = (h.0, names_legal xs r h.1 k)

mutual
  stmt_legal : (s : Stmt) (r : List Token) → StmtFits s → AllLegal r → AllLegal (write_stmt s r)
  stmt_legal (perform e) r h k = expr_legal e _ h (tt, k)
  stmt_legal (declare t xs) r h k = ((h.0, h.1, h.2), names_legal xs r h.3 k)
  stmt_legal (init t x e) r h k = expr_legal e _ h.2 ((h.0, h.1), k)
  stmt_legal return_nothing r h k = (tt, k)
  stmt_legal (return_value e) r h k = expr_legal e _ h (tt, k)
  stmt_legal (block ss) r h k = (tt, stmts_legal ss _ h (tt, k))
  stmt_legal (while e s) r h k = expr_legal e _ h.0 (tt, stmt_legal s r h.1 k)
  stmt_legal (choose e s₁ s₂) r h k = expr_legal e _ h.0 (tt, stmt_legal s₁ _ h.1 (stmt_legal s₂ r h.2 k))

  stmts_legal : (ss : Stmts) (r : List Token) → StmtsFit ss → AllLegal r → AllLegal (write_stmts ss r)
  stmts_legal empty r h k = k
  stmts_legal (then s ss) r h k = stmt_legal s _ h.0 (stmts_legal ss r h.1 k)

params_legal : (ps : List Parameter) (r : List Token) → ParamsFit ps → AllLegal r → AllLegal (write_params ps r)
params_legal [] r h k = k
params_legal (p ∷ ps) r h k = ((h.0, h.1), params_legal ps r h.2 k)

pub definition_legal : (D : Definition) → IsName D.name → length D.params ≤ 16 → ParamsFit D.params → StmtsFit D.body → AllLegal (write_definition D [])
definition_legal D a b c d = ((a, b), params_legal D.params _ c (stmts_legal D.body _ d (tt, tt)))

-- ===== and back =====
mutual
  expr_fits : (e : Expr) (r : List Token) → AllLegal (write_expr e r) → ExprFits e × AllLegal r
  expr_fits (literal l) r h = h
  expr_fits (variable x) r h = h
  expr_fits (update c x) r h = h
  expr_fits (call f es) r h = let p = exprs_fit es _ h in ((p.1.0.0, p.1.0.1, p.0), p.1.1)
  expr_fits (binary o a b) r h = let p = expr_fits a _ h in let q = expr_fits b _ p.1 in ((p.0, q.0), q.1.1)
  expr_fits (assign x e) r h = let p = expr_fits e _ h in ((p.1.0, p.0), p.1.1)

  exprs_fit : (es : Exprs) (r : List Token) → AllLegal (write_exprs es r) → ExprsFit es × AllLegal r
  exprs_fit none r h = (tt, h)
  exprs_fit (more e es) r h = let p = expr_fits e _ h in let q = exprs_fit es r p.1 in ((p.0, q.0), q.1)

names_fit : (xs : List ℕ) (r : List Token) → AllLegal (write_names xs r) → NamesFit xs × AllLegal r
names_fit [] r h = (tt, h)
names_fit (x ∷ xs) r h = let p = names_fit xs r h.1 in ((h.0, p.0), p.1)

mutual
  stmt_fits : (s : Stmt) (r : List Token) → AllLegal (write_stmt s r) → StmtFits s × AllLegal r
  stmt_fits (perform e) r h = let p = expr_fits e _ h in (p.0, p.1.1)
  stmt_fits (declare t xs) r h = let p = names_fit xs r h.1 in ((h.0.0, h.0.1, h.0.2, p.0), p.1)
  stmt_fits (init t x e) r h = let p = expr_fits e _ h in ((p.1.0.0, p.1.0.1, p.0), p.1.1)
  stmt_fits return_nothing r h = h
  stmt_fits (return_value e) r h = let p = expr_fits e _ h in (p.0, p.1.1)
  stmt_fits (block ss) r h = let p = stmts_fit ss _ h.1 in (p.0, p.1.1)
  stmt_fits (while e s) r h = let p = expr_fits e _ h in let q = stmt_fits s r p.1.1 in ((p.0, q.0), q.1)
  stmt_fits (choose e s₁ s₂) r h =
      let p = expr_fits e _ h in
      let q = stmt_fits s₁ _ p.1.1 in
      let q' = stmt_fits s₂ r q.1 in ((p.0, q.0, q'.0), q'.1)

  stmts_fit : (ss : Stmts) (r : List Token) → AllLegal (write_stmts ss r) → StmtsFit ss × AllLegal r
  stmts_fit empty r h = (tt, h)
  stmts_fit (then s ss) r h = let p = stmt_fits s _ h in let q = stmts_fit ss r p.1 in ((p.0, q.0), q.1)

params_fit : (ps : List Parameter) (r : List Token) → AllLegal (write_params ps r) → ParamsFit ps × AllLegal r
params_fit [] r h = (tt, h)
params_fit (p ∷ ps) r h = let q = params_fit ps r h.1 in ((h.0.0, h.0.1, q.0), q.1)

pub definition_fits : (D : Definition) → AllLegal (write_definition D []) → IsName D.name × (length D.params ≤ 16) × ParamsFit D.params × StmtsFit D.body
definition_fits D h =
    let p = params_fit D.params _ h.1 in
    let q = stmts_fit D.body _ p.1 in
    (h.0.0, h.0.1, p.0, q.0)

-- ===== the unfinished things =====
mutual
  shallow_deep : (k : ℕ) (s : Stmt) → shallow k s ≡ true → k ≤ 32 → k + depth s ≤ 32
  shallow_deep k (perform e) h l = omega arith
  shallow_deep k (declare t xs) h l = omega arith
  shallow_deep k (init t x e) h l = omega arith
  shallow_deep k return_nothing h l = omega arith
  shallow_deep k (return_value e) h l = omega arith
  shallow_deep k (block ss) h l =
      let p = and_parts (ltb k 32) (shallows (suc k) ss) h in
      let i = shallows_deep (suc k) ss p.1 (ltb-true k 32 p.0) in omega arith
  shallow_deep k (while e s) h l =
      let p = and_parts (ltb k 32) (shallow (suc k) s) h in
      let i = shallow_deep (suc k) s p.1 (ltb-true k 32 p.0) in omega arith
  shallow_deep k (choose e s₁ s₂) h l =
      let p = and_parts (ltb k 32) (shallow (suc k) s₁ && shallow (suc k) s₂) h in
      let q = and_parts (shallow (suc k) s₁) (shallow (suc k) s₂) p.1 in
      let a = shallow_deep (suc k) s₁ q.0 (ltb-true k 32 p.0) in
      let b = shallow_deep (suc k) s₂ q.1 (ltb-true k 32 p.0) in omega arith

  shallows_deep : (k : ℕ) (ss : Stmts) → shallows k ss ≡ true → k ≤ 32 → k + depths ss ≤ 32
  shallows_deep k empty h l = omega arith
  shallows_deep k (then s ss) h l =
      let p = and_parts (shallow k s) (shallows k ss) h in
      let a = shallow_deep k s p.0 l in
      let b = shallows_deep k ss p.1 l in omega arith

mutual
  deep_shallow : (k : ℕ) (s : Stmt) → k + depth s ≤ 32 → shallow k s ≡ true
  deep_shallow k (perform e) h = refl
  deep_shallow k (declare t xs) h = refl
  deep_shallow k (init t x e) h = refl
  deep_shallow k return_nothing h = refl
  deep_shallow k (return_value e) h = refl
  deep_shallow k (block ss) h = and_from (ltb k 32) _ (lt-ltb k 32 (omega arith)) (deeps_shallow (suc k) ss (omega arith))
  deep_shallow k (while e s) h = and_from (ltb k 32) _ (lt-ltb k 32 (omega arith)) (deep_shallow (suc k) s (omega arith))
  deep_shallow k (choose e s₁ s₂) h =
      and_from (ltb k 32) _ (lt-ltb k 32 (omega arith))
      (and_from (shallow (suc k) s₁) _ (deep_shallow (suc k) s₁ (omega (arith, le-max_left (depth s₁) (depth s₂)))) (deep_shallow (suc k) s₂ (omega (arith, le-max_right (depth s₁) (depth s₂)))))

  deeps_shallow : (k : ℕ) (ss : Stmts) → k + depths ss ≤ 32 → shallows k ss ≡ true
  deeps_shallow k empty h = refl
  deeps_shallow k (then s ss) h =
      and_from (shallow k s) _ (deep_shallow k s (omega (arith, le-max_left (depth s) (depths ss)))) (deeps_shallow k ss (omega (arith, le-max_right (depth s) (depths ss))))

pub shallow_body : (ss : Stmts) → shallows 0 ss ≡ true → depths ss ≤ 32
shallow_body ss h = let d = shallows_deep 0 ss h (omega arith) in omega arith

pub deep_body : (ss : Stmts) → depths ss ≤ 32 → shallows 0 ss ≡ true
deep_body ss h = deeps_shallow 0 ss (omega arith)
