-- The limits of a sheet, on its tree.
use Rattle.std.specs.Prelude.{ℕ, suc, ◌<◌, ◌≤◌, max, List, [], ◌∷◌, length}
use Rattle.syntax.specs.declared.frame.«Type».{«Type» as Ty}
use Rattle.syntax.specs.declared.frame.«Type».TheVariants.{Bool, Int, Double, String, Void}
use Rattle.syntax.specs.declared.frame.Parameter.{Parameter}
use Rattle.syntax.specs.Trees.{Literal, true_literal, false_literal, int_literal, double_literal, string_literal, Expr, literal, variable, update, call, binary, assign, Exprs, none, more, Stmt, perform, declare, init, return_nothing, return_value, block, while, choose, Stmts, empty, then, Definition}
use Rattle.syntax.specs.Writing.{count, written}

-- a name has 16 bits
abbrev pub IsName : ℕ → Type 0
IsName x = x < 65536

-- the load of a literal has 32 bits
abbrev pub IsLoad : ℕ → Type 0
IsLoad n = n < 4294967296

-- a variable has the type of a value
abbrev pub IsValue : Ty → Type 0
IsValue Bool = Unit {0}
IsValue Int = Unit {0}
IsValue Double = Unit {0}
IsValue String = Unit {0}
IsValue Void = ⊥

-- a literal has a load of 32 bits, if any
abbrev pub LiteralFits : Literal → Type 0
LiteralFits true_literal = Unit {0}
LiteralFits false_literal = Unit {0}
LiteralFits (int_literal n) = IsLoad n
LiteralFits (double_literal n) = IsLoad n
LiteralFits (string_literal n) = IsLoad n

-- the names and loads in it fit, and each call has at most 16 arguments
abbrev mutual
  pub ExprFits : Expr → Type 0
  ExprFits (literal l) = LiteralFits l
  ExprFits (variable x) = IsName x
  ExprFits (update c x) = IsName x
  ExprFits (call f es) = IsName f × (count es ≤ 16) × ExprsFit es
  ExprFits (binary o a b) = ExprFits a × ExprFits b
  ExprFits (assign x e) = IsName x × ExprFits e

  pub ExprsFit : Exprs → Type 0
  ExprsFit none = Unit {0}
  ExprsFit (more e es) = ExprFits e × ExprsFit es

-- each name fits
abbrev pub NamesFit : List ℕ → Type 0
NamesFit [] = Unit {0}
NamesFit (x ∷ xs) = IsName x × NamesFit xs

-- its expressions fit, what it declares has the type of a value, and each declaration has 1 to 16 names
abbrev mutual
  pub StmtFits : Stmt → Type 0
  StmtFits (perform e) = ExprFits e
  StmtFits (declare t xs) = IsValue t × (1 ≤ length xs) × (length xs ≤ 16) × NamesFit xs
  StmtFits (init t x e) = IsValue t × IsName x × ExprFits e
  StmtFits return_nothing = Unit {0}
  StmtFits (return_value e) = ExprFits e
  StmtFits (block ss) = StmtsFit ss
  StmtFits (while e s) = ExprFits e × StmtFits s
  StmtFits (choose e s₁ s₂) = ExprFits e × StmtFits s₁ × StmtFits s₂

  pub StmtsFit : Stmts → Type 0
  StmtsFit empty = Unit {0}
  StmtsFit (then s ss) = StmtFits s × StmtsFit ss

-- each parameter has the type of a value and a name that fits
abbrev pub ParamsFit : List Parameter → Type 0
ParamsFit [] = Unit {0}
ParamsFit (p ∷ ps) = IsValue p.t × IsName p.name × ParamsFit ps

-- how many blocks, loops and choices stand around one another at most
abbrev mutual
  pub depth : Stmt → ℕ
  depth (perform e) = 0
  depth (declare t xs) = 0
  depth (init t x e) = 0
  depth return_nothing = 0
  depth (return_value e) = 0
  depth (block ss) = suc (depths ss)
  depth (while e s) = suc (depth s)
  depth (choose e s₁ s₂) = suc (max (depth s₁) (depth s₂))

  pub depths : Stmts → ℕ
  depths empty = 0
  depths (then s ss) = max (depth s) (depths ss)

-- the tree is within the limits
pub record Within (d : Definition) : Type 0 where
  pub named : IsName d.name
  pub params : length d.params ≤ 16
  pub params_fit : ParamsFit d.params
  pub body_fits : StmtsFit d.body
  pub unfinished : depths d.body ≤ 32
  pub frames : length (written d) ≤ 256
