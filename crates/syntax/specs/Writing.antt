-- The linear writing of a tree: the tokens in order, and the frame of each token.
use Rattle.std.specs.Prelude.{ℕ, suc, List, [], ◌∷◌, map, length}
use Rattle.syntax.specs.declared.frame.Frame.{Frame}
use Rattle.syntax.specs.declared.frame.«Type».{«Type» as Ty}
use Rattle.syntax.specs.declared.frame.«Type».TheVariants.{Bool, Int, Double, String, Void}
use Rattle.syntax.specs.declared.frame.Parameter.{Parameter}
use Rattle.syntax.specs.Trees.{Literal, true_literal, false_literal, int_literal, double_literal, string_literal, Operator, plus, minus, times, divide, less, less_equal, equal, not_equal, greater_equal, greater, logical_and, logical_or, Update, post_increment, post_decrement, pre_increment, pre_decrement, Expr, literal, variable, update, call, binary, assign, Exprs, none, more, Stmt, perform, declare, init, return_nothing, return_value, block, while, choose, Stmts, empty, then, Definition}

-- the words that a tree is written in
pub data Token : Type 0 where
  HEAD : Ty → ℕ → ℕ → Token
  PARAM : Ty → ℕ → Token
  END : Token
  DO : Token
  DECL : Ty → ℕ → Token
  NAME : ℕ → Token
  INIT : Ty → ℕ → Token
  RETV RET OPEN CLOSE WHILE IF : Token
  LITERAL : Literal → Token
  VARIABLE : ℕ → Token
  CALL : ℕ → ℕ → Token
  UPDATE : Update → ℕ → Token
  BINARY : Operator → Token
  ASSIGN : ℕ → Token

-- how many arguments
abbrev pub count : Exprs → ℕ
count none = 0
count (more e es) = suc (count es)

-- an expression and then r: a part stands before what it is part of, the left part first
abbrev mutual
  pub write_expr : Expr → List Token → List Token
  write_expr (literal l) r = LITERAL l ∷ r
  write_expr (variable x) r = VARIABLE x ∷ r
  write_expr (update c x) r = UPDATE c x ∷ r
  write_expr (call f es) r = write_exprs es (CALL f (count es) ∷ r)
  write_expr (binary o a b) r = write_expr a (write_expr b (BINARY o ∷ r))
  write_expr (assign x e) r = write_expr e (ASSIGN x ∷ r)

  pub write_exprs : Exprs → List Token → List Token
  write_exprs none r = r
  write_exprs (more e es) r = write_expr e (write_exprs es r)

-- the names of a declaration and then r
abbrev pub write_names : List ℕ → List Token → List Token
write_names [] r = r
write_names (x ∷ xs) r = NAME x ∷ write_names xs r

-- a statement and then r: its expression first, and the statements that it holds after it
abbrev mutual
  pub write_stmt : Stmt → List Token → List Token
  write_stmt (perform e) r = write_expr e (DO ∷ r)
  write_stmt (declare t xs) r = DECL t (length xs) ∷ write_names xs r
  write_stmt (init t x e) r = write_expr e (INIT t x ∷ r)
  write_stmt return_nothing r = RETV ∷ r
  write_stmt (return_value e) r = write_expr e (RET ∷ r)
  write_stmt (block ss) r = OPEN ∷ write_stmts ss (CLOSE ∷ r)
  write_stmt (while e s) r = write_expr e (WHILE ∷ write_stmt s r)
  write_stmt (choose e s₁ s₂) r = write_expr e (IF ∷ write_stmt s₁ (write_stmt s₂ r))

  pub write_stmts : Stmts → List Token → List Token
  write_stmts empty r = r
  write_stmts (then s ss) r = write_stmt s (write_stmts ss r)

-- the parameters and then r
abbrev pub write_params : List Parameter → List Token → List Token
write_params [] r = r
write_params (p ∷ ps) r = PARAM p.t p.name ∷ write_params ps r

-- a definition and then r
abbrev pub write_definition : Definition → List Token → List Token
write_definition d r = HEAD d.returns d.name (length d.params) ∷ write_params d.params (write_stmts d.body (END ∷ r))

-- the number of each type
abbrev pub type_code : Ty → ℕ
type_code Bool = 1
type_code Int = 2
type_code Double = 3
type_code String = 4
type_code Void = 5

-- the frame of these four fields
abbrev pub frame : ℕ → ℕ → ℕ → ℕ → Frame
frame k t n l = record { kind = k; t = t; name = n; load = l }

-- the frame of each literal
abbrev pub literal_frame : Literal → Frame
literal_frame true_literal = frame 0x20 0 0 0
literal_frame false_literal = frame 0x21 0 0 0
literal_frame (int_literal n) = frame 0x22 0 0 n
literal_frame (double_literal n) = frame 0x23 0 0 n
literal_frame (string_literal n) = frame 0x24 0 0 n

-- the kind of each update
abbrev pub update_kind : Update → ℕ
update_kind post_increment = 0x27
update_kind post_decrement = 0x28
update_kind pre_increment = 0x29
update_kind pre_decrement = 0x2A

-- the kind of each operator
abbrev pub operator_kind : Operator → ℕ
operator_kind plus = 0x30
operator_kind minus = 0x31
operator_kind times = 0x32
operator_kind divide = 0x33
operator_kind less = 0x34
operator_kind less_equal = 0x35
operator_kind equal = 0x36
operator_kind not_equal = 0x37
operator_kind greater_equal = 0x38
operator_kind greater = 0x39
operator_kind logical_and = 0x3A
operator_kind logical_or = 0x3B

-- the frame of each token
abbrev pub frame_of : Token → Frame
frame_of (HEAD t f n) = frame 0x01 (type_code t) f n
frame_of (PARAM t x) = frame 0x02 (type_code t) x 0
frame_of END = frame 0x03 0 0 0
frame_of DO = frame 0x10 0 0 0
frame_of (DECL t k) = frame 0x11 (type_code t) 0 k
frame_of (NAME x) = frame 0x12 0 x 0
frame_of (INIT t x) = frame 0x13 (type_code t) x 0
frame_of RETV = frame 0x14 0 0 0
frame_of RET = frame 0x15 0 0 0
frame_of OPEN = frame 0x16 0 0 0
frame_of CLOSE = frame 0x17 0 0 0
frame_of WHILE = frame 0x18 0 0 0
frame_of IF = frame 0x19 0 0 0
frame_of (LITERAL l) = literal_frame l
frame_of (VARIABLE x) = frame 0x25 0 x 0
frame_of (CALL f k) = frame 0x26 0 f k
frame_of (UPDATE c x) = frame (update_kind c) 0 x 0
frame_of (BINARY o) = frame (operator_kind o) 0 0 0
frame_of (ASSIGN x) = frame 0x3C 0 x 0

-- the frames that a definition is written as
unfoldable pub written : Definition → List Frame
written d = map frame_of (write_definition d [])

-- the frame that fills a sheet after its last
abbrev pub blank : Frame
blank = frame 0 0 0 0
