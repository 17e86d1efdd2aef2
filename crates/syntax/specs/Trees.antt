-- The trees of the language: definitions, statements and expressions.
use Rattle.std.specs.Prelude.{ℕ, List}
use Rattle.syntax.specs.declared.frame.«Type».{«Type» as Ty}
use Rattle.syntax.specs.declared.frame.Parameter.{Parameter}

-- true, false, and the literals whose value is a number that stands for it
pub data Literal : Type 0 where
  true_literal false_literal : Literal
  int_literal double_literal string_literal : ℕ → Literal

-- the operators between two expressions
pub data Operator : Type 0 where
  plus minus times divide : Operator
  less less_equal equal not_equal greater_equal greater : Operator
  logical_and logical_or : Operator

-- x++, x--, ++x, --x
pub data Update : Type 0 where
  post_increment post_decrement pre_increment pre_decrement : Update

-- expressions, and the arguments of a call
mutual
  pub data Expr : Type 0 where
    literal : Literal → Expr
    variable : ℕ → Expr
    update : Update → ℕ → Expr
    call : ℕ → Exprs → Expr
    binary : Operator → Expr → Expr → Expr
    assign : ℕ → Expr → Expr

  pub data Exprs : Type 0 where
    none : Exprs
    more : Expr → Exprs → Exprs

-- the eight statements, and sequences of them
mutual
  pub data Stmt : Type 0 where
    perform : Expr → Stmt
    declare : Ty → List ℕ → Stmt
    init : Ty → ℕ → Expr → Stmt
    return_nothing : Stmt
    return_value : Expr → Stmt
    block : Stmts → Stmt
    while : Expr → Stmt → Stmt
    choose : Expr → Stmt → Stmt → Stmt

  pub data Stmts : Type 0 where
    empty : Stmts
    then : Stmt → Stmts → Stmts

-- a function: what it returns, its name, its parameters and its body
pub record Definition : Type 0 where
  pub returns : Ty
  pub name : ℕ
  pub params : List Parameter
  pub body : Stmts
