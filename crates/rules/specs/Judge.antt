-- The judgement of one frame: its type, or what it violates. Written apart from the rules, as tests.
use Rattle.std.specs.Prelude.{ℕ, Bool as Truth, true, false, not, ◌&&◌, ◌||◌, List, [], ◌∷◌, length, Some, None, Ok, Option, Result, ◌==◌}
use Rattle.syntax.specs.declared.frame.«Type».{«Type» as Ty}
use Rattle.syntax.specs.declared.frame.«Type».TheVariants.{Bool, Int, Double, String, Void}
use Rattle.syntax.specs.Trees.{Literal, true_literal, false_literal, int_literal, double_literal, string_literal, Operator, plus, minus, times, divide, less, less_equal, equal, not_equal, greater_equal, greater, logical_and, logical_or}
use Rattle.syntax.specs.Writing.{type_code}
use Rattle.levels.specs.Store.{looked, stands}
use Rattle.rules.specs.declared.violation.Violation.{Violation}
use Rattle.rules.specs.declared.violation.Violation.TheVariants.{Undeclared, NoFunction, OtherCount, OtherArgument, OtherOperands, OtherAssigned, OtherInitial, Repeated, OtherReturn, NoCondition}
use Rattle.rules.specs.Heads.{Head, head, Signature, Levels}
use Rattle.rules.specs.Faults.{◌>>=◌, need, require}

-- what the operators of a row give at two operands of one type
abbrev pub sum : Ty → Option Ty
sum Bool = None
sum Int = Some Int
sum Double = Some Double
sum String = Some String
sum Void = None

abbrev pub arithmetic : Ty → Option Ty
arithmetic Bool = None
arithmetic Int = Some Int
arithmetic Double = Some Double
arithmetic String = None
arithmetic Void = None

abbrev pub ordering : Ty → Option Ty
ordering Bool = None
ordering Int = Some Bool
ordering Double = Some Bool
ordering String = None
ordering Void = None

abbrev pub equality : Ty → Option Ty
equality Bool = Some Bool
equality Int = Some Bool
equality Double = Some Bool
equality String = None
equality Void = None

abbrev pub logic : Ty → Option Ty
logic Bool = Some Bool
logic Int = None
logic Double = None
logic String = None
logic Void = None

-- the row of each operator
abbrev pub row : Operator → Ty → Option Ty
row plus = sum
row minus = arithmetic
row times = arithmetic
row divide = arithmetic
row less = ordering
row less_equal = ordering
row equal = equality
row not_equal = equality
row greater_equal = ordering
row greater = ordering
row logical_and = logic
row logical_or = logic

-- types are the same where their numbers are
abbrev pub same : Ty → Ty → Truth
same t u = type_code t == type_code u

abbrev pub same_all : List Ty → List Ty → Truth
same_all [] [] = true
same_all [] (u ∷ us) = false
same_all (t ∷ ts) [] = false
same_all (t ∷ ts) (u ∷ us) = same t u && same_all ts us

-- the type of a literal
abbrev pub literal_type : Literal → Ty
literal_type true_literal = Bool
literal_type false_literal = Bool
literal_type (int_literal n) = Int
literal_type (double_literal n) = Double
literal_type (string_literal n) = String

-- a variable: 51
abbrev pub judge_variable : Levels → ℕ → Result Ty Violation
judge_variable Γ x = need Undeclared (looked Γ x)

-- x++ and its like: 51, then 55
abbrev pub judge_update : Levels → ℕ → Result Ty Violation
judge_update Γ x = judge_variable Γ x >>= λ t. need OtherOperands (arithmetic t)

-- a call at arguments of the types ts: 52, then 53, then 54
abbrev pub judge_arguments : List Ty → Head → Result Ty Violation
judge_arguments ts (head us r) = require OtherCount (length ts == length us) >>= (λ _. require OtherArgument (same_all ts us)) >>= λ _. Ok r

abbrev pub judge_call : Signature → ℕ → List Ty → Result Ty Violation
judge_call S f ts = need NoFunction (S f) >>= judge_arguments ts

-- an operator at operands of the types t and u: 55
abbrev pub judge_binary : Operator → Ty → Ty → Result Ty Violation
judge_binary o t u = require OtherOperands (same t u) >>= λ _. need OtherOperands (row o t)

-- x = e with e of the type t: 51, then 56
abbrev pub judge_assign : Levels → ℕ → Ty → Result Ty Violation
judge_assign Γ x t = judge_variable Γ x >>= λ u. require OtherAssigned (same u t) >>= λ _. Ok u

-- a declared x of the type t that starts with a value of the type u: 57, then 58
abbrev pub judge_init : Levels → Ty → ℕ → Ty → Result (Unit {0}) Violation
judge_init Γ t x u = require OtherInitial (same t u) >>= λ _. require Repeated (not (stands Γ x))

-- one of the names
abbrev pub among : List ℕ → ℕ → Truth
among [] x = false
among (y ∷ ys) x = y == x || among ys x

-- a name of a declaration, with the earlier ones that stand on no level: 58
abbrev pub judge_name : Levels → List ℕ → ℕ → Result (Unit {0}) Violation
judge_name Γ earlier x = require Repeated (not (stands Γ x || among earlier x))

-- a return of the type u in a function that returns r: 59
abbrev pub judge_return : Ty → Ty → Result (Unit {0}) Violation
judge_return r u = require OtherReturn (same r u)

-- the condition of a loop or a choice: 60
abbrev pub judge_condition : Ty → Result (Unit {0}) Violation
judge_condition u = require NoCondition (same Bool u)
