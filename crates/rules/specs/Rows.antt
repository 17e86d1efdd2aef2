-- Which types an operator takes, and which type it gives: a rule for each operator.
use Rattle.syntax.specs.declared.frame.«Type».{«Type» as Ty}
use Rattle.syntax.specs.declared.frame.«Type».TheVariants.{Bool, Int, Double, String}
use Rattle.syntax.specs.Trees.{Operator, plus, minus, times, divide, less, less_equal, equal, not_equal, greater_equal, greater, logical_and, logical_or, Update, post_increment, post_decrement, pre_increment, pre_decrement}

-- the types of numbers
pub data Number : Ty → Type 0 where
  int_number : Number Int
  double_number : Number Double

-- what + takes
pub data Addable : Ty → Type 0 where
  int_addable : Addable Int
  double_addable : Addable Double
  string_addable : Addable String

-- what == and != take
pub data Comparable : Ty → Type 0 where
  int_comparable : Comparable Int
  double_comparable : Comparable Double
  bool_comparable : Comparable Bool

-- an operator at two operands of the type t gives the type r
pub data OperatorRule : Operator → Ty → Ty → Type 0 where
  plus_rule : {t : Ty} → Addable t → OperatorRule plus t t
  minus_rule : {t : Ty} → Number t → OperatorRule minus t t
  times_rule : {t : Ty} → Number t → OperatorRule times t t
  divide_rule : {t : Ty} → Number t → OperatorRule divide t t
  less_rule : {t : Ty} → Number t → OperatorRule less t Bool
  less_equal_rule : {t : Ty} → Number t → OperatorRule less_equal t Bool
  greater_rule : {t : Ty} → Number t → OperatorRule greater t Bool
  greater_equal_rule : {t : Ty} → Number t → OperatorRule greater_equal t Bool
  equal_rule : {t : Ty} → Comparable t → OperatorRule equal t Bool
  not_equal_rule : {t : Ty} → Comparable t → OperatorRule not_equal t Bool
  and_rule : OperatorRule logical_and Bool Bool
  or_rule : OperatorRule logical_or Bool Bool

-- x++, x--, ++x and --x at a variable of the type t
pub data UpdateRule : Update → Ty → Type 0 where
  post_increment_rule : {t : Ty} → Number t → UpdateRule post_increment t
  post_decrement_rule : {t : Ty} → Number t → UpdateRule post_decrement t
  pre_increment_rule : {t : Ty} → Number t → UpdateRule pre_increment t
  pre_decrement_rule : {t : Ty} → Number t → UpdateRule pre_decrement t
