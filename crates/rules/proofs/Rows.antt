-- The rows that the walk tests are the rows of the rules.
use Rattle.std.proofs.Common.{◌≡◌, Some, None, refl, subst}
use Rattle.syntax.specs.declared.frame.«Type».{«Type» as Ty}
use Rattle.syntax.specs.declared.frame.«Type».TheVariants.{Bool, Int, Double, String, Void}
use Rattle.syntax.specs.Trees.{Operator, plus, minus, times, divide, less, less_equal, equal, not_equal, greater_equal, greater, logical_and, logical_or, Update, post_increment, post_decrement, pre_increment, pre_decrement}
use Rattle.rules.specs.Rows.{Number, int_number, double_number, Addable, int_addable, double_addable, string_addable, Comparable, int_comparable, double_comparable, bool_comparable, OperatorRule, plus_rule, minus_rule, times_rule, divide_rule, less_rule, less_equal_rule, greater_rule, greater_equal_rule, equal_rule, not_equal_rule, and_rule, or_rule, UpdateRule, post_increment_rule, post_decrement_rule, pre_increment_rule, pre_decrement_rule}
use Rattle.rules.specs.Judge.{sum, arithmetic, ordering, equality, logic, row}

pub none_some : {A C : Type 0} {a : A} → None ≡ Some a → C
none_some h = cc

-- ===== from the rules to the tests =====
sum_some : {t : Ty} → Addable t → sum t ≡ Some t
sum_some int_addable = refl
sum_some double_addable = refl
sum_some string_addable = refl

pub arithmetic_some : {t : Ty} → Number t → arithmetic t ≡ Some t
arithmetic_some int_number = refl
arithmetic_some double_number = refl

ordering_some : {t : Ty} → Number t → ordering t ≡ Some Bool
ordering_some int_number = refl
ordering_some double_number = refl

equality_some : {t : Ty} → Comparable t → equality t ≡ Some Bool
equality_some int_comparable = refl
equality_some double_comparable = refl
equality_some bool_comparable = refl

pub row_some : {o : Operator} {t r : Ty} → OperatorRule o t r → row o t ≡ Some r
row_some (plus_rule h) = sum_some h
row_some (minus_rule h) = arithmetic_some h
row_some (times_rule h) = arithmetic_some h
row_some (divide_rule h) = arithmetic_some h
row_some (less_rule h) = ordering_some h
row_some (less_equal_rule h) = ordering_some h
row_some (greater_rule h) = ordering_some h
row_some (greater_equal_rule h) = ordering_some h
row_some (equal_rule h) = equality_some h
row_some (not_equal_rule h) = equality_some h
row_some and_rule = refl
row_some or_rule = refl

pub update_some : {c : Update} {t : Ty} → UpdateRule c t → arithmetic t ≡ Some t
update_some (post_increment_rule h) = arithmetic_some h
update_some (post_decrement_rule h) = arithmetic_some h
update_some (pre_increment_rule h) = arithmetic_some h
update_some (pre_decrement_rule h) = arithmetic_some h

-- ===== from the tests to the rules =====
sum_rule : (t : Ty) {r : Ty} → sum t ≡ Some r → Addable t × (t ≡ r)
sum_rule Bool h = cc
sum_rule Int h = (int_addable, cc)
sum_rule Double h = (double_addable, cc)
sum_rule String h = (string_addable, cc)
sum_rule Void h = cc

pub arithmetic_rule : (t : Ty) {r : Ty} → arithmetic t ≡ Some r → Number t × (t ≡ r)
arithmetic_rule Bool h = cc
arithmetic_rule Int h = (int_number, cc)
arithmetic_rule Double h = (double_number, cc)
arithmetic_rule String h = cc
arithmetic_rule Void h = cc

ordering_rule : (t : Ty) {r : Ty} → ordering t ≡ Some r → Number t × (Bool ≡ r)
ordering_rule Bool h = cc
ordering_rule Int h = (int_number, cc)
ordering_rule Double h = (double_number, cc)
ordering_rule String h = cc
ordering_rule Void h = cc

equality_rule : (t : Ty) {r : Ty} → equality t ≡ Some r → Comparable t × (Bool ≡ r)
equality_rule Bool h = (bool_comparable, cc)
equality_rule Int h = (int_comparable, cc)
equality_rule Double h = (double_comparable, cc)
equality_rule String h = cc
equality_rule Void h = cc

logic_rule : (t : Ty) {r : Ty} → logic t ≡ Some r → (Bool ≡ t) × (Bool ≡ r)
logic_rule Bool h = (refl, cc)
logic_rule Int h = cc
logic_rule Double h = cc
logic_rule String h = cc
logic_rule Void h = cc

-- a rule at t whose result is another name of r
module _ (o : Operator) where
  arithmetic_as : (t : Ty) {r : Ty} → (Number t → OperatorRule o t t) → arithmetic t ≡ Some r → OperatorRule o t r
  arithmetic_as t f h = let k = arithmetic_rule t h in subst (OperatorRule o t) k.1 (f k.0)

  ordering_as : (t : Ty) {r : Ty} → (Number t → OperatorRule o t Bool) → ordering t ≡ Some r → OperatorRule o t r
  ordering_as t f h = let k = ordering_rule t h in subst (OperatorRule o t) k.1 (f k.0)

  equality_as : (t : Ty) {r : Ty} → (Comparable t → OperatorRule o t Bool) → equality t ≡ Some r → OperatorRule o t r
  equality_as t f h = let k = equality_rule t h in subst (OperatorRule o t) k.1 (f k.0)

  logic_as : (t : Ty) {r : Ty} → OperatorRule o Bool Bool → logic t ≡ Some r → OperatorRule o t r
  logic_as t f h = let k = logic_rule t h in subst (OperatorRule o t) k.1 (subst (λ u. OperatorRule o u Bool) k.0 f)

pub row_rule : (o : Operator) (t : Ty) {r : Ty} → row o t ≡ Some r → OperatorRule o t r
row_rule plus t h = let k = sum_rule t h in subst (OperatorRule plus t) k.1 (plus_rule k.0)
row_rule minus t h = arithmetic_as minus t minus_rule h
row_rule times t h = arithmetic_as times t times_rule h
row_rule divide t h = arithmetic_as divide t divide_rule h
row_rule less t h = ordering_as less t less_rule h
row_rule less_equal t h = ordering_as less_equal t less_equal_rule h
row_rule greater_equal t h = ordering_as greater_equal t greater_equal_rule h
row_rule greater t h = ordering_as greater t greater_rule h
row_rule equal t h = equality_as equal t equal_rule h
row_rule not_equal t h = equality_as not_equal t not_equal_rule h
row_rule logical_and t h = logic_as logical_and t and_rule h
row_rule logical_or t h = logic_as logical_or t or_rule h

pub update_rule : (c : Update) (t : Ty) {r : Ty} → arithmetic t ≡ Some r → UpdateRule c t × (t ≡ r)
update_rule c t h = let k = arithmetic_rule t h in (of_number c k.0, k.1)
  where
    of_number : (c : Update) → Number t → UpdateRule c t
    of_number post_increment n = post_increment_rule n
    of_number post_decrement n = post_decrement_rule n
    of_number pre_increment n = pre_increment_rule n
    of_number pre_decrement n = pre_decrement_rule n
