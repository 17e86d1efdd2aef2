-- The frames of literals, updates and operators by their kinds.
use Rattle.std.proofs.Common.{◌≡◌, ℕ, ◌≤◌, refl, arith}
use Rattle.syntax.specs.declared.frame.Frame.{Frame}
use Rattle.syntax.specs.Trees.{Literal, true_literal, false_literal, int_literal, double_literal, string_literal, Operator, plus, minus, times, divide, less, less_equal, equal, not_equal, greater_equal, greater, logical_and, logical_or, Update, post_increment, post_decrement, pre_increment, pre_decrement}
use Rattle.syntax.specs.Writing.{LITERAL, UPDATE, BINARY, frame_of}
use Rattle.walk.specs.Judge.{arity}

-- a frame that ends an expression and takes so many operands
pub record Kinded (f : Frame) (n : ℕ) : Type 0 where
  pub late : 0x20 ≤ f.kind
  pub takes : arity f ≡ n

pub literal_kinded : (l : Literal) → Kinded (frame_of (LITERAL l)) 0
literal_kinded true_literal = record { late = omega arith; takes = refl }
literal_kinded false_literal = record { late = omega arith; takes = refl }
literal_kinded (int_literal n) = record { late = omega arith; takes = refl }
literal_kinded (double_literal n) = record { late = omega arith; takes = refl }
literal_kinded (string_literal n) = record { late = omega arith; takes = refl }

pub update_kinded : (c : Update) (x : ℕ) → Kinded (frame_of (UPDATE c x)) 0
update_kinded post_increment x = record { late = omega arith; takes = refl }
update_kinded post_decrement x = record { late = omega arith; takes = refl }
update_kinded pre_increment x = record { late = omega arith; takes = refl }
update_kinded pre_decrement x = record { late = omega arith; takes = refl }

pub binary_kinded : (o : Operator) → Kinded (frame_of (BINARY o)) 2
binary_kinded plus = record { late = omega arith; takes = refl }
binary_kinded minus = record { late = omega arith; takes = refl }
binary_kinded times = record { late = omega arith; takes = refl }
binary_kinded divide = record { late = omega arith; takes = refl }
binary_kinded less = record { late = omega arith; takes = refl }
binary_kinded less_equal = record { late = omega arith; takes = refl }
binary_kinded equal = record { late = omega arith; takes = refl }
binary_kinded not_equal = record { late = omega arith; takes = refl }
binary_kinded greater_equal = record { late = omega arith; takes = refl }
binary_kinded greater = record { late = omega arith; takes = refl }
binary_kinded logical_and = record { late = omega arith; takes = refl }
binary_kinded logical_or = record { late = omega arith; takes = refl }
