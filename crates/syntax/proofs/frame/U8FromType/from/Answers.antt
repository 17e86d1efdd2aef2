use Rattle.syntax.specs.declared.frame.«Type».TheVariants.{Bool, Int, Double, String, Void}
use Rattle.syntax.proofs.Types.{codes}
use Rattle.syntax.proofs.frame.U8FromType.from.Goals as goal

pub returns-in-Bool : goal.returns-in-Bool
returns-in-Bool c = rw c.in-Bool.is (codes Bool)

pub returns-in-Int : goal.returns-in-Int
returns-in-Int c = rw c.in-Int.is (codes Int)

pub returns-in-Double : goal.returns-in-Double
returns-in-Double c = rw c.in-Double.is (codes Double)

pub returns-in-String : goal.returns-in-String
returns-in-String c = rw c.in-String.is (codes String)

pub returns-in-Void : goal.returns-in-Void
returns-in-Void c = rw c.in-Void.is (codes Void)
