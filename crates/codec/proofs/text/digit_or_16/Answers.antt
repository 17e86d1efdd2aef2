-- The table has the digit of each byte: all 256 compared.
use Rattle.std.proofs.Common.{refl, arith}
use Rattle.codec.specs.declared.text.TheConstants.{VALUES}
use Rattle.codec.proofs.Digits.{table_digit, table_none}
use Rattle.codec.proofs.text.digit_or_16.Goals as goal

pub returns-clause-digit : goal.returns-clause-digit
returns-clause-digit c = table_digit VALUES refl c.args.b (omega arith)

pub returns-clause-none : goal.returns-clause-none
returns-clause-none c = table_none VALUES refl c.args.b (omega arith)
