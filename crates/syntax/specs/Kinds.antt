-- The table of kinds: which fields a kind has, in which ranges, and what a frame of it does to the operands and unfinished things.
use Rattle.std.specs.Prelude.{ℕ, Bool, cond, ◌&&◌, Some, None, Option, ◌==◌, nat_le}
use Rattle.syntax.specs.declared.frame.Frame.{Frame}
use Rattle.syntax.specs.declared.kinds.Role.{Role}
use Rattle.syntax.specs.declared.kinds.Role.TheVariants.{Head, Param, End, Operand, Call, Statement, Decl, Name, Open, Close, While, If}
use Rattle.syntax.specs.declared.kinds.Span.{Span}
use Rattle.syntax.specs.declared.kinds.Row.{Row}

-- the numbers from a to b
abbrev pub span : ℕ → ℕ → Span
span a b = record { low = a; high = b }

-- a field that a kind lacks is 0
abbrev pub lacking : Span
lacking = span 0 0

-- a name of 16 bits
abbrev pub any_name : Span
any_name = span 0 65535

-- a load of 32 bits
abbrev pub any_load : Span
any_load = span 0 4294967295

-- a kind with these ranges of t, name and load
abbrev pub fields : Span → Span → Span → Role → Option Row
fields t n l r = Some (record { t = t; name = n; load = l; role = r })

-- a kind without fields
abbrev pub plain : Role → Option Row
plain r = fields lacking lacking lacking r

-- a kind with a name alone
abbrev pub named : Role → Option Row
named r = fields lacking any_name lacking r

-- k is from a to b
abbrev pub from : ℕ → ℕ → ℕ → Bool
from k a b = nat_le a k && nat_le k b

-- the row of each kind; any other number is no kind
abbrev pub row : ℕ → Option Row
row k =
    cond (k == 0x01) (fields (span 1 5) any_name (span 0 16) Head)
    (cond (k == 0x02) (fields (span 1 4) any_name lacking Param)
    (cond (k == 0x03) (plain End)
    (cond (k == 0x10) (plain (Statement 1))
    (cond (k == 0x11) (fields (span 1 4) lacking (span 1 16) Decl)
    (cond (k == 0x12) (named Name)
    (cond (k == 0x13) (fields (span 1 4) any_name lacking (Statement 1))
    (cond (k == 0x14) (plain (Statement 0))
    (cond (k == 0x15) (plain (Statement 1))
    (cond (k == 0x16) (plain Open)
    (cond (k == 0x17) (plain Close)
    (cond (k == 0x18) (plain While)
    (cond (k == 0x19) (plain If)
    (cond (from k 0x20 0x21) (plain (Operand 0))
    (cond (from k 0x22 0x24) (fields lacking lacking any_load (Operand 0))
    (cond (k == 0x25) (named (Operand 0))
    (cond (k == 0x26) (fields lacking any_name (span 0 16) Call)
    (cond (from k 0x27 0x2A) (named (Operand 0))
    (cond (from k 0x30 0x3B) (plain (Operand 2))
    (cond (k == 0x3C) (named (Operand 1))
    None)))))))))))))))))))

-- the number is one of the span
abbrev pub within : Span → ℕ → Bool
within s n = nat_le s.low n && nat_le n s.high

-- each field of the frame is within its range
abbrev pub fields_fit : Row → Frame → Bool
fields_fit r f = within r.t f.t && (within r.name f.name && within r.load f.load)
