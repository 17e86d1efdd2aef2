-- The token that a frame stands for, read off its kind.
use Rattle.std.specs.Prelude.{cond, ◌==◌}
use Rattle.syntax.specs.declared.frame.Frame.{Frame}
use Rattle.syntax.specs.Trees.{true_literal, false_literal, int_literal, double_literal, string_literal, plus, minus, times, divide, less, less_equal, equal, not_equal, greater_equal, greater, logical_and, logical_or, post_increment, post_decrement, pre_increment, pre_decrement}
use Rattle.syntax.specs.Writing.{Token, HEAD, PARAM, END, DO, DECL, NAME, INIT, RETV, RET, OPEN, CLOSE, WHILE, IF, LITERAL, VARIABLE, CALL, UPDATE, BINARY, ASSIGN}
use Rattle.syntax.specs.Types.{type_of}

-- a frame of a kind that none has counts as END; no sheet has one
abbrev pub token : Frame → Token
token f =
    cond (f.kind == 0x01) (HEAD (type_of f.t) f.name f.load)
    (cond (f.kind == 0x02) (PARAM (type_of f.t) f.name)
    (cond (f.kind == 0x10) DO
    (cond (f.kind == 0x11) (DECL (type_of f.t) f.load)
    (cond (f.kind == 0x12) (NAME f.name)
    (cond (f.kind == 0x13) (INIT (type_of f.t) f.name)
    (cond (f.kind == 0x14) RETV
    (cond (f.kind == 0x15) RET
    (cond (f.kind == 0x16) OPEN
    (cond (f.kind == 0x17) CLOSE
    (cond (f.kind == 0x18) WHILE
    (cond (f.kind == 0x19) IF
    (cond (f.kind == 0x20) (LITERAL true_literal)
    (cond (f.kind == 0x21) (LITERAL false_literal)
    (cond (f.kind == 0x22) (LITERAL (int_literal f.load))
    (cond (f.kind == 0x23) (LITERAL (double_literal f.load))
    (cond (f.kind == 0x24) (LITERAL (string_literal f.load))
    (cond (f.kind == 0x25) (VARIABLE f.name)
    (cond (f.kind == 0x26) (CALL f.name f.load)
    (cond (f.kind == 0x27) (UPDATE post_increment f.name)
    (cond (f.kind == 0x28) (UPDATE post_decrement f.name)
    (cond (f.kind == 0x29) (UPDATE pre_increment f.name)
    (cond (f.kind == 0x2A) (UPDATE pre_decrement f.name)
    (cond (f.kind == 0x30) (BINARY plus)
    (cond (f.kind == 0x31) (BINARY minus)
    (cond (f.kind == 0x32) (BINARY times)
    (cond (f.kind == 0x33) (BINARY divide)
    (cond (f.kind == 0x34) (BINARY less)
    (cond (f.kind == 0x35) (BINARY less_equal)
    (cond (f.kind == 0x36) (BINARY equal)
    (cond (f.kind == 0x37) (BINARY not_equal)
    (cond (f.kind == 0x38) (BINARY greater_equal)
    (cond (f.kind == 0x39) (BINARY greater)
    (cond (f.kind == 0x3A) (BINARY logical_and)
    (cond (f.kind == 0x3B) (BINARY logical_or)
    (cond (f.kind == 0x3C) (ASSIGN f.name)
    END)))))))))))))))))))))))))))))))))))
