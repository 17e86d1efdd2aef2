-- The row of the table that each token has.
use Rattle.std.proofs.Common.{◌≡◌, Some, refl}
use Rattle.syntax.specs.declared.kinds.Role.{Role}
use Rattle.syntax.specs.declared.kinds.Role.TheVariants.{Head, Param, Decl, Name, Call, Operand, Statement, End, Open, Close, While, If}
use Rattle.syntax.specs.declared.kinds.Span.{Span}
use Rattle.syntax.specs.declared.kinds.Row.{Row}
use Rattle.syntax.specs.Trees.{Literal, true_literal, false_literal, int_literal, double_literal, string_literal, plus, minus, times, divide, less, less_equal, equal, not_equal, greater_equal, greater, logical_and, logical_or, post_increment, post_decrement, pre_increment, pre_decrement}
use Rattle.syntax.specs.Writing.{Token, HEAD, PARAM, END, DO, DECL, NAME, INIT, RETV, RET, OPEN, CLOSE, WHILE, IF, LITERAL, VARIABLE, CALL, UPDATE, BINARY, ASSIGN, frame_of}
use Rattle.syntax.specs.Kinds.{row, span, lacking, any_name, any_load}

abbrev pub ranges : Span → Span → Span → Role → Row
ranges t n l o = record { t = t; name = n; load = l; role = o }

abbrev bare : Role → Row
bare o = ranges lacking lacking lacking o

abbrev named : Role → Row
named o = ranges lacking any_name lacking o

abbrev literal_load : Literal → Span
literal_load true_literal = lacking
literal_load false_literal = lacking
literal_load (int_literal n) = any_load
literal_load (double_literal n) = any_load
literal_load (string_literal n) = any_load

abbrev pub token_row : Token → Row
token_row (HEAD t f n) = ranges (span 1 5) any_name (span 0 16) Head
token_row (PARAM t x) = ranges (span 1 4) any_name lacking Param
token_row END = bare End
token_row DO = bare (Statement 1)
token_row (DECL t k) = ranges (span 1 4) lacking (span 1 16) Decl
token_row (NAME x) = named Name
token_row (INIT t x) = ranges (span 1 4) any_name lacking (Statement 1)
token_row RETV = bare (Statement 0)
token_row RET = bare (Statement 1)
token_row OPEN = bare Open
token_row CLOSE = bare Close
token_row WHILE = bare While
token_row IF = bare If
token_row (LITERAL l) = ranges lacking lacking (literal_load l) (Operand 0)
token_row (VARIABLE x) = named (Operand 0)
token_row (CALL f k) = ranges lacking any_name (span 0 16) Call
token_row (UPDATE c x) = named (Operand 0)
token_row (BINARY o) = bare (Operand 2)
token_row (ASSIGN x) = named (Operand 1)

-- what a token does
abbrev pub role : Token → Role
role m = (token_row m).role

pub row_token : (m : Token) → row (frame_of m).kind ≡ Some (token_row m)
row_token (HEAD t f n) = refl
row_token (PARAM t x) = refl
row_token END = refl
row_token DO = refl
row_token (DECL t k) = refl
row_token (NAME x) = refl
row_token (INIT t x) = refl
row_token RETV = refl
row_token RET = refl
row_token OPEN = refl
row_token CLOSE = refl
row_token WHILE = refl
row_token IF = refl
row_token (LITERAL true_literal) = refl
row_token (LITERAL false_literal) = refl
row_token (LITERAL (int_literal n)) = refl
row_token (LITERAL (double_literal n)) = refl
row_token (LITERAL (string_literal n)) = refl
row_token (VARIABLE x) = refl
row_token (CALL f k) = refl
row_token (UPDATE post_increment x) = refl
row_token (UPDATE post_decrement x) = refl
row_token (UPDATE pre_increment x) = refl
row_token (UPDATE pre_decrement x) = refl
row_token (BINARY plus) = refl
row_token (BINARY minus) = refl
row_token (BINARY times) = refl
row_token (BINARY divide) = refl
row_token (BINARY less) = refl
row_token (BINARY less_equal) = refl
row_token (BINARY equal) = refl
row_token (BINARY not_equal) = refl
row_token (BINARY greater_equal) = refl
row_token (BINARY greater) = refl
row_token (BINARY logical_and) = refl
row_token (BINARY logical_or) = refl
row_token (ASSIGN x) = refl
