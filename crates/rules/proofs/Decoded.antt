-- The frame of a token stands for that token.
use Rattle.std.proofs.Common.{◌≡◌, List, [], ◌∷◌, map, refl, ap, ap₂}
use Rattle.syntax.specs.Trees.{Definition, true_literal, false_literal, int_literal, double_literal, string_literal, plus, minus, times, divide, less, less_equal, equal, not_equal, greater_equal, greater, logical_and, logical_or, post_increment, post_decrement, pre_increment, pre_decrement}
use Rattle.syntax.specs.Writing.{Token, HEAD, PARAM, END, DO, DECL, NAME, INIT, RETV, RET, OPEN, CLOSE, WHILE, IF, LITERAL, VARIABLE, CALL, UPDATE, BINARY, ASSIGN, frame_of, write_definition, written}
use Rattle.rules.specs.Tokens.{token}
use Rattle.rules.specs.Walk.{returned}
use Rattle.rules.proofs.Results.{type_back}

pub token_frame : (m : Token) → token (frame_of m) ≡ m
token_frame (HEAD t f n) = ap (λ u. HEAD u f n) (type_back t)
token_frame (PARAM t x) = ap (λ u. PARAM u x) (type_back t)
token_frame END = refl
token_frame DO = refl
token_frame (DECL t k) = ap (λ u. DECL u k) (type_back t)
token_frame (NAME x) = refl
token_frame (INIT t x) = ap (λ u. INIT u x) (type_back t)
token_frame RETV = refl
token_frame RET = refl
token_frame OPEN = refl
token_frame CLOSE = refl
token_frame WHILE = refl
token_frame IF = refl
token_frame (LITERAL true_literal) = refl
token_frame (LITERAL false_literal) = refl
token_frame (LITERAL (int_literal n)) = refl
token_frame (LITERAL (double_literal n)) = refl
token_frame (LITERAL (string_literal n)) = refl
token_frame (VARIABLE x) = refl
token_frame (CALL f k) = refl
token_frame (UPDATE post_increment x) = refl
token_frame (UPDATE post_decrement x) = refl
token_frame (UPDATE pre_increment x) = refl
token_frame (UPDATE pre_decrement x) = refl
token_frame (BINARY plus) = refl
token_frame (BINARY minus) = refl
token_frame (BINARY times) = refl
token_frame (BINARY divide) = refl
token_frame (BINARY less) = refl
token_frame (BINARY less_equal) = refl
token_frame (BINARY equal) = refl
token_frame (BINARY not_equal) = refl
token_frame (BINARY greater_equal) = refl
token_frame (BINARY greater) = refl
token_frame (BINARY logical_and) = refl
token_frame (BINARY logical_or) = refl
token_frame (ASSIGN x) = refl

tokens_frames : (ms : List Token) → map token (map frame_of ms) ≡ ms
tokens_frames [] = refl
tokens_frames (m ∷ ms) = ap₂ (λ x xs. x ∷ xs) (token_frame m) (tokens_frames ms)

-- the frames of a definition, and what they say that it returns
pub tokens_written : (d : Definition) → map token (written d) ≡ write_definition d []
unfolding written
tokens_written d = tokens_frames (write_definition d [])

pub returned_written : (d : Definition) → returned (written d) ≡ d.returns
unfolding written
returned_written d = type_back d.returns
