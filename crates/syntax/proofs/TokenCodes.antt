-- No two tokens have one frame: each is read back from its frame.
use Rattle.std.proofs.Common.{◌≡◌, ℕ, List, [], ◌∷◌, map, get_or, sym, refl, ap, ◌∙◌}
use Rattle.syntax.specs.declared.frame.Frame.{Frame}
use Rattle.syntax.specs.declared.frame.«Type».{«Type» as Ty}
use Rattle.syntax.specs.declared.frame.«Type».TheVariants.{Bool as BoolType, Int, Double, String, Void}
use Rattle.syntax.specs.Trees.{true_literal, false_literal, int_literal, double_literal, string_literal, plus, minus, times, divide, less, less_equal, equal, not_equal, greater_equal, greater, logical_and, logical_or, post_increment, post_decrement, pre_increment, pre_decrement}
use Rattle.syntax.specs.Writing.{Token, HEAD, PARAM, END, DO, DECL, NAME, INIT, RETV, RET, OPEN, CLOSE, WHILE, IF, LITERAL, VARIABLE, CALL, UPDATE, BINARY, ASSIGN, frame_of}

no_token : ℕ → ℕ → ℕ → Token
no_token t n l = END

abbrev typed : ℕ → Ty
typed t = get_or (Void ∷ BoolType ∷ Int ∷ Double ∷ String ∷ []) t Void

abbrev decoders : List (ℕ → ℕ → ℕ → Token)
decoders =
    no_token ∷
    (λ t n l. HEAD (typed t) n l) ∷
    (λ t n l. PARAM (typed t) n) ∷
    (λ t n l. END) ∷
    no_token ∷ no_token ∷ no_token ∷ no_token ∷ no_token ∷ no_token ∷ no_token ∷ no_token ∷ no_token ∷ no_token ∷ no_token ∷ no_token ∷
    (λ t n l. DO) ∷
    (λ t n l. DECL (typed t) l) ∷
    (λ t n l. NAME n) ∷
    (λ t n l. INIT (typed t) n) ∷
    (λ t n l. RETV) ∷
    (λ t n l. RET) ∷
    (λ t n l. OPEN) ∷
    (λ t n l. CLOSE) ∷
    (λ t n l. WHILE) ∷
    (λ t n l. IF) ∷
    no_token ∷ no_token ∷ no_token ∷ no_token ∷ no_token ∷ no_token ∷
    (λ t n l. LITERAL true_literal) ∷
    (λ t n l. LITERAL false_literal) ∷
    (λ t n l. LITERAL (int_literal l)) ∷
    (λ t n l. LITERAL (double_literal l)) ∷
    (λ t n l. LITERAL (string_literal l)) ∷
    (λ t n l. VARIABLE n) ∷
    (λ t n l. CALL n l) ∷
    (λ t n l. UPDATE post_increment n) ∷
    (λ t n l. UPDATE post_decrement n) ∷
    (λ t n l. UPDATE pre_increment n) ∷
    (λ t n l. UPDATE pre_decrement n) ∷
    no_token ∷ no_token ∷ no_token ∷ no_token ∷ no_token ∷
    (λ t n l. BINARY plus) ∷
    (λ t n l. BINARY minus) ∷
    (λ t n l. BINARY times) ∷
    (λ t n l. BINARY divide) ∷
    (λ t n l. BINARY less) ∷
    (λ t n l. BINARY less_equal) ∷
    (λ t n l. BINARY equal) ∷
    (λ t n l. BINARY not_equal) ∷
    (λ t n l. BINARY greater_equal) ∷
    (λ t n l. BINARY greater) ∷
    (λ t n l. BINARY logical_and) ∷
    (λ t n l. BINARY logical_or) ∷
    (λ t n l. ASSIGN n) ∷ []

-- the token of a frame
abbrev decode : Frame → Token
decode f = get_or decoders f.kind no_token f.t f.name f.load

decode_frame_of : (m : Token) → decode (frame_of m) ≡ m
decode_frame_of (HEAD BoolType f n) = refl
decode_frame_of (HEAD Int f n) = refl
decode_frame_of (HEAD Double f n) = refl
decode_frame_of (HEAD String f n) = refl
decode_frame_of (HEAD Void f n) = refl
decode_frame_of (PARAM BoolType x) = refl
decode_frame_of (PARAM Int x) = refl
decode_frame_of (PARAM Double x) = refl
decode_frame_of (PARAM String x) = refl
decode_frame_of (PARAM Void x) = refl
decode_frame_of (DECL BoolType k) = refl
decode_frame_of (DECL Int k) = refl
decode_frame_of (DECL Double k) = refl
decode_frame_of (DECL String k) = refl
decode_frame_of (DECL Void k) = refl
decode_frame_of (INIT BoolType x) = refl
decode_frame_of (INIT Int x) = refl
decode_frame_of (INIT Double x) = refl
decode_frame_of (INIT String x) = refl
decode_frame_of (INIT Void x) = refl
decode_frame_of END = refl
decode_frame_of DO = refl
decode_frame_of (NAME x) = refl
decode_frame_of RETV = refl
decode_frame_of RET = refl
decode_frame_of OPEN = refl
decode_frame_of CLOSE = refl
decode_frame_of WHILE = refl
decode_frame_of IF = refl
decode_frame_of (LITERAL true_literal) = refl
decode_frame_of (LITERAL false_literal) = refl
decode_frame_of (LITERAL (int_literal n)) = refl
decode_frame_of (LITERAL (double_literal n)) = refl
decode_frame_of (LITERAL (string_literal n)) = refl
decode_frame_of (VARIABLE x) = refl
decode_frame_of (CALL f k) = refl
decode_frame_of (UPDATE post_increment x) = refl
decode_frame_of (UPDATE post_decrement x) = refl
decode_frame_of (UPDATE pre_increment x) = refl
decode_frame_of (UPDATE pre_decrement x) = refl
decode_frame_of (BINARY plus) = refl
decode_frame_of (BINARY minus) = refl
decode_frame_of (BINARY times) = refl
decode_frame_of (BINARY divide) = refl
decode_frame_of (BINARY less) = refl
decode_frame_of (BINARY less_equal) = refl
decode_frame_of (BINARY equal) = refl
decode_frame_of (BINARY not_equal) = refl
decode_frame_of (BINARY greater_equal) = refl
decode_frame_of (BINARY greater) = refl
decode_frame_of (BINARY logical_and) = refl
decode_frame_of (BINARY logical_or) = refl
decode_frame_of (ASSIGN x) = refl

-- tokens of the same frames are the same tokens
pub map_frame_of : (ms ns : List Token) → map frame_of ms ≡ map frame_of ns → ms ≡ ns
map_frame_of [] [] h = refl
map_frame_of [] (n ∷ ns) h = cc
map_frame_of (m ∷ ms) [] h = cc
map_frame_of (m ∷ ms) (n ∷ ns) h =
    let a : frame_of m ≡ frame_of n = cc in
    let b : map frame_of ms ≡ map frame_of ns = cc in
    let e : m ≡ n = sym (decode_frame_of m) ∙ ap decode a ∙ decode_frame_of n in
    let es = map_frame_of ms ns b in
    cc
