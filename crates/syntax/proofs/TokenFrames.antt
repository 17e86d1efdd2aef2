-- A frame that the table allows is the frame of a token.
use Rattle.std.proofs.Common.{◌≡◌, ℕ, zero, suc, ◌≤◌, true, Some, None, Option, refl, ◌∙◌, subst, inl, inr, arith}
use Rattle.std.proofs.lemmas.Bool.{cases_lt}
use Rattle.syntax.specs.declared.frame.Frame.{Frame}
use Rattle.syntax.specs.declared.frame.«Type».{«Type» as Ty}
use Rattle.syntax.specs.declared.frame.«Type».TheVariants.{Bool as BoolType, Int, Double, String, Void}
use Rattle.syntax.specs.declared.kinds.Role.{Role}
use Rattle.syntax.specs.declared.kinds.Role.TheVariants.{Head, Param, Decl, Call, Statement}
use Rattle.syntax.specs.declared.kinds.Row.{Row}
use Rattle.syntax.specs.Trees.{true_literal, false_literal, int_literal, double_literal, string_literal, plus, minus, times, divide, less, less_equal, equal, not_equal, greater_equal, greater, logical_and, logical_or, post_increment, post_decrement, pre_increment, pre_decrement}
use Rattle.syntax.specs.Writing.{Token, HEAD, PARAM, END, DO, DECL, NAME, INIT, RETV, RET, OPEN, CLOSE, WHILE, IF, LITERAL, VARIABLE, CALL, UPDATE, BINARY, ASSIGN, frame, frame_of, type_code}
use Rattle.syntax.specs.Kinds.{row, span, lacking, any_name, any_load, fields_fit}
use Rattle.syntax.proofs.Rows.{AllAt, ◌&◌, all_at, rows, get_d_rows, row_past}
use Rattle.syntax.proofs.TokenRows.{ranges}
use Rattle.syntax.proofs.TokenFields.{In, Fits, fields_fits}

abbrev IsToken : ℕ → ℕ → ℕ → ℕ → Type 0
IsToken k t n l = (m : Token) × (frame_of m ≡ frame k t n l)

-- what a row of the table means: its frames are frames of tokens
abbrev Means : ℕ → Option Row → Type 0
Means k None = Unit {0}
Means k (Some r) = (t n l : ℕ) → Fits r t n l → IsToken k t n l

frame_equal : (k : ℕ) {t t' n n' l l' : ℕ} → t ≡ t' → n ≡ n' → l ≡ l' → frame k t n l ≡ frame k t' n' l'
frame_equal k a b c = λ i. frame k (a i) (b i) (c i)

lacking_zero : (n : ℕ) → In lacking n → 0 ≡ n
lacking_zero n h = omega arith

pub type_coded : (t : ℕ) → 1 ≤ t → t ≤ 5 → (u : Ty) × (type_code u ≡ t)
type_coded zero h k = absurd (omega arith)
type_coded (suc zero) h k = (BoolType, refl)
type_coded (suc (suc zero)) h k = (Int, refl)
type_coded (suc (suc (suc zero))) h k = (Double, refl)
type_coded (suc (suc (suc (suc zero)))) h k = (String, refl)
type_coded (suc (suc (suc (suc (suc zero))))) h k = (Void, refl)
type_coded (suc (suc (suc (suc (suc (suc t)))))) h k = absurd (omega arith)

value_coded : (t : ℕ) → In (span 1 4) t → (u : Ty) × (type_code u ≡ t)
value_coded t h = type_coded t h.0 (omega arith)

no_kind : Unit {0}
no_kind = tt

bare_token : (k : ℕ) (m : Token) (o : Role) → frame_of m ≡ frame k 0 0 0 → (t n l : ℕ) → Fits (ranges lacking lacking lacking o) t n l → IsToken k t n l
bare_token k m o e t n l h = (m, e ∙ frame_equal k (lacking_zero t h.t) (lacking_zero n h.name) (lacking_zero l h.load))

name_token : (k : ℕ) (m : ℕ → Token) (o : Role) → ((x : ℕ) → frame_of (m x) ≡ frame k 0 x 0) → (t n l : ℕ) → Fits (ranges lacking any_name lacking o) t n l → IsToken k t n l
name_token k m o e t n l h = (m n, e n ∙ frame_equal k (lacking_zero t h.t) refl (lacking_zero l h.load))

load_token : (k : ℕ) (m : ℕ → Token) (o : Role) → ((x : ℕ) → frame_of (m x) ≡ frame k 0 0 x) → (t n l : ℕ) → Fits (ranges lacking lacking any_load o) t n l → IsToken k t n l
load_token k m o e t n l h = (m l, e l ∙ frame_equal k (lacking_zero t h.t) (lacking_zero n h.name) refl)

call_token : (t n l : ℕ) → Fits (ranges lacking any_name (span 0 16) Call) t n l → IsToken 0x26 t n l
call_token t n l h = (CALL n l, frame_equal 0x26 (lacking_zero t h.t) refl refl)

head_token : (t n l : ℕ) → Fits (ranges (span 1 5) any_name (span 0 16) Head) t n l → IsToken 0x01 t n l
head_token t n l h = let u = type_coded t h.t.0 h.t.1 in (HEAD u.0 n l, frame_equal 0x01 u.1 refl refl)

param_token : (t n l : ℕ) → Fits (ranges (span 1 4) any_name lacking Param) t n l → IsToken 0x02 t n l
param_token t n l h = let u = value_coded t h.t in (PARAM u.0 n, frame_equal 0x02 u.1 refl (lacking_zero l h.load))

decl_token : (t n l : ℕ) → Fits (ranges (span 1 4) lacking (span 1 16) Decl) t n l → IsToken 0x11 t n l
decl_token t n l h = let u = value_coded t h.t in (DECL u.0 l, frame_equal 0x11 u.1 (lacking_zero n h.name) refl)

init_token : (t n l : ℕ) → Fits (ranges (span 1 4) any_name lacking (Statement 1)) t n l → IsToken 0x13 t n l
init_token t n l h = let u = value_coded t h.t in (INIT u.0 n, frame_equal 0x13 u.1 refl (lacking_zero l h.load))

means : AllAt Means 0 rows
means =
    no_kind
    & head_token
    & param_token
    & bare_token 0x03 END _ refl
    & no_kind & no_kind & no_kind & no_kind & no_kind & no_kind & no_kind & no_kind & no_kind & no_kind & no_kind & no_kind
    & bare_token 0x10 DO _ refl
    & decl_token
    & name_token 0x12 NAME _ (λ x. refl)
    & init_token
    & bare_token 0x14 RETV _ refl
    & bare_token 0x15 RET _ refl
    & bare_token 0x16 OPEN _ refl
    & bare_token 0x17 CLOSE _ refl
    & bare_token 0x18 WHILE _ refl
    & bare_token 0x19 IF _ refl
    & no_kind & no_kind & no_kind & no_kind & no_kind & no_kind
    & bare_token 0x20 (LITERAL true_literal) _ refl
    & bare_token 0x21 (LITERAL false_literal) _ refl
    & load_token 0x22 (λ x. LITERAL (int_literal x)) _ (λ x. refl)
    & load_token 0x23 (λ x. LITERAL (double_literal x)) _ (λ x. refl)
    & load_token 0x24 (λ x. LITERAL (string_literal x)) _ (λ x. refl)
    & name_token 0x25 VARIABLE _ (λ x. refl)
    & call_token
    & name_token 0x27 (UPDATE post_increment) _ (λ x. refl)
    & name_token 0x28 (UPDATE post_decrement) _ (λ x. refl)
    & name_token 0x29 (UPDATE pre_increment) _ (λ x. refl)
    & name_token 0x2A (UPDATE pre_decrement) _ (λ x. refl)
    & no_kind & no_kind & no_kind & no_kind & no_kind
    & bare_token 0x30 (BINARY plus) _ refl
    & bare_token 0x31 (BINARY minus) _ refl
    & bare_token 0x32 (BINARY times) _ refl
    & bare_token 0x33 (BINARY divide) _ refl
    & bare_token 0x34 (BINARY less) _ refl
    & bare_token 0x35 (BINARY less_equal) _ refl
    & bare_token 0x36 (BINARY equal) _ refl
    & bare_token 0x37 (BINARY not_equal) _ refl
    & bare_token 0x38 (BINARY greater_equal) _ refl
    & bare_token 0x39 (BINARY greater) _ refl
    & bare_token 0x3A (BINARY logical_and) _ refl
    & bare_token 0x3B (BINARY logical_or) _ refl
    & name_token 0x3C ASSIGN _ (λ x. refl)
    & tt

token_means : (k : ℕ) → Means k (row k)
token_means k =
    elim (cases_lt k 61) [
      | inl lt ↦ subst (Means k) (get_d_rows k None lt) (all_at Means rows means k None lt)
      | inr ge ↦ subst (Means k) (row_past k ge) no_kind
    ]

pub token_of : (f : Frame) (r : Row) → row f.kind ≡ Some r → fields_fit r f ≡ true → (m : Token) × (frame_of m ≡ f)
token_of f r e h = subst (Means f.kind) e (token_means f.kind) f.t f.name f.load (fields_fits r f h)
