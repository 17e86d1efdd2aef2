-- A token's fields are in the ranges of its row exactly where the token is within the limits.
use Rattle.std.proofs.Common.{◌≡◌, ℕ, ◌≤◌, true, leb, arith}
use Rattle.std.proofs.lemmas.Bool.{leb-true, le-leb, and_parts, and_from}
use Rattle.syntax.specs.declared.frame.Frame.{Frame}
use Rattle.syntax.specs.declared.frame.«Type».{«Type» as Ty}
use Rattle.syntax.specs.declared.frame.«Type».TheVariants.{Bool as BoolType, Int, Double, String, Void}
use Rattle.syntax.specs.declared.kinds.Role.{Role}
use Rattle.syntax.specs.declared.kinds.Span.{Span}
use Rattle.syntax.specs.declared.kinds.Row.{Row}
use Rattle.syntax.specs.Trees.{true_literal, false_literal, int_literal, double_literal, string_literal}
use Rattle.syntax.specs.Writing.{Token, HEAD, PARAM, END, DO, DECL, NAME, INIT, RETV, RET, OPEN, CLOSE, WHILE, IF, LITERAL, VARIABLE, CALL, UPDATE, BINARY, ASSIGN, frame_of, type_code}
use Rattle.syntax.specs.Limits.{IsName, IsLoad, IsValue, LiteralFits}
use Rattle.syntax.specs.Kinds.{span, lacking, any_name, any_load, within, fields_fit}
use Rattle.syntax.proofs.TokenRows.{ranges, token_row}

-- the number is one of the span
abbrev pub In : Span → ℕ → Type 0
In s n = (s.low ≤ n) × (n ≤ s.high)

-- each field is in its range
pub record Fits (r : Row) (a b c : ℕ) : Type 0 where
  pub t : In r.t a
  pub name : In r.name b
  pub load : In r.load c

within_in : (s : Span) (n : ℕ) → within s n ≡ true → In s n
within_in s n h =
    let p = and_parts (leb s.low n) (leb n s.high) h in
    (leb-true s.low n p.0, leb-true n s.high p.1)

in_within : (s : Span) (n : ℕ) → In s n → within s n ≡ true
in_within s n h = and_from (leb s.low n) (leb n s.high) (le-leb s.low n h.0) (le-leb n s.high h.1)

pub fields_fits : (r : Row) (f : Frame) → fields_fit r f ≡ true → Fits r f.t f.name f.load
fields_fits r f h =
    let p = and_parts (within r.t f.t) _ h in
    let q = and_parts (within r.name f.name) (within r.load f.load) p.1 in
    record { t = within_in r.t f.t p.0; name = within_in r.name f.name q.0; load = within_in r.load f.load q.1 }

pub fits_fields : (r : Row) (f : Frame) → Fits r f.t f.name f.load → fields_fit r f ≡ true
fits_fields r f h =
    and_from (within r.t f.t) _ (in_within r.t f.t h.t)
    (and_from (within r.name f.name) (within r.load f.load) (in_within r.name f.name h.name) (in_within r.load f.load h.load))

-- the limits of a token
abbrev pub Legal : Token → Type 0
Legal (HEAD t f n) = IsName f × (n ≤ 16)
Legal (PARAM t x) = IsValue t × IsName x
Legal END = Unit {0}
Legal DO = Unit {0}
Legal (DECL t k) = IsValue t × (1 ≤ k) × (k ≤ 16)
Legal (NAME x) = IsName x
Legal (INIT t x) = IsValue t × IsName x
Legal RETV = Unit {0}
Legal RET = Unit {0}
Legal OPEN = Unit {0}
Legal CLOSE = Unit {0}
Legal WHILE = Unit {0}
Legal IF = Unit {0}
Legal (LITERAL l) = LiteralFits l
Legal (VARIABLE x) = IsName x
Legal (CALL f k) = IsName f × (k ≤ 16)
Legal (UPDATE c x) = IsName x
Legal (BINARY o) = Unit {0}
Legal (ASSIGN x) = IsName x

in_value : (t : Ty) → In (span 1 4) (type_code t) → IsValue t
in_value BoolType h = tt
in_value Int h = tt
in_value Double h = tt
in_value String h = tt
in_value Void h = omega arith

value_in : (t : Ty) → IsValue t → In (span 1 4) (type_code t)
value_in BoolType h = (omega arith, omega arith)
value_in Int h = (omega arith, omega arith)
value_in Double h = (omega arith, omega arith)
value_in String h = (omega arith, omega arith)
value_in Void h = absurd h

type_in : (t : Ty) → In (span 1 5) (type_code t)
type_in BoolType = (omega arith, omega arith)
type_in Int = (omega arith, omega arith)
type_in Double = (omega arith, omega arith)
type_in String = (omega arith, omega arith)
type_in Void = (omega arith, omega arith)

in_name : (x : ℕ) → In any_name x → IsName x
in_name x h = omega arith

name_in : (x : ℕ) → IsName x → In any_name x
name_in x h = (omega arith, omega arith)

in_load : (x : ℕ) → In any_load x → IsLoad x
in_load x h = omega arith

load_in : (x : ℕ) → IsLoad x → In any_load x
load_in x h = (omega arith, omega arith)

zero_in : In lacking 0
zero_in = (omega arith, omega arith)

few_in : (n : ℕ) → n ≤ 16 → In (span 0 16) n
few_in n h = (omega arith, h)

abbrev FitsToken : Token → Type 0
FitsToken m = Fits (token_row m) (frame_of m).t (frame_of m).name (frame_of m).load

pub fits_legal : (m : Token) → FitsToken m → Legal m
fits_legal (HEAD t f n) h = (in_name f h.name, h.load.1)
fits_legal (PARAM t x) h = (in_value t h.t, in_name x h.name)
fits_legal END h = tt
fits_legal DO h = tt
fits_legal (DECL t k) h = (in_value t h.t, h.load.0, h.load.1)
fits_legal (NAME x) h = in_name x h.name
fits_legal (INIT t x) h = (in_value t h.t, in_name x h.name)
fits_legal RETV h = tt
fits_legal RET h = tt
fits_legal OPEN h = tt
fits_legal CLOSE h = tt
fits_legal WHILE h = tt
fits_legal IF h = tt
fits_legal (LITERAL true_literal) h = tt
fits_legal (LITERAL false_literal) h = tt
fits_legal (LITERAL (int_literal n)) h = in_load n h.load
fits_legal (LITERAL (double_literal n)) h = in_load n h.load
fits_legal (LITERAL (string_literal n)) h = in_load n h.load
fits_legal (VARIABLE x) h = in_name x h.name
fits_legal (CALL f k) h = (in_name f h.name, h.load.1)
fits_legal (UPDATE c x) h = in_name x h.name
fits_legal (BINARY o) h = tt
fits_legal (ASSIGN x) h = in_name x h.name

bare_fits : {o : Role} → Fits (ranges lacking lacking lacking o) 0 0 0
bare_fits = record { t = zero_in; name = zero_in; load = zero_in }

name_fits : {o : Role} (x : ℕ) → IsName x → Fits (ranges lacking any_name lacking o) 0 x 0
name_fits x h = record { t = zero_in; name = name_in x h; load = zero_in }

load_fits : {o : Role} (n : ℕ) → IsLoad n → Fits (ranges lacking lacking any_load o) 0 0 n
load_fits n h = record { t = zero_in; name = zero_in; load = load_in n h }

pub legal_fits : (m : Token) → Legal m → FitsToken m
legal_fits (HEAD t f n) h = record { t = type_in t; name = name_in f h.0; load = few_in n h.1 }
legal_fits (PARAM t x) h = record { t = value_in t h.0; name = name_in x h.1; load = zero_in }
legal_fits END h = bare_fits
legal_fits DO h = bare_fits
legal_fits (DECL t k) h = record { t = value_in t h.0; name = zero_in; load = (h.1, h.2) }
legal_fits (NAME x) h = name_fits x h
legal_fits (INIT t x) h = record { t = value_in t h.0; name = name_in x h.1; load = zero_in }
legal_fits RETV h = bare_fits
legal_fits RET h = bare_fits
legal_fits OPEN h = bare_fits
legal_fits CLOSE h = bare_fits
legal_fits WHILE h = bare_fits
legal_fits IF h = bare_fits
legal_fits (LITERAL true_literal) h = bare_fits
legal_fits (LITERAL false_literal) h = bare_fits
legal_fits (LITERAL (int_literal n)) h = load_fits n h
legal_fits (LITERAL (double_literal n)) h = load_fits n h
legal_fits (LITERAL (string_literal n)) h = load_fits n h
legal_fits (VARIABLE x) h = name_fits x h
legal_fits (CALL f k) h = record { t = zero_in; name = name_in f h.0; load = few_in k h.1 }
legal_fits (UPDATE c x) h = name_fits x h
legal_fits (BINARY o) h = bare_fits
legal_fits (ASSIGN x) h = name_fits x h
