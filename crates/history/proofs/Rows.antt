-- One sheet: its part of the areas, and its row when another sheet is replaced.
-- ## a table of 32 rows
use Rattle.std.proofs.Common.{◌≡◌, ℕ, ◌-◌, ◌<◌, ◌≤◌, Bool, false, ◌&&◌, ◌||◌, List, length, get_or, take, replicate, Some, None, Option, sym, refl, ap, ◌∙◌, ap₂, inl, inr, arith}
use mathlib.Core.Path.{fun_ext}
use mathlib.Core.Bool.{or_comm}
use Rattle.std.proofs.lemmas.Bool.{cases_lt, or_parts}
use Rattle.std.proofs.lemmas.List.{length-append, length-replicate, take_at, get_or_past}
use Rattle.std.proofs.lemmas.List.FromFn.{get_or-map-range_with_len, length-map-range_with_len}
use Rattle.history.specs.Words.{any_of, map_some, filled}
use Rattle.history.specs.Language.{Heads, head_for, differ, zeros, column_of, blame, Language, size, image, blanks, signature, signatures, heads_in}
use Rattle.history.specs.Plain.{calls_altered, Plain, due}
use Rattle.history.specs.Areas.{table}
use Rattle.history.specs.Working.{Record, State, record_at, record_signature, working_signatures, due_flag, marked}
use Rattle.history.specs.Stands.{record_of, image_at, column_at, Row, Stands}
use Rattle.history.specs.Known.{Known}
use Rattle.history.proofs.Heads.{agree_since}

-- a table has 32 rows
length_table : {X : Type 0} (f : ℕ → X) → length (table f) ≡ 32
unfolding table
length_table f = length-map-range_with_len f 0 32

-- a row of it
pub table_at : {X : Type 0} (f : ℕ → X) (t : ℕ) (d : X) → t < 32 → get_or (table f) t d ≡ f t
unfolding table
table_at f t d l = get_or-map-range_with_len f 0 32 t t d l (omega arith)

-- any row of it, where nothing stands past the last
pub table_row : {X : Type 0} (f : ℕ → Option X) → ((t : ℕ) → 32 ≤ t → f t ≡ None) → (t : ℕ) → get_or (table f) t None ≡ f t
table_row f past t =
    elim (cases_lt t 32) [
      | inl l ↦ table_at f t None l
      | inr l ↦ get_or_past (table f) t None (omega (arith, length_table f)) ∙ sym (past t l)
    ]

-- a part without types has 256 places
pub length_zeros : length zeros ≡ 256
unfolding zeros
length_zeros = length-replicate {A = ℕ} 256 0

module _ {Frame Def Text : Type 0} (L : Language Frame Def Text) (K : Known L) where
  open L use {blank, name, head, repeated, writing, calls, form, judge}
  open K use {short, forms, column_length, nearby}

  -- ## one sheet's part

  -- the frames that the record counts are the definition's own
  pub image_own : (d : Def) → take (size L d) (image L d) ≡ writing d
  unfolding image
  image_own d = take_at (writing d) (replicate (256 - length (writing d)) blank) (length (writing d)) refl

  -- a sheet's part of the frames has 256 places
  image_length : (d : Def) → length (image L d) ≡ 256
  unfolding image
  image_length d =
      let a = length-append (writing d) (replicate (256 - length (writing d)) blank) in
      let b : length (replicate (256 - length (writing d)) blank) ≡ 256 - length (writing d) = length-replicate {A = Frame} (256 - length (writing d)) blank in
      omega (arith, short d)

  -- ## one row

  -- a row has its entry's signature
  row_signature : (h : Heads) (x : Option Def) (b : Bool) (r : Option Record) → Row L h x b r → map_some record_signature r ≡ map_some (signature L) x
  row_signature h None b r w = ap (map_some record_signature) w
  row_signature h (Some d) b r w = ap (map_some record_signature) w.1

  -- a row has its sheet's mark
  row_flag : (h : Heads) (x : Option Def) (s : Bool) (r : Option Record) → Row L h x (filled x && s) r → due_flag r ≡ (filled x && s)
  row_flag h None s r w = ap due_flag w
  row_flag h (Some d) s r w = ap due_flag w.1

  -- a sheet that is not replaced: it is marked exactly if its entry calls an altered name
  pub row_marked : (h k : Heads) (o w : Option (ℕ × ℕ)) (x : Option Def) (s : Bool) (b : List Frame) (r : Option Record) → b ≡ image_at L x → ((n : ℕ) → differ (h n) (k n) ≡ differ (head_for n o) (head_for n w)) → Row L h x (filled x && s) r → Row L k x (filled x && (calls_altered L h k x || s)) (marked L o w b r)
  row_marked h k o w None s b r e hit row = ap (marked L o w b) row
  row_marked h k o w (Some d) s b r e hit row =
      let v = row.0 in
      let same : any_of (λ n. differ (head_for n o) (head_for n w)) (calls (take (size L d) b)) ≡ calls_altered L h k (Some d) = ap₂ any_of (fun_ext (λ n. sym (hit n))) (ap (λ q. calls (take (size L d) q)) e ∙ ap calls (image_own d)) in (
        v,
        ap (marked L o w b) row.1 ∙ ap (λ f. Some (record_of L d v f)) (ap (λ a. s || a) same ∙ or_comm s (calls_altered L h k (Some d))),
        λ f.
            let p = or_parts (calls_altered L h k (Some d)) s f in
            row.2 p.1 ∙ ap blame (nearby h k d (agree_since h k (calls (writing d)) p.0)),
      )

  -- a sheet that calls no altered name keeps its column
  pub column_kept : (h k : Heads) (x : Option Def) → calls_altered L h k x ≡ false → column_at L h x ≡ column_at L k x
  column_kept h k None e = refl
  column_kept h k (Some d) e = ap column_of (nearby h k d (agree_since h k (calls (writing d)) e))

  -- an empty sheet's part has 256 places
  length_blanks : length (blanks L) ≡ 256
  unfolding blanks
  length_blanks = length-replicate {A = Frame} 256 blank

  -- so every sheet's part has
  pub length_image : (x : Option Def) → length (image_at L x) ≡ 256
  length_image None = length_blanks
  length_image (Some d) = image_length d

  -- both books have the same signatures
  pub same_signatures : (p : Plain L) (book : State Frame) → Stands L p book → working_signatures book ≡ signatures L p.entries
  same_signatures p book stands = fun_ext (λ t. row_signature (heads_in L p.entries) (p.entries t) (due L p t) (record_at book t) (stands.row t))

  -- and the same sheets due
  pub same_flags : (p : Plain L) (book : State Frame) → Stands L p book → (t : ℕ) → due_flag (record_at book t) ≡ due L p t
  same_flags p book stands t = row_flag (heads_in L p.entries) (p.entries t) (p.since t) (record_at book t) (stands.row t)
