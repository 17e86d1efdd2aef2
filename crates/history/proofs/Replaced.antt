-- Put and clear keep the working book in step with the plain one.
use Rattle.std.proofs.Common.{◌≡◌, ℕ, ◌+◌, ◌*◌, ◌<◌, ◌≤◌, Bool, true, false, cond, ◌&&◌, ◌||◌, eqb, List, Some, None, Option, sym, refl, ap, ◌∙◌, subst, inl, inr, arith}
use Rattle.std.proofs.lemmas.Bool.{and_right, cases_lt, cases_Bool, ne_eqb, or_parts, eqb-true, eqb-false}
use Rattle.history.specs.Words.{updated, map_some, filled}
use Rattle.history.specs.Language.{Heads, head_for, differ, heads_of, zeros, Language, signature, signatures, heads_in}
use Rattle.history.specs.Plain.{calls_altered, Plain, due}
use Rattle.history.specs.Areas.{part, with_part, table}
use Rattle.history.specs.Working.{Record, State, record_at, working_signatures, marked, new_record}
use Rattle.history.specs.Stands.{Sound, image_at, column_at, Row, Stands}
use Rattle.history.specs.Known.{Known}
use Rattle.history.proofs.Words.{updated_other, updated_all}
use Rattle.history.proofs.Heads.{heads_altered}
use Rattle.history.proofs.Parts.{length_with_part, part_same, part_other}
use Rattle.history.proofs.Sounds.{Free, signatures_updated}
use Rattle.history.proofs.Rows.{table_row, length_zeros, row_marked, column_kept, length_image, same_signatures}

module _ {Frame Def Text : Type 0} (L : Language Frame Def Text) (K : Known L) where
  open L use {blank, name, head, repeated, writing, calls, form, judge}
  open K use {short, forms, column_length, nearby}

  -- the parts of the claim for a sheet, over the test whether it is the one replaced
  abbrev NewRow : Bool → Option Def → Heads → Heads → Option Def → Bool → Option Record → Option Record → Type 0
  NewRow b x h k y s r m = Row L k (cond b x y) (filled (cond b x y) && ((filled x && b || calls_altered L h k y) || s)) (cond b r m)

  -- and for its part of the column
  abbrev NewColumn : Bool → Option Def → Heads → Heads → Option Def → Bool → List ℕ → Type 0
  NewColumn b x h k y s c = (filled (cond b x y) && ((filled x && b || calls_altered L h k y) || s)) ≡ false → c ≡ column_at L k (cond b x y)

  -- the column of another sheet, unless it is due now
  column_other : (h k : Heads) (x y : Option Def) (s : Bool) (c c' : List ℕ) → c' ≡ c → ((filled y && s) ≡ false → c ≡ column_at L h y) → NewColumn false x h k y s c'
  column_other h k x None s c c' e old f = e ∙ old refl
  column_other h k x (Some d) s c c' e old f =
      let p = or_parts (filled x && false || calls_altered L h k (Some d)) s f in
      let q = or_parts (filled x && false) (calls_altered L h k (Some d)) p.0 in
      e ∙ old p.1 ∙ column_kept L K h k (Some d) q.1

  -- the column of the replaced sheet
  column_here : (h k : Heads) (x y : Option Def) (s : Bool) (c : List ℕ) → c ≡ zeros → NewColumn true x h k y s c
  column_here h k None y s c e f = e
  column_here h k (Some d) y s c e f = cc

  -- the record of another sheet
  row_other : (h k : Heads) (o w : Option (ℕ × ℕ)) (x y : Option Def) (s : Bool) (b : List Frame) (r m : Option Record) → b ≡ image_at L y → ((n : ℕ) → differ (h n) (k n) ≡ differ (head_for n o) (head_for n w)) → Row L h y (filled y && s) m → NewRow false x h k y s r (marked L o w b m)
  row_other h k o w x y s b r m e hit row =
      rw (and_right (filled x) false refl)
      (row_marked L K h k o w y s b m e hit row)

  -- the record that the replaced sheet gets
  abbrev pub entry_record : Option Def → Option Record
  entry_record None = None
  entry_record (Some d) = Some (new_record L d)

  -- the record of the replaced sheet
  row_here : (h k : Heads) (x y : Option Def) (s : Bool) (m : Option Record) → NewRow true x h k y s (entry_record x) m
  row_here h k None y s m = refl
  row_here h k (Some d) y s m = (None, refl, λ f. cc)

  module _ (p : Plain L) (book : State Frame) (s : ℕ) (x : Option Def) (ok : Sound L p) (stands : Stands L p book) (l : s < 32) (free : Free L p.entries s x) where
    -- the heads before
    abbrev h : Heads
    h = heads_in L p.entries

    -- the heads after
    abbrev k : Heads
    k = heads_in L (updated p.entries s x)

    -- the sheets touched
    abbrev touched : ℕ → Bool
    touched t = filled x && eqb t s || calls_altered L h k (p.entries t)

    -- the working book marks by the signatures, the plain book by the heads: the same names
    altered : (n : ℕ) → differ (h n) (k n) ≡ differ (head_for n (working_signatures book s)) (head_for n (map_some (signature L) x))
    altered n =
        ap (λ g. differ (h n) (heads_of g n)) (signatures_updated L p.entries s x)
        ∙ heads_altered (signatures L p.entries) s (map_some (signature L) x) l ok.orderly.apart free n
        ∙ ap (λ g. differ (head_for n (g s)) (head_for n (map_some (signature L) x))) (sym (same_signatures L K p book stands))

    -- past the last sheet nothing stands
    past_record : (t : ℕ) → 32 ≤ t → record_at book t ≡ None
    past_record t m = subst (λ y. Row L h y (filled y && p.since t) (record_at book t)) (ok.orderly.small t m) (stands.row t)

    -- the records after
    abbrev new_records : ℕ → Option Record
    new_records t = cond (eqb t s) (entry_record x) (marked L (working_signatures book s) (map_some (signature L) x) (part t book.frames) (record_at book t))

    -- a sheet's row after
    replaced_row : (t : ℕ) → t < 32 → NewRow (eqb t s) x h k (p.entries t) (p.since t) (entry_record x) (marked L (working_signatures book s) (map_some (signature L) x) (part t book.frames) (record_at book t))
    replaced_row t m =
        elim (eqb t s) as (λ b. NewRow b x h k (p.entries t) (p.since t) (entry_record x) (marked L (working_signatures book s) (map_some (signature L) x) (part t book.frames) (record_at book t))) [
          | true ↦ row_here h k x (p.entries t) (p.since t) (marked L (working_signatures book s) (map_some (signature L) x) (part t book.frames) (record_at book t))
          | false ↦ row_other h k (working_signatures book s) (map_some (signature L) x) x (p.entries t) (p.since t) (part t book.frames) (entry_record x) (record_at book t) (stands.frames.parts t m) altered (stands.row t)
        ]

    -- no record past the last sheet
    past_new : (t : ℕ) → 32 ≤ t → new_records t ≡ None
    past_new t m =
        rw (ne_eqb t s (λ i. omega arith), past_record t m) refl

    -- the plain book after
    abbrev pub plain_replaced : Plain L
    plain_replaced = record { entries = updated p.entries s x; since = λ t. touched t || p.since t; valid = false }

    -- the working book after
    abbrev pub state_replaced : State Frame
    state_replaced = record { records = table new_records; frames = with_part s (image_at L x) book.frames; column = with_part s zeros book.column; valid = false }

    -- the sheet's part lies in the area
    room : 256 * s + 256 ≤ 8192
    room = omega arith

    -- past the last sheet the row is empty
    row_past : (t : ℕ) → 32 ≤ t → Row L k (updated p.entries s x t) (due L plain_replaced t) None
    row_past t m =
        rw (updated_other p.entries s x t (λ i. omega arith), ok.orderly.small t m) refl

    -- every row after
    row_replaced : (t : ℕ) → Row L k (updated p.entries s x t) (due L plain_replaced t) (new_records t)
    row_replaced t =
        elim (cases_lt t 32) [
          | inl m ↦ unfold updated in (replaced_row t m)
          | inr m ↦ subst (Row L k (updated p.entries s x t) (due L plain_replaced t)) (sym (past_new t m)) (row_past t m)
        ]

    -- every sheet's part of the column after
    column_new : (t : ℕ) → t < 32 → NewColumn (eqb t s) x h k (p.entries t) (p.since t) (part t (with_part s zeros book.column))
    column_new t m =
        elim (cases_Bool (eqb t s)) [
          | inl y ↦
              rw y
              (column_here h k x (p.entries t) (p.since t) (part t (with_part s zeros book.column))
              (ap (λ u. part u (with_part s zeros book.column)) (eqb-true t s y) ∙ part_same s zeros book.column length_zeros (omega (arith, stands.wide))))
          | inr y ↦
              rw y
              (column_other h k x (p.entries t) (p.since t) (part t book.column) (part t (with_part s zeros book.column))
              (part_other s t zeros book.column length_zeros (omega (arith, stands.wide)) (eqb-false t s y)) (stands.column t m))
        ]

    -- the book after stands as the plain book after says
    pub stands_replaced : Stands L plain_replaced state_replaced
    stands_replaced =
        record {
          row = λ t. subst (Row L k (updated p.entries s x t) (due L plain_replaced t)) (sym (table_row new_records past_new t)) (row_replaced t);
          frames =
              record {
                wide = length_with_part s (image_at L x) book.frames (length_image L K x) (omega (arith, stands.frames.wide)) ∙ stands.frames.wide;
                parts = λ t m.
                    updated_all (λ u o. part u (with_part s (image_at L x) book.frames) ≡ image_at L o) p.entries s x t
                    (λ i. ap (λ u. part u (with_part s (image_at L x) book.frames)) i ∙ part_same s (image_at L x) book.frames (length_image L K x) (omega (arith, stands.frames.wide)))
                    (λ ne. part_other s t (image_at L x) book.frames (length_image L K x) (omega (arith, stands.frames.wide)) ne ∙ stands.frames.parts t m);
              };
          wide = length_with_part s zeros book.column length_zeros (omega (arith, stands.wide)) ∙ stands.wide;
          column = λ t m. unfold updated in (column_new t m);
          flag = refl;
        }
