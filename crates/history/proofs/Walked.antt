-- A check keeps the working book in step with the plain one.
use Rattle.std.proofs.Common.{◌≡◌, ℕ, ◌≤◌, Bool, true, false, not, ◌&&◌, List, length, take, Some, None, Option, sym, refl, ap, ◌∙◌, subst, ap₂, inl, inr, arith}
use mathlib.Core.Path.{fun_ext}
use Rattle.std.proofs.lemmas.Bool.{cases_lt, eq-eqb, cond_both}
use Rattle.history.specs.Words.{lowest, count_below, map_some, filled}
use Rattle.history.specs.Language.{Heads, heads_of, column_of, Blame, blame, Language, size, image, heads_in}
use Rattle.history.specs.Calls.{Act.walked}
use Rattle.history.specs.Plain.{entries_after, fault_at, fault_of, Plain, due, valid_after, after}
use Rattle.history.specs.Areas.{part, rewritten, Holds}
use Rattle.history.specs.Working.{Record, State, record_at, working_signatures, due_flag, kept_fault, fits, walked_again, settled, walked_column, checked_record, checked_column, working_fault, working_after}
use Rattle.history.specs.Stands.{Sound, record_of, image_at, column_at, Row, Stands}
use Rattle.history.specs.Known.{Known}
use Rattle.history.proofs.Parts.{length_rewritten, rewritten_part}
use Rattle.history.proofs.Sounds.{due_walked}
use Rattle.history.proofs.Rows.{table_row, length_zeros, image_own, same_signatures, same_flags}

module _ {Frame Def Text : Type 0} (L : Language Frame Def Text) (K : Known L) where
  open L use {blank, name, head, repeated, writing, calls, form, judge}
  open K use {short, forms, column_length, nearby}

  -- what a sheet's record is after a check: its entry's, with the verdict of the book's present heads
  abbrev checked_row : Heads → Option Def → Option Record
  checked_row h x = map_some (λ d. record_of L d (blame (judge h d)) false) x

  -- a definition fits its own record
  fits_own : (d : Def) (v : Blame) (b : Bool) → repeated d ≡ None → fits L (record_of L d v b) d ≡ true
  fits_own d v b e = ap₂ ◌&&◌ (eq-eqb (name d) (name d) refl) (ap₂ ◌&&◌ (eq-eqb (head d) (head d) refl) (ap (λ o. not (filled o)) e))

  -- a sheet's own frames are judged, and get no 38
  walk_own : (h : Heads) (d : Def) (v : Blame) (b : Bool) (bs : List Frame) → bs ≡ image L d → repeated d ≡ None → walked_again L h (form (take (size L d) bs)) (record_of L d v b) ≡ judge h d
  walk_own h d v b bs e once =
      rw (e, image_own L K d, forms d, fits_own d v b once) refl

  -- its record after the check
  row_settled : (h : Heads) (x : Option Def) (s : Bool) (bs : List Frame) (r : Option Record) → bs ≡ image_at L x → ((d : Def) → x ≡ Some d → repeated d ≡ None) → Row L h x (filled x && s) r → settled L h bs r ≡ checked_row h x
  row_settled h None s bs r e once row = ap (settled L h bs) row
  row_settled h (Some d) s bs r e once row =
      ap (settled L h bs) row.1
      ∙ ap (λ v. Some (record_of L d v false))
      (cond_both s (blame (walked_again L h (form (take (size L d) bs)) (record_of L d row.0 s))) row.0 (λ v. v ≡ blame (judge h d)) (λ _. ap blame (walk_own h d row.0 s bs e (once d refl))) row.2)

  -- the fault that it keeps
  row_fault : (h : Heads) (t : ℕ) (x : Option Def) → kept_fault t (checked_row h x) ≡ fault_at L h t x
  row_fault h t None = refl
  row_fault h t (Some d) = refl

  -- its part of the column if it is walked
  column_walked : (h : Heads) (x : Option Def) (s : Bool) (bs : List Frame) (r : Option Record) → bs ≡ image_at L x → ((d : Def) → x ≡ Some d → repeated d ≡ None) → Row L h x (filled x && s) r → walked_column L h bs r ≡ column_at L h x
  column_walked h None s bs r e once row = ap (walked_column L h bs) row
  column_walked h (Some d) s bs r e once row = ap (walked_column L h bs) row.1 ∙ ap column_of (walk_own h d row.0 s bs e (once d refl))

  -- the record after the check is its row
  row_checked : (h : Heads) (x : Option Def) (s b : Bool) → b ≡ false → Row L h x b (checked_row h x)
  row_checked h None s b e = refl
  row_checked h (Some d) s b e = (blame (judge h d), ap (λ f. Some (record_of L d (blame (judge h d)) f)) (sym e), λ _. refl)

  -- a sheet's part of the column has 256 places
  length_column : (h : Heads) (x : Option Def) → length (column_at L h x) ≡ 256
  length_column h None = length_zeros
  length_column h (Some d) = column_length h d

  module _ (p : Plain L) (book : State Frame) (ok : Sound L p) (stands : Stands L p book) where
    -- the heads of the book
    abbrev present : Heads
    present = heads_in L p.entries

    -- the working book declares the same
    same_heads : heads_of (working_signatures book) ≡ present
    same_heads = ap heads_of (same_signatures L K p book stands)

    -- past the last sheet nothing stands
    past_row : (t : ℕ) → 32 ≤ t → record_at book t ≡ None
    past_row t m = subst (λ y. Row L present y (filled y && p.since t) (record_at book t)) (ok.orderly.small t m) (stands.row t)

    -- nor does a check put anything there
    past_checked : (t : ℕ) → 32 ≤ t → checked_record L book t ≡ checked_row present (p.entries t)
    unfolding checked_record
    past_checked t m = rw (past_row t m, ok.orderly.small t m) refl

    -- each record after the check
    checked_record_same : (t : ℕ) → checked_record L book t ≡ checked_row present (p.entries t)
    unfolding checked_record
    checked_record_same t =
        elim (cases_lt t 32) [
          | inl m ↦
              ap (λ g. settled L g (part t book.frames) (record_at book t)) same_heads
              ∙ row_settled present (p.entries t) (p.since t) (part t book.frames) (record_at book t) (stands.frames.parts t m) (ok.orderly.single t) (stands.row t)
          | inr m ↦ past_checked t m
        ]

    -- the fault answered
    pub working_fault_same : working_fault L book ≡ fault_of L p.entries
    unfolding fault_of
    working_fault_same = ap (lowest 32) (fun_ext (λ t. ap (kept_fault t) (checked_record_same t) ∙ row_fault present t (p.entries t)))

    -- the count answered
    pub working_count_same : count_below 32 (λ t. due_flag (record_at book t)) ≡ count_below 32 (due L p)
    working_count_same = ap (count_below 32) (fun_ext (same_flags L K p book stands))

    -- each walked part of the column
    checked_column_same : (t : ℕ) → checked_column L book t ≡ column_at L present (p.entries t)
    unfolding checked_column
    checked_column_same t =
        elim (cases_lt t 32) [
          | inl m ↦
              ap (λ g. walked_column L g (part t book.frames) (record_at book t)) same_heads
              ∙ column_walked present (p.entries t) (p.since t) (part t book.frames) (record_at book t) (stands.frames.parts t m) (ok.orderly.single t) (stands.row t)
          | inr m ↦ rw (past_row t m, ok.orderly.small t m) refl
        ]

    -- it is a whole part
    column_wide : (t : ℕ) → length (checked_column L book t) ≡ 256
    column_wide t = ap length (checked_column_same t) ∙ length_column present (p.entries t)

    -- the column after the check
    abbrev column_after : List ℕ
    column_after = rewritten 32 (λ t. due_flag (record_at book t)) (checked_column L book) book.column

    -- walked or kept, each part is the judge's under the present heads
    pub columns_held : Holds column_after (λ t. column_at L present (p.entries t))
    columns_held =
        record {
          wide = length_rewritten (λ t. due_flag (record_at book t)) (checked_column L book) book.column column_wide 32 (omega (arith, stands.wide)) ∙ stands.wide;
          parts = λ t m.
              rewritten_part (λ u. due_flag (record_at book u)) (checked_column L book) book.column column_wide 32 t (omega (arith, stands.wide)) m
              ∙ cond_both (due_flag (record_at book t)) (checked_column L book t) (part t book.column) (λ c. c ≡ column_at L present (p.entries t))
              (λ _. checked_column_same t)
              (λ f. stands.column t m (sym (same_flags L K p book stands t) ∙ f));
        }

    -- no record past the last sheet
    past_none : (t : ℕ) → 32 ≤ t → checked_record L book t ≡ None
    past_none t m = past_checked t m ∙ ap (checked_row present) (ok.orderly.small t m)

    -- the book after the check stands as the plain book after it says
    pub stands_walked : Stands L (after L p walked) (working_after L book walked)
    unfolding after working_after entries_after valid_after
    stands_walked =
        record {
          row = λ t.
              subst (Row L present (p.entries t) (due L (after L p walked) t)) (sym (table_row (checked_record L book) past_none t ∙ checked_record_same t))
              (row_checked present (p.entries t) true (due L (after L p walked) t) (due_walked L p t));
          frames = stands.frames;
          wide = columns_held.wide;
          column = λ t m _. columns_held.parts t m;
          flag = ap (λ o. not (filled o)) working_fault_same;
        }
