-- What an accepted check makes of each sheet, from any state.
use Rattle.std.proofs.Common.{◌≡◌, ℕ, ◌<◌, true, cond, not, ◌&&◌, eqb, List, length, take, Some, None, Ok, Err, Option, Result, sym, refl, ap, ◌∙◌, subst, ap₂, inl, inr, arith}
use Rattle.std.proofs.lemmas.Bool.{cond-false, cases_Bool, eq-eqb, cond_both, eqb-true, not-true, and_parts}
use Rattle.history.specs.Words.{lowest, count_below, filled}
use Rattle.history.specs.Language.{Fault, Verdict, Verdict.bad, Heads, heads_of, column_of, blame, Language}
use Rattle.history.specs.Calls.{Call, Act.walked, outcome, Answer, Answer.checked}
use Rattle.history.specs.Areas.{part}
use Rattle.history.specs.Working.{Record, State, record_at, working_signatures, due_flag, kept_fault, fits, walked_again, settled, walked_column, checked_record, checked_column, working_fault, working_after, working_stepped, working_told}
use Rattle.history.specs.Runs.{Does}
use Rattle.history.specs.Known.{Known}
use Rattle.history.specs.Settles.{counted, FormsAs, Renewed, SheetSettles, Settles}
use Rattle.history.proofs.Words.{lowest_same, filled_none}
use Rattle.history.proofs.Parts.{rewritten_part}
use Rattle.history.proofs.Rows.{table_at, length_zeros}

module _ {Frame Def Text : Type 0} (L : Language Frame Def Text) (K : Known L) where
  open L use {name, head, repeated, form, judge}
  open K use {column_length}

  -- a verdict's part of the column is a whole part, 38 included
  again_length : (h : Heads) (o : Result Def Fault) (r : Record) → length (column_of (walked_again L h o r)) ≡ 256
  again_length h (Err f) r = length_zeros
  again_length h (Ok d) r = cond_both (fits L r d) (judge h d) (bad 3 38 0) (λ v. length (column_of v) ≡ 256) (λ _. column_length h d) (λ _. length_zeros)

  -- a walked sheet's part of the column is a whole part
  walked_length : (h : Heads) (b : List Frame) (r : Option Record) → length (walked_column L h b r) ≡ 256
  walked_length h b None = length_zeros
  walked_length h b (Some r) = again_length h (form (take r.size b)) r

  -- frames that form as their record says fit it, and no others
  fits_of : (r : Record) (d : Def) → name d ≡ r.name → head d ≡ r.head → repeated d ≡ None → fits L r d ≡ true
  fits_of r d a b c = ap₂ ◌&&◌ (eq-eqb (name d) r.name a) (ap₂ ◌&&◌ (eq-eqb (head d) r.head b) (ap (λ o. not (filled o)) c))

  -- what fits has the record's name and head, no parameter twice
  fits_parts : (r : Record) (d : Def) → fits L r d ≡ true → (name d ≡ r.name) × (head d ≡ r.head) × (repeated d ≡ None)
  fits_parts r d e =
      let a = and_parts (eqb (name d) r.name) (eqb (head d) r.head && not (filled (repeated d))) e in
      let b = and_parts (eqb (head d) r.head) (not (filled (repeated d))) a.1 in
      (eqb-true (name d) r.name a.0, eqb-true (head d) r.head b.0, filled_none (repeated d) (not-true (filled (repeated d)) b.1))

  -- frames that form as their record says are judged
  again_judged : (h : Heads) (fs : List Frame) (r : Record) (d : Def) → FormsAs L r fs d → walked_again L h (form fs) r ≡ judge h d
  again_judged h fs r d w =
      rw (w.0, fits_of r d w.1 w.2 w.3) refl

  -- all others get 38
  again_broken : (h : Heads) (r : Record) (o : Result Def Fault) → ((d : Def) → (o ≡ Ok d) × (name d ≡ r.name) × (head d ≡ r.head) × (repeated d ≡ None) → ⊥) → walked_again L h o r ≡ bad 3 38 0
  again_broken h r (Err f) none = refl
  again_broken h r (Ok d) none =
      elim (cases_Bool (fits L r d)) [
        | inl y ↦ let p = fits_parts r d y in absurd (none d (refl, p.0, p.1, p.2))
        | inr y ↦ rw y refl
      ]

  module _ (book : State Frame) (wide : length book.column ≡ 8192) where
    -- the heads of all records
    abbrev heads : Heads
    heads = heads_of (working_signatures book)

    -- the state that the check leaves
    abbrev left : State Frame
    left = working_after L book walked

    -- a sheet's record in it
    record_left : (t : ℕ) → t < 32 → record_at left t ≡ settled L heads (part t book.frames) (record_at book t)
    unfolding working_after checked_record
    record_left t l = table_at (checked_record L book) t None l

    -- a walked part is a whole part
    column_width : (t : ℕ) → length (checked_column L book t) ≡ 256
    unfolding checked_column
    column_width t = walked_length heads (part t book.frames) (record_at book t)

    -- a sheet's part of the column in it
    column_left : (t : ℕ) → t < 32 → part t left.column ≡ cond (due_flag (record_at book t)) (walked_column L heads (part t book.frames) (record_at book t)) (part t book.column)
    unfolding working_after checked_column
    column_left t l = rewritten_part (λ u. due_flag (record_at book u)) (checked_column L book) book.column column_width 32 t (omega (arith, wide)) l

    -- the same by the sheet's record
    column_by : (t : ℕ) (x : Option Record) → t < 32 → record_at book t ≡ x → part t left.column ≡ cond (due_flag x) (walked_column L heads (part t book.frames) x) (part t book.column)
    column_by t x l i = column_left t l ∙ ap (λ y. cond (due_flag y) (walked_column L heads (part t book.frames) y) (part t book.column)) i

    -- a due sheet gets the verdict of its frames formed again
    renewed : (t : ℕ) (r : Record) (v : Verdict) → t < 32 → record_at book t ≡ Some r → r.due ≡ true → walked_again L heads (form (counted L book t r)) r ≡ v → Renewed L left t r (blame v) (column_of v)
    renewed t r v l i e w = (
      cc (record_left t l),
      cc (column_by t (Some r) l i),
    )

    -- one filled sheet
    sheet_settles : (t : ℕ) (r : Record) → t < 32 → record_at book t ≡ Some r → SheetSettles L book left t r
    sheet_settles t r l i =
        record {
          walked = λ e d w. renewed t r (judge heads d) l i e (again_judged heads (counted L book t r) r d w);
          broken = λ e none. renewed t r (bad 3 38 0) l i e (again_broken heads r (form (counted L book t r)) none);
          unmoved = λ e. (
            record_left t l
                ∙ ap (settled L heads (part t book.frames)) i
                ∙ ap₂ (λ k b. Some (record { name = r.name; head = r.head; size = r.size; kept = k; due = b }))
                (cond-false r.due (blame (walked_again L heads (form (counted L book t r)) r)) r.kept e) (sym e),
            cc (column_by t (Some r) l i),
          );
        }

    -- the fault answered is the lowest that a record now keeps
    lowest_left : working_fault L book ≡ lowest 32 (λ t. kept_fault t (record_at left t))
    unfolding checked_record
    lowest_left = lowest_same 32 (λ t. kept_fault t (checked_record L book t)) (λ t. kept_fault t (record_at left t)) (λ t l. ap (kept_fault t) (sym (record_left t l)))

    -- the frames are not altered
    frames_left : left.frames ≡ book.frames
    unfolding working_after
    frames_left = refl

    -- all sheets
    settles_left : Settles L book (checked (count_below 32 (λ t. due_flag (record_at book t))) (working_fault L book)) left
    settles_left =
        record {
          sheets = sheet_settles;
          empties = λ t l i. (record_left t l ∙ ap (settled L heads (part t book.frames)) i, column_by t None l i);
          frames = frames_left;
          told = ap (checked (count_below 32 (λ t. due_flag (record_at book t)))) lowest_left;
        }

  -- what an accepted check does from any state
  pub settles : (book : State Frame) (c : Call L) (r : Answer L) (book' : State Frame) → length book.column ≡ 8192 → outcome L (working_signatures book) c ≡ Ok walked → Does L book c r book' → Settles L book r book'
  unfolding working_stepped working_told
  settles book c r book' wide acc d =
      subst (λ q. Settles L book q book') (sym (d.answered ∙ ap (working_told L book) acc))
      (subst (Settles L book (checked (count_below 32 (λ t. due_flag (record_at book t))) (working_fault L book))) (sym (d.left ∙ ap (working_stepped L book) acc)) (settles_left book wide))
