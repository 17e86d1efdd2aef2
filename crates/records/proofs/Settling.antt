-- The loop over the sheets: what it has settled below t, and one sheet more.
use Rattle.std.proofs.Common.{◌≡◌, ℕ, suc, ◌+◌, ◌<◌, ◌≤◌, Bool, true, false, cond, List, length, get_or, take, set, Some, None, Option, sym, refl, ap, ◌∙◌, subst, ap₂, subst₂, inl, inr, add-zero, arith}
use mathlib.Core.Path.{subst₃}
use Rattle.std.proofs.lemmas.List.{get_or-set_same, get_or-set_other}
use Rattle.std.proofs.lemmas.Bool.{cond-true, cond-false, cases_eq, cases_lt}
use Rattle.syntax.specs.declared.frame.Frame.{Frame}
use Rattle.levels.specs.Store.{Store}
use Rattle.walk.specs.declared.verdict.Verdict.{Verdict}
use Rattle.history.specs.Words.{count_below, map_some}
use Rattle.history.specs.Language.{Heads, heads_of, blame}
use Rattle.history.specs.Areas.{part, with_part, rewritten}
use Rattle.history.specs.Working as working
use Rattle.history.specs.Working.{State, record_at, record_signature, due_flag, walked_record, walked_again, settled, walked_column, checked_record, checked_column}
use Rattle.cpp.specs.Sheet.{form}
use Rattle.cpp.specs.Cpp.{cpp}
use Rattle.records.specs.declared.record.Record.{Record}
use Rattle.records.specs.Records.{kept_of, row_of, record_of, renewed, signatures_of, state_of}
use Rattle.records.specs.Stores.{levels_again, levels_walked, highest, releveled, sheet_levels}
use Rattle.records.specs.Walks.{judged, SheetWalked}
use Rattle.records.proofs.Rows.{record_read, signed_by, signed_row, signature_read}
use Rattle.records.proofs.OneMore.{count_more, count_few, rewritten_more, highest_more, releveled_twice}

-- ## a record that is not due

-- a check leaves it
idle_record : (h : Heads) (b : List Frame) (x : Option working.Record) → due_flag x ≡ false → x ≡ settled cpp h b x
idle_record h b None e = refl
idle_record h b (Some w) e =
    sym (ap (λ v. Some (walked_record w v)) (cond-false w.due (blame (walked_again cpp h (form (take w.size b)) w)) w.kept e)
    ∙ ap (λ d. Some (record { name = w.name; head = w.head; size = w.size; kept = w.kept; due = d })) (sym e))

-- and it has no walk
idle_levels : (h : Heads) (b : List Frame) (x : Option working.Record) → due_flag x ≡ false → levels_walked h b x ≡ None
idle_levels h b None e = refl
idle_levels h b (Some w) e = cond-false w.due (levels_again h (form (take w.size b)) w) None e

-- ## what is settled

-- the sheets below t are as the check leaves them and the others as before, the column, the variables and the count likewise
pub record SettledBelow (rs₀ : List (Option Record)) (fs : List Frame) (k₀ : List ℕ) (s₀ : Store ℕ) (t : ℕ) (rs : List (Option Record)) (k : List ℕ) (s : Store ℕ) (n : ℕ) : Type 0 where
  pub below : (u : ℕ) → u < t → record_of (get_or rs u None) ≡ checked_record cpp (state_of rs₀ false fs k₀) u
  pub above : (u : ℕ) → t ≤ u → get_or rs u None ≡ get_or rs₀ u None
  pub column : k ≡ rewritten t (λ u. due_flag (record_at (state_of rs₀ false fs k₀) u)) (checked_column cpp (state_of rs₀ false fs k₀)) k₀
  pub variables : s ≡ releveled s₀ (highest t (sheet_levels (state_of rs₀ false fs k₀)))
  pub count : n ≡ count_below t (λ u. due_flag (record_at (state_of rs₀ false fs k₀) u))

module _ (rs₀ : List (Option Record)) (fs : List Frame) (k₀ : List ℕ) (s₀ : Store ℕ) where
  -- the book before
  abbrev book : State Frame
  book = state_of rs₀ false fs k₀

  -- the sheet is marked due
  abbrev flag : ℕ → Bool
  flag u = due_flag (record_at book u)

  -- the heads of all records
  abbrev heads : Heads
  heads = heads_of (signatures_of rs₀)

  -- before the first sheet
  pub settled_start : SettledBelow rs₀ fs k₀ s₀ 0 rs₀ k₀ s₀ 0
  unfolding rewritten highest count_below
  settled_start = record { below = λ u l. absurd (omega arith); above = λ u l. refl; column = refl; variables = refl; count = refl }

  module _ (t : ℕ) (rs : List (Option Record)) (k : List ℕ) (s : Store ℕ) (n : ℕ) (so_far : SettledBelow rs₀ fs k₀ s₀ t rs k s n) where
    -- the sheet is settled, and nothing else is altered
    module _ (r : Option Record) (is : get_or rs t None ≡ r) (rs' : List (Option Record)) (k' : List ℕ) (s' : Store ℕ) (n' : ℕ)
        (here : record_of (get_or rs' t None) ≡ settled cpp heads (part t fs) (record_of r)) (others : (u : ℕ) → (u ≡ t → ⊥) → get_or rs' u None ≡ get_or rs u None)
        (column : k' ≡ cond (due_flag (record_of r)) (with_part t (walked_column cpp heads (part t fs) (record_of r)) k) k)
        (variables : s' ≡ releveled s (levels_walked heads (part t fs) (record_of r))) (count : n' ≡ n + cond (due_flag (record_of r)) 1 0) where
      -- its words in the book before
      read : record_at book t ≡ record_of r
      read = record_read rs₀ t ∙ ap record_of (sym (so_far.above t (omega arith)) ∙ is)

      -- its record is that of the check
      here_checked : record_of (get_or rs' t None) ≡ checked_record cpp book t
      unfolding checked_record
      here_checked = here ∙ ap (settled cpp heads (part t fs)) (sym read)

      -- so is the column
      column_checked : k' ≡ rewritten (t + 1) flag (checked_column cpp book) k₀
      unfolding checked_column
      column_checked =
          column
          ∙ ap₂ (λ x y. cond (due_flag x) (with_part t (walked_column cpp heads (part t fs) x) y) y) (sym read) so_far.column
          ∙ sym (rewritten_more t flag (checked_column cpp book) k₀ (flag t) refl)

      -- and the variables
      variables_checked : s' ≡ releveled s₀ (highest (t + 1) (sheet_levels book))
      unfolding sheet_levels
      variables_checked =
          variables
          ∙ ap₂ (λ x y. releveled y (levels_walked heads (part t fs) x)) (sym read) so_far.variables
          ∙ releveled_twice s₀ (highest t (sheet_levels book)) (sheet_levels book t)
          ∙ ap (releveled s₀) (sym (highest_more t (sheet_levels book) (sheet_levels book t) refl))

      -- one sheet more
      settled_more : SettledBelow rs₀ fs k₀ s₀ (t + 1) rs' k' s' n'
      settled_more =
          record {
            below = λ u l.
                elim (cases_eq u t) [
                  | inl e ↦ subst (λ v. record_of (get_or rs' v None) ≡ checked_record cpp book v) (sym e) here_checked
                  | inr e ↦ ap record_of (others u e) ∙ so_far.below u (omega arith)
                ];
            above = λ u l. others u (λ e. omega arith) ∙ so_far.above u (omega arith);
            column = column_checked;
            variables = variables_checked;
            count = count ∙ ap₂ (λ x m. m + cond (due_flag x) 1 0) (sym read) so_far.count ∙ sym (count_more t flag (flag t) refl);
          }

    -- a sheet that is not due
    pub settled_idle : (r : Option Record) → t < length rs → get_or rs t None ≡ r → due_flag (record_of r) ≡ false → SettledBelow rs₀ fs k₀ s₀ (t + 1) (set rs t r) k s n
    settled_idle r l is e =
        settled_more r is (set rs t r) k s n (ap record_of (get_or-set_same rs t r None l) ∙ idle_record heads (part t fs) (record_of r) e) (λ u i. get_or-set_other rs t u r None i)
        (sym (cond-false (due_flag (record_of r)) (with_part t (walked_column cpp heads (part t fs) (record_of r)) k) k e))
        (ap (releveled s) (sym (idle_levels heads (part t fs) (record_of r) e)))
        (sym (ap (λ b. n + cond b 1 0) e ∙ add-zero n))

    -- a sheet that is walked
    pub settled_walked : (r : Record) (v : Verdict) (k' : List ℕ) (s' : Store ℕ) → t < length rs → get_or rs t None ≡ Some r → r.due ≡ true →
        SheetWalked heads (part t fs) t r v k k' s s' → SettledBelow rs₀ fs k₀ s₀ (t + 1) (set rs t (Some (renewed r v false))) k' s' (n + 1)
    settled_walked r v k' s' l is d w =
        settled_more (Some r) is (set rs t (Some (renewed r v false))) k' s' (n + 1)
        (ap record_of (get_or-set_same rs t (Some (renewed r v false)) None l)
        ∙ ap (λ q. Some (walked_record (row_of r) q)) (w.verdict ∙ sym (cond-true r.due (blame (judged heads (part t fs) r)) (kept_of r.kept) d)))
        (λ u i. get_or-set_other rs t u (Some (renewed r v false)) None i)
        (w.column ∙ sym (cond-true r.due (with_part t (walked_column cpp heads (part t fs) (Some (row_of r))) k) k d))
        (w.variables ∙ ap (releveled s) (sym (cond-true r.due (levels_again heads (form (take (suc r.end) (part t fs))) (row_of r)) None d)))
        (ap (λ b. n + cond b 1 0) (sym d))

-- a check leaves each sheet's signature
settled_signature : (h : Heads) (b : List Frame) (x : Option working.Record) → map_some record_signature (settled cpp h b x) ≡ map_some record_signature x
settled_signature h b None = refl
settled_signature h b (Some w) = refl

-- so the sheets have the signatures that they had
pub settled_signed : (rs₀ : List (Option Record)) (fs : List Frame) (k₀ : List ℕ) (s₀ : Store ℕ) (t : ℕ) (rs : List (Option Record)) (k : List ℕ) (s : Store ℕ) (n : ℕ) →
    SettledBelow rs₀ fs k₀ s₀ t rs k s n → (u : ℕ) → signed_by (get_or rs u None) ≡ signed_by (get_or rs₀ u None)
unfolding checked_record
settled_signed rs₀ fs k₀ s₀ t rs k s n w u =
    elim (cases_lt u t) [
      | inl l ↦
          sym (signed_row (get_or rs u None))
          ∙ ap (map_some record_signature) (w.below u l)
          ∙ settled_signature (heads_of (signatures_of rs₀)) (part u fs) (record_at (state_of rs₀ false fs k₀) u)
          ∙ signature_read rs₀ u
      | inr l ↦ ap signed_by (w.above u l)
    ]

-- at most the sheets below are counted
pub settled_few : {rs₀ : List (Option Record)} {fs : List Frame} {k₀ : List ℕ} {s₀ : Store ℕ} {t : ℕ} {rs : List (Option Record)} {k : List ℕ} {s : Store ℕ} {n : ℕ} →
    SettledBelow rs₀ fs k₀ s₀ t rs k s n → n ≤ t
settled_few {rs₀ = rs₀} {fs = fs} {k₀ = k₀} {t = t} w = let few = count_few t (λ u. due_flag (record_at (state_of rs₀ false fs k₀) u)) in omega (arith, w.count)

-- the same by other names
pub settled_same : (rs₀ : List (Option Record)) (fs : List Frame) (k₀ : List ℕ) (s₀ : Store ℕ) {t t' : ℕ} {rs rs' : List (Option Record)} {k k' : List ℕ} {s s' : Store ℕ} {n n' : ℕ} →
    t ≡ t' → rs' ≡ rs → k' ≡ k → s' ≡ s → n' ≡ n → SettledBelow rs₀ fs k₀ s₀ t rs k s n → SettledBelow rs₀ fs k₀ s₀ t' rs' k' s' n'
settled_same rs₀ fs k₀ s₀ {t = t} {t' = t'} {rs = rs} {k = k} {s = s} {n = n} {n' = n'} a b c d e w =
    subst₃ (λ q x y. SettledBelow rs₀ fs k₀ s₀ t' q x y n') (sym b) (sym c) (sym d) (subst₂ (λ u m. SettledBelow rs₀ fs k₀ s₀ u rs k s m) a (sym e) w)
