-- One sheet's record and its parts of the areas replaced, and its callers marked: what put and clear leave.
use Rattle.std.proofs.Common.{◌≡◌, ℕ, suc, ◌<◌, Bool, true, false, cond, eqb, List, map, length, get_or, set, replicate, Some, None, Option, sym, refl, ap, ◌∙◌, ap₂, inl, inr, arith}
use Rattle.std.proofs.lemmas.Bool.{cond-true, cond-false, eq-eqb, ne_eqb, cases_eq, cases_lt, cases_Bool, false≢true}
use Rattle.std.proofs.lemmas.List.{length-map, length-set, get_or-set_same, get_or-set_other, get_or_past}
use Rattle.std.proofs.lemmas.List.FromFn.{fill_by_all}
use Rattle.syntax.specs.declared.frame.Frame.{Frame}
use Rattle.syntax.specs.Writing.{blank}
use Rattle.frames.specs.declared.formed.Formed.{Formed}
use Rattle.frames.specs.Sheets.{frames_of, sheet_of}
use Rattle.walk.specs.declared.verdict.Verdict.TheVariants.{Valid}
use Rattle.history.specs.Words.{updated, filled}
use Rattle.history.specs.Language.{head_for, zeros, image, blanks, signature}
use Rattle.history.specs.Calls.{Act.wrote, Act.emptied, elsewhere}
use Rattle.history.specs.Areas.{part, with_part, table}
use Rattle.history.specs.Working as working
use Rattle.history.specs.Working.{State, record_at, marked, new_record, replaced, working_after}
use Rattle.history.proofs.Words.{updated_other, lowest_none_at, filled_none}
use Rattle.cpp.specs.Sheet.{Sheet}
use Rattle.cpp.specs.Heads.{name_of, head_number}
use Rattle.cpp.specs.Cpp.{cpp}
use Rattle.records.specs.declared.record.Record.{Record}
use Rattle.records.specs.Records.{record_of, signatures_of, state_of, marked_record, clash}
use Rattle.records.specs.Sheets.{sheet_from}
use Rattle.records.proofs.Rows.{signed_by, signature_read, row_at}
use Rattle.records.proofs.Marking.{marked_told}

module _ (rs : List (Option Record)) (v : Bool) (f : List Frame) (k : List ℕ) (s : ℕ) (o w : Option (ℕ × ℕ)) (marks : List (Option Record))
    (l : s < 32) (full : length marks ≡ 32) (old : o ≡ signatures_of rs s)
    (was : (t : ℕ) → t < 32 → get_or marks t None ≡ marked_record o w (part t f) (get_or rs t None)) where
  -- the book before
  abbrev book : State Frame
  book = state_of rs v f k

  -- ## the name that is put

  -- a marked record has the old name
  marked_clash : (b : List Frame) (x r : Option Record) → clash (marked_record o w b x) r ≡ clash x r
  marked_clash b None r = refl
  marked_clash b (Some x) None = refl
  marked_clash b (Some x) (Some r) = refl

  -- a sheet that clashes has a head for the name
  clash_headed : (x : Option Record) (r : Record) → clash x (Some r) ≡ true → filled (head_for r.signature.name (signed_by x)) ≡ true
  clash_headed None r e = e
  clash_headed (Some x) r e = ap (λ q. filled (cond q (Some x.signature.head) None)) e

  -- a name that is not elsewhere clashes with no other sheet
  pub free_apart : (r : Record) → false ≡ elsewhere cpp (signatures_of rs) s r.signature.name → (t : ℕ) → (t ≡ s → ⊥) → clash (get_or marks t None) (Some r) ≡ false
  free_apart r free t ne =
      elim (cases_lt t 32) [
        | inl m ↦
            ap (λ q. clash q (Some r)) (was t m)
            ∙ marked_clash (part t f) (get_or rs t None) (Some r)
            ∙ elim (cases_Bool (clash (get_or rs t None) (Some r))) [
              | inl y ↦
                  let none = lowest_none_at 32 (λ u. head_for r.signature.name (updated (signatures_of rs) s None u)) (filled_none _ (sym free)) t m in
                  let there = ap (λ q. filled (head_for r.signature.name q)) (signature_read rs t) ∙ clash_headed (get_or rs t None) r y in
                  absurd (false≢true (sym (ap filled (ap (head_for r.signature.name) (sym (updated_other (signatures_of rs) s None t ne)) ∙ none)) ∙ there))
              | inr n ↦ n
            ]
        | inr m ↦ ap (λ q. clash q (Some r)) (get_or_past marks t None (omega arith))
      ]

  -- ## the records

  module _ (r : Option Record) where
    -- the records in the law's words
    abbrev new_records : ℕ → Option working.Record
    new_records t = cond (eqb t s) (record_of r) (marked cpp (signatures_of rs s) w (part t f) (record_at book t))

    record_after : (t : ℕ) → t < 32 → get_or (map record_of (set marks s r)) t None ≡ new_records t
    record_after t m =
        row_at (set marks s r) v f k t
        ∙ elim (cases_eq t s) [
          | inl i ↦
              ap (λ u. record_of (get_or (set marks s r) u None)) i ∙ ap record_of (get_or-set_same marks s r None (omega arith))
              ∙ sym (cond-true (eqb t s) (record_of r) (marked cpp (signatures_of rs s) w (part t f) (record_at book t)) (eq-eqb t s i))
          | inr n ↦
              ap record_of (get_or-set_other marks s t r None n ∙ was t m) ∙ marked_told o w (part t f) (get_or rs t None)
              ∙ ap₂ (λ q p. marked cpp q w (part t f) p) old (sym (row_at rs v f k t))
              ∙ sym (cond-false (eqb t s) (record_of r) (marked cpp (signatures_of rs s) w (part t f) (record_at book t)) (ne_eqb t s n))
        ]

    records_after : map record_of (set marks s r) ≡ table new_records
    unfolding table
    records_after =
        fill_by_all new_records (map record_of (set marks s r)) 32 None (length-map (set marks s r) record_of ∙ length-set marks s r ∙ full) record_after

    -- the book after
    pub state_after : (b f' : List Frame) (k' : List ℕ) → f' ≡ with_part s b f → k' ≡ with_part s zeros k → state_of (set marks s r) false f' k' ≡ replaced cpp book s (record_of r) w b
    state_after b f' k' p q = λ i. record { records = records_after i; frames = p i; column = q i; valid = false }

-- ## put and clear

-- the record of a formed sheet is that of its definition
module _ (x : Formed) (n h e : ℕ) (named : n ≡ name_of (sheet_from x)) (headed : h ≡ head_number (sheet_from x)) (ends : suc e ≡ length (frames_of x)) where
  -- the record that put writes
  abbrev pub put_record : Record
  put_record = record { signature = record { name = n; head = h }; end = e; due = true; kept = Valid }

  pub put_record_told : record_of (Some put_record) ≡ Some (new_record cpp (sheet_from x))
  put_record_told = λ i. Some (record { name = named i; head = headed i; size = ends i; kept = None; due = true })

  pub put_signature : ◌≡◌ {A = Option (ℕ × ℕ)} (Some (n, h)) (Some (signature cpp (sheet_from x)))
  put_signature = λ i. Some (named i, headed i)

-- its frames and blank ones after them are its part
pub sheet_image : (x : Formed) → sheet_of x ≡ image cpp (sheet_from x)
unfolding image
sheet_image x = refl

-- 256 zeros are a part without types
pub zeros_part : replicate 256 0 ≡ zeros
unfolding zeros
zeros_part = refl

-- 256 blank frames are an empty sheet's part
pub blanks_part : replicate 256 blank ≡ blanks cpp
unfolding blanks
blanks_part = refl

-- an accepted put
pub put_after : (book book' : State Frame) (s : ℕ) (d : Sheet) (r : Option working.Record) (w : Option (ℕ × ℕ)) (b : List Frame) → r ≡ Some (new_record cpp d) → w ≡ Some (signature cpp d) → b ≡ image cpp d → book' ≡ replaced cpp book s r w b → book' ≡ working_after cpp book (wrote s d)
unfolding working_after
put_after book book' s d r w b p q i e = e ∙ λ j. replaced cpp book s (p j) (q j) (i j)

-- an accepted clear
pub clear_after : (book book' : State Frame) (s : ℕ) (b : List Frame) → b ≡ blanks cpp → book' ≡ replaced cpp book s None None b → book' ≡ working_after cpp book (emptied s)
unfolding working_after
clear_after book book' s b i e = e ∙ ap (replaced cpp book s None None) i
