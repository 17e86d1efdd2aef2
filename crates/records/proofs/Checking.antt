-- A check as a whole: refused, or every due sheet walked.
use Rattle.std.proofs.Common.{◌≡◌, ℕ, ◌<◌, ◌≤◌, Bool, false, not, ◌||◌, ltb, ◌⊎◌, List, map, length, get_or, is_some, Some, None, Ok, Err, Option, Result, sym, refl, ap, ◌∙◌, ap₂, inl, inr}
use Rattle.std.proofs.lemmas.List.{length-map}
use Rattle.std.proofs.lemmas.List.FromFn.{fill_by_all}
use Rattle.std.proofs.lemmas.Bool.{or_from, or_left, or_right, lt-ltb, le-ltb, not-true, not-false}
use Rattle.syntax.specs.declared.frame.Frame.{Frame}
use Rattle.levels.specs.Store.{Store}
use Rattle.history.specs.Words.{lowest, count_below, map_some, filled}
use Rattle.history.specs.Language.{Fault, Signatures}
use Rattle.history.specs.Calls.{refusal, guard, Call, Call.check, Act, Act.walked, outcome, Answer.checked}
use Rattle.history.specs.Areas.{rewritten, table}
use Rattle.history.specs.Working.{State, record_at, working_signatures, due_flag, kept_fault, checked_record, checked_column, working_fault, working_after, working_stepped, working_told}
use Rattle.history.specs.Runs.{Does}
use Rattle.history.proofs.Words.{lowest_same}
use Rattle.cpp.specs.Cpp.{cpp}
use Rattle.records.specs.declared.record.Record.{Record}
use Rattle.records.specs.declared.fault.Fault.{Fault as Refusal}
use Rattle.records.specs.Faults.{told}
use Rattle.records.specs.Records.{record_of, state_of}
use Rattle.records.specs.Stores.{sheet_levels, variables_left}
use Rattle.records.proofs.Rows.{record_read}
use Rattle.records.proofs.Refusing.{OtherLength, other_sized, both_sized}
use Rattle.records.proofs.Lowest.{kept_at}

-- ## the tests

module _ (g : Signatures) (fl cl a b : ℕ) where
  -- the check after both tests
  abbrev tests : Bool → Bool → Result (Act cpp) Fault
  tests x y = guard cpp (not x) (refusal 32 255) (guard cpp y (refusal 39 255) (Ok walked))

  -- an area of another length: 32
  pub check_sizes : OtherLength fl cl → outcome cpp g (check fl cl a b) ≡ Err (refusal 32 255)
  unfolding outcome
  check_sizes o = ap (λ x. tests x (ltb a 256 || ltb b 256)) (other_sized fl cl o)

  module _ (p : fl ≡ 8192) (q : cl ≡ 8192) where
    -- a store too small: 39
    pub check_rooms : (a < 256) ⊎ (b < 256) → outcome cpp g (check fl cl a b) ≡ Err (refusal 39 255)
    unfolding outcome
    check_rooms o =
        ap₂ tests (both_sized fl cl p q) (elim o [ inl l ↦ or_left (ltb a 256) (ltb b 256) (lt-ltb a 256 l) | inr l ↦ or_right (ltb a 256) (ltb b 256) (lt-ltb b 256 l) ])

    -- else the check walks
    pub check_accepted : 256 ≤ a → 256 ≤ b → outcome cpp g (check fl cl a b) ≡ Ok walked
    unfolding outcome
    check_accepted l m = ap₂ tests (both_sized fl cl p q) (or_from (ltb a 256) (ltb b 256) (le-ltb a 256 l) (le-ltb b 256 m))

-- ## what the check does

-- a book is valid where there is no fault to tell
pub valid_told : (o : Option Refusal) (v : Bool) → is_some o ≡ not v → v ≡ not (filled (map_some told o))
valid_told (Some x) v e = not-true v (sym e)
valid_told None v e = not-false v (sym e)

-- an accepted check: the records and the column after it
module _ (rs rs' : List (Option Record)) (v v' : Bool) (fs : List Frame) (k k' : List ℕ) (n : ℕ) (o : Option Fault)
    (full : length rs' ≡ 32)
    (count : n ≡ count_below 32 (λ t. due_flag (record_at (state_of rs false fs k) t)))
    (records : (t : ℕ) → t < 32 → record_of (get_or rs' t None) ≡ checked_record cpp (state_of rs false fs k) t)
    (column : k' ≡ rewritten 32 (λ t. due_flag (record_at (state_of rs false fs k) t)) (checked_column cpp (state_of rs false fs k)) k)
    (fault : o ≡ lowest 32 (kept_at rs')) (valid : v' ≡ not (filled o)) where
  -- the book before
  abbrev book : State Frame
  book = state_of rs v fs k

  -- whether it was valid does not matter
  record_left : (t : ℕ) → t < 32 → record_of (get_or rs' t None) ≡ checked_record cpp book t
  unfolding checked_record
  record_left t l = records t l

  -- each record is the check's
  records_left : map record_of rs' ≡ table (checked_record cpp book)
  unfolding table
  records_left = fill_by_all (checked_record cpp book) (map record_of rs') 32 None (length-map rs' record_of ∙ full) (λ t l. record_read rs' t ∙ record_left t l)

  -- so is the column
  column_left : k' ≡ rewritten 32 (λ t. due_flag (record_at book t)) (checked_column cpp book) k
  unfolding checked_column
  column_left = column

  -- and the fault answered
  fault_left : o ≡ working_fault cpp book
  fault_left = fault ∙ lowest_same 32 (kept_at rs') (λ t. kept_fault t (checked_record cpp book t)) (λ t l. ap (kept_fault t) (record_left t l))

  -- the state that the check leaves
  state_left : state_of rs' v' fs k' ≡ working_after cpp book walked
  unfolding working_after
  state_left = λ i. record { records = records_left i; frames = fs; column = column_left i; valid = (valid ∙ ap (λ x. not (filled x)) fault_left) i }

  -- the check does what the working book does
  pub check_does : (c : Call cpp) → outcome cpp (working_signatures book) c ≡ Ok walked → Does cpp book c (checked n o) (state_of rs' v' fs k')
  unfolding working_told working_stepped
  check_does c e =
      record {
        answered = ap₂ checked count fault_left ∙ sym (ap (working_told cpp book) e);
        left = state_left ∙ sym (ap (working_stepped cpp book) e);
      }

-- the variables left do not hang on whether the book was valid
pub variables_same : (rs : List (Option Record)) (v w : Bool) (fs : List Frame) (k : List ℕ) (s : Store ℕ) → variables_left (state_of rs v fs k) s ≡ variables_left (state_of rs w fs k) s
unfolding sheet_levels
variables_same rs v w fs k s = refl
