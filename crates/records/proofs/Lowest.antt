-- The fault of the lowest faulty sheet, by the verdicts kept.
use Rattle.std.proofs.Common.{◌≡◌, ℕ, zero, suc, ◌+◌, ◌<◌, true, false, List, get_or, is_some, Some, None, Option, refl, sym, ap, ◌∙◌, subst, ap₂, inl, inr, add-one, arith}
use Rattle.std.proofs.lemmas.Bool.{cases_eq, false≢true}
use Rattle.history.specs.Words.{or_else, lowest, map_some}
use Rattle.history.specs.Language.{Fault}
use Rattle.history.specs.Working.{kept_fault}
use Rattle.records.specs.declared.record.Record.{Record}
use Rattle.records.specs.declared.fault.Fault.{Fault as Refusal}
use Rattle.records.specs.Faults.{told}
use Rattle.records.specs.Records.{record_of}

-- no number answers below 0
pub lowest_start : {X : Type 0} (f : ℕ → Option X) → lowest 0 f ≡ None
unfolding lowest
lowest_start f = refl

-- the next number has no answer either
pub lowest_more : {X : Type 0} (k : ℕ) (f : ℕ → Option X) → lowest k f ≡ None → f k ≡ None → lowest (k + 1) f ≡ None
lowest_more k f e i = ap (λ n. lowest n f) (add-one k) ∙ (unfold lowest in ap₂ or_else e i)

-- the first answer found is the lowest
pub lowest_found : {X : Type 0} (n k : ℕ) (f : ℕ → Option X) (x : X) → lowest k f ≡ None → f k ≡ Some x → k < n → lowest n f ≡ Some x
unfolding lowest
lowest_found zero k f x e i l = absurd (omega arith)
lowest_found (suc n) k f x e i l =
    elim (cases_eq k n) [
      | inl j ↦ ap₂ or_else (subst (λ m. lowest m f ≡ None) j e) (subst (λ m. f m ≡ Some x) j i)
      | inr j ↦ ap (λ o. or_else o (f n)) (lowest_found n k f x e i (omega arith))
    ]

-- the fault that sheet t keeps
abbrev pub kept_at : List (Option Record) → ℕ → Option Fault
kept_at rs t = kept_fault t (record_of (get_or rs t None))

-- a fault that is there is told
pub told_there : (r : Option Refusal) → is_some r ≡ true → (f : Fault) × (map_some told r ≡ Some f)
told_there (Some e) i = (told e, refl)
told_there None i = absurd (false≢true i)

-- and one that is not is not
pub told_none : (r : Option Refusal) → is_some r ≡ false → map_some told r ≡ None
told_none (Some e) i = absurd (false≢true (sym i))
told_none None i = refl
