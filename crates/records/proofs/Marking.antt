-- The marks on the callers of a name whose head changes.
use Rattle.std.proofs.Common.{◌≡◌, ℕ, Bool, true, false, cond, not, ◌&&◌, ◌||◌, eqb, eq-eqb, List, [], ◌∷◌, get_or, take, suc, Some, None, Option, refl, sym, ap, ap₂, ◌∙◌, subst}
use Rattle.std.specs.List.{list_any}
use Rattle.syntax.specs.declared.frame.Frame.{Frame}
use Rattle.rules.specs.Calls.{calls}
use Rattle.history.specs.Words.{any_of}
use Rattle.history.specs.Language.{head_for, differ}
use Rattle.history.specs.Areas.{part}
use Rattle.history.specs.Working.{marked}
use Rattle.cpp.specs.Cpp.{cpp}
use Rattle.records.specs.declared.record.Record.{Record}
use Rattle.records.specs.Records.{record_of, renewed, calls_changed, marked_record}
use Rattle.records.proofs.Rows.{signed_by}
use Rattle.records.proofs.Updates.{UpdatedTo, updated_kept}

module _ (o w : Option (ℕ × ℕ)) where
  -- the two signatures give the name another head
  abbrev changes : ℕ → Bool
  changes n = differ (head_for n o) (head_for n w)

  -- ## the frames of a sheet

  -- the test that a frame is a call of a changed name, for any frame of a list
  pub calls_any : (fs : List Frame) → list_any (λ (f : Frame). eqb f.kind 0x26 && changes f.name) fs ≡ calls_changed o w fs
  unfolding any_of
  calls_any [] = refl
  calls_any (f ∷ fs) =
      elim (eqb f.kind 0x26) as (λ b. ((b && changes f.name) || list_any (λ (f : Frame). eqb f.kind 0x26 && changes f.name) fs) ≡ any_of changes (cond b (f.name ∷ calls fs) (calls fs))) [
        | true ↦ ap (λ q. changes f.name || q) (calls_any fs)
        | false ↦ calls_any fs
      ]

  -- ## a record

  -- a marked record is the law's
  pub marked_told : (b : List Frame) (r : Option Record) → record_of (marked_record o w b r) ≡ marked cpp o w b (record_of r)
  marked_told b None = refl
  marked_told b (Some r) = refl

  -- a mark leaves the signature
  marked_signed : (b : List Frame) (r : Option Record) → signed_by (marked_record o w b r) ≡ signed_by r
  marked_signed b None = refl
  marked_signed b (Some r) = refl

  -- so the sheets that a loop has marked have the signatures that they had
  pub marks_signed : (fs : List Frame) (old : List (Option Record)) (t : ℕ) (new : List (Option Record)) → UpdatedTo None (λ u. marked_record o w (part u fs)) old t new →
      (u : ℕ) → signed_by (get_or new u None) ≡ signed_by (get_or old u None)
  marks_signed fs old t new = updated_kept None (λ u. marked_record o w (part u fs)) old signed_by (λ u r. marked_signed (part u fs) r) t new

-- ## a signature that stays

-- an answer does not differ from itself
differs_not : (a : Option ℕ) → differ a a ≡ false
differs_not None = refl
differs_not (Some n) = ap not (eq-eqb n n refl)

-- so it changes none of the names
none_changes : (s : Option (ℕ × ℕ)) (ns : List ℕ) → any_of (changes s s) ns ≡ false
unfolding any_of
none_changes s [] = refl
none_changes s (n ∷ ns) = ap₂ (λ p q. p || q) (differs_not (head_for n s)) (none_changes s ns)

-- a mark stays beside a test that fails
still_due : (d : Bool) → (d || false) ≡ d
still_due true = refl
still_due false = refl

-- and no record is marked anew
pub unmarked : (o w : Option (ℕ × ℕ)) → o ≡ w → (b : List Frame) (r : Option Record) → r ≡ marked_record o w b r
unmarked o w e b None = refl
unmarked o w e b (Some r) =
    let fs = take (suc r.end) b in
    let none : calls_changed o w fs ≡ false = subst (λ v. calls_changed o v fs ≡ false) e (none_changes o (calls fs)) in
    ap (λ d. Some (renewed r r.kept d)) (sym (ap (λ q. r.due || q) none ∙ still_due r.due))
