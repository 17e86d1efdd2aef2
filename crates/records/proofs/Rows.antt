-- The rows of a table of records: one of them in the law's words, its signature, a write, and the rows of a new book.
use Rattle.std.proofs.Common.{◌≡◌, ℕ, zero, suc, ◌<◌, Bool, true, false, ◌==◌, List, map, length, get_or, set, replicate, Some, None, Option, sym, refl, ap, ◌∙◌, subst, ap₂, inl, inr, get_or-set_other, get_or-set_same}
use lib.ListN.{get_or-map}
use Rattle.std.proofs.lemmas.Bool.{cases_eq, eqb-true, eq-eqb, both_ways, false≢true}
use Rattle.syntax.specs.declared.frame.Frame.{Frame}
use Rattle.history.specs.Words.{map_some}
use Rattle.history.specs.Areas.{table}
use Rattle.history.specs.Working.{record_at, record_signature, new_book}
use Rattle.records.specs.declared.record.Record.{Record}
use Rattle.records.specs.Records.{signature_of, record_of, state_of, signatures_of, is_head, headed, clash}

-- ## one row

-- the law's record of sheet t is that of its row
pub record_read : (rs : List (Option Record)) (t : ℕ) → get_or (map record_of rs) t None ≡ record_of (get_or rs t None)
record_read rs t = get_or-map record_of rs t None

-- so it is in the working book
pub row_at : (rs : List (Option Record)) (v : Bool) (f : List Frame) (k : List ℕ) (t : ℕ) → record_at (state_of rs v f k) t ≡ record_of (get_or rs t None)
row_at rs v f k t = record_read rs t

-- the name and head of a sheet, if it is filled
abbrev pub signed_by : Option Record → Option (ℕ × ℕ)
signed_by o = map_some (λ (r : Record). signature_of r.signature) o

-- they are those of its words
pub signed_row : (o : Option Record) → map_some record_signature (record_of o) ≡ signed_by o
signed_row None = refl
signed_row (Some r) = refl

-- the signature of sheet t
pub signature_read : (rs : List (Option Record)) (t : ℕ) → signatures_of rs t ≡ signed_by (get_or rs t None)
signature_read rs t = ap (map_some record_signature) (record_read rs t) ∙ signed_row (get_or rs t None)

-- ## a write

-- what holds of each row and of the row written holds of each row after the write
each_after : (P : Option Record → Type 0) (rs : List (Option Record)) (s : ℕ) (r : Option Record) → s < length rs → P r → ((t : ℕ) → P (get_or rs t None)) → (t : ℕ) → P (get_or (set rs s r) t None)
each_after P rs s r l p ps t =
    elim (cases_eq t s) [
      | inl e ↦ subst (λ u. P (get_or (set rs s r) u None)) (sym e) (subst P (sym (get_or-set_same rs s r None l)) p)
      | inr n ↦ subst P (sym (get_or-set_other rs s t r None n)) (ps t)
    ]

-- each filled row has the number of a head still
pub headed_after : (rs : List (Option Record)) (s : ℕ) (r : Option Record) → s < length rs → headed r ≡ true → ((t : ℕ) → headed (get_or rs t None) ≡ true) → (t : ℕ) → headed (get_or (set rs s r) t None) ≡ true
headed_after rs s r l = each_after (λ x. headed x ≡ true) rs s r l

-- two rows clash in either order
clash_turned : (a b : Option Record) → clash a b ≡ true → clash b a ≡ true
clash_turned None b e = absurd (false≢true e)
clash_turned (Some a) None e = absurd (false≢true e)
clash_turned (Some a) (Some b) e = eq-eqb b.signature.name a.signature.name (sym (eqb-true a.signature.name b.signature.name e))

module _ (rs : List (Option Record)) (s : ℕ) (r : Option Record) (l : s < length rs) (free : (t : ℕ) → (t ≡ s → ⊥) → clash (get_or rs t None) r ≡ false) where
  -- the row written clashes with no other
  written_apart : (t : ℕ) → clash (get_or (set rs s r) t None) r ≡ true → t ≡ s
  written_apart t e =
      elim (cases_eq t s) [
        | inl i ↦ i
        | inr n ↦ absurd (both_ways (clash (get_or rs t None) r) (free t n) (subst (λ x. clash x r ≡ true) (get_or-set_other rs s t r None n) e))
      ]

  -- no two rows have one name still, if the new one's stands on no other sheet
  pub apart_after : ((t u : ℕ) → clash (get_or rs t None) (get_or rs u None) ≡ true → t ≡ u) → (t u : ℕ) → clash (get_or (set rs s r) t None) (get_or (set rs s r) u None) ≡ true → t ≡ u
  apart_after apart t u e =
      let same = get_or-set_same rs s r None l in
      elim (cases_eq u s) [
        | inl i ↦
            let at_s = subst (λ w. clash (get_or (set rs s r) t None) (get_or (set rs s r) w None) ≡ true) i e in
            written_apart t (subst (λ x. clash (get_or (set rs s r) t None) x ≡ true) same at_s) ∙ sym i
        | inr n ↦
            elim (cases_eq t s) [
              | inl i ↦
                  let at_s = subst (λ w. clash (get_or (set rs s r) w None) (get_or (set rs s r) u None) ≡ true) i e in
                  let turned = clash_turned r (get_or (set rs s r) u None) (subst (λ x. clash x (get_or (set rs s r) u None) ≡ true) same at_s) in
                  i ∙ sym (written_apart u turned)
              | inr m ↦
                  apart t u
                  (subst (λ x. clash (get_or rs t None) x ≡ true) (get_or-set_other rs s u r None n)
                  (subst (λ x. clash x (get_or (set rs s r) u None) ≡ true) (get_or-set_other rs s t r None m) e))
            ]
      ]

-- ## rows that keep their signatures

-- whether a row has the number of a head, its signature tells
headed_by : Option (ℕ × ℕ) → Bool
headed_by None = true
headed_by (Some p) = is_head p.1

-- and whether two clash
clash_by : Option (ℕ × ℕ) → Option (ℕ × ℕ) → Bool
clash_by None q = false
clash_by (Some p) None = false
clash_by (Some p) (Some q) = p.0 == q.0

headed_told : (a : Option Record) → headed a ≡ headed_by (signed_by a)
unfolding headed_by
headed_told None = refl
headed_told (Some x) = refl

clash_told : (a b : Option Record) → clash a b ≡ clash_by (signed_by a) (signed_by b)
unfolding clash_by
clash_told None b = refl
clash_told (Some x) None = refl
clash_told (Some x) (Some y) = refl

module _ (rs rs' : List (Option Record)) (same : (t : ℕ) → signed_by (get_or rs' t None) ≡ signed_by (get_or rs t None)) where
  -- each filled row has the number of a head still
  pub headed_kept : ((t : ℕ) → headed (get_or rs t None) ≡ true) → (t : ℕ) → headed (get_or rs' t None) ≡ true
  headed_kept heads t = headed_told (get_or rs' t None) ∙ ap headed_by (same t) ∙ sym (headed_told (get_or rs t None)) ∙ heads t

  -- and no two rows have one name
  pub apart_kept : ((t u : ℕ) → clash (get_or rs t None) (get_or rs u None) ≡ true → t ≡ u) → (t u : ℕ) → clash (get_or rs' t None) (get_or rs' u None) ≡ true → t ≡ u
  apart_kept apart t u e =
      apart t u (clash_told (get_or rs t None) (get_or rs u None) ∙ ap₂ clash_by (sym (same t)) (sym (same u)) ∙ sym (clash_told (get_or rs' t None) (get_or rs' u None)) ∙ e)

-- ## a new book

-- each row of it is empty
new_row : (n t : ℕ) → ◌≡◌ {A = Option Record} (get_or (replicate n None) t None) None
new_row zero t = refl
new_row (suc n) zero = refl
new_row (suc n) (suc t) = new_row n t

-- so each filled row has the number of a head
pub new_headed : (t : ℕ) → headed (get_or (replicate 32 None) t None) ≡ true
new_headed t = ap headed (new_row 32 t)

-- and no two rows have one name
pub new_apart : (t u : ℕ) → clash (get_or (replicate 32 None) t None) (get_or (replicate 32 None) u None) ≡ true → t ≡ u
new_apart t u e =
    absurd (both_ways (clash (get_or (replicate 32 None) t None) (get_or (replicate 32 None) u None)) (ap (λ x. clash x (get_or (replicate 32 None) u None)) (new_row 32 t)) e)

-- a table of empty rows is a new book, whatever the areas hold
pub new_state : (rs : List (Option Record)) → rs ≡ replicate 32 None → (f : List Frame) (k : List ℕ) → state_of rs false f k ≡ new_book f k
unfolding new_book table
new_state rs e f k = ap (λ q. state_of q false f k) e
