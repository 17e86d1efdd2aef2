-- The search for a name on another sheet.
use Rattle.std.proofs.Common.{◌≡◌, ℕ, ◌<◌, Bool, true, false, cond, not, eqb, List, map, length, get_or, Some, None, Option, sym, refl, ap, ◌∙◌, inl, inr, arith}
use lib.ListN.{get_or-map}
use Rattle.std.specs.Option.{MatchOption, option_map}
use Rattle.std.proofs.lemmas.Bool.{eq-eqb, ne_eqb, cases_eq, cases_Bool, false≢true}
use Rattle.std.proofs.lemmas.List.{length-map}
use Rattle.levels.specs.Search.{Newest}
use Rattle.history.specs.Words.{updated, filled}
use Rattle.history.specs.Language.{Signatures, head_for}
use Rattle.history.specs.Calls.{elsewhere}
use Rattle.history.proofs.Words.{updated_other, updated_all, lowest_none, lowest_none_at, filled_none}
use Rattle.cpp.specs.Cpp.{cpp}
use Rattle.records.specs.declared.record.Record.{Record}
use Rattle.records.specs.Records.{signatures_of}
use Rattle.records.proofs.Rows.{signed_by, signature_read}
use Rattle.records.proofs.Holding.{Apart, head_once}

-- ## signatures

module _ (g : Signatures) (s n : ℕ) where
  -- a name on another sheet is found
  elsewhere_found : (t : ℕ) → t < 32 → (t ≡ s → ⊥) → (h : ℕ) → head_for n (g t) ≡ Some h → true ≡ elsewhere cpp g s n
  elsewhere_found t l ne h e =
      elim (cases_Bool (elsewhere cpp g s n)) [
        | inl y ↦ sym y
        | inr y ↦
            let none = lowest_none_at 32 (λ u. head_for n (updated g s None u)) (filled_none _ y) t l in
            absurd (false≢true (sym (ap filled (ap (head_for n) (sym (updated_other g s None t ne)) ∙ none)) ∙ ap filled e))
      ]

  -- a name on no other sheet is not
  elsewhere_none : ((t : ℕ) → t < 32 → (t ≡ s → ⊥) → head_for n (g t) ≡ None) → false ≡ elsewhere cpp g s n
  elsewhere_none h =
      sym (ap filled (lowest_none 32 (λ u. head_for n (updated g s None u))
      (λ t l. updated_all (λ u o. head_for n o ≡ None) g s None t (λ e. refl) (λ ne. h t l ne))))

-- ## records

-- the name of a sheet, if it is filled
abbrev pub label : Option Record → Option ℕ
label o = option_map (λ (r : Record). r.signature.name) o

-- a sheet of the name has a head for it
labelled_head : (o : Option Record) (n : ℕ) → label o ≡ Some n → (h : ℕ) × (head_for n (signed_by o) ≡ Some h)
labelled_head None n e = absurd cc
labelled_head (Some r) n e =
    let i : r.signature.name ≡ n = cc in
    (r.signature.head, ap (λ b. cond b (Some r.signature.head) None) (eq-eqb r.signature.name n i))

-- any other has none
unlabelled_none : (o : Option Record) (n : ℕ) → (label o ≡ Some n → ⊥) → head_for n (signed_by o) ≡ None
unlabelled_none None n ne = refl
unlabelled_none (Some r) n ne = ap (λ b. cond b (Some r.signature.head) None) (ne_eqb r.signature.name n (λ e. ne (ap Some e)))

module _ (rs : List (Option Record)) (n : ℕ) (full : length rs ≡ 32) (apart : Apart rs) (s : ℕ) where
  -- the names that are searched
  abbrev labels : List (Option ℕ)
  labels = map label rs

  label_at : (t : ℕ) → get_or labels t None ≡ label (get_or rs t None)
  label_at t = get_or-map label rs t None

  long : length labels ≡ 32
  long = length-map rs label ∙ full

  -- the head that the sheet found has for the name
  found_head : (t : ℕ) → get_or labels t None ≡ Some n → (h : ℕ) × (head_for n (signatures_of rs t) ≡ Some h)
  found_head t e = let w = labelled_head (get_or rs t None) n (sym (label_at t) ∙ e) in (w.0, ap (head_for n) (signature_read rs t) ∙ w.1)

  -- the one search answers: names are apart, so no sheet but the one found has the name
  pub named_told : (o : Option ℕ) (b : Bool) → Newest None labels (Some n) o → MatchOption o (b ≡ false) (λ t. b ≡ not (eqb t s)) → b ≡ elsewhere cpp (signatures_of rs) s n
  named_told None b w m =
      m ∙ elsewhere_none (signatures_of rs) s n (λ t l ne.
      ap (head_for n) (signature_read rs t) ∙ unlabelled_none (get_or rs t None) n (λ e. w t (omega arith) (omega (arith, long)) (label_at t ∙ e)))
  named_told (Some t) b w m =
      let h = found_head t w.1 in
      elim (cases_eq t s) [
        | inl e ↦
            m ∙ ap not (eq-eqb t s e)
            ∙ elsewhere_none (signatures_of rs) s n (λ u l ne. head_once rs apart n t u h.0 h.1 (λ i. ne (i ∙ e)))
        | inr ne ↦ m ∙ ap not (ne_eqb t s ne) ∙ elsewhere_found (signatures_of rs) s n t (omega (arith, w.0, long)) ne h.0 h.1
      ]
