-- A check answers valid exactly when the book is, else the fault of the lowest faulty sheet.
use Rattle.std.proofs.Common.{◌≡◌, ℕ, ◌↔◌, Some, None, Option, sym, refl, ap, ◌∙◌, inl, inr, arith}
use Rattle.std.proofs.lemmas.Bool.{cases_lt}
use Rattle.history.specs.Language.{Fault, Verdict, Verdict.good, Verdict.bad, Heads, fault_from, Language, Entries, heads_in, BookDerives}
use Rattle.history.specs.Plain.{fault_at, fault_of, Plain}
use Rattle.history.specs.Stands.{Sound}
use Rattle.history.specs.Known.{Known}
use Rattle.history.specs.Law.{Decides}
use Rattle.history.proofs.Words.{lowest_none, lowest_none_at, lowest_some}

module _ {Frame Def Text : Type 0} (L : Language Frame Def Text) (K : Known L) where
  open L use {judge, Tree}
  open K use {derived, judged, ruled, whole}

  -- a verdict without a fault has a derivation
  no_fault : (h : Heads) (t : ℕ) (d : Def) (v : Verdict) → judge h d ≡ v → fault_from t v ≡ None → Tree h d
  no_fault h t d (good c) e f = derived h d c e
  no_fault h t d (bad l n p) e f = cc

  -- a sheet without a fault has a derivation
  derives_at : (e : Entries L) (t : ℕ) (d : Def) → e t ≡ Some d → fault_at L (heads_in L e) t (e t) ≡ None → Tree (heads_in L e) d
  derives_at e t d i f = no_fault (heads_in L e) t d (judge (heads_in L e) d) refl (sym (ap (fault_at L (heads_in L e) t) i) ∙ f)

  -- a sheet with a derivation has no fault
  fault_none : (h : Heads) (t : ℕ) (x : Option Def) → ((d : Def) → x ≡ Some d → Tree h d) → fault_at L h t x ≡ None
  fault_none h t None g = refl
  fault_none h t (Some d) g =
      ap (fault_from t) (judged h d (g d refl)).1

  -- a sheet's fault is the judge's
  fault_some : (h : Heads) (t : ℕ) (x : Option Def) (f : Fault) → fault_at L h t x ≡ Some f → (d : Def) × (x ≡ Some d) × (f.sheet ≡ t) × (judge h d ≡ bad f.layer f.number f.place)
  fault_some h t None f e = cc
  fault_some h t (Some d) f e = go (judge h d) refl
    where
      go : (v : Verdict) → judge h d ≡ v → (c : Def) × (Some d ≡ Some c) × (f.sheet ≡ t) × (judge h c ≡ bad f.layer f.number f.place)
      go (good c) i = cc
      go (bad l n p) i =
          let y : ◌≡◌ {A = Fault} (record { number = n; layer = l; sheet = t; place = p }) f = cc in
          (d, refl, cc, cc)

  -- no sheet has a fault exactly when each definition has a derivation
  pub derives : (p : Plain L) → Sound L p → (fault_of L p.entries ≡ None) ↔ BookDerives L p.entries
  unfolding fault_of
  derives p ok = (
    (λ e t d i.
        elim (cases_lt t 32) [
          | inl m ↦ derives_at p.entries t d i (lowest_none_at 32 (λ u. fault_at L (heads_in L p.entries) u (p.entries u)) e t m)
          | inr m ↦ cc (ok.orderly.small t m)
        ]),
    λ g. lowest_none 32 (λ t. fault_at L (heads_in L p.entries) t (p.entries t)) (λ t m. fault_none (heads_in L p.entries) t (p.entries t) (g t)),
  )

  -- valid or the lowest fault
  pub decides : (p : Plain L) → Sound L p → Decides L p.entries (fault_of L p.entries)
  unfolding fault_of
  decides p ok =
      let b = derives p ok in
      let w = whole p.entries ok.orderly in
      record {
        valid = ((λ e. w.1 (b.0 e)), (λ v. b.1 (w.0 v)));
        fault = λ f e.
            let w = lowest_some 32 (λ t. fault_at L (heads_in L p.entries) t (p.entries t)) f e in
            let s = fault_some (heads_in L p.entries) w.0 (p.entries w.0) f w.2 in
            record {
              def = s.0;
              there = ap p.entries s.2 ∙ s.1;
              found = s.3;
              ruled = ruled (heads_in L p.entries) s.0 f.layer f.number f.place s.3;
              lower = λ t d l i. derives_at p.entries t d i (w.3 t (omega (arith, s.2)));
            };
      }
