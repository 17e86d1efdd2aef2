-- What declaring a name does to the store that a layout and the entries make.
use Rattle.std.proofs.Common.{◌≡◌, ℕ, ◌+◌, ◌<◌, Bool, true, false, cond, ltb, List, [], ◌∷◌, map, length, set, Some, None, Ok, Err, Option, Result, sym, refl, ap, ◌∙◌, arith}
use borrow.Author.Tests.{true-ltb}
use Rattle.std.proofs.lemmas.List.{map-set, length-map, length-set}
use Rattle.levels.specs.declared.entry.Entry.{Entry}
use Rattle.levels.specs.declared.refusal.Refusal.{Refusal}
use Rattle.levels.specs.declared.refusal.Refusal.TheVariants.{Repeated, Full}
use Rattle.levels.specs.Refusals.{no_place, unless, answer, answer_with}
use Rattle.levels.specs.Store.{Store, declare_refused, declared, with_levels, added, stands, standing, table}
use Rattle.levels.specs.Entries.{pair}
use Rattle.levels.specs.Starts.{ordered}
use Rattle.levels.specs.Layout.{Layout, grown, cut, store_of}
use Rattle.levels.proofs.Refusing.{answer_refused, answer_given, answer_is}
use Rattle.levels.proofs.Cutting.{cut_claimed}
use Rattle.levels.proofs.Storing.{declare_refused_by}

-- a place that is given lies below the capacity, and there is a level
module _ (b : Bool) (n c : ℕ) where
  by_repeated : (r : Bool) → cond r (Some Repeated) (cond (ltb n c) None (Some Full)) ≡ None → ltb n c ≡ true
  by_repeated true h = cc
  by_repeated false h = by_room (ltb n c) h
    where
      by_room : (t : Bool) → cond t None (Some Full) ≡ None → t ≡ true
      by_room true h = refl
      by_room false h = cc

  pub place_low : (ss : List ℕ) → no_place ss b n c ≡ None → n < c
  place_low [] h = cc
  place_low (s ∷ ss) h = true-ltb n c (sym (by_repeated b h))

module _ {V : Type 0} (es : List (Entry V)) (x : Entry V) (b : Bool) where
  cut_more : (ss : List ℕ) (n : ℕ) → ordered ss n ≡ true → no_place ss b n (length es) ≡ None → n < length es → map table (cut ss (n + 1) (map pair (set es n x))) ≡ added (map table (cut ss n (map pair es))) (pair x)
  cut_more [] n ok h l = cc
  cut_more (s ∷ ss) n ok h l =
      let w : n < length (map pair es) = simp length-map l in
      ap (λ l. map table (cut (s ∷ ss) (n + 1) l)) (map-set pair es n x) ∙ ap (map table) (cut_claimed s ss n (map pair es) (pair x) ok w)

-- what a store learns when its level table answers: a refusal is that of the meaning and leaves it, and a place makes the entry stand
module _ {V : Type 0} (ss : List ℕ) (n : ℕ) (es : List (Entry V)) (k : ℕ) (b : Bool) (c : ℕ) (ok : ordered ss n ≡ true) (ls : List (List (ℕ × V)))
    (are : ls ≡ map table (cut ss n (map pair es))) (same : b ≡ stands ls k) (size : c ≡ length es) where
  abbrev y : Layout
  y = record { starts = ss; count = n }

  abbrev s : Store V
  s = record { capacity = length es; levels = ls }

  abbrev why : Option Refusal
  why = no_place ss b n c

  by : why ≡ declare_refused s k
  by = declare_refused_by y es ok k b c (same ∙ ap (λ ls. stands ls k) are) size ∙ ap (λ ls. no_place ls (stands ls k) (standing ls) (length es)) (sym are)

  pub refused_by : (e : Refusal) → Err e ≡ answer_with why n → ◌≡◌ {A = Result (Unit {0}) Refusal} (Err e) (answer (declare_refused s k))
  refused_by e h = sym (ap answer (sym by ∙ answer_refused n why e h))

  pub refused_leaves : (v : V) (e : Refusal) → Err e ≡ answer_with why n → s ≡ declared s k v
  refused_leaves v e h = sym (ap (λ o. unless o (with_levels s (added s.levels (k, v))) s) (sym by ∙ answer_refused n why e h))

  pub made_by : (p : ℕ) → Ok p ≡ answer_with why n → ◌≡◌ {A = Result (Unit {0}) Refusal} (Ok tt) (answer (declare_refused s k))
  made_by p h = sym (ap answer (sym by ∙ answer_given n why p h))

  pub made_leaves : (ss' : List ℕ) (n' p : ℕ) (v : V) (q : Option ℕ) → ◌≡◌ {A = Layout} (record { starts = ss'; count = n' }) (grown y) → Ok p ≡ answer_with why n
      → ◌≡◌ {A = Store V} (store_of (record { starts = ss'; count = n' }) (set es p (record { name = k; value = v; next = q }))) (declared s k v)
  made_leaves ss' n' p v q after h =
      let x : Entry V = record { name = k; value = v; next = q } in
      let w = answer_given n why p h in
      let e = answer_is n why p h in
      let low = place_low b n c ss w in
      ap (λ z. store_of z (set es p x)) after
      ∙ ap (λ i. store_of (grown y) (set es i x)) e
      ∙ ap (λ l. record { capacity = l; levels = (store_of (grown y) (set es n x)).levels }) (length-set es n x)
      ∙ ap (with_levels s) (cut_more es x b ss n ok (ap (λ c. no_place ss b n c) (sym size) ∙ w) (omega (arith, low, size)) ∙ ap (λ ls. added ls (k, v)) (sym are))
      ∙ sym (ap (λ o. unless o (with_levels s (added s.levels (k, v))) s) (sym by ∙ w))

-- what `declare` of either store goes by
pub ruleset declaring = (refused_by, refused_leaves, made_by, made_leaves)
