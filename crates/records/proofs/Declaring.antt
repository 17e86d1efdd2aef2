-- The heads of the sheets are declared on one level, and no declaration is refused.
use Rattle.std.proofs.Common.{◌≡◌, ℕ, zero, suc, ◌+◌, ◌<◌, ◌≤◌, true, cond, eqb, ltb, List, [], ◌∷◌, length, get_or, is_some, is_ok, Some, None, Option, Result, sym, refl, ap, ◌∙◌, subst, add-one, arith}
use Rattle.std.proofs.lemmas.Bool.{cond-true, lt-ltb, eq-eqb}
use Rattle.levels.specs.declared.refusal.Refusal.{Refusal}
use Rattle.levels.specs.declared.refusal.Refusal.TheVariants.{Repeated, Full}
use Rattle.levels.specs.Refusals.{unless, answer}
use Rattle.levels.specs.Store.{Store, find, with_levels, wiped, entered, enter_refused, declared, declare_refused, added}
use Rattle.levels.proofs.Tabling.{length_placed}
use Rattle.walk.specs.Judge.{Numbers}
use Rattle.history.specs.Language.{Signatures, head_for}
use Rattle.history.proofs.Words.{lowest_none}
use Rattle.records.specs.declared.record.Record.{Record}
use Rattle.records.specs.Records.{signatures_of}
use Rattle.records.specs.Stores.{with_signature, heads_below}
use Rattle.records.proofs.Rows.{signed_by, signature_read}
use Rattle.records.proofs.Holding.{Apart, head_once, find_below}

-- ## the one level, empty

-- a store that is wiped and then entered
module _ (s w e : Store ℕ) (p : w ≡ wiped s) (q : e ≡ entered w) where
  -- a level may go on top of none
  pub enter_answered : (a : Result (Unit {0}) Refusal) → a ≡ answer (enter_refused w) → is_ok a ≡ true
  enter_answered a i = ap is_ok i ∙ ap (λ x. is_ok (answer (enter_refused x))) p

  -- it has one level, empty
  one_level : e ≡ with_levels s ([] ∷ [])
  one_level = q ∙ ap entered p

  -- the heads of the sheets below 0
  pub level_start : (g : Signatures) → e ≡ with_levels e (heads_below 0 g ∷ [])
  unfolding heads_below
  level_start g = subst (λ x. x ≡ with_levels x ([] ∷ [])) (sym one_level) refl

  -- it has the capacity that it had
  pub same_capacity : e.capacity ≡ s.capacity
  same_capacity = ap (λ x. x.capacity) one_level

  -- so with other levels the two are one
  pub level_end : (ls : List Numbers) → with_levels e ls ≡ with_levels s ls
  level_end ls = ap (λ x. with_levels x ls) one_level

-- ## one record more

-- at most so many heads stand as there are sheets below
few_heads : (k : ℕ) (g : Signatures) → length (heads_below k g) ≤ k
unfolding heads_below
few_heads zero g = omega arith
few_heads (suc k) g = longer (g k) (few_heads k g)
  where
    longer : (o : Option (ℕ × ℕ)) → length (heads_below k g) ≤ k → length (with_signature o (heads_below k g)) ≤ suc k
    longer None l = omega arith
    longer (Some x) l = let h = length_placed x (heads_below k g) in omega arith

-- the heads with one sheet more
heads_more : (k : ℕ) (g : Signatures) (o : Option (ℕ × ℕ)) → g k ≡ o → heads_below (k + 1) g ≡ with_signature o (heads_below k g)
heads_more k g o e = ap (λ n. heads_below n g) (add-one k) ∙ (unfold heads_below in ap (λ x. with_signature x (heads_below k g)) e)

module _ (rs : List (Option Record)) (t : ℕ) (m e : Store ℕ) (holds : m ≡ with_levels e (heads_below t (signatures_of rs) ∷ [])) where
  -- an empty sheet adds none
  pub level_kept : get_or rs t None ≡ None → m ≡ with_levels e (heads_below (t + 1) (signatures_of rs) ∷ [])
  level_kept i =
      holds ∙ ap (λ l. with_levels e (l ∷ [])) (sym (heads_more t (signatures_of rs) None (signature_read rs t ∙ ap signed_by i)))

  module _ (apart : Apart rs) (r : Record) (is : get_or rs t None ≡ Some r) (room : t < e.capacity) where
    -- its name
    abbrev name : ℕ
    name = r.signature.name

    -- and its head
    abbrev head : ℕ
    head = r.signature.head

    -- a filled one has both
    signed : signatures_of rs t ≡ Some (name, head)
    signed = signature_read rs t ∙ ap signed_by is

    -- its name does not stand yet
    name_free : find (heads_below t (signatures_of rs)) name ≡ None
    name_free =
        find_below rs apart name t
        ∙ lowest_none t (λ u. head_for name (signatures_of rs u)) (λ u l.
        head_once rs apart name t u head (ap (head_for name) signed ∙ cond-true (eqb name name) (Some head) None (eq-eqb name name refl)) (λ i. omega arith))

    -- so it may be declared
    declare_allowed : declare_refused m name ≡ None
    declare_allowed =
        let l = heads_below t (signatures_of rs) in
        ap (λ x. declare_refused x name) holds
        ∙ ap (λ o. cond (is_some o) (Some Repeated) (cond (ltb (length l + 0) e.capacity) None (Some Full))) name_free
        ∙ cond-true (ltb (length l + 0) e.capacity) None (Some Full) (lt-ltb (length l + 0) e.capacity (omega (arith, few_heads t (signatures_of rs))))

    -- the declaration is answered
    pub declare_answered : (a : Result (Unit {0}) Refusal) → a ≡ answer (declare_refused m name) → is_ok a ≡ true
    declare_answered a i = ap is_ok i ∙ ap (λ o. is_ok (answer o)) declare_allowed

    -- and adds its name and head
    pub level_more : (m' : Store ℕ) → m' ≡ declared m name head → m' ≡ with_levels e (heads_below (t + 1) (signatures_of rs) ∷ [])
    level_more m' i =
        i
        ∙ ap (λ o. unless o (with_levels m (added m.levels (name, head))) m) declare_allowed
        ∙ ap (λ x. with_levels x (added x.levels (name, head))) holds
        ∙ ap (λ l. with_levels e (l ∷ [])) (sym (heads_more t (signatures_of rs) (Some (name, head)) signed))
