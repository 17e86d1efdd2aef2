-- The level with every record's head holds the heads of the book, and no other.
use Rattle.std.proofs.Common.{◌≡◌, ℕ, zero, suc, true, false, cond, eqb, leb, List, [], ◌∷◌, length, get_or, Some, None, Option, sym, refl, ap, ◌∙◌, subst, arith}
use Rattle.std.proofs.lemmas.List.{length-map}
use Rattle.std.proofs.lemmas.Option.{cond_some}
use Rattle.std.proofs.lemmas.Bool.{and_parts, eqb-true, eq-eqb, leb-true}
use Rattle.syntax.specs.Types.{type_of}
use Rattle.levels.specs.Store as store
use Rattle.levels.specs.Store.{find, looked}
use Rattle.levels.proofs.Tabling.{find_placed}
use Rattle.heads.specs.Heads.{parameters_of}
use Rattle.rules.proofs.Rows.{none_some}
use Rattle.walk.specs.Judge.{Numbers}
use Rattle.walk.specs.Tied.{Carries}
use Rattle.history.specs.Words.{or_else, lowest, map_some}
use Rattle.history.specs.Language.{head_for, heads_of}
use Rattle.history.proofs.Words.{or_else_none, lowest_none, lowest_some}
use Rattle.cpp.specs.Heads.{head_code, head_from}
use Rattle.records.specs.declared.record.Record.{Record}
use Rattle.records.specs.Records.{signatures_of, is_head, headed, clash}
use Rattle.records.specs.Stores.{with_signature, heads_below}
use Rattle.records.specs.Walks.{Held}
use Rattle.records.proofs.Rows.{signed_by, signature_read}

-- ## one name has one head

-- no two filled records have one name
abbrev pub Apart : List (Option Record) → Type 0
Apart rs = (t u : ℕ) → clash (get_or rs t None) (get_or rs u None) ≡ true → t ≡ u

-- what never answers has no answer
none_since : {X : Type 0} (o : Option X) → ((x : X) → o ≡ Some x → ⊥) → o ≡ None
none_since (Some x) never = absurd (never x refl)
none_since None never = refl

-- two rows that give one name a head clash
heads_clash : (a b : Option Record) (n x y : ℕ) → head_for n (signed_by a) ≡ Some x → head_for n (signed_by b) ≡ Some y → clash a b ≡ true
heads_clash None b n x y e i = none_some e
heads_clash (Some r) None n x y e i = none_some i
heads_clash (Some r) (Some q) n x y e i =
    let a = cond_some (eqb r.signature.name n) r.signature.head x e in
    let b = cond_some (eqb q.signature.name n) q.signature.head y i in
    eq-eqb r.signature.name q.signature.name (eqb-true r.signature.name n a.0 ∙ sym (eqb-true q.signature.name n b.0))

-- where one record gives a name a head, no other does
pub head_once : (rs : List (Option Record)) → Apart rs → (n t u x : ℕ) → head_for n (signatures_of rs t) ≡ Some x → (u ≡ t → ⊥) → head_for n (signatures_of rs u) ≡ None
head_once rs apart n t u x e ne =
    none_since (head_for n (signatures_of rs u)) (λ y i.
    ne (apart u t (heads_clash (get_or rs u None) (get_or rs t None) n y x (ap (head_for n) (sym (signature_read rs u)) ∙ i) (ap (head_for n) (sym (signature_read rs t)) ∙ e))))

-- a level with a signature more finds its head first
pub find_more : (o : Option (ℕ × ℕ)) (l : Numbers) (n : ℕ) → find (with_signature o l) n ≡ or_else (head_for n o) (find l n)
find_more None l n = refl
find_more (Some p) l n =
    find_placed p l n ∙ elim (eqb p.0 n) as (λ b. cond b (Some p.1) (find l n) ≡ or_else (cond b (Some p.1) None) (find l n)) [ true ↦ refl | false ↦ refl ]

-- of two answers one is none, so their order does not matter
either_order : {X : Type 0} (o w : Option X) → ((x : X) → o ≡ Some x → w ≡ None) → or_else o w ≡ or_else w o
either_order (Some x) w one = sym (ap (λ v. or_else v (Some x)) (one x refl))
either_order None w one = sym (or_else_none w)

-- the level finds the head of the lowest sheet with the name
pub find_below : (rs : List (Option Record)) → Apart rs → (n k : ℕ) → find (heads_below k (signatures_of rs)) n ≡ lowest k (λ t. head_for n (signatures_of rs t))
unfolding heads_below lowest
find_below rs apart n zero = refl
find_below rs apart n (suc k) =
    find_more (signatures_of rs k) (heads_below k (signatures_of rs)) n
    ∙ ap (or_else (head_for n (signatures_of rs k))) (find_below rs apart n k)
    ∙ either_order (head_for n (signatures_of rs k)) (lowest k (λ t. head_for n (signatures_of rs t)))
    (λ x e. lowest_none k (λ t. head_for n (signatures_of rs t)) (λ t l. head_once rs apart n k t x e (λ i. omega arith)))

-- ## the heads held

-- each filled record has the number of a head
abbrev pub AllHeaded : List (Option Record) → Type 0
AllHeaded rs = (t : ℕ) → headed (get_or rs t None) ≡ true

-- a row's head for a name is the number of a head
headed_for : (o : Option Record) (n x : ℕ) → headed o ≡ true → head_for n (signed_by o) ≡ Some x → is_head x ≡ true
headed_for None n x h e = none_some e
headed_for (Some r) n x h e = ap is_head (sym (cond_some (eqb r.signature.name n) r.signature.head x e).1) ∙ h

-- so is every name's head
head_is : (rs : List (Option Record)) → AllHeaded rs → (n x : ℕ) → heads_of (signatures_of rs) n ≡ Some x → is_head x ≡ true
unfolding heads_of
head_is rs all n x e =
    let w = lowest_some 32 (λ t. head_for n (signatures_of rs t)) x e in
    headed_for (get_or rs w.0 None) n x (all w.0) (ap (head_for n) (sym (signature_read rs w.0)) ∙ w.2)

-- the number of a head carries that head
head_carried : (x : ℕ) → is_head x ≡ true → Carries (Some (head_from x)) (Some x)
unfolding is_head head_from
head_carried x e =
    let p = and_parts (eqb (head_code (head_from x)) x) (leb (length (parameters_of x)) 16) e in
    let few = leb-true (length (parameters_of x)) 16 p.1 in
    (omega (arith, length-map (parameters_of x) type_of), ap Some (sym (eqb-true (head_code (head_from x)) x p.0)))

-- any answer of a table of heads is carried
all_carried : (o : Option ℕ) → ((x : ℕ) → o ≡ Some x → is_head x ≡ true) → Carries (map_some head_from o) o
all_carried None is = refl
all_carried (Some x) is = head_carried x (is x refl)

-- nothing stands below the one level
single_level : (l : Numbers) (n : ℕ) → looked (l ∷ []) n ≡ find l n
single_level l n = alone (find l n)
  where
    alone : (o : Option ℕ) → store.or_else o None ≡ o
    alone (Some x) = refl
    alone None = refl

-- the level with every record's head holds the heads of the book
pub heads_held : (rs : List (Option Record)) → AllHeaded rs → Apart rs → Held (heads_of (signatures_of rs)) (heads_below 32 (signatures_of rs) ∷ [])
heads_held rs all apart n =
    let l = heads_below 32 (signatures_of rs) in
    let same : looked (l ∷ []) n ≡ heads_of (signatures_of rs) n = single_level l n ∙ (unfold heads_of in find_below rs apart n 32) in
    subst (Carries (map_some head_from (heads_of (signatures_of rs) n))) (sym same) (all_carried (heads_of (signatures_of rs) n) (head_is rs all n))

-- so a store with that one level does
pub held_left : (rs : List (Option Record)) → AllHeaded rs → Apart rs → (s m : store.Store ℕ) → m ≡ store.with_levels s (heads_below 32 (signatures_of rs) ∷ []) → Held (heads_of (signatures_of rs)) m.levels
held_left rs all apart s m e = subst (λ (x : store.Store ℕ). Held (heads_of (signatures_of rs)) x.levels) (sym e) (heads_held rs all apart)
