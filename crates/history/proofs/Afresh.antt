-- A fresh book that takes the entries again: its puts are accepted, in any order, and it has the same sheets, all due.
use Rattle.std.proofs.Common.{◌≡◌, ℕ, ◌<◌, Bool, true, false, cond, ◌&&◌, ◌||◌, eqb, List, [], ◌∷◌, Some, None, Ok, Option, sym, refl, ap, ◌∙◌, ap₂, inl, inr, arith}
use mathlib.Core.Path.{fun_ext}
use Rattle.std.proofs.Math.Bool.{and-true}
use Rattle.std.proofs.lemmas.Bool.{cases_lt, eq-eqb, cond_both, eqb-true, le-ltb, or_right}
use Rattle.std.proofs.lemmas.List.{length-replicate}
use Rattle.history.specs.Words.{updated, count_below, any_of, map_some, filled}
use Rattle.history.specs.Language.{head_for, Language, Entries, signature, signatures}
use Rattle.history.specs.Calls.{refusal, fresh_refusal, Call.put, History, Act.wrote, guard, unless_repeated, elsewhere, outcome}
use Rattle.history.specs.Plain.{entries_after, touches, due, walks, after, stepped, plain, result, told, AllDone, put_of, puts_of}
use Rattle.history.specs.Working.{State, new_book, fresh_state}
use Rattle.history.specs.Runs.{working_step, Leads, Leads.fresh, Leads.next}
use Rattle.history.specs.Stands.{Orderly}
use Rattle.history.specs.Law.{Lists}
use Rattle.history.proofs.Words.{updated_all, lowest_none}
use Rattle.history.proofs.Heads.{alone_of}
use Rattle.history.proofs.Fresh.{fresh_accepted}

-- one more entry among the listed ones
cond_more : {X : Type 0} (b a : Bool) (x y : Option X) → (b ≡ true → x ≡ y) → cond b x (cond a y None) ≡ cond (b || a) y None
cond_more true a x y e = e refl
cond_more false a x y e = refl

-- an entry that is not there adds nothing
cond_less : {X : Type 0} (b a : Bool) (y : Option X) → (b ≡ true → y ≡ None) → cond a y None ≡ cond (b || a) y None
cond_less true true y e = refl
cond_less true false y e = sym (e refl)
cond_less false a y e = refl

-- the filled entries are all entries
cond_filled : {X : Type 0} (x : Option X) → cond (filled x) x None ≡ x
cond_filled (Some x) = refl
cond_filled None = refl

module _ {Frame Def Text : Type 0} (L : Language Frame Def Text) where
  open L use {name, head, repeated}

  -- every history leads somewhere
  pub reached : (h : History L) → (book : State Frame) × Leads L h book
  unfolding fresh_state new_book
  reached [] = (
    fresh_state L,
    fresh {book = fresh_state L}
        (record { answered = sym ((fresh_accepted 8192 8192).1 (refl, refl)) ∙ sym (ap₂ fresh_refusal (length-replicate {A = Frame} 8192 L.blank) (length-replicate {A = ℕ} 8192 0)); left = refl }),
  )
  reached (c ∷ h) = let r = reached h in (working_step L r.0 c, next (record { answered = refl; left = refl }) r.1)

  -- the entries on the listed sheets alone
  some_of : Entries L → List ℕ → Entries L
  some_of e ss t = cond (any_of (eqb t) ss) (e t) None

  module _ (e : Entries L) (ok : Orderly L e) where
    -- a name without a head in all entries has none in some
    part_none : (ss : List ℕ) (n t : ℕ) → head_for n (signatures L e t) ≡ None → head_for n (signatures L (some_of e ss) t) ≡ None
    unfolding some_of
    part_none ss n t i = cond_both (any_of (eqb t) ss) (e t) None (λ x. head_for n (map_some (signature L) x) ≡ None) (λ _. i) (λ _. refl)

    -- a definition's signature has its name
    own_name : (d : Def) → filled (head_for (name d) (Some (signature L d))) ≡ true
    own_name d = rw (eq-eqb (name d) (name d) refl) refl

    -- an entry's name is on no other sheet
    nowhere_else : (ss : List ℕ) (s : ℕ) (d : Def) → e s ≡ Some d → elsewhere L (signatures L (some_of e ss)) s (name d) ≡ false
    nowhere_else ss s d i =
        ap filled
        (lowest_none 32 (λ t. head_for (name d) (updated (signatures L (some_of e ss)) s None t))
        (λ t m.
        updated_all (λ _ o. head_for (name d) o ≡ None) (signatures L (some_of e ss)) s None t (λ _. refl)
        (λ ne. part_none ss (name d) t (alone_of (signatures L e) s (name d) ok.apart (ap (λ x. filled (head_for (name d) (map_some (signature L) x))) i ∙ own_name d) t ne))))

    -- a filled sheet is one of the 32
    inside : (s : ℕ) (d : Def) → e s ≡ Some d → s < 32
    inside s d i =
        elim (cases_lt s 32) [
          | inl m ↦ m
          | inr m ↦ cc (ok.small s m)
        ]

    -- a put of an entry on a book with some of the entries is accepted
    put_accepted : (ss : List ℕ) (s : ℕ) (d : Def) → e s ≡ Some d → outcome L (signatures L (some_of e ss)) (put s d 8192 8192) ≡ Ok (wrote s d)
    unfolding outcome
    put_accepted ss s d i =
        ap (λ b. guard L b (refusal 31 s) (guard L (elsewhere L (signatures L (some_of e ss)) s (name d)) (refusal 33 s) (unless_repeated L (repeated d) s (wrote s d)))) (le-ltb 31 s (omega (arith, inside s d i)))
        ∙ ap (λ b. guard L b (refusal 33 s) (unless_repeated L (repeated d) s (wrote s d))) (nowhere_else ss s d i)
        ∙ ap (λ o. unless_repeated L o s (wrote s d)) (ok.single s d i)

    -- a put of an entry adds it
    some_more : (ss : List ℕ) (s : ℕ) → updated (some_of e ss) s (e s) ≡ some_of e (s ∷ ss)
    unfolding some_of updated any_of
    some_more ss s = fun_ext (λ t. cond_more (eqb t s) (any_of (eqb t) ss) (e s) (e t) (λ y. sym (ap e (eqb-true t s y))))

    -- an empty sheet in the list adds nothing
    some_less : (ss : List ℕ) (s : ℕ) → e s ≡ None → some_of e ss ≡ some_of e (s ∷ ss)
    unfolding some_of any_of
    some_less ss s i = fun_ext (λ t. cond_less (eqb t s) (any_of (eqb t) ss) (e t) (λ y. ap e (eqb-true t s y) ∙ i))

    -- the entries after one put more
    one_put : (ss : List ℕ) (s : ℕ) (x : Option Def) → e s ≡ x → (h : History L) → (plain L h).entries ≡ some_of e ss → (plain L (put_of L s x h)).entries ≡ some_of e (s ∷ ss)
    unfolding plain stepped after entries_after
    one_put ss s None i h ih = ih ∙ some_less ss s i
    one_put ss s (Some d) i h ih =
        rw (ih, put_accepted ss s d i, ← i) (some_more ss s)

    -- the entries after the puts are the listed ones
    entries_of_puts : (ss : List ℕ) → (plain L (puts_of L e ss)).entries ≡ some_of e ss
    unfolding plain puts_of some_of any_of
    entries_of_puts [] = refl
    entries_of_puts (s ∷ ss) = one_put ss s (e s) refl (puts_of L e ss) (entries_of_puts ss)

    -- each put is accepted
    next_accepted : (ss : List ℕ) (s : ℕ) (d : Def) → e s ≡ Some d → result L (puts_of L e ss) (put s d 8192 8192) ≡ Ok (wrote s d)
    next_accepted ss s d i = ap (λ f. outcome L (signatures L f) (put s d 8192 8192)) (entries_of_puts ss) ∙ put_accepted ss s d i

    -- one put more is done
    one_done : (ss : List ℕ) (s : ℕ) (x : Option Def) → e s ≡ x → AllDone L (puts_of L e ss) → AllDone L (put_of L s x (puts_of L e ss))
    unfolding told
    one_done ss s None i all = all
    one_done ss s (Some d) i all = (ap (told L (plain L (puts_of L e ss))) (next_accepted ss s d i), all)

    -- all puts are done, in any order
    pub puts_done : (ss : List ℕ) → AllDone L (puts_of L e ss)
    unfolding puts_of
    puts_done [] = tt
    puts_done (s ∷ ss) = one_done ss s (e s) refl (puts_done ss)

    -- no sheet has been walked
    one_since : (ss : List ℕ) (s : ℕ) (x : Option Def) → e s ≡ x → (t : ℕ) → (plain L (puts_of L e ss)).since t ≡ true → (plain L (put_of L s x (puts_of L e ss))).since t ≡ true
    unfolding plain stepped after walks
    one_since ss s None i t old = old
    one_since ss s (Some d) i t old =
        ap (λ r. (stepped L (plain L (puts_of L e ss)) r).since t) (next_accepted ss s d i)
        ∙ or_right (touches L (plain L (puts_of L e ss)).entries (wrote s d) t) ((plain L (puts_of L e ss)).since t) old

    -- so each sheet is as if touched
    never_walked : (ss : List ℕ) (t : ℕ) → (plain L (puts_of L e ss)).since t ≡ true
    unfolding puts_of plain
    never_walked [] t = refl
    never_walked (s ∷ ss) t = one_since ss s (e s) refl t (never_walked ss t)

    -- if just the filled sheets are listed the entries are the same
    pub same_sheets : (ss : List ℕ) → Lists L ss e → (plain L (puts_of L e ss)).entries ≡ e
    unfolding some_of
    same_sheets ss all = entries_of_puts ss ∙ fun_ext (λ t. ap (λ b. cond b (e t) None) (all t) ∙ cond_filled (e t))

    -- so each filled sheet is due
    pub all_due : (ss : List ℕ) → Lists L ss e → count_below 32 (due L (plain L (puts_of L e ss))) ≡ count_below 32 (λ t. filled (e t))
    all_due ss all =
        ap (count_below 32) (fun_ext (λ t. ap₂ ◌&&◌ (ap (λ f. filled (f t)) (same_sheets ss all)) (never_walked ss t) ∙ and-true (filled (e t))))
