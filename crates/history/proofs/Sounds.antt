-- What every history keeps of the plain book.
use Rattle.std.proofs.Common.{◌≡◌, ℕ, ◌<◌, Bool, true, false, cond, ◌&&◌, ◌||◌, eqb, [], ◌∷◌, Some, None, Ok, Err, Option, Result, sym, refl, ap, ◌∙◌, subst, inl, inr, arith}
use mathlib.Core.Path.{fun_ext}
use Rattle.std.proofs.lemmas.Bool.{cases_lt, cases_Bool, eqb-true, not-true}
use Rattle.history.specs.Words.{updated, map_some, filled}
use Rattle.history.specs.Language.{Fault, Signatures, head_for, Language, Entries, signature, signatures}
use Rattle.history.specs.Calls.{History, Act, Act.wrote, Act.emptied, Act.walked, outcome}
use Rattle.history.specs.Plain.{entries_after, touches, fault_of, Plain, due, walks, valid_after, after, stepped, plain}
use Rattle.history.specs.Stands.{Apart, Sound}
use Rattle.history.proofs.Words.{updated_other, updated_all, filled_none}
use Rattle.history.proofs.Heads.{Alone}
use Rattle.history.proofs.Allowed.{Allowed, allowed}

module _ {Frame Def Text : Type 0} (L : Language Frame Def Text) where
  open L use {name, head, repeated, reads}

  -- ## the names stay apart

  -- a signature gives a head to its own name alone
  head_for_name : (n : ℕ) (d : Def) → filled (head_for n (Some (signature L d))) ≡ true → name d ≡ n
  head_for_name n d e =
      elim (cases_Bool (eqb (name d) n)) [
        | inl y ↦ eqb-true (name d) n y
        | inr y ↦ cc (rw y at e)
      ]

  -- the sheets other than s have not the name that s is given
  abbrev pub Free : Entries L → ℕ → Option Def → Type 0
  Free e s x = (n : ℕ) → filled (head_for n (map_some (signature L) x)) ≡ true → Alone (signatures L e) s n

  -- one entry replaced replaces one signature
  pub signatures_updated : (e : Entries L) (s : ℕ) (x : Option Def) → signatures L (updated e s x) ≡ updated (signatures L e) s (map_some (signature L) x)
  unfolding updated
  signatures_updated e s x =
      fun_ext (λ t. elim (eqb t s) as (λ b. map_some (signature L) (cond b x (e t)) ≡ cond b (map_some (signature L) x) (map_some (signature L) (e t))) [ true ↦ refl | false ↦ refl ])

  -- an emptied sheet has no name
  pub free_none : (e : Entries L) (s : ℕ) → Free e s None
  free_none e s n f = cc

  -- an allowed put's name is free
  pub free_put : (p : Plain L) (s : ℕ) (d : Def) → Sound L p → Allowed L (signatures L p.entries) (wrote s d) → Free p.entries s (Some d)
  free_put p s d ok al n f t ne =
      let i = head_for_name n d f in
      elim (cases_lt t 32) [
        | inl l ↦ rw i at (al.1 t l ne)
        | inr l ↦ ap (λ o. head_for n (map_some (signature L) o)) (ok.orderly.small t l)
      ]

  -- names stay apart
  apart_updated : (g : Signatures) (s : ℕ) (w : Option (ℕ × ℕ)) → Apart g → ((n : ℕ) → filled (head_for n w) ≡ true → Alone g s n) → Apart (updated g s w)
  apart_updated g s w apart free t u n =
      updated_all (λ i o. filled (head_for n o) ≡ true → filled (head_for n (updated g s w u)) ≡ true → i ≡ u) g s w t
      (λ i a. updated_all (λ j o. filled (head_for n o) ≡ true → t ≡ j) g s w u
      (λ j b. i ∙ sym j)
      (λ j b. cc (free n a u j)))
      (λ i a. updated_all (λ j o. filled (head_for n o) ≡ true → t ≡ j) g s w u
      (λ j b. cc (free n b t i))
      (λ j b. apart t u n a b))

  -- ## one step keeps all

  -- put and clear keep it sound
  sound_updated : (p q : Plain L) (s : ℕ) (x : Option Def) → Sound L p → s < 32 → Free p.entries s x → ((d : Def) → x ≡ Some d → repeated d ≡ None) → q.entries ≡ updated p.entries s x → q.valid ≡ false → Sound L q
  sound_updated p q s x ok l free once e v =
      record {
        orderly =
            record {
              small = λ t h. ap (λ f. f t) e ∙ updated_other p.entries s x t (λ i. omega arith) ∙ ok.orderly.small t h;
              apart = rw e (subst Apart (sym (signatures_updated p.entries s x)) (apart_updated (signatures L p.entries) s (map_some (signature L) x) ok.orderly.apart free));
              single = λ t d. subst (λ f. f t ≡ Some d → repeated d ≡ None) (sym e) (updated_all (λ _ o. o ≡ Some d → repeated d ≡ None) p.entries s x t (λ _. once d) (λ _. ok.orderly.single t d));
            };
        calm = λ y. cc;
        clean = λ y. cc;
      }

  -- a sheet that was walked, or was not due, is not due
  walked_calm : (f b : Bool) → (f && cond (f && b) false (false || b)) ≡ false
  walked_calm true true = refl
  walked_calm true false = refl
  walked_calm false b = refl

  -- after a check no sheet is due
  pub due_walked : (p : Plain L) (t : ℕ) → due L (after L p walked) t ≡ false
  unfolding after walks touches entries_after
  due_walked p t = walked_calm (filled (p.entries t)) (p.since t)

  -- an accepted call keeps it sound
  pub sound_after : (p : Plain L) (a : Act L) → Sound L p → Allowed L (signatures L p.entries) a → Sound L (after L p a)
  unfolding after entries_after valid_after
  sound_after p (wrote s d) ok al =
      sound_updated p (after L p (wrote s d)) s (Some d) ok al.0 (free_put p s d ok al) (λ d' i. subst (λ c. repeated c ≡ None) (cc) al.2) refl refl
  sound_after p (emptied s) ok al =
      sound_updated p (after L p (emptied s)) s None ok al (free_none p.entries s) (λ d i. cc) refl refl
  sound_after p walked ok al =
      record {
        orderly = ok.orderly;
        calm = λ _ t. due_walked p t;
        clean = λ y. filled_none (fault_of L p.entries) (not-true (filled (fault_of L p.entries)) y);
      }

  -- and a refused one
  pub sound_stepped : (p : Plain L) (r : Result (Act L) Fault) → Sound L p → ((a : Act L) → r ≡ Ok a → Allowed L (signatures L p.entries) a) → Sound L (stepped L p r)
  unfolding stepped
  sound_stepped p (Ok a) ok al = sound_after p a ok (al a refl)
  sound_stepped p (Err f) ok al = ok

  -- every history is sound
  pub sound : (h : History L) → Sound L (plain L h)
  unfolding plain
  sound [] =
      record {
        orderly =
            record {
              small = λ t h. refl;
              apart = λ t u n a b. cc;
              single = λ t d e. cc;
            };
        calm = λ y t. refl;
        clean = λ y. cc;
      }
  sound (c ∷ h) =
      sound_stepped (plain L h) (outcome L (signatures L (plain L h).entries) c) (sound h) (λ a e. allowed L (signatures L (plain L h).entries) c a e)
