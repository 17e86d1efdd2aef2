-- What an accepted call has passed.
use Rattle.std.proofs.Common.{◌≡◌, ℕ, ◌<◌, Bool, true, false, not, ◌||◌, eqb, ltb, Some, None, Ok, Err, Option, Result, sym, refl, ap, ◌∙◌, subst, arith}
use Rattle.std.proofs.lemmas.Bool.{ltb-false, eqb-true, not-false, and_parts}
use Rattle.history.specs.Words.{updated, lowest}
use Rattle.history.specs.Language.{Fault, Signatures, head_for, Language}
use Rattle.history.specs.Calls.{refusal, sized, Call, Call.post, Call.put, Call.clear, Call.check, Act, Act.wrote, Act.emptied, Act.walked, guard, unless_repeated, putting, formed, posting, outcome}
use Rattle.history.proofs.Words.{updated_other, lowest_none_at, filled_none}

-- the test passed gives both lengths
pub sized_parts : (fl cl : ℕ) → not (sized fl cl) ≡ false → (fl ≡ 8192) × (cl ≡ 8192)
sized_parts fl cl e =
    let p = and_parts (eqb fl 8192) (eqb cl 8192) (not-false (sized fl cl) e) in
    (eqb-true fl 8192 p.0, eqb-true cl 8192 p.1)

module _ {Frame Def Text : Type 0} (L : Language Frame Def Text) where
  open L use {name, head, repeated, reads}

  -- an accepted call passed the test
  pub guard_parts : (b : Bool) (f : Fault) (r : Result (Act L) Fault) (a : Act L) → guard L b f r ≡ Ok a → (b ≡ false) × (r ≡ Ok a)
  guard_parts true f r a e = cc
  guard_parts false f r a e = (refl, e)

  -- an accepted call of a sheet passed the first two tests
  pub both_parts : (s fl cl : ℕ) (r : Result (Act L) Fault) (a : Act L) → guard L (ltb 31 s) (refusal 31 s) (guard L (not (sized fl cl)) (refusal 32 s) r) ≡ Ok a → (s < 32) × (fl ≡ 8192) × (cl ≡ 8192) × (r ≡ Ok a)
  both_parts s fl cl r a e =
      let p = guard_parts (ltb 31 s) _ _ a e in
      let q = guard_parts (not (sized fl cl)) _ r a p.1 in
      let z = sized_parts fl cl q.0 in
      (omega (arith, ltb-false 31 s p.0), z.0, z.1, q.1)

  -- an accepted put has no parameter twice
  pub unless_repeated_parts : (o : Option ℕ) (s : ℕ) (w a : Act L) → unless_repeated L o s w ≡ Ok a → (o ≡ None) × (w ≡ a)
  unless_repeated_parts (Some p) s w a e = cc
  unless_repeated_parts None s w a e = (refl, cc)

  -- what the act of an accepted call needs
  abbrev pub Allowed : Signatures → Act L → Type 0
  Allowed g (wrote s d) = (s < 32) × ((t : ℕ) → t < 32 → (t ≡ s → ⊥) → head_for (name d) (g t) ≡ None) × (repeated d ≡ None)
  Allowed g (emptied s) = s < 32
  Allowed g walked = Unit {0}

  -- an accepted put is allowed
  pub put_allowed : (g : Signatures) (s : ℕ) (d : Def) (fl cl : ℕ) (a : Act L) → putting L g s d fl cl ≡ Ok a → Allowed g a
  put_allowed g s d fl cl a e =
      let p = both_parts s fl cl _ a e in
      let r = guard_parts _ _ _ a p.3 in
      let o = unless_repeated_parts _ s _ a r.1 in
      let none = lowest_none_at 32 (λ t. head_for (name d) (updated g s None t)) (filled_none (lowest 32 (λ t. head_for (name d) (updated g s None t))) r.0) in
      subst (Allowed g) o.1 (
        p.0,
        (λ t l ne. sym (ap (head_for (name d)) (updated_other g s None t ne)) ∙ none t l),
        o.0,
      )

  -- and an accepted post
  post_allowed : (g : Signatures) (s : ℕ) (r : Result Def Fault) (fl cl : ℕ) (a : Act L) → posting L g s r fl cl ≡ Ok a → Allowed g a
  post_allowed g s (Err f) fl cl a e = cc
  post_allowed g s (Ok d) fl cl a e = put_allowed g s d fl cl a e

  -- and every accepted call
  pub allowed : (g : Signatures) (c : Call L) (a : Act L) → outcome L g c ≡ Ok a → Allowed g a
  unfolding outcome
  allowed g (post s t room fl cl) a e = post_allowed g s (formed L (reads t room)) fl cl a e
  allowed g (put s d fl cl) a e = put_allowed g s d fl cl a e
  allowed g (clear s fl cl) a e =
      let p = both_parts s fl cl _ a e in
      let r = guard_parts _ _ (Ok (emptied s)) a p.3 in
      let i : emptied s ≡ a = cc r.1 in
      subst (Allowed g) i p.0
  allowed g (check fl cl k m) a e =
      let p = guard_parts (not (sized fl cl)) _ (guard L (ltb k 256 || ltb m 256) (refusal 39 255) (Ok walked)) a e in
      let q = guard_parts (ltb k 256 || ltb m 256) _ (Ok walked) a p.1 in
      let i : walked ≡ a = cc q.1 in
      subst (Allowed g) i tt
