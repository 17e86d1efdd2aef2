-- Which calls the plain book accepts, in words.
use Rattle.std.proofs.Common.{◌≡◌, ℕ, ◌<◌, ◌≤◌, Bool, true, false, not, ◌||◌, ltb, ◌↔◌, List, Some, None, Ok, Err, Option, Result, sym, refl, ap, ◌∙◌, subst, inl, inr, arith}
use Rattle.std.proofs.lemmas.Bool.{cases_lt, eq-eqb, ne_eqb, or_parts, le-ltb, ltb-false, not-false}
use Rattle.history.specs.Words.{updated, map_some, filled}
use Rattle.history.specs.Language.{Fault, Signatures, head_for, Language, Entries, signature, signatures}
use Rattle.history.specs.Calls.{refusal, sized, Call.post, Call.put, Call.clear, Call.check, History, Act, Act.wrote, Act.emptied, Act.walked, guard, elsewhere, putting, formed, posting, clearing, outcome, Answer.done}
use Rattle.history.specs.Plain.{Plain, plain, told, answer}
use Rattle.history.specs.Due.{CheckAccepted}
use Rattle.history.specs.Accepts.{NameFree, Accepts}
use Rattle.history.proofs.Words.{updated_all, lowest_none}
use Rattle.history.proofs.Allowed.{sized_parts, guard_parts, both_parts, unless_repeated_parts, Allowed, put_allowed}
use Rattle.history.proofs.Sounds.{sound}

module _ {Frame Def Text : Type 0} (L : Language Frame Def Text) where
  open L use {name, head, repeated, form, reads}

  -- a test that does not hold refuses nothing
  pub guard_passed : (b : Bool) (f : Fault) (r : Result (Act L) Fault) → b ≡ false → guard L b f r ≡ r
  guard_passed b f r e = ap (λ q. guard L q f r) e

  -- a call of a sheet that passes the first two tests
  pub both_passed : (s fl cl : ℕ) (r : Result (Act L) Fault) → s < 32 → fl ≡ 8192 → cl ≡ 8192 → guard L (ltb 31 s) (refusal 31 s) (guard L (not (sized fl cl)) (refusal 32 s) r) ≡ r
  both_passed s fl cl r l a b = rw (le-ltb 31 s (omega arith), a, b) refl

  -- what was done is an accepted call
  told_done : (p : Plain L) (r : Result (Act L) Fault) → told L p r ≡ done → (a : Act L) × (r ≡ Ok a)
  unfolding told
  told_done p (Ok a) e = (a, refl)
  told_done p (Err f) e = cc

  -- an accepted put tells that it was done
  done_wrote : (p : Plain L) (r : Result (Act L) Fault) (s : ℕ) (d : Def) → r ≡ Ok (wrote s d) → told L p r ≡ done
  unfolding told
  done_wrote p r s d e = ap (told L p) e

  -- a filled signature has the name
  pub named : (n : ℕ) (x : Option Def) → head_for n (map_some (signature L) x) ≡ None → (d : Def) → x ≡ Some d → name d ≡ n → ⊥
  named n x e d i j =
      let f : head_for n (Some (signature L d)) ≡ None = cc in
      let g = rw (eq-eqb (name d) n j) at f in
      cc

  -- a signature without the name gives it no head
  unnamed : (n : ℕ) (x : Option Def) → ((d : Def) → x ≡ Some d → name d ≡ n → ⊥) → head_for n (map_some (signature L) x) ≡ None
  unnamed n None f = refl
  unnamed n (Some d) f = rw (ne_eqb (name d) n (f d refl)) refl

  module _ (h : History L) where
    -- the entries after the history
    abbrev pub entries : Entries L
    entries = (plain L h).entries

    -- their signatures
    abbrev pub signed : Signatures
    signed = signatures L (plain L h).entries

    -- no head for the name on the other sheets: it is free
    free_of : (s n : ℕ) → ((t : ℕ) → t < 32 → (t ≡ s → ⊥) → head_for n (signed t) ≡ None) → NameFree L entries s n
    free_of s n f t d ne i j =
        elim (cases_lt t 32) [
          | inl l ↦ named n (entries t) (f t l ne) d i j
          | inr l ↦ cc ((sound L h).orderly.small t l)
        ]

    -- a free name stands nowhere else
    pub nowhere : (s n : ℕ) → NameFree L entries s n → elsewhere L signed s n ≡ false
    nowhere s n f =
        ap filled
        (lowest_none 32 (λ t. head_for n (updated signed s None t))
        (λ t m. updated_all (λ _ o. head_for n o ≡ None) signed s None t (λ _. refl) (λ ne. unnamed n (entries t) (λ d i j. f t d ne i j))))

    -- what an accepted put has passed, in words
    put_parts : (s : ℕ) (d : Def) (fl cl : ℕ) (a : Act L) → putting L signed s d fl cl ≡ Ok a → (s < 32) × (fl ≡ 8192) × (cl ≡ 8192) × NameFree L entries s (name d) × (repeated d ≡ None)
    put_parts s d fl cl a e =
        let p = both_parts L s fl cl _ a e in
        let r = guard_parts L (elsewhere L signed s (name d)) _ _ a p.3 in
        let o = unless_repeated_parts L (repeated d) s (wrote s d) a r.1 in
        let v : Allowed L signed (wrote s d) = subst (Allowed L signed) (sym o.1) (put_allowed L signed s d fl cl a e) in
        (p.0, p.1, p.2, free_of s (name d) v.1, o.0)

    -- and a put that passes all of it is accepted
    put_passed : (s : ℕ) (d : Def) (fl cl : ℕ) → (s < 32) × (fl ≡ 8192) × (cl ≡ 8192) × NameFree L entries s (name d) × (repeated d ≡ None) → putting L signed s d fl cl ≡ Ok (wrote s d)
    put_passed s d fl cl w = both_passed s fl cl _ w.0 w.1 w.2 ∙ rw (nowhere s (name d) w.3, w.4) refl

    -- which puts
    puts : (s : ℕ) (d : Def) (fl cl : ℕ) → (answer L h (put s d fl cl) ≡ done) ↔ ((s < 32) × (fl ≡ 8192) × (cl ≡ 8192) × NameFree L entries s (name d) × (repeated d ≡ None))
    unfolding outcome
    puts s d fl cl = (
      (λ e. let a = told_done (plain L h) (putting L signed s d fl cl) e in put_parts s d fl cl a.0 a.1),
      λ w. done_wrote (plain L h) (putting L signed s d fl cl) s d (put_passed s d fl cl w),
    )

    -- an accepted post was formed
    form_parts : (s fl cl : ℕ) (o : Result Def Fault) → told L (plain L h) (posting L signed s o fl cl) ≡ done → (d : Def) × (o ≡ Ok d) × (told L (plain L h) (putting L signed s d fl cl) ≡ done)
    unfolding told
    form_parts s fl cl (Err f) e = cc
    form_parts s fl cl (Ok d) e = (d, refl, e)

    -- and read
    post_parts : (s fl cl : ℕ) (o : Result (List Frame) Fault) → told L (plain L h) (posting L signed s (formed L o) fl cl) ≡ done → (fs : List Frame) × (d : Def) × (o ≡ Ok fs) × (form fs ≡ Ok d) × (told L (plain L h) (putting L signed s d fl cl) ≡ done)
    unfolding told
    post_parts s fl cl (Err f) e = cc
    post_parts s fl cl (Ok fs) e = let w = form_parts s fl cl (form fs) e in (fs, w.0, refl, w.1, w.2)

    -- which posts
    posts : (s : ℕ) (t : Text) (room fl cl : ℕ) → (answer L h (post s t room fl cl) ≡ done) ↔ ((fs : List Frame) × (d : Def) × (reads t room ≡ Ok fs) × (form fs ≡ Ok d) × (answer L h (put s d fl cl) ≡ done))
    unfolding outcome
    posts s t room fl cl = (
      (λ e. post_parts s fl cl (reads t room) e),
      λ w. ap (λ o. told L (plain L h) (posting L signed s (formed L o) fl cl)) w.2 ∙ ap (λ o. told L (plain L h) (posting L signed s o fl cl)) w.3 ∙ w.4,
    )

    -- an entry and its signature are there together
    filled_signed : (x : Option Def) → filled (map_some (signature L) x) ≡ filled x
    filled_signed None = refl
    filled_signed (Some d) = refl

    -- which clears
    clears : (s fl cl : ℕ) → (answer L h (clear s fl cl) ≡ done) ↔ ((s < 32) × (fl ≡ 8192) × (cl ≡ 8192) × (filled (entries s) ≡ true))
    unfolding outcome told
    clears s fl cl = (
      (λ e.
          let a = told_done (plain L h) (clearing L signed s fl cl) e in
          let p = both_parts L s fl cl _ a.0 a.1 in
          let r = guard_parts L (not (filled (signed s))) _ _ a.0 p.3 in
          (p.0, p.1, p.2, sym (filled_signed (entries s)) ∙ not-false (filled (signed s)) r.0)),
      λ w.
          ap (told L (plain L h)) (both_passed s fl cl _ w.0 w.1 w.2 ∙ guard_passed (not (filled (signed s))) (refusal 35 s) (Ok (emptied s)) (ap not (filled_signed (entries s) ∙ w.3))),
    )

    -- which checks
    checks : (fl cl a b : ℕ) → CheckAccepted L h (check fl cl a b) ↔ ((fl ≡ 8192) × (cl ≡ 8192) × (256 ≤ a) × (256 ≤ b))
    unfolding outcome
    checks fl cl a b = (
      (λ e.
          let p = guard_parts L (not (sized fl cl)) _ (guard L (ltb a 256 || ltb b 256) (refusal 39 255) (Ok walked)) walked e in
          let q = guard_parts L (ltb a 256 || ltb b 256) _ _ walked p.1 in
          let z = sized_parts fl cl p.0 in
          let o = or_parts (ltb a 256) (ltb b 256) q.0 in
          (z.0, z.1, omega (arith, ltb-false a 256 o.0), omega (arith, ltb-false b 256 o.1))),
      λ w.
          rw (w.0, w.1, le-ltb a 256 w.2, le-ltb b 256 w.3) refl,
    )

    -- which calls are accepted after a history
    pub accepts : Accepts L h
    accepts = record { puts = puts; posts = posts; clears = clears; checks = checks }
