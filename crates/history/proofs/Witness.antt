-- The small language is of the kind that the law asks for.
use Rattle.std.proofs.Common.{◌≡◌, ℕ, zero, suc, ◌<◌, ◌≤◌, true, eqb, ◌↔◌, List, [], ◌∷◌, length, get_or, Some, None, Ok, Option, sym, refl, ap, inl, inr, arith, lit≤}
use Rattle.std.proofs.lemmas.Bool.{cases_Bool, eq-eqb, cond_both, eqb-true, le-ltb}
use Rattle.history.specs.Language.{Verdict.good, Verdict.bad, Heads, Agree, zeros, column_of, type_at}
use Rattle.history.specs.Known.{Known}
use Rattle.history.specs.Example.{Frame, Frame.nothing, Frame.title, Frame.call, body_frames, is_call, called, formed_from, call_column, judge_call, judge_body, Derives, CallTyped, example}
use Rattle.history.proofs.Rows.{length_zeros}

-- a definition has at most two frames
short_body : (b : Option (ℕ × ℕ)) → suc (length (body_frames b)) ≤ 256
short_body None = lit≤ tt
short_body (Some c) = lit≤ tt

-- and forms back from them
forms_body : (n h : ℕ) (b : Option (ℕ × ℕ)) → formed_from (title n h ∷ body_frames b) ≡ Ok (record { name = n; head = h; body = b })
forms_body n h None = refl
forms_body n h (Some c) = refl

-- a call's column is a whole part
length_judged : (o : Option ℕ) (w : ℕ) → length (column_of (judge_call o w)) ≡ 256
unfolding call_column
length_judged None w = length_zeros
length_judged (Some x) w = cond_both (eqb x w) (good call_column) (bad 4 54 1) (λ v. length (column_of v) ≡ 256) (λ _. refl) (λ _. length_zeros)

-- so every column is
length_body : (h : Heads) (b : Option (ℕ × ℕ)) → length (column_of (judge_body h b)) ≡ 256
length_body h None = length_zeros
length_body h (Some c) = length_judged (h c.0) c.1

-- ## the judge and the derivations

-- a call found valid has the head wanted
derived_call : (o : Option ℕ) (w : ℕ) (c : List ℕ) → judge_call o w ≡ good c → o ≡ Some w
derived_call None w c e = cc
derived_call (Some x) w c e =
    elim (cases_Bool (eqb x w)) [
      | inl y ↦ ap Some (eqb-true x w y)
      | inr y ↦
          cc (rw y at e)
    ]

-- so what is found valid has a derivation
derived_body : (h : Heads) (b : Option (ℕ × ℕ)) (c : List ℕ) → judge_body h b ≡ good c → Derives h b
derived_body h None c e = tt
derived_body h (Some k) c e = derived_call (h k.0) k.1 c e

-- and the other way round
judged_call : (o : Option ℕ) (w : ℕ) → o ≡ Some w → judge_call o w ≡ good call_column
judged_call o w i = rw (i, eq-eqb w w refl) refl

-- the column of a call has type 2 at place 1 alone
call_types : (p u : ℕ) → (type_at 2 call_column p ≡ Some u) ↔ ((p ≡ 1) × (u ≡ 2))
unfolding call_column
call_types zero u = ((λ e. cc), λ q. absurd (omega (arith, q.0)))
call_types (suc zero) u = ((λ e. (refl, cc)), λ q. ap Some (sym q.1))
call_types (suc (suc p)) u = (
  (λ e.
      cc (rw (le-ltb (suc (suc p)) 2 (omega arith)) at e)),
  λ q. absurd (omega (arith, q.0)),
)

-- a column of zeros has no type
no_types : (p u : ℕ) → type_at 1 zeros p ≡ Some u → ⊥
unfolding zeros
no_types zero u e = cc
no_types (suc p) u e =
    cc (rw (le-ltb (suc p) 1 (omega arith)) at e)

-- the types are those of the derivation
judged_body : (h : Heads) (b : Option (ℕ × ℕ)) → Derives h b → (c : List ℕ) × (judge_body h b ≡ good c) × ((p u : ℕ) → (type_at (suc (length (body_frames b))) c p ≡ Some u) ↔ CallTyped b p u)
judged_body h None n = (zeros, refl, λ p u. (no_types p u, λ q. absurd q))
judged_body h (Some c) n = (call_column, judged_call (h c.0) c.1 n, call_types)

-- a typed place holds a call
spoken_body : (f : Frame) (b : Option (ℕ × ℕ)) (p u : ℕ) → CallTyped b p u → is_call (get_or (f ∷ body_frames b) p nothing) ≡ true
spoken_body f None p u g = absurd g
spoken_body f (Some c) p u g = ap (λ q. is_call (get_or (f ∷ call c.0 c.1 ∷ []) q nothing)) g.0

-- the faults of a call are rules'
ruled_call : (o : Option ℕ) (w l n p : ℕ) → judge_call o w ≡ bad l n p → (l ≡ 4) × (51 ≤ n) × (n ≤ 60) × (p < 2)
ruled_call None w l n p e =
    let b : 52 ≡ n = cc in
    let c : 1 ≡ p = cc in
    (cc, omega arith, omega arith, omega arith)
ruled_call (Some x) w l n p e =
    elim (cases_Bool (eqb x w)) [
      | inl y ↦
          cc (rw y at e)
      | inr y ↦
          let f : bad 4 54 1 ≡ bad l n p = rw y at e in
          let b : 54 ≡ n = cc in
          let c : 1 ≡ p = cc in
          (cc, omega arith, omega arith, omega arith)
    ]

-- so all faults are
ruled_body : (h : Heads) (b : Option (ℕ × ℕ)) (l n p : ℕ) → judge_body h b ≡ bad l n p → (l ≡ 4) × (51 ≤ n) × (n ≤ 60) × (p < suc (length (body_frames b)))
ruled_body h None l n p e = cc
ruled_body h (Some c) l n p e = ruled_call (h c.0) c.1 l n p e

-- only the head of the name called counts
nearby_body : (h k : Heads) (f : Frame) (b : Option (ℕ × ℕ)) → Agree h k (called (body_frames b)) → judge_body h b ≡ judge_body k b
nearby_body h k f None a = refl
nearby_body h k f (Some c) a = ap (λ o. judge_call o c.1) a.0

-- the small language is known to have a local judge
pub known : Known example
known =
    record {
      short = λ d. short_body d.body;
      forms = λ d. forms_body d.name d.head d.body;
      column_length = λ h d. length_body h d.body;
      derived = λ h d. derived_body h d.body;
      judged = λ h d. judged_body h d.body;
      spoken = λ h d n. spoken_body (title d.name d.head) d.body;
      ruled = λ h d. ruled_body h d.body;
      nearby = λ h k d. nearby_body h k (title d.name d.head) d.body;
      whole = λ e o. ((λ v. v), λ v. v);
    }
