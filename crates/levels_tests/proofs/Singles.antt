-- The calls on a store with room for one entry.
use Rattle.std.proofs.Common.{◌≡◌, ℕ, zero, suc, ◌+◌, ◌-◌, ◌<◌, ◌≤◌, Bool, true, false, cond, eqb, ltb, List, [], ◌∷◌, length, is_some, Some, None, Option, sym, refl, ap, ◌∙◌, add-one, arith, le-ltb, lt-ltb}
use Rattle.levels.specs.declared.refusal.Refusal.TheVariants.{TooDeep, NoLevel, Repeated, Full}
use Rattle.levels.specs.declared.refusal.Refusal.{Refusal}
use Rattle.levels.specs.Refusals.{unless}
use Rattle.levels.specs.Store.{Store, with_levels, looked, stands, standing, or_else, entered, enter_refused, left, leave_refused, declared, declare_refused, added}
use Rattle.levels_tests.specs.Single.{empties, held_levels, single, depth_of}

module _ {V : Type 0} where
  looked_empties : (u : ℕ) (ls : List (List (ℕ × V))) (k : ℕ) → looked (empties u ls) k ≡ looked ls k
  looked_empties zero ls k = refl
  looked_empties (suc u) ls k = looked_empties u ls k

  standing_empties : (u : ℕ) (ls : List (List (ℕ × V))) → standing (empties u ls) ≡ standing ls
  standing_empties zero ls = refl
  standing_empties (suc u) ls = let r = standing_empties u ls in omega arith

  length_empties : (u : ℕ) (ls : List (List (ℕ × V))) → length (empties u ls) ≡ u + length ls
  length_empties zero ls = omega arith
  length_empties (suc u) ls = let r = length_empties u ls in omega arith

  -- a look finds the entry, by its name
  pub looked_none : (u l k : ℕ) → None ≡ looked (single {V = V} u l None).levels k
  looked_none u l k = sym (looked_empties u [] k)

  pub looked_held : (u l k n : ℕ) (v : V) → looked (single u l (Some (n, v))).levels k ≡ cond (eqb n k) (Some v) None
  looked_held u l k n v =
      looked_empties u (held_levels l (Some (n, v))) k ∙ ap (or_else (cond (eqb n k) (Some v) None)) (looked_empties l [] k) ∙ by (eqb n k)
    where
      by : (b : Bool) → or_else (cond b (Some v) None) None ≡ cond b (Some v) None
      by true = refl
      by false = refl

  depth_is : (u l : ℕ) (h : Option (ℕ × V)) → length (single u l h).levels ≡ depth_of u l h
  depth_is u l None = let r = length_empties u [] in omega arith
  depth_is u l (Some e) = let r = length_empties u (held_levels l (Some e)) in let s = length_empties l [] in omega arith

  pub deep : (u l : ℕ) (h : Option (ℕ × V)) → 33 ≤ depth_of u l h → enter_refused (single u l h) ≡ Some TooDeep
  deep u l h p = ap (λ n. cond (ltb n 33) None (Some TooDeep)) (depth_is u l h) ∙ ap (λ b. cond b None (Some TooDeep)) (le-ltb _ 33 p)

  pub not_deep : (u l : ℕ) (h : Option (ℕ × V)) → depth_of u l h < 33 → enter_refused (single u l h) ≡ None
  not_deep u l h p = ap (λ n. cond (ltb n 33) None (Some TooDeep)) (depth_is u l h) ∙ ap (λ b. cond b None (Some TooDeep)) (lt-ltb _ 33 p)

  pub entered_more : (u l : ℕ) (h : Option (ℕ × V)) → enter_refused (single u l h) ≡ None → single (u + 1) l h ≡ entered (single u l h)
  entered_more u l h e =
      ap (λ u. single u l h) (add-one u) ∙ sym (ap (λ o. unless o (record { capacity = 1; levels = [] ∷ (single u l h).levels }) (single u l h)) e)

  pub entered_not : (u l : ℕ) (h : Option (ℕ × V)) → enter_refused (single u l h) ≡ Some TooDeep → single u l h ≡ entered (single u l h)
  entered_not u l h e = sym (ap (λ o. unless o (record { capacity = 1; levels = [] ∷ (single u l h).levels }) (single u l h)) e)

  -- a level less
  pub leave_not_refused : (u l : ℕ) (h : Option (ℕ × V)) → 0 < u → None ≡ leave_refused (single u l h)
  leave_not_refused zero l h p = absurd (omega arith)
  leave_not_refused (suc u) l h p = refl

  pub left_less : (u l : ℕ) (h : Option (ℕ × V)) → 0 < u → single (u - 1) l h ≡ left (single u l h)
  left_less zero l h p = absurd (omega arith)
  left_less (suc u) l h p = let e : suc u - 1 ≡ u = omega arith in ap (λ u. single u l h) e

  -- an entry on an empty level, and one where an entry stands
  pub declare_made : (u l k : ℕ) (v : V) → 0 < u → None ≡ declare_refused (single {V = V} u l None) k
  declare_made zero l k v p = absurd (omega arith)
  declare_made (suc u) l k v p =
      let r = standing_empties u [] in
      let n : 0 + standing (empties {V = V} u []) < 1 = omega arith in
      sym (ap (λ b. cond b None (Some Full)) (lt-ltb _ 1 n))

  pub declared_made : (u l k : ℕ) (v : V) → 0 < u → single 0 (u - 1) (Some (k, v)) ≡ declared (single u l None) k v
  declared_made zero l k v p = absurd (omega arith)
  declared_made (suc u) l k v p =
      let e : suc u - 1 ≡ u = omega arith in
      ap (λ u. single 0 u (Some (k, v))) e
      ∙ ap (λ o. unless o (record { capacity = 1; levels = ((k, v) ∷ []) ∷ empties u [] }) (single (suc u) l None)) (declare_made (suc u) l k v p)

  full : (u l k : ℕ) (e : ℕ × V) → false ≡ stands (single u l (Some e)).levels k → declare_refused (single u l (Some e)) k ≡ Some Full
  full zero l k e h =
      let r = standing_empties l [] in
      let n : 1 ≤ 1 + standing (empties {V = V} l []) = omega arith in
      ap (λ b. cond b (Some Repeated) (cond (ltb (1 + standing (empties {V = V} l [])) 1) None (Some Full))) (sym h) ∙ ap (λ b. cond b None (Some Full)) (le-ltb _ 1 n)
  full (suc u) l k e h =
      let r = standing_empties u (held_levels l (Some e)) in
      let s = standing_empties l [] in
      let n : 1 ≤ 0 + standing (empties u (held_levels l (Some e))) = omega arith in
      ap (λ b. cond b None (Some Full)) (le-ltb _ 1 n)

  pub full_of : (u l k : ℕ) (h : Option (ℕ × V)) → is_some h ≡ true → false ≡ stands (single u l h).levels k → declare_refused (single u l h) k ≡ Some Full
  full_of u l k None i s = cc
  full_of u l k (Some e) i s = full u l k e s

  -- a name that stands, and no level
  pub repeated : (u l k : ℕ) (h : Option (ℕ × V)) → true ≡ stands (single u l h).levels k → declare_refused (single u l h) k ≡ Some Repeated
  repeated zero l k None s = cc
  repeated zero l k (Some e) s = ap (λ b. cond b (Some Repeated) (cond (ltb (1 + standing (empties {V = V} l [])) 1) None (Some Full))) (sym s)
  repeated (suc u) l k h s = cc

  pub no_level : (u l k : ℕ) (h : Option (ℕ × V)) → u ≡ 0 → is_some h ≡ false → declare_refused (single u l h) k ≡ Some NoLevel
  no_level zero l k None z i = refl
  no_level zero l k (Some e) z i = cc
  no_level (suc u) l k h z i = absurd (omega arith)

  -- a refused declaration leaves what was
  pub refused_same : (s : Store V) (k : ℕ) (v : V) (e : Refusal) → declare_refused s k ≡ Some e → s ≡ declared s k v
  refused_same s k v e r = sym (ap (λ o. unless o (with_levels s (added s.levels (k, v))) s) r)

  -- no entry stands
  pub none_of : (h : Option (ℕ × V)) → is_some h ≡ false → h ≡ None
  none_of None i = refl
  none_of (Some e) i = cc
