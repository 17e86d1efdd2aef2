-- Tables of entries against the entries in the order in which they came.
use Rattle.std.proofs.Common.{◌≡◌, ℕ, suc, ◌+◌, Bool, true, false, cond, eqb, leb, List, [], ◌∷◌, map, length, is_some, Some, Option, sym, refl, ap, ◌∙◌, ap₂, arith, eqb-true, le-leb}
use Rattle.levels.specs.Store.{find, looked, stands, standing, added, placed, table, or_else}

module _ {V : Type 0} where
  -- what is found among two entries of different names does not depend on their order
  either_way : (e f : ℕ × V) (o : Option V) (n : ℕ) → leb e.0 f.0 ≡ false
      → cond (eqb f.0 n) (Some f.1) (cond (eqb e.0 n) (Some e.1) o) ≡ cond (eqb e.0 n) (Some e.1) (cond (eqb f.0 n) (Some f.1) o)
  either_way e f o n h = go (eqb e.0 n) (eqb f.0 n) refl refl
    where
      go : (b c : Bool) → eqb e.0 n ≡ b → eqb f.0 n ≡ c → cond c (Some f.1) (cond b (Some e.1) o) ≡ cond b (Some e.1) (cond c (Some f.1) o)
      go false c p q = refl
      go true false p q = refl
      go true true p q =
          let a = eqb-true e.0 n p in
          let b = eqb-true f.0 n q in
          let w = le-leb e.0 f.0 (omega arith) in
          let z : true ≡ false = sym w ∙ h in
          cc

  -- an entry more is found by its name, and nothing else is found otherwise
  pub find_placed : (e : ℕ × V) (l : List (ℕ × V)) (n : ℕ) → find (placed e l) n ≡ cond (eqb e.0 n) (Some e.1) (find l n)
  find_placed e [] n = refl
  find_placed e (f ∷ fs) n = go (find_placed e fs n) (leb e.0 f.0) refl
    where
      go : find (placed e fs) n ≡ cond (eqb e.0 n) (Some e.1) (find fs n) → (b : Bool) → leb e.0 f.0 ≡ b
          → find (cond b (e ∷ (f ∷ fs)) (f ∷ placed e fs)) n ≡ cond (eqb e.0 n) (Some e.1) (find (f ∷ fs) n)
      go h true p = refl
      go h false p = ap (cond (eqb f.0 n) (Some f.1)) h ∙ either_way e f (find fs n) n p

  pub length_placed : (e : ℕ × V) (l : List (ℕ × V)) → length (placed e l) ≡ suc (length l)
  length_placed e [] = refl
  length_placed e (f ∷ fs) = go (length_placed e fs) (leb e.0 f.0)
    where
      go : length (placed e fs) ≡ suc (length fs) → (b : Bool) → length (cond b (e ∷ (f ∷ fs)) (f ∷ placed e fs)) ≡ suc (suc (length fs))
      go h true = refl
      go h false = ap suc h

  pub find_table : (l : List (ℕ × V)) (n : ℕ) → find (table l) n ≡ find l n
  find_table [] n = refl
  find_table (e ∷ es) n = find_placed e (table es) n ∙ ap (cond (eqb e.0 n) (Some e.1)) (find_table es n)

  pub length_table : (l : List (ℕ × V)) → length (table l) ≡ length l
  length_table [] = refl
  length_table (e ∷ es) = length_placed e (table es) ∙ ap suc (length_table es)

  -- levels of entries answer as their tables do
  pub looked_tables : (ls : List (List (ℕ × V))) (n : ℕ) → looked (map table ls) n ≡ looked ls n
  looked_tables [] n = refl
  looked_tables (l ∷ ls) n = ap₂ or_else (find_table l n) (looked_tables ls n)

  pub stands_tables : (ls : List (List (ℕ × V))) (n : ℕ) → stands (map table ls) n ≡ stands ls n
  stands_tables [] n = refl
  stands_tables (l ∷ ls) n = ap is_some (find_table l n)

  pub standing_tables : (ls : List (List (ℕ × V))) → standing (map table ls) ≡ standing ls
  standing_tables [] = refl
  standing_tables (l ∷ ls) = ap₂ ◌+◌ (length_table l) (standing_tables ls)

  -- an entry more on the top
  pub find_added : (l : List (ℕ × V)) (ls : List (List (ℕ × V))) (e : ℕ × V) (n : ℕ) → stands (added (l ∷ ls) e) n ≡ is_some (cond (eqb e.0 n) (Some e.1) (find l n))
  find_added l ls e n = ap is_some (find_placed e l n)

  pub standing_added : (l : List (ℕ × V)) (ls : List (List (ℕ × V))) (e : ℕ × V) → standing (added (l ∷ ls) e) ≡ suc (standing (l ∷ ls))
  standing_added l ls e = let h = length_placed e l in omega arith
