-- The earlier names of a declaration, as the code finds them among the frames.
use Rattle.std.proofs.Common.{◌≡◌, ℕ, zero, suc, ◌+◌, ◌-◌, ◌<◌, ◌≤◌, Bool as Truth, true, false, cond, ◌||◌, eqb, List, [], ◌∷◌, ◌++◌, reverse, length, get_or, take, drop, is_some, Some, None, Option, sym, refl, ap, ◌∙◌, ap₂, arith}
use Rattle.std.proofs.lemmas.List.{reverse-append, take_more, get_or-drop, length-drop, map_push}
use Rattle.syntax.specs.declared.frame.Frame.{Frame}
use Rattle.syntax.specs.declared.stages.Unfinished.{Unfinished}
use Rattle.levels.specs.Store.{stands}
use Rattle.levels.specs.Search.{later, newest_of}
use Rattle.rules.specs.Judge.{among}
use Rattle.rules.specs.Walk.{alone}
use Rattle.walk.specs.declared.machine.Declaration.{Declaration}
use Rattle.walk.specs.Judge.{Numbers}
use Rattle.walk.specs.Step.{state, naming, awaiting}
use Rattle.walk.specs.Places.{between}
use Rattle.walk.specs.Machines.{names_of, unkept, awaited, pending_of, coming_at, Within}

-- ===== the search =====
or_assoc : (a b c : Truth) → (a || (b || c)) ≡ ((a || b) || c)
or_assoc true b c = refl
or_assoc false b c = refl

among_append : (xs ys : List ℕ) (x : ℕ) → among (xs ++ ys) x ≡ (among xs x || among ys x)
among_append [] ys x = refl
among_append (y ∷ xs) ys x = ap (λ b. eqb y x || b) (among_append xs ys x) ∙ or_assoc (eqb y x) (among xs x) (among ys x)

later_some : (o p : Option ℕ) → is_some (later o p) ≡ (is_some o || is_some p)
later_some (Some i) p = refl
later_some None p = refl

one_found : (b : Truth) → (b || false) ≡ is_some {T = ℕ} (cond b (Some 0) None)
one_found true = refl
one_found false = refl

pub among_reverse : (xs : List ℕ) (x : ℕ) → among (reverse xs) x ≡ is_some (newest_of xs x)
among_reverse [] x = refl
among_reverse (y ∷ xs) x =
    ap (λ l. among l x) (reverse-append (y ∷ []) xs)
    ∙ among_append (reverse xs) (y ∷ []) x
    ∙ ap₂ ◌||◌ (among_reverse xs x) (one_found (eqb y x))
    ∙ sym (later_some (newest_of xs x) (cond (eqb y x) (Some 0) None))

-- where the statement stands alone and the top has no such name, the search decides
pub repeated_alone : (u : List Unfinished) (ls : List Numbers) (fs : List Frame) (x : ℕ) → stands ls x ≡ false → alone u ≡ true
    → is_some (newest_of (names_of fs) x) ≡ (stands ls x || among (unkept u fs) x)
repeated_alone u ls fs x h a =
    sym (ap₂ (λ b c. b || among (cond c (reverse (names_of fs)) []) x) h a ∙ among_reverse (names_of fs) x)

-- ===== one name more =====
module _ (t : ℕ) (f : Frame) (fs : List Frame) (first i : ℕ) (is : get_or fs i f ≡ f) (h : first ≤ i) (l : i < length fs) where
  between_more : between first (i + 1) fs ≡ between first i fs ++ (f ∷ [])
  between_more =
      let e : i + 1 - first ≡ (i - first) + 1 = omega arith in
      let d = length-drop first fs in
      let k : first + (i - first) ≡ i = omega arith in
      ap (λ n. take n (drop first fs)) e ∙ take_more (drop first fs) (i - first) f (omega arith)
      ∙ ap (λ g. between first i fs ++ (g ∷ [])) (get_or-drop first fs (i - first) f ∙ ap (λ n. get_or fs n f) k ∙ is)

  names_more : reverse (names_of (between first (i + 1) fs)) ≡ f.name ∷ reverse (names_of (between first i fs))
  names_more =
      ap (λ l. reverse (names_of l)) between_more
      ∙ ap reverse (map_push (λ (f : Frame). f.name) (between first i fs) f)
      ∙ reverse-append (names_of (between first i fs)) (f.name ∷ [])

  module _ (u : List Unfinished) where
    unkept_more : cond (alone u) (f.name ∷ unkept u (between first i fs)) (unkept u (between first i fs)) ≡ unkept u (between first (i + 1) fs)
    unkept_more = go (alone u)
      where
        go : (b : Truth) → cond b (f.name ∷ cond b (reverse (names_of (between first i fs))) []) (cond b (reverse (names_of (between first i fs))) [])
            ≡ cond b (reverse (names_of (between first (i + 1) fs))) []
        go true = sym names_more
        go false = refl

    pub awaiting_more : (os : List ℕ) (ls : List Numbers) (k : ℕ)
        → awaiting os ls u t k (cond (alone u) (f.name ∷ unkept u (between first i fs)) (unkept u (between first i fs)))
        ≡ state os ls (awaited k u) (coming_at (i + 1) (awaited k u) (pending_of t k first) fs)
    awaiting_more os ls zero = refl
    awaiting_more os ls (suc k) = ap (λ q. state os ls u (naming t (suc k) q)) unkept_more

-- equal parts make equal states
pub states : (i : ℕ) (fs : List Frame) {os os' : List ℕ} {l l' : List Numbers} {u u' : List Unfinished} {p p' : Option Declaration} → os ≡ os' → l ≡ l' → u ≡ u' → p ≡ p'
    → state os l u (coming_at i u p fs) ≡ state os' l' u' (coming_at i u' p' fs)
states i fs a b c d = λ j. state (a j) (b j) (c j) (coming_at i (c j) (d j) fs)

pub within_more : (t k first i : ℕ) → first ≤ i → Within (i + 1) (pending_of t k first)
within_more t zero first i h = tt
within_more t (suc k) first i h = omega arith
