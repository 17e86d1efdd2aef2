-- Names that do not repeat, one by one.
use Rattle.std.proofs.Common.{◌≡◌, ℕ, zero, suc, ◌-◌, ◌<◌, ◌||◌, eqb, false, List, [], ◌∷◌, take, sym, refl, ap, ◌∙◌, ap₂, arith}
use Rattle.std.proofs.lemmas.Bool.{or_parts}
use Rattle.syntax.specs.declared.frame.Frame.{Frame}
use Rattle.rules.specs.Judge.{among}
use Rattle.walk.specs.Machines.{names_of}
use Rattle.walk.specs.Params.{repeats}

-- the first of some names is not among those seen, and the others do not repeat it
repeats_first : (seen : List ℕ) (x : ℕ) (xs : List ℕ) → repeats seen (x ∷ xs) ≡ false → (among seen x ≡ false) × (repeats (x ∷ seen) xs ≡ false)
repeats_first seen x xs h = or_parts (among seen x) (repeats (x ∷ seen) xs) h

names_first : (k : ℕ) (f : Frame) (fs : List Frame) → 0 < k → names_of (take k (f ∷ fs)) ≡ f.name ∷ names_of (take (k - 1) fs)
names_first zero f fs h = absurd (omega arith)
names_first (suc k) f fs h = let e : k ≡ suc k - 1 = omega arith in ap (λ n. f.name ∷ names_of (take n fs)) e

pub repeats_front : (seen : List ℕ) (k : ℕ) (f : Frame) (fs : List Frame) → 0 < k → repeats seen (names_of (take k (f ∷ fs))) ≡ false
    → (among seen f.name ≡ false) × (repeats (f.name ∷ seen) (names_of (take (k - 1) fs)) ≡ false)
repeats_front seen k f fs l h = repeats_first seen f.name (names_of (take (k - 1) fs)) (ap (repeats seen) (sym (names_first k f fs l)) ∙ h)

-- only which names were seen matters
pub repeats_same : (xs seen seen' : List ℕ) → ((x : ℕ) → among seen x ≡ among seen' x) → repeats seen xs ≡ repeats seen' xs
repeats_same [] seen seen' h = refl
repeats_same (y ∷ ys) seen seen' h = ap₂ ◌||◌ (h y) (repeats_same ys (y ∷ seen) (y ∷ seen') (λ x. ap (λ b. eqb y x || b) (h x)))
