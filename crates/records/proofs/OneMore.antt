-- The words over the sheets below a number, with one number more.
use Rattle.std.proofs.Common.{◌≡◌, ℕ, zero, suc, ◌+◌, ◌≤◌, Bool, cond, List, Some, None, Option, refl, ap, ◌∙◌, add-one, arith}
use Rattle.std.proofs.lemmas.Bool.{cond_both}
use Rattle.levels.specs.Store.{Store}
use Rattle.walk.specs.Judge.{Numbers}
use Rattle.history.specs.Words.{or_else, count_below}
use Rattle.history.specs.Areas.{with_part, rewritten}
use Rattle.records.specs.Stores.{highest, releveled}

-- how many pass a test
pub count_more : (k : ℕ) (p : ℕ → Bool) (b : Bool) → p k ≡ b → count_below (k + 1) p ≡ count_below k p + cond b 1 0
count_more k p b e = ap (λ n. count_below n p) (add-one k) ∙ (unfold count_below in ap (λ q. count_below k p + cond q 1 0) e)

-- at most as many as there are
pub count_few : (k : ℕ) (p : ℕ → Bool) → count_below k p ≤ k
unfolding count_below
count_few zero p = omega arith
count_few (suc k) p = let ih = count_few k p in cond_both (p k) 1 0 (λ n. count_below k p + n ≤ suc k) (λ _. omega arith) (λ _. omega arith)

-- an area with one sheet more
pub rewritten_more : {X : Type 0} (k : ℕ) (m : ℕ → Bool) (f : ℕ → List X) (xs : List X) (b : Bool) → m k ≡ b → rewritten (k + 1) m f xs ≡ cond b (with_part k (f k) (rewritten k m f xs)) (rewritten k m f xs)
rewritten_more k m f xs b e =
    ap (λ n. rewritten n m f xs) (add-one k) ∙ (unfold rewritten in ap (λ q. cond q (with_part k (f k) (rewritten k m f xs)) (rewritten k m f xs)) e)

-- the highest answer
pub highest_more : {X : Type 0} (k : ℕ) (f : ℕ → Option X) (o : Option X) → f k ≡ o → highest (k + 1) f ≡ or_else o (highest k f)
highest_more k f o e = ap (λ n. highest n f) (add-one k) ∙ (unfold highest in ap (λ x. or_else x (highest k f)) e)

-- levels put over others
pub releveled_twice : (s : Store ℕ) (o w : Option (List Numbers)) → releveled (releveled s o) w ≡ releveled s (or_else w o)
releveled_twice s o None = refl
releveled_twice s None (Some ls) = refl
releveled_twice s (Some ks) (Some ls) = refl
