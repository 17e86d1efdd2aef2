-- The rows of the table in order of kind, as the code's table lists them.
use Rattle.std.proofs.Common.{◌≡◌, ℕ, zero, suc, ◌+◌, ◌<◌, ◌≤◌, List, [], ◌∷◌, length, get_or, None, Option, sym, ap, ◌∙◌, subst, le_of_suc-le-suc, not-suc-le-zero, add-zero, add-suc, suc-add, zero-add, arith}
use Rattle.std.proofs.lemmas.Bool.Decides.{nat_tests}
use Rattle.syntax.specs.declared.kinds.Row.{Row}
use Rattle.syntax.specs.Kinds.{row}

-- P holds of each entry and its place, counted from i
abbrev pub AllAt : {X : Type 0} → (ℕ → X → Type 0) → ℕ → List X → Type 0
AllAt P i [] = Unit {0}
AllAt P i (x ∷ xs) = P i x × AllAt P (suc i) xs

-- one entry and the entries after it
infixr 20 ◌&◌
abbrev pub ◌&◌ : {A B : Type 0} → A → B → A × B
◌&◌ a b = (a, b)

all_at_from : {X : Type 0} (P : ℕ → X → Type 0) (xs : List X) (i : ℕ) → AllAt P i xs → (k : ℕ) (d : X) → k < length xs → P (i + k) (get_or xs k d)
all_at_from P [] i t k d h = absurd (not-suc-le-zero h)
all_at_from P (x ∷ xs) i t zero d h = subst (λ (m : ℕ). P m x) (sym (add-zero i)) t.0
all_at_from P (x ∷ xs) i t (suc k) d h =
    subst (λ (m : ℕ). P m (get_or xs k d)) (suc-add i k ∙ sym (add-suc i k)) (all_at_from P xs (suc i) t.1 k d (le_of_suc-le-suc h))

pub all_at : {X : Type 0} (P : ℕ → X → Type 0) (xs : List X) → AllAt P 0 xs → (k : ℕ) (d : X) → k < length xs → P k (get_or xs k d)
all_at P xs t k d h = subst (λ (m : ℕ). P m (get_or xs k d)) (zero-add k) (all_at_from P xs 0 t k d h)

-- the rows of n kinds, from kind i on
abbrev pub rows_from : ℕ → ℕ → List (Option Row)
rows_from zero i = []
rows_from (suc n) i = row i ∷ rows_from n (suc i)

-- the rows of all kinds
abbrev pub rows : List (Option Row)
rows = rows_from 61 0

getD_rows_from : (n i k : ℕ) (d : Option Row) → k < n → get_or (rows_from n i) k d ≡ row (i + k)
getD_rows_from zero i k d h = absurd (not-suc-le-zero h)
getD_rows_from (suc n) i zero d h = ap row (sym (add-zero i))
getD_rows_from (suc n) i (suc k) d h = getD_rows_from n (suc i) k d (le_of_suc-le-suc h) ∙ ap row (suc-add i k ∙ sym (add-suc i k))

pub get_d_rows : (k : ℕ) (d : Option Row) → k < 61 → get_or rows k d ≡ row k
get_d_rows k d h = getD_rows_from 61 0 k d h ∙ ap row (zero-add k)

-- past the table no kind is known
pub row_past : (k : ℕ) → 61 ≤ k → None ≡ row k
row_past k h = grind (arith, nat_tests)
