-- The first line of bytes: the first of the parts that each end after a byte 10.
use Rattle.std.proofs.Common.{◌≡◌, ℕ, zero, suc, ◌+◌, ◌<◌, Bool, true, false, cond, eqb, min, List, [], ◌∷◌, ◌++◌, length, ap, ◌∙◌, subst, arith}
use Rattle.std.specs.List.{IsFirstMatchOrLen}
use Rattle.std.proofs.lemmas.List.{nil_from_length}
use Rattle.input.specs.Pieces.{lines, onto}

-- the byte ends a line
abbrev pub ends_line : ℕ → Bool
ends_line b = eqb b 10

-- by whether the first byte ends a line
pub lines_by : (b : ℕ) (bs : List ℕ) (t : Bool) → ends_line b ≡ t → lines (b ∷ bs) ≡ cond t ((b ∷ []) ∷ lines bs) (onto b (lines bs))
lines_by b bs t e = ap (λ t. cond t ((b ∷ []) ∷ lines bs) (onto b (lines bs))) e

-- a byte that ends no line is passed over
later : (b : ℕ) (bs : List ℕ) (i : ℕ) → IsFirstMatchOrLen ends_line (b ∷ bs) (suc i) → IsFirstMatchOrLen ends_line bs i
later b bs i h = ((λ k d low l. h.0 (suc k) d (omega arith) (omega arith)), (λ l d. h.1 (omega arith) d))

of_parts : (line more : List ℕ) (i : ℕ) → length line ≡ min (i + 1) (length (line ++ more)) → IsFirstMatchOrLen ends_line (line ++ more) i → 0 < length (line ++ more) → lines (line ++ more) ≡ line ∷ lines more
of_parts [] more i n h some = absurd (omega arith)
of_parts (b ∷ []) more zero n h some = lines_by b more true (h.1 some b)
of_parts (b ∷ []) more (suc i) n h some =
    let none : more ≡ [] = nil_from_length more (omega arith) in
    rw none (lines_by b [] false (h.0 0 b (omega arith) (omega arith)))
of_parts (b ∷ c ∷ line) more zero n h some = absurd (omega arith)
of_parts (b ∷ c ∷ line) more (suc i) n h some =
    lines_by b (c ∷ (line ++ more)) false (h.0 0 b (omega arith) (omega arith))
    ∙ ap (onto b) (of_parts (c ∷ line) more i (omega arith) (later b (c ∷ (line ++ more)) i h) (omega arith))

-- the part that the split yields of the rest
pub first_line : (rest line more : List ℕ) (i : ℕ) → rest ≡ line ++ more → length line ≡ min (i + 1) (length rest) → IsFirstMatchOrLen ends_line rest i → 0 < length rest → lines (line ++ more) ≡ line ∷ lines more
first_line rest line more i e n h some =
    of_parts line more i (subst (λ xs. length line ≡ min (i + 1) (length xs)) e n) (subst (λ xs. IsFirstMatchOrLen ends_line xs i) e h) (subst (λ xs. 0 < length xs) e some)
