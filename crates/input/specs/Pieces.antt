-- The pieces of an input: it is cut after each line that begins 03, and what is left, if anything, is one more piece.
use Rattle.std.specs.Prelude.{◌≡◌, ℕ, Bool, true, false, cond, ◌&&◌, List, [], ◌∷◌, ◌++◌, ◌==◌, ◌≢◌}
use Rattle.std.specs.List.{flat_map, AllByRecursion}

-- a byte more in front of the first line
abbrev pub onto : ℕ → List (List ℕ) → List (List ℕ)
onto b [] = (b ∷ []) ∷ []
onto b (l ∷ ls) = (b ∷ l) ∷ ls

-- the lines of bytes: each but the last ends with its only byte 10, and the last may lack it
abbrev pub lines : List ℕ → List (List ℕ)
lines [] = []
lines (b ∷ bs) = cond (b == 10) ((b ∷ []) ∷ lines bs) (onto b (lines bs))

-- the line begins with the digits 0 and 3
abbrev pub ends_sheet : List ℕ → Bool
ends_sheet [] = false
ends_sheet (a ∷ []) = false
ends_sheet (a ∷ b ∷ bs) = a == 48 && b == 51

-- bytes more in front of the first piece
abbrev pub before : List ℕ → List (List ℕ) → List (List ℕ)
before [] ps = ps
before (b ∷ bs) [] = (b ∷ bs) ∷ []
before (b ∷ bs) (p ∷ ps) = ((b ∷ bs) ++ p) ∷ ps

-- lines joined into pieces, cut after each line that begins 03
abbrev pub cut_after : List (List ℕ) → List (List ℕ)
cut_after [] = []
cut_after (l ∷ ls) = cond (ends_sheet l) (l ∷ cut_after ls) (before l (cut_after ls))

-- the pieces of an input
unfoldable pub pieces : List ℕ → List (List ℕ)
pieces input = cut_after (lines input)

-- the bytes of pieces, one after the other
abbrev pub together : List (List ℕ) → List ℕ
together ps = flat_map (λ p. p) ps

-- the piece's last line begins 03, and none before it does
abbrev pub EndsWithFirst : List ℕ → Type 0
EndsWithFirst p =
    (ls : List (List ℕ)) × ((l : List ℕ) × ((lines p ≡ ls ++ (l ∷ [])) × (ends_sheet l ≡ true) × AllByRecursion (λ m. ends_sheet m ≡ false) ls))

-- none of the piece's lines before its last begins 03
abbrev pub NoneBeforeLast : List ℕ → Type 0
NoneBeforeLast p = (ls : List (List ℕ)) × ((l : List ℕ) × ((lines p ≡ ls ++ (l ∷ [])) × AllByRecursion (λ m. ends_sheet m ≡ false) ls))

-- each but the last ends with its first line that begins 03, and the last has none before its last line
abbrev pub Ending : List (List ℕ) → Type 0
Ending [] = Unit {0}
Ending (p ∷ []) = NoneBeforeLast p
Ending (p ∷ q ∷ ps) = EndsWithFirst p × Ending (q ∷ ps)

-- what the pieces of every input are
pub record Cuts (input : List ℕ) (ps : List (List ℕ)) : Type 0 where
  pub whole : together ps ≡ input
  pub some : AllByRecursion (λ p. p ≢ []) ps
  pub ends : Ending ps

-- every input is cut so
abbrev pub Cutting : Type 0
Cutting = (input : List ℕ) → Cuts input (pieces input)
