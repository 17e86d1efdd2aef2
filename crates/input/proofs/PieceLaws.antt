-- The first piece, line by line.
use Rattle.std.proofs.Common.{◌≡◌, ℕ, ◌+◌, ◌<◌, ◌≤◌, true, false, List, [], ◌∷◌, ◌++◌, length, take, drop, sym, refl, ap, ◌∙◌, append_assoc, append-nil, arith}
use Rattle.std.proofs.Math.Seq.{take-add, take-append_seam, drop-append_seam}
use Rattle.std.proofs.lemmas.List.{drop-drop, length-drop, length-take, nil_from_length}
use Rattle.std.proofs.lemmas.Bool.{cond-true, cond-false}
use Rattle.input.specs.Pieces.{lines, ends_sheet, before, cut_after, pieces}

before_before : (xs ys : List ℕ) (ps : List (List ℕ)) → before xs (before ys ps) ≡ before (xs ++ ys) ps
before_before [] ys ps = refl
before_before (x ∷ xs) [] ps = ap (λ zs. before zs ps) (sym (append-nil (x ∷ xs)))
before_before (x ∷ xs) (y ∷ ys) [] = refl
before_before (x ∷ xs) (y ∷ ys) (p ∷ ps) = ap (λ q. q ∷ ps) (sym (append_assoc (x ∷ xs) (y ∷ ys) p))

before_piece : (xs p : List ℕ) (ps : List (List ℕ)) → before xs (p ∷ ps) ≡ (xs ++ p) ∷ ps
before_piece [] p ps = refl
before_piece (x ∷ xs) p ps = refl

before_none : (xs : List ℕ) → 0 < length xs → before xs [] ≡ xs ∷ []
before_none [] h = absurd (omega arith)
before_none (x ∷ xs) h = refl

-- the bytes up to n are lines of the first piece, and the next line is `line`
module _ (input rest line more : List ℕ) (n : ℕ)
    (at : rest ≡ drop n input)
    (split : rest ≡ line ++ more)
    (first : lines (line ++ more) ≡ line ∷ lines more)
    (held : pieces input ≡ before (take n input) (pieces (drop n input))) where
  abbrev after : ℕ
  after = n + length line

  next : drop n input ≡ line ++ more
  next = sym at ∙ split

  up_to : take after input ≡ take n input ++ line
  up_to = take-add n (length line) input ∙ ap (λ xs. take n input ++ take (length line) xs) next ∙ ap (λ xs. take n input ++ xs) (take-append_seam line more)

  pub left : more ≡ drop after input
  left = sym (sym (drop-drop (length line) n input) ∙ ap (drop (length line)) next ∙ drop-append_seam line more)

  cut_here : pieces (drop n input) ≡ cut_after (line ∷ lines more)
  unfolding pieces
  cut_here = ap (λ xs. cut_after (lines xs)) next ∙ ap cut_after first

  -- a line that does not begin 03 goes to the piece
  pub piece_goes_on : false ≡ ends_sheet line → pieces input ≡ before (take after input) (pieces (drop after input))
  unfolding pieces
  piece_goes_on e =
      let tail = cut_after (lines more) in
      held ∙ ap (before (take n input)) (cut_here ∙ cond-false (ends_sheet line) (line ∷ tail) (before line tail) (sym e))
      ∙ before_before (take n input) line tail ∙ ap (λ xs. before xs tail) (sym up_to) ∙ ap (λ xs. before (take after input) (cut_after (lines xs))) left

  -- a line that begins 03 ends it
  pub piece_ends : true ≡ ends_sheet line → pieces input ≡ take after input ∷ pieces (drop after input)
  unfolding pieces
  piece_ends e =
      let tail = cut_after (lines more) in
      held ∙ ap (before (take n input)) (cut_here ∙ cond-true (ends_sheet line) (line ∷ tail) (before line tail) (sym e))
      ∙ before_piece (take n input) line tail ∙ ap (λ xs. xs ∷ tail) (sym up_to) ∙ ap (λ xs. take after input ∷ cut_after (lines xs)) left

-- with no line left the piece is all of the input
pub piece_is_all : (input rest : List ℕ) (n : ℕ) → 0 < length input → rest ≡ drop n input → length rest ≡ 0 → pieces input ≡ before (take n input) (pieces (drop n input)) → pieces input ≡ take n input ∷ pieces (drop n input)
unfolding pieces
piece_is_all input rest n some at over held =
    let none : drop n input ≡ [] = sym at ∙ nil_from_length rest over in
    let all : length input ≤ n = omega (arith, length-drop n input, ap length none) in
    let b = before_none (take n input) (omega (arith, length-take n input)) in
    held ∙ ap (λ xs. before (take n input) (cut_after (lines xs))) none ∙ b ∙ ap (λ xs. take n input ∷ cut_after (lines xs)) (sym none)

-- no bytes have no pieces
pub no_pieces : (xs : List ℕ) → xs ≡ [] → pieces xs ≡ []
unfolding pieces
no_pieces xs e = ap (λ ys. cut_after (lines ys)) e
