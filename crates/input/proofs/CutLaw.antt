-- The pieces of an input are the input, none is empty, each but the last ends with its first line that begins 03, and the last has none before its last line.
use Rattle.std.proofs.Common.{◌≡◌, ℕ, Bool, true, false, cond, eqb, List, [], ◌∷◌, ◌++◌, length, sym, refl, ap, ◌∙◌, append_assoc, length-append, ◌≤◌, arith}
use Rattle.std.specs.List.{AllByRecursion as All}
use Rattle.input.specs.Pieces.{lines, onto, ends_sheet, before, cut_after, pieces, together, EndsWithFirst, NoneBeforeLast, Ending, Cutting}
use Rattle.input.proofs.LineLaws.{lines_by}

-- one line and no more; one whose bytes end there, whatever follows
abbrev Line : List ℕ → Type 0
Line l = lines l ≡ l ∷ []

abbrev Ended : List ℕ → Type 0
Ended l = (xs : List ℕ) → lines (l ++ xs) ≡ l ∷ lines xs

-- all are lines, and each but the last is ended
abbrev Proper : List (List ℕ) → Type 0
Proper [] = Unit {0}
Proper (l ∷ []) = Line l
Proper (l ∷ m ∷ ls) = Line l × Ended l × Proper (m ∷ ls)

line_of_proper : (l : List ℕ) (ls : List (List ℕ)) → Proper (l ∷ ls) → Line l
line_of_proper l [] h = h
line_of_proper l (m ∷ ls) h = h.0

rest_of_proper : (l : List ℕ) (ls : List (List ℕ)) → Proper (l ∷ ls) → Proper ls
rest_of_proper l [] h = tt
rest_of_proper l (m ∷ ls) h = h.2

proper_newline : (b : ℕ) → eqb b 10 ≡ true → (ls : List (List ℕ)) → Proper ls → Proper ((b ∷ []) ∷ ls)
proper_newline b e [] h = lines_by b [] true e
proper_newline b e (l ∷ ls) h = (lines_by b [] true e, (λ xs. lines_by b xs true e), h)

proper_onto : (b : ℕ) → eqb b 10 ≡ false → (ls : List (List ℕ)) → Proper ls → Proper (onto b ls)
proper_onto b e [] h = lines_by b [] false e
proper_onto b e (l ∷ []) h = lines_by b l false e ∙ ap (onto b) h
proper_onto b e (l ∷ m ∷ ls) h = (lines_by b l false e ∙ ap (onto b) h.0, (λ xs. lines_by b (l ++ xs) false e ∙ ap (onto b) (h.1 xs)), h.2)

proper_by : (b : ℕ) (bs : List ℕ) (t : Bool) → eqb b 10 ≡ t → Proper (lines bs) → Proper (cond t ((b ∷ []) ∷ lines bs) (onto b (lines bs)))
proper_by b bs true e h = proper_newline b e (lines bs) h
proper_by b bs false e h = proper_onto b e (lines bs) h

lines_proper : (xs : List ℕ) → Proper (lines xs)
lines_proper [] = tt
lines_proper (b ∷ bs) = proper_by b bs (eqb b 10) refl (lines_proper bs)

-- ===== the pieces joined are the input =====
together_onto : (b : ℕ) (ls : List (List ℕ)) → together (onto b ls) ≡ b ∷ together ls
together_onto b [] = refl
together_onto b (l ∷ ls) = refl

together_by : (b : ℕ) (bs : List ℕ) (t : Bool) → together (lines bs) ≡ bs → together (cond t ((b ∷ []) ∷ lines bs) (onto b (lines bs))) ≡ b ∷ bs
together_by b bs true h = ap (λ xs. b ∷ xs) h
together_by b bs false h = together_onto b (lines bs) ∙ ap (λ xs. b ∷ xs) h

together_lines : (xs : List ℕ) → together (lines xs) ≡ xs
together_lines [] = refl
together_lines (b ∷ bs) = together_by b bs (eqb b 10) (together_lines bs)

together_before : (xs : List ℕ) (ps : List (List ℕ)) → together (before xs ps) ≡ xs ++ together ps
together_before [] ps = refl
together_before (x ∷ xs) [] = refl
together_before (x ∷ xs) (p ∷ ps) = append_assoc (x ∷ xs) p (together ps)

together_cut : (ls : List (List ℕ)) → together (cut_after ls) ≡ together ls
together_cut [] = refl
together_cut (l ∷ ls) = go (ends_sheet l) (together_cut ls)
  where
    go : (t : Bool) → together (cut_after ls) ≡ together ls → together (cond t (l ∷ cut_after ls) (before l (cut_after ls))) ≡ l ++ together ls
    go true h = ap (λ xs. l ++ xs) h
    go false h = together_before l (cut_after ls) ∙ ap (λ xs. l ++ xs) h

-- ===== none is empty =====
abbrev Some : List ℕ → Type 0
Some p = p ≡ [] → ⊥

line_some : (l : List ℕ) → Line l → Some l
line_some l h e = omega (arith, ap length (sym (ap lines e) ∙ h))

some_before : (l : List ℕ) (ps : List (List ℕ)) → Some l → All Some ps → All Some (before l ps)
some_before [] ps s h = absurd (s refl)
some_before (x ∷ xs) [] s h = (s, tt)
some_before (x ∷ xs) (p ∷ ps) s h = ((λ e. omega (arith, ap length e)), h.1)

some_cut : (ls : List (List ℕ)) → Proper ls → All Some (cut_after ls)
some_cut [] h = tt
some_cut (l ∷ ls) h = go (ends_sheet l) (line_some l (line_of_proper l ls h)) (some_cut ls (rest_of_proper l ls h))
  where
    go : (t : Bool) → Some l → All Some (cut_after ls) → All Some (cond t (l ∷ cut_after ls) (before l (cut_after ls)))
    go true s h = (s, h)
    go false s h = some_before l (cut_after ls) s h

-- ===== each but the last ends with its first line that begins 03 =====
ends_alone : (l : List ℕ) → Line l → ends_sheet l ≡ true → EndsWithFirst l
ends_alone l h e = ([], (l, (h, e, tt)))

ends_later : (l p : List ℕ) → Ended l → ends_sheet l ≡ false → EndsWithFirst p → EndsWithFirst (l ++ p)
ends_later l p h e (ls, (m, (is, last, none))) = (l ∷ ls, (m, (h p ∙ ap (λ xs. l ∷ xs) is, last, (e, none))))

none_alone : (l : List ℕ) → Line l → NoneBeforeLast l
none_alone l h = ([], (l, (h, tt)))

none_later : (l p : List ℕ) → Ended l → ends_sheet l ≡ false → NoneBeforeLast p → NoneBeforeLast (l ++ p)
none_later l p h e (ls, (m, (is, none))) = (l ∷ ls, (m, (h p ∙ ap (λ xs. l ∷ xs) is, (e, none))))

-- one that ends with its first has none before
ends_none : (p : List ℕ) → EndsWithFirst p → NoneBeforeLast p
ends_none p (ls, (l, (is, last, none))) = (ls, (l, (is, none)))

ending_more : (p : List ℕ) (ps : List (List ℕ)) → EndsWithFirst p → Ending ps → Ending (p ∷ ps)
ending_more p [] e h = ends_none p e
ending_more p (q ∷ ps) e h = (e, h)

ending_before : (l : List ℕ) (ps : List (List ℕ)) → Line l → Ended l → ends_sheet l ≡ false → Ending ps → Ending (before l ps)
ending_before [] ps s d e h = absurd (line_some [] s refl)
ending_before (x ∷ xs) [] s d e h = none_alone (x ∷ xs) s
ending_before (x ∷ xs) (p ∷ []) s d e h = none_later (x ∷ xs) p d e h
ending_before (x ∷ xs) (p ∷ q ∷ ps) s d e h = (ends_later (x ∷ xs) p d e h.0, h.1)

ending_last : (l : List ℕ) → Line l → Ending (before l [])
ending_last [] s = absurd (line_some [] s refl)
ending_last (x ∷ xs) s = none_alone (x ∷ xs) s

ending_by : (l : List ℕ) (ls : List (List ℕ)) (t : Bool) → ends_sheet l ≡ t → Proper (l ∷ ls) → Ending (cut_after ls) →
    Ending (cond t (l ∷ cut_after ls) (before l (cut_after ls)))
ending_by l ls true e h k = ending_more l (cut_after ls) (ends_alone l (line_of_proper l ls h) e) k
ending_by l [] false e h k = ending_last l h
ending_by l (m ∷ ls) false e h k = ending_before l (cut_after (m ∷ ls)) h.0 h.1 e k

ending_cut : (ls : List (List ℕ)) → Proper ls → Ending (cut_after ls)
ending_cut [] h = tt
ending_cut (l ∷ ls) h = ending_by l ls (ends_sheet l) refl h (ending_cut ls (rest_of_proper l ls h))

pub cutting : Cutting
unfolding pieces
cutting input = record {
  whole = together_cut (lines input) ∙ together_lines input;
  some = some_cut (lines input) (lines_proper input);
  ends = ending_cut (lines input) (lines_proper input);
}

-- so there are no more pieces than bytes
parts_few : (ps : List (List ℕ)) → All Some ps → length ps ≤ length (together ps)
parts_few [] h = omega arith
parts_few ([] ∷ ps) h = absurd (h.0 refl)
parts_few ((x ∷ xs) ∷ ps) h = omega (arith, parts_few ps h.1, length-append xs (together ps))

pub pieces_few : (input : List ℕ) → length (pieces input) ≤ length input
pieces_few input = let c = cutting input in omega (arith, parts_few (pieces input) c.some, ap length c.whole)
