-- The operands, whose newest stands last, against the parameters of a head.
use Rattle.std.proofs.Common.{◌≡◌, ℕ, zero, suc, ◌+◌, ◌-◌, ◌<◌, ◌≤◌, Bool as Truth, eqb, List, [], ◌∷◌, ◌++◌, reverse, length, get_or, take, drop, Some, sym, refl, ap, ◌∙◌, arith}
use Rattle.std.proofs.lemmas.List.{reverse-append, reverse-reverse, length-reverse, length-drop, take-append-drop, take_at, drop_at, drop_more, drop_all}
use Rattle.std.proofs.lemmas.Bool.Decides.{nat_tests}
use Rattle.std.specs.List.{list_all, enumerate_from}
use Rattle.std.specs.Option.{option_eq}
use Rattle.heads.specs.Heads.{nth}
use Rattle.walk.specs.Judge.{equal_all, fitting}

module _ {A : Type 0} (xs : List A) (n : ℕ) (h : n ≤ length xs) where
  parted : reverse xs ≡ reverse (drop (length xs - n) xs) ++ reverse (take (length xs - n) xs)
  parted = ap reverse (sym (take-append-drop (length xs - n) xs)) ∙ reverse-append (take (length xs - n) xs) (drop (length xs - n) xs)

  length_last : length (reverse (drop (length xs - n) xs)) ≡ n
  length_last = let r = length-reverse (drop (length xs - n) xs) in let d = length-drop (length xs - n) xs in omega arith

  -- the first of the newest first are the last ones
  pub newest : take n (reverse xs) ≡ reverse (drop (length xs - n) xs)
  newest = ap (take n) parted ∙ take_at (reverse (drop (length xs - n) xs)) (reverse (take (length xs - n) xs)) n length_last

  -- without them the others are left
  others : drop n (reverse xs) ≡ reverse (take (length xs - n) xs)
  others = ap (drop n) parted ∙ drop_at (reverse (drop (length xs - n) xs)) (reverse (take (length xs - n) xs)) n length_last

-- with one more after those that are left
pub settled : {A : Type 0} (xs : List A) (n : ℕ) (x : A) → n ≤ length (reverse xs) → reverse (take (length xs - n) xs ++ x ∷ []) ≡ x ∷ drop n (reverse xs)
settled xs n x h =
    let l = length-reverse xs in
    reverse-append (take (length xs - n) xs) (x ∷ []) ∙ ap (λ l. x ∷ l) (sym (others xs n (omega arith)))

-- a code is the i-th of a list
abbrev pub is_nth : List ℕ → ℕ × ℕ → Truth
is_nth cs p = option_eq eqb (nth cs p.0) (Some p.1)

-- the i-th of a list, where there is one
nth_there : (cs : List ℕ) (i : ℕ) → i < length cs → nth cs i ≡ Some (get_or cs i 0)
nth_there [] i h = absurd (omega arith)
nth_there (c ∷ cs) zero h = refl
nth_there (c ∷ cs) (suc i) h = nth_there cs i (omega arith)

eqb_sym : (a b : ℕ) → eqb a b ≡ eqb b a
eqb_sym a b = grind (arith, nat_tests)

-- some codes, one by one, against those of a list from the i-th on
fitting_from : (xs cs : List ℕ) (i : ℕ) → length xs + i ≡ length cs → list_all (is_nth cs) (enumerate_from i xs) ≡ equal_all xs (drop i cs)
fitting_from [] cs i h = let e = drop_all i cs (omega arith) in rw e refl
fitting_from (x ∷ xs) cs i h =
    let n = nth_there cs i (omega arith) in
    let d = drop_more cs i 0 (omega arith) in
    let s = eqb_sym (get_or cs i 0) x in
    let r = fitting_from xs cs (i + 1) (omega arith) in
    rw (n, d, r, s) refl

-- the last of a list against all the codes
pub fits_last : (xs cs : List ℕ) → length cs ≤ length xs → list_all (is_nth cs) (enumerate_from 0 (drop (length xs - length cs) xs)) ≡ fitting cs (reverse xs)
fits_last xs cs h =
    let d = length-drop (length xs - length cs) xs in
    fitting_from (drop (length xs - length cs) xs) cs 0 (omega arith)
    ∙ ap (λ l. equal_all l cs) (sym (reverse-reverse (drop (length xs - length cs) xs)) ∙ ap reverse (sym (newest xs (length cs) h)))
