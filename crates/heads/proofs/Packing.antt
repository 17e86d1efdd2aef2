-- Packing a head and unpacking it again.
use Rattle.std.proofs.Common.{◌≡◌, ℕ, ◌+◌, ◌*◌, ◌/◌, ◌%◌, ◌^◌, ◌<◌, Bool, true, false, ◌&&◌, ltb, List, [], ◌∷◌, ◌++◌, reverse, length, sym, refl, ap, ◌∙◌, pow-suc, arith}
use mathlib.Core.List.{reverse-cons}
use borrow.Author.Tests.{true-ltb}
use Rattle.std.proofs.lemmas.List.{length-reverse, reverse-reverse}
use Rattle.heads.specs.Heads.{digits, low, fits, packed, return_of, count_of, digits_of, parameters_of}

pub and_left : (a b : Bool) → (a && b) ≡ true → a ≡ true
and_left true b h = refl
and_left false b h = h

pub and_right : (a b : Bool) → (a && b) ≡ true → b ≡ true
and_right true b h = h
and_right false b h = cc

-- all of a list and its last are low where the longer list is
pub low_more : (cs : List ℕ) (c : ℕ) → low (cs ++ c ∷ []) ≡ (low cs && ltb c 8)
low_more [] c = by (ltb c 8)
  where
    by : (b : Bool) → (b && true) ≡ b
    by true = refl
    by false = refl
low_more (d ∷ cs) c = ap (λ b. ltb d 8 && b) (low_more cs c) ∙ by (ltb d 8) (low cs) (ltb c 8)
  where
    by : (x y z : Bool) → (x && (y && z)) ≡ ((x && y) && z)
    by true y z = refl
    by false y z = refl

pub low_reverse : (cs : List ℕ) → low cs ≡ true → low (reverse cs) ≡ true
low_reverse [] h = refl
low_reverse (c ∷ cs) h =
    ap low (reverse-cons c cs) ∙ low_more (reverse cs) c
    ∙ ap (λ b. b && ltb c 8) (low_reverse cs (and_right (ltb c 8) (low cs) h)) ∙ and_left (ltb c 8) (low cs) h

pub digits_small : (cs : List ℕ) → low cs ≡ true → digits cs < 8 ^ length cs
digits_small [] h = omega arith
digits_small (c ∷ cs) h =
    let k = digits_small cs (and_right (ltb c 8) (low cs) h) in
    let l : c < 8 = true-ltb c 8 (sym (and_left (ltb c 8) (low cs) h)) in
    let p = pow-suc 8 (length cs) in
    omega arith

-- digits are read back, lowest first
digits_back : (cs : List ℕ) → low cs ≡ true → digits_of (length cs) (digits cs) ≡ cs
digits_back [] h = refl
digits_back (c ∷ cs) h =
    let l : c < 8 = true-ltb c 8 (sym (and_left (ltb c 8) (low cs) h)) in
    let m : (digits cs * 8 + c) % 8 ≡ c = omega arith in
    let d : (digits cs * 8 + c) / 8 ≡ digits cs = omega arith in
    ap (λ x. x ∷ digits_of (length cs) ((digits cs * 8 + c) / 8)) m
    ∙ ap (λ x. c ∷ digits_of (length cs) x) d
    ∙ ap (λ l. c ∷ l) (digits_back cs (and_right (ltb c 8) (low cs) h))

-- the parts of a number that is put together so
module _ (d n t : ℕ) (few : n < 32) (code : t < 8) where
  pub return_back : return_of ((d * 32 + n) * 8 + t) ≡ t
  return_back = omega arith

  pub count_back : count_of ((d * 32 + n) * 8 + t) ≡ n
  count_back = omega arith

  pub digits_part : ((d * 32 + n) * 8 + t) / 256 ≡ d
  digits_part = omega arith

-- what fits, said apart
module _ (ps : List ℕ) (t : ℕ) (h : fits ps t ≡ true) where
  pub fits_few : length ps < 17
  fits_few = true-ltb (length ps) 17 (sym (and_left (ltb (length ps) 17) (low ps && ltb t 8) h))

  pub fits_low : low ps ≡ true
  fits_low = and_left (low ps) (ltb t 8) (and_right (ltb (length ps) 17) (low ps && ltb t 8) h)

  pub fits_code : t < 8
  fits_code = true-ltb t 8 (sym (and_right (low ps) (ltb t 8) (and_right (ltb (length ps) 17) (low ps && ltb t 8) h)))

  pub parameters_back : parameters_of (packed ps t) ≡ ps
  parameters_back =
      let few = fits_few in
      let code = fits_code in
      let n = count_back (digits (reverse ps)) (length ps) t (omega arith) code in
      let d = digits_part (digits (reverse ps)) (length ps) t (omega arith) code in
      ap (λ n. reverse (digits_of n (packed ps t / 256))) n
      ∙ ap (λ d. reverse (digits_of (length ps) d)) d
      ∙ ap (λ n. reverse (digits_of n (digits (reverse ps)))) (sym (length-reverse ps))
      ∙ ap reverse (digits_back (reverse ps) (low_reverse ps fits_low))
      ∙ reverse-reverse ps

  pub packed_return : return_of (packed ps t) ≡ t
  packed_return = let few = fits_few in return_back (digits (reverse ps)) (length ps) t (omega arith) fits_code
