-- A parameter more in a packed head, and all parameters in turn.
use Rattle.std.proofs.Common.{◌≡◌, ℕ, zero, suc, ◌^◌, ◌<◌, ◌≤◌, Bool, true, false, cond, ◌&&◌, ltb, List, [], ◌∷◌, ◌++◌, reverse, length, take, Some, None, Option, sym, refl, ap, ◌∙◌, subst, ⊎_elim, arith, le-ltb, lt-ltb}
use native.Mathlib.Nat.{pow-le-pow_right}
use Rattle.std.proofs.lemmas.Bool.{cases_lt}
use Rattle.std.proofs.lemmas.List.{length-reverse, reverse-append, length-append, length-take}
use Rattle.heads.specs.Heads.{digits, low, fits, packed, head_of, bare_head, return_of, count_of, pushed, extended, parameters_of, Pushes, Unpacks}
use Rattle.heads.proofs.Packing.{and_left, and_right, low_more, low_reverse, digits_small, return_back, count_back, digits_part, fits_few, fits_low, fits_code, parameters_back, packed_return}

-- what a head that there is tells
module _ (h : ℕ) where
  told : (b : Bool) (x : ℕ) → cond b (Some x) None ≡ Some h → (b ≡ true) × (x ≡ h)
  told true x e = (refl, cc)
  told false x e = cc

  pub head_fits : (ps : List ℕ) (t : ℕ) → head_of ps t ≡ Some h → fits ps t ≡ true
  head_fits ps t e = (told (fits ps t) (packed ps t) e).0

  pub head_is : (ps : List ℕ) (t : ℕ) → head_of ps t ≡ Some h → packed ps t ≡ h
  head_is ps t e = (told (fits ps t) (packed ps t) e).1

pub unpacked : (ps : List ℕ) (t : ℕ) (r : Option ℕ) → r ≡ head_of ps t → Unpacks ps t r
unpacked ps t r e h q =
    let w = sym e ∙ q in
    let f = head_fits h ps t w in
    let P : ℕ → Type 0 = λ h. (parameters_of h ≡ ps) × (return_of h ≡ t) in
    subst P (head_is h ps t w) (parameters_back ps t f, packed_return ps t f)

-- a number that has room
module _ (ps : List ℕ) (t c : ℕ) (f : fits ps t ≡ true) where
  abbrev h : ℕ
  h = packed ps t

  abbrev d : ℕ
  d = digits (reverse ps)

  few : length ps < 32
  few = let k = fits_few ps t f in omega arith

  count_is : count_of h ≡ length ps
  count_is = count_back d (length ps) t few (fits_code ps t f)

  extended_is : extended h c ≡ packed (ps ++ c ∷ []) t
  extended_is =
      let n = length-append ps (c ∷ []) in
      let r = ap digits (reverse-append ps (c ∷ [])) in
      let a = digits_part d (length ps) t few (fits_code ps t f) in
      let b = count_is in
      let e = return_back d (length ps) t few (fits_code ps t f) in
      omega arith

  small : length ps < 16 → h < 9007199254740992
  small l =
      let k = digits_small (reverse ps) (low_reverse ps (fits_low ps t f)) in
      let e = length-reverse ps in
      let m : length (reverse ps) ≤ 15 = omega arith in
      let p : 8 ^ length (reverse ps) ≤ 8 ^ 15 = pow-le-pow_right (omega arith) m in
      let q = fits_code ps t f in
      omega arith

  fits_more : (b : Bool) → length ps < 16 → ltb c 8 ≡ b → fits (ps ++ c ∷ []) t ≡ b
  fits_more b l e =
      let n = length-append ps (c ∷ []) in
      let m : length (ps ++ c ∷ []) < 17 = omega arith in
      ap (λ x. x && (low (ps ++ c ∷ []) && ltb t 8)) (lt-ltb _ 17 m)
      ∙ ap (λ x. x && ltb t 8) (low_more ps c ∙ ap (λ x. x && ltb c 8) (fits_low ps t f) ∙ e)
      ∙ ap (λ x. b && x) (lt-ltb t 8 (fits_code ps t f)) ∙ by b
    where
      by : (b : Bool) → (b && true) ≡ b
      by true = refl
      by false = refl

  fits_full : 16 ≤ length ps → fits (ps ++ c ∷ []) t ≡ false
  fits_full l =
      let n = length-append ps (c ∷ []) in
      let m : 17 ≤ length (ps ++ c ∷ []) = omega arith in
      ap (λ x. x && (low (ps ++ c ∷ []) && ltb t 8)) (le-ltb _ 17 m)

  pub pushed_is : pushed h c ≡ head_of (ps ++ c ∷ []) t
  pushed_is =
      ⊎_elim
      (λ (l : length ps < 16).
      ap (λ b. cond b (cond (ltb h 9007199254740992) (cond (ltb c 8) (Some (extended h c)) None) None) None) (ap (λ n. ltb n 16) count_is ∙ lt-ltb _ 16 l)
      ∙ ap (λ b. cond b (cond (ltb c 8) (Some (extended h c)) None) None) (lt-ltb h 9007199254740992 (small l))
      ∙ ap (λ x. cond (ltb c 8) (Some x) None) extended_is
      ∙ ap (λ b. cond b (Some (packed (ps ++ c ∷ []) t)) None) (sym (fits_more (ltb c 8) l refl)))
      (λ (l : 16 ≤ length ps).
      ap (λ b. cond b (cond (ltb h 9007199254740992) (cond (ltb c 8) (Some (extended h c)) None) None) None) (ap (λ n. ltb n 16) count_is ∙ le-ltb _ 16 l)
      ∙ ap (λ b. cond b (Some (packed (ps ++ c ∷ []) t)) None) (sym (fits_full l)))
      (cases_lt (length ps) 16)

pub pushes : (h c : ℕ) (r : Option ℕ) → r ≡ pushed h c → Pushes h c r
pushes h c r e ps t w =
    e ∙ ap (λ h. pushed h c) (sym (head_is h ps t w)) ∙ pushed_is ps t c (head_fits h ps t w)

-- where parameters fit, so do the first of them
low_take : (k : ℕ) (ps : List ℕ) → low ps ≡ true → low (take k ps) ≡ true
low_take zero ps h = refl
low_take (suc k) [] h = refl
low_take (suc k) (c ∷ ps) h = ap (λ b. b && low (take k ps)) (and_left (ltb c 8) (low ps) h) ∙ low_take k ps (and_right (ltb c 8) (low ps) h)

fits_take : (k : ℕ) (ps : List ℕ) (t : ℕ) → fits ps t ≡ true → fits (take k ps) t ≡ true
fits_take k ps t f =
    let n = length-take k ps in
    let m = fits_few ps t f in
    ap (λ x. x && (low (take k ps) && ltb t 8)) (lt-ltb (length (take k ps)) 17 (omega arith))
    ∙ ap (λ x. x && ltb t 8) (low_take k ps (fits_low ps t f)) ∙ lt-ltb t 8 (fits_code ps t f)

-- so where the first of them have no head, all have none
pub head_none : (k : ℕ) (ps : List ℕ) (t : ℕ) → None ≡ head_of (take k ps) t → None ≡ head_of ps t
head_none k ps t e = by (fits ps t) refl
  where
    by : (b : Bool) → fits ps t ≡ b → None ≡ cond b (Some (packed ps t)) None
    by true f = let g = e ∙ ap (λ b. cond b (Some (packed (take k ps) t)) None) (fits_take k ps t f) in cc
    by false f = refl

pub head_bare : (t : ℕ) → bare_head t ≡ head_of [] t
head_bare t = let e : t ≡ packed [] t = omega arith in ap (λ n. cond (ltb t 8) (Some n) None) e
