-- Laws of the digits of a number.
use Rattle.std.proofs.Common.{◌≡◌, ℕ, zero, suc, ◌+◌, ◌*◌, ◌/◌, ◌%◌, ◌^◌, ◌<◌, ◌≤◌, List, [], ◌∷◌, ◌++◌, length, get_or, refl, ap, ◌∙◌, subst, inl, inr, pow-suc, add-one, arith}
use native.Mathlib.Nat.{pow-le-pow_right}
use Rattle.std.proofs.lemmas.List.{length_push, get_or_push, get_or_append_left}
use Rattle.std.proofs.lemmas.Nat.{mod_below, div-mul-add, mod-mul-add}
use Rattle.std.proofs.lemmas.Bool.{cases_lt}
use Rattle.codec.specs.Text.{digit, hexes}

pub length_hexes : (w n : ℕ) → length (hexes w n) ≡ w
unfolding hexes
length_hexes zero n = refl
length_hexes (suc w) n = length_push (hexes w (n / 16)) (digit (n % 16)) ∙ ap (λ k. k + 1) (length_hexes w (n / 16)) ∙ add-one w

pub hexes_step : (w n : ℕ) → hexes (w + 1) n ≡ hexes w (n / 16) ++ (digit (n % 16) ∷ [])
unfolding hexes
hexes_step w n = rw add-one refl

pub hexes_more : (w n d : ℕ) → d < 16 → hexes (w + 1) (n * 16 + d) ≡ hexes w n ++ (digit d ∷ [])
hexes_more w n d h =
    let a = div-mul-add n 16 d h in
    let b = mod-mul-add n 16 d h in
    let s = hexes_step w (n * 16 + d) in
    cc

-- each byte is a digit
pub hexes_digit : (w n i : ℕ) → i < w → (d : ℕ) × (d < 16) × (get_or (hexes w n) i 0 ≡ digit d)
unfolding hexes
hexes_digit zero n i h = absurd (omega arith)
hexes_digit (suc w) n i h =
    let l = length_hexes w (n / 16) in
    elim (cases_lt i w) [
      | inl lt ↦ (let r = hexes_digit w (n / 16) i lt in (r.0, r.1, get_or_append_left (hexes w (n / 16)) (digit (n % 16) ∷ []) 0 i (omega arith) ∙ r.2))
      | inr ge ↦ (n % 16, mod_below n 16 (omega arith), get_or_push (hexes w (n / 16)) (digit (n % 16)) 0 i (omega arith))
    ]

pub pow_step : (n d i : ℕ) → n < 16 ^ i → d < 16 → n * 16 + d < 16 ^ (i + 1)
pow_step n d i h k = rw (add-one, pow-suc) (omega arith)

pub pow_bound : (n i j : ℕ) → n < 16 ^ i → i ≤ j → n < 16 ^ j
pow_bound n i j h k = let p : 16 ^ i ≤ 16 ^ j = pow-le-pow_right {n = 16} (omega arith) k in omega arith

-- of digits that are those of n, the count is known
pub sized : (xs : List ℕ) (w n : ℕ) → xs ≡ hexes w n → xs ≡ hexes (length xs) n
sized xs w n e = let l : length xs ≡ w = ap length e ∙ length_hexes w n in cc

pub resized : (xs : List ℕ) (w n : ℕ) → length xs ≡ w → (n < 16 ^ length xs) × (xs ≡ hexes (length xs) n) → (n < 16 ^ w) × (xs ≡ hexes w n)
resized xs w n l h = subst (λ k. (n < 16 ^ k) × (xs ≡ hexes k n)) l h
