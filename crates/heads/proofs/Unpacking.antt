-- The parameters of a packed head, one by one.
use Rattle.std.proofs.Common.{◌≡◌, ℕ, zero, suc, zero-add, SomeIff, Option, unwrap_or, ◌+◌, ◌-◌, ◌*◌, ◌/◌, ◌%◌, ◌^◌, ◌<◌, ◌≤◌, List, reverse, length, Some, None, sym, refl, ap, ◌∙◌, arith}
use Rattle.std.proofs.lemmas.List.{length-reverse, get_or-reverse}
use Rattle.std.proofs.lemmas.Option.{slice_get-get_or}
use Rattle.std.proofs.lemmas.Nat.{shr-shr, shr_below}
use native.Mathlib.Nat.{pow-le-pow_right}
use Rattle.heads.specs.Heads.{digits_of, count_of, parameters_of, nth}

length_digits : (n d : ℕ) → length (digits_of n d) ≡ n
length_digits zero d = refl
length_digits (suc n) d = ap suc (length_digits n (d / 8))

pub length_parameters : (h : ℕ) → count_of h ≡ length (parameters_of h)
length_parameters h = sym (length-reverse (digits_of (count_of h) (h / 256)) ∙ length_digits (count_of h) (h / 256))

-- the i-th from the front is as far from the end of what is turned round
nth_reverse : (cs : List ℕ) (i : ℕ) → i < length cs → nth cs (length cs - 1 - i) ≡ nth (reverse cs) i
nth_reverse cs i h =
    let l = length-reverse cs in
    slice_get-get_or cs (length cs - 1 - i) 0 (omega arith) ∙ ap Some (sym (get_or-reverse cs i 0 h)) ∙ sym (slice_get-get_or (reverse cs) i 0 (omega arith))

-- the k-th digit, three bits each
nth_digits : (n d k : ℕ) → k < n → nth (digits_of n d) k ≡ Some (d / 2 ^ (3 * k) % 8)
nth_digits zero d k h = absurd (omega arith)
nth_digits (suc n) d zero h = let e : d ≡ d / 1 = omega arith in ap (λ x. Some (x % 8)) e
nth_digits (suc n) d (suc k) h =
    let e : 3 + 3 * k ≡ 3 * suc k = omega arith in
    nth_digits n (d / 8) k (omega arith) ∙ ap (λ x. Some (x % 8)) (shr-shr d 3 (3 * k) ∙ ap (λ j. d / 2 ^ j) e)

-- the i-th parameter is the digit as far from the other end
nth_parameters : (h i : ℕ) → i < count_of h → nth (digits_of (count_of h) (h / 256)) (count_of h - 1 - i) ≡ nth (parameters_of h) i
nth_parameters h i l =
    let n = length_digits (count_of h) (h / 256) in
    ap (λ n. nth (digits_of (count_of h) (h / 256)) (n - 1 - i)) (sym n) ∙ nth_reverse (digits_of (count_of h) (h / 256)) i (omega arith)

-- the same, by the bits above it, of which there may be none
pub parameter_is : (h i k : ℕ) → i < count_of h → k ≡ count_of h - 1 - i → Some (h / 2 ^ (8 + 3 * k) % 8) ≡ nth (parameters_of h) i
parameter_is h i k l e =
    ap (λ x. Some (x % 8)) (sym (shr-shr h 8 (3 * k))) ∙ sym (nth_digits (count_of h) (h / 256) k (omega arith))
    ∙ ap (nth (digits_of (count_of h) (h / 256))) e ∙ nth_parameters h i l

bits_out : (h j : ℕ) → h < 2 ^ 64 → 64 ≤ j → h / 2 ^ j ≡ 0
bits_out h j l m =
    let p : 2 ^ 64 ≤ 2 ^ j = pow-le-pow_right (omega arith) m in
    let e : 2 ^ j ≡ 2 ^ (0 + j) = ap (λ k. 2 ^ k) (sym (zero-add j)) in
    let r : h / 2 ^ j < 1 = shr_below h 0 j (omega arith) in
    omega arith

-- a number whose bits are moved out has 0 left
pub shifted : (h j : ℕ) (o : Option ℕ) → h < 2 ^ 64 → SomeIff o (j < 64) (h / 2 ^ j) → unwrap_or o 0 ≡ h / 2 ^ j
shifted h j None l s = sym (bits_out h j l (omega (arith, s)))
shifted h j (Some x) l s = s.1
