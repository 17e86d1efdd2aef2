-- A table with the digit of each byte.
use Rattle.std.proofs.Common.{◌≡◌, ℕ, ◌+◌, ◌<◌, ◌≤◌, Bool, true, false, cond, not, ◌&&◌, ◌||◌, ltb, eqb, List, get_or, sym, ◌∙◌, subst, arith, inl, inr}
use Rattle.std.proofs.lemmas.Bool.{agree_below, agree_below_at, eqb-true, lt-ltb, le-ltb, cond-true, cond-false, not-true, both_ways, or_left, or_right, and_from, cases_lt}
use Rattle.codec.specs.Text.{digit}

-- the byte is that of a digit
abbrev pub is_digit : ℕ → Bool
is_digit b = (ltb 47 b && ltb b 58) || (ltb 64 b && ltb b 71)

-- the number is the byte's digit, or else the byte is that of none
abbrev pub right : ℕ → ℕ → Bool
right v b = cond (ltb v 16) (eqb b (digit v)) (not (is_digit b))

-- a digit's byte is that of a digit
digits_are : (d : ℕ) → d < 16 → is_digit (digit d) ≡ true
digits_are d h =
    elim (cases_lt d 10) [
      | inl l ↦ (let e : digit d ≡ 48 + d = cond-true (ltb d 10) (48 + d) (55 + d) (lt-ltb d 10 l) in
          subst (λ n. is_digit n ≡ true) (sym e) (or_left (ltb 47 (48 + d) && ltb (48 + d) 58) (ltb 64 (48 + d) && ltb (48 + d) 71) (and_from (ltb 47 (48 + d)) (ltb (48 + d) 58) (lt-ltb 47 (48 + d) (omega arith)) (lt-ltb (48 + d) 58 (omega arith)))))
      | inr g ↦ (let e : digit d ≡ 55 + d = cond-false (ltb d 10) (48 + d) (55 + d) (le-ltb d 10 g) in
          subst (λ n. is_digit n ≡ true) (sym e) (or_right (ltb 47 (55 + d) && ltb (55 + d) 58) (ltb 64 (55 + d) && ltb (55 + d) 71) (and_from (ltb 64 (55 + d)) (ltb (55 + d) 71) (lt-ltb 64 (55 + d) (omega arith)) (lt-ltb (55 + d) 71 (omega arith)))))
    ]

module _ (t : List ℕ) (table : agree_below (λ b. right (get_or t b 0) b) (λ b. true) 256 ≡ true) (b : ℕ) (lt : b < 256) where
  -- the table is right at the byte
  right_at : right (get_or t b 0) b ≡ true
  right_at = agree_below_at (λ c. right (get_or t c 0) c) (λ c. true) 256 b table lt

  -- what it has below 16 is the byte's digit
  pub table_digit : get_or t b 0 < 16 → b ≡ digit (get_or t b 0)
  table_digit h =
      let v = get_or t b 0 in
      eqb-true b (digit v) (sym (cond-true (ltb v 16) (eqb b (digit v)) (not (is_digit b)) (lt-ltb v 16 h)) ∙ right_at)

  -- else the byte is that of no digit
  pub table_none : 16 ≤ get_or t b 0 → (d : ℕ) → d < 16 → b ≡ digit d → ⊥
  table_none h d k e =
      let v = get_or t b 0 in
      let none : is_digit b ≡ false = not-true (is_digit b) (sym (cond-false (ltb v 16) (eqb b (digit v)) (not (is_digit b)) (le-ltb v 16 h)) ∙ right_at) in
      both_ways (is_digit b) none (subst (λ n. is_digit n ≡ true) (sym e) (digits_are d k))
