-- A line is known by the frame that it spells.
use Rattle.std.proofs.Common.{◌≡◌, ℕ, zero, suc, ◌+◌, ◌*◌, ◌/◌, ◌%◌, ◌^◌, ◌<◌, true, false, List, [], ◌∷◌, ◌++◌, take, drop, sym, refl, ap, ◌∙◌, ap₂, add-one, arith}
use Rattle.std.proofs.lemmas.List.{take_at, take-append-drop}
use Rattle.std.proofs.lemmas.Nat.{mod_below, div-mul-add, mod-mul-add}
use Rattle.std.proofs.lemmas.Bool.{true≢false}
use Rattle.std.proofs.lemmas.Bool.Decides.{nat_tests}
use Rattle.std.proofs.lemmas.Slice.Eq.{bytes_eq-Decides}
use Rattle.syntax.specs.declared.frame.Frame.{Frame}
use Rattle.codec.specs.Text.{digit, hexes, line_of, Fit}
use Rattle.codec.specs.Codec.{NoLine}
use Rattle.codec.proofs.Hex.{pow_step}
use Rattle.codec.proofs.Lines.{apart, length_line}
use Rattle.cpp.specs.Text.{digit_value, spelled, frame_on, begins_line}

-- ## digits

-- the byte of a digit has its value
value_digit : (d : ℕ) → digit_value (digit d) ≡ d
value_digit d = grind (arith, nat_tests)

-- one digit more
spelled_push : (n : ℕ) (xs : List ℕ) (b : ℕ) → spelled n (xs ++ (b ∷ [])) ≡ spelled n xs * 16 + digit_value b
spelled_push n [] b = refl
spelled_push n (x ∷ xs) b = spelled_push (n * 16 + digit_value x) xs b

-- the digits of a number spell one that has these digits and is within their width
spelled_hexes : (w n : ℕ) → (spelled 0 (hexes w n) < 16 ^ w) × (hexes w (spelled 0 (hexes w n)) ≡ hexes w n)
unfolding hexes
spelled_hexes zero n = (omega arith, refl)
spelled_hexes (suc w) n =
    let m = spelled 0 (hexes w (n / 16)) in
    let d = n % 16 in
    let l : d < 16 = mod_below n 16 (omega arith) in
    let ih = spelled_hexes w (n / 16) in
    let e : spelled 0 (hexes w (n / 16) ++ (digit d ∷ [])) ≡ m * 16 + d = spelled_push 0 (hexes w (n / 16)) (digit d) ∙ ap (λ v. m * 16 + v) (value_digit d) in
    let b : m * 16 + d < 16 ^ suc w = rw add-one at (pow_step m d w ih.0 l) in (
      rw e b,
      ap (λ k. hexes w (k / 16) ++ (digit (k % 16) ∷ [])) e
          ∙ ap₂ (λ a c. hexes w a ++ (digit c ∷ [])) (div-mul-add m 16 d l) (mod-mul-add m 16 d l)
          ∙ ap (λ xs. xs ++ (digit d ∷ [])) ih.1,
    )

-- the same of a list that has these digits
spelled_as : (w n : ℕ) (xs : List ℕ) → xs ≡ hexes w n → (spelled 0 xs < 16 ^ w) × (hexes w (spelled 0 xs) ≡ hexes w n)
spelled_as w n xs e =
    let h = spelled_hexes w n in
    (rw e h.0, rw e h.1)

-- ## lines

-- the frame that a line spells is within its widths, and has that line
spelled_line : (text : List ℕ) (f : Frame) (s : List ℕ) → text ≡ line_of f ++ s → Fit (frame_on text) × (line_of (frame_on text) ≡ line_of f)
unfolding frame_on line_of
spelled_line text f s e =
    let p = apart text f s e in
    let a = spelled_as 2 f.kind (take 2 text) p.kind in
    let b = spelled_as 2 f.t (take 2 (drop 2 text)) p.t in
    let c = spelled_as 4 f.name (take 4 (drop 4 text)) p.name in
    let d = spelled_as 8 f.load (take 8 (drop 8 text)) p.load in
    (record { kind = a.0; t = b.0; name = c.0; load = d.0 }, (λ i. a.1 i ++ (b.1 i ++ (c.1 i ++ (d.1 i ++ (10 ∷ []))))))

-- where the test holds a line stands there
pub line_there : (text : List ℕ) → begins_line text ≡ true → Fit (frame_on text) × (text ≡ line_of (frame_on text) ++ drop 17 text)
unfolding begins_line
line_there text h =
    let e = (bytes_eq-Decides (take 17 text) (line_of (frame_on text))).0 h in
    let w : text ≡ line_of (frame_on text) ++ drop 17 text = sym (take-append-drop 17 text) ∙ ap (λ xs. xs ++ drop 17 text) e in
    ((spelled_line text (frame_on text) (drop 17 text) w).0, w)

-- and elsewhere none does
pub line_none : (text : List ℕ) → begins_line text ≡ false → NoLine text
unfolding begins_line
line_none text h f s e =
    let front : take 17 text ≡ line_of f = ap (take 17) e ∙ take_at (line_of f) s 17 (length_line f) in
    true≢false (sym ((bytes_eq-Decides (take 17 text) (line_of (frame_on text))).1 (front ∙ sym (spelled_line text f s e).1)) ∙ h)
