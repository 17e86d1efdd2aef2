-- A line taken apart and put together.
use Rattle.std.proofs.Common.{◌≡◌, ℕ, ◌+◌, ◌*◌, ◌≤◌, ◌≢◌, min, List, [], ◌∷◌, ◌++◌, length, get_or, take, drop, set, sym, refl, ap, ◌∙◌, arith}
use Rattle.std.proofs.lemmas.List.{append_assoc, append-nil, length-append, length-drop, length-take-le, drop_at, drop_all, take_at, set_at, drop-drop, drop_more, get_or-drop, take-append-drop}
use Rattle.syntax.specs.declared.frame.Frame.{Frame}
use Rattle.codec.specs.Text.{hexes, line_of, text_of}
use Rattle.codec.specs.Codec.{NoLine}
use Rattle.codec.proofs.Hex.{length_hexes}

-- the text begins with the line of f
pub record Parts (text : List ℕ) (f : Frame) : Type 0 where
  pub long : 17 ≤ length text
  pub kind : take 2 text ≡ hexes 2 f.kind
  pub t : take 2 (drop 2 text) ≡ hexes 2 f.t
  pub name : take 4 (drop 4 text) ≡ hexes 4 f.name
  pub load : take 8 (drop 8 text) ≡ hexes 8 f.load
  pub feed : get_or text 16 0 ≡ 10

opened : (f : Frame) (s : List ℕ) → line_of f ++ s ≡ hexes 2 f.kind ++ (hexes 2 f.t ++ (hexes 4 f.name ++ (hexes 8 f.load ++ (10 ∷ s))))
unfolding line_of
opened f s = simp append_assoc

pub length_line : (f : Frame) → length (line_of f) ≡ 17
unfolding line_of
length_line f =
    simp (length-append, length_hexes)

pub apart : (text : List ℕ) (f : Frame) (s : List ℕ) → text ≡ line_of f ++ s → Parts text f
apart text f s e =
    let a = hexes 2 f.kind in
    let b = hexes 2 f.t in
    let c = hexes 4 f.name in
    let d = hexes 8 f.load in
    let whole = e ∙ opened f s in
    let d2 : drop 2 text ≡ b ++ (c ++ (d ++ (10 ∷ s))) = ap (drop 2) whole ∙ drop_at a _ 2 (length_hexes 2 f.kind) in
    let d4 : drop 4 text ≡ c ++ (d ++ (10 ∷ s)) = sym (drop-drop 2 2 text) ∙ ap (drop 2) d2 ∙ drop_at b _ 2 (length_hexes 2 f.t) in
    let d8 : drop 8 text ≡ d ++ (10 ∷ s) = sym (drop-drop 4 4 text) ∙ ap (drop 4) d4 ∙ drop_at c _ 4 (length_hexes 4 f.name) in
    let d16 : drop 16 text ≡ 10 ∷ s = sym (drop-drop 8 8 text) ∙ ap (drop 8) d8 ∙ drop_at d _ 8 (length_hexes 8 f.load) in
    record {
      long = omega (arith, length-drop 16 text, ap length d16);
      kind = ap (take 2) whole ∙ take_at a _ 2 (length_hexes 2 f.kind);
      t = ap (take 2) d2 ∙ take_at b _ 2 (length_hexes 2 f.t);
      name = ap (take 4) d4 ∙ take_at c _ 4 (length_hexes 4 f.name);
      load = ap (take 8) d8 ∙ take_at d _ 8 (length_hexes 8 f.load);
      feed = sym (get_or-drop 16 text 0 0) ∙ ap (λ l. get_or l 0 0) d16;
    }

cut : (text : List ℕ) (n m : ℕ) → drop n text ≡ take m (drop n text) ++ drop (n + m) text
cut text n m = sym (take-append-drop m (drop n text)) ∙ ap (λ l. take m (drop n text) ++ l) (drop-drop m n text)

together : (text : List ℕ) (f : Frame) → Parts text f → text ≡ line_of f ++ drop 17 text
together text f p =
    let c0 : text ≡ take 2 text ++ drop 2 text = cut text 0 2 in
    let c2 : drop 2 text ≡ take 2 (drop 2 text) ++ drop 4 text = cut text 2 2 in
    let c4 : drop 4 text ≡ take 4 (drop 4 text) ++ drop 8 text = cut text 4 4 in
    let c8 : drop 8 text ≡ take 8 (drop 8 text) ++ drop 16 text = cut text 8 8 in
    let long = p.long in
    let c16 : drop 16 text ≡ get_or text 16 0 ∷ drop 17 text = drop_more text 16 0 (omega arith) in
    let o = opened f (drop 17 text) in
    cc

-- a line that is a frame's, taken apart
pub apart_line : (line : List ℕ) (f : Frame) → line ≡ line_of f → Parts line f
apart_line line f e = apart line f [] (e ∙ sym (append-nil (line_of f)))

-- the parts of a line make it
pub together_line : (line : List ℕ) (f : Frame) → length line ≡ 17 → Parts line f → line ≡ line_of f
together_line line f size p =
    together line f p ∙ ap (λ l. line_of f ++ l) (drop_all 17 line (omega arith)) ∙ append-nil (line_of f)

-- where the front of a text is no line, no line stands there
pub no_line : (rest line more : List ℕ) → rest ≡ line ++ more → length line ≡ min 17 (length rest) → ((f : Frame) → line ≢ line_of f) → NoLine rest
no_line rest line more parts size none f s e =
    let long : 17 ≤ length rest = (apart rest f s e).long in
    let whole : length line ≡ 17 = omega arith in
    none f (sym (take_at line more 17 whole) ∙ ap (take 17) (sym parts ∙ e) ∙ take_at (line_of f) s 17 (length_line f))

pub length_text : (fs : List Frame) → length (text_of fs) ≡ 17 * length fs
length_text [] = refl
length_text (f ∷ fs) = omega (arith, length-append (line_of f) (text_of fs), length_line f, length_text fs)

-- the first k bytes become the digits of n
pub put_front : (line ys : List ℕ) (k n : ℕ) → k ≤ length line → ys ≡ hexes (length (take k line)) n →
    (ys ++ drop k (drop 0 line) ≡ hexes k n ++ drop k line) × (length (hexes k n) ≡ k)
put_front line ys k n room by =
    let l : length (take k line) ≡ k = length-take-le k line room in
    let d = drop-drop k 0 line in
    let z : 0 + k ≡ k = omega arith in
    ((cc), length_hexes k n)

-- of the line so far, p stands in front and the next k bytes become the digits of n
pub put_part : (line p ys now : List ℕ) (i k n : ℕ) → now ≡ p ++ drop i line → length p ≡ i → i + k ≤ length line → ys ≡ hexes (length (take k (drop i now))) n →
    (take i now ++ (ys ++ drop k (drop i now)) ≡ (p ++ hexes k n) ++ drop (i + k) line) × (length (p ++ hexes k n) ≡ i + k)
put_part line p ys now i k n is size room by =
    let t = take_at p (drop i line) i size in
    let d = drop_at p (drop i line) i size in
    let m = drop-drop k i line in
    let l : length (take k (drop i line)) ≡ k = length-take-le k (drop i line) (omega (arith, length-drop i line)) in
    let o = append_assoc p (hexes k n) (drop (i + k) line) in
    ((cc), omega (arith, length-append p (hexes k n), length_hexes k n))

-- the last byte ends the line
pub fed : (line p now : List ℕ) (f : Frame) → length line ≡ 17 → length p ≡ 16 → now ≡ p ++ drop 16 line →
    p ≡ ((hexes 2 f.kind ++ hexes 2 f.t) ++ hexes 4 f.name) ++ hexes 8 f.load → set now 16 10 ≡ line_of f
unfolding line_of
fed line p now f size front is by =
    let m = drop_more line 16 0 (omega arith) in
    let z = drop_all 17 line (omega arith) in
    let s = set_at p (get_or line 16 0) [] 10 16 front in
    let o : (((hexes 2 f.kind ++ hexes 2 f.t) ++ hexes 4 f.name) ++ hexes 8 f.load) ++ (10 ∷ []) ≡ line_of f = simp append_assoc in
    cc
