-- Lines are told apart, so reading has one answer, and reading and writing undo each other.
use Rattle.std.proofs.Common.{◌≡◌, ℕ, zero, suc, ◌+◌, ◌*◌, ◌/◌, ◌%◌, ◌^◌, ◌<◌, ◌≤◌, ◌⊎◌, List, [], ◌∷◌, ◌++◌, length, take, drop, Ok, Err, Result, sym, refl, ap, ◌∙◌, subst, inl, inr, pow-suc, arith}
use Rattle.std.specs.List.{AllByRecursion as All}
use Rattle.std.proofs.lemmas.List.{same_from_push, append_cancel_left, append_assoc, append-nil, length-append, length-drop, length-take-le, take-append-drop, take_at, drop_at}
use Rattle.std.proofs.lemmas.Nat.{div_below, mod_below, div-add-mod'}
use Rattle.std.proofs.lemmas.Bool.Decides.{nat_tests}
use Rattle.syntax.specs.declared.frame.Frame.{Frame}
use Rattle.syntax.specs.declared.fault.Fault.{Fault}
use Rattle.codec.specs.Text.{digit, hexes, line_of, text_of, Fit}
use Rattle.syntax.specs.Faults.{place}
use Rattle.syntax.proofs.Faults.{same_fault}
use Rattle.codec.specs.Codec.{NoLine, Begun, Stops, Reads, Only, Writes, Written, Inverse}
use Rattle.codec.proofs.Lines.{apart, length_text, length_line}

digit_same : (a b : ℕ) → a < 16 → b < 16 → digit a ≡ digit b → a ≡ b
digit_same a b h k e = grind (arith, nat_tests)

hexes_same : (w a b : ℕ) → a < 16 ^ w → b < 16 ^ w → hexes w a ≡ hexes w b → a ≡ b
unfolding hexes
hexes_same zero a b h k e = omega arith
hexes_same (suc w) a b h k e =
    let s = same_from_push (hexes w (a / 16)) (hexes w (b / 16)) (digit (a % 16)) (digit (b % 16)) e in
    let ma = mod_below a 16 (omega arith) in
    let mb = mod_below b 16 (omega arith) in
    let low : a % 16 ≡ b % 16 = digit_same (a % 16) (b % 16) ma mb s.1 in
    let ha : a < 16 ^ w * 16 = subst (λ n. a < n) (pow-suc 16 w) h in
    let hb : b < 16 ^ w * 16 = subst (λ n. b < n) (pow-suc 16 w) k in
    let high : a / 16 ≡ b / 16 = hexes_same w (a / 16) (b / 16) (div_below a 16 (16 ^ w) (omega arith) ha) (div_below b 16 (16 ^ w) (omega arith) hb) s.0 in
    omega (arith, div-add-mod' a 16, div-add-mod' b 16)

-- a frame is its fields
fields_same : (f g : Frame) → f.kind ≡ g.kind → f.t ≡ g.t → f.name ≡ g.name → f.load ≡ g.load → f ≡ g
fields_same f g a b c d = λ i. record { kind = a i; t = b i; name = c i; load = d i }

line_same : (f g : Frame) (s t : List ℕ) → Fit f → Fit g → line_of f ++ s ≡ line_of g ++ t → f ≡ g
line_same f g s t hf hg e =
    let p = apart (line_of f ++ s) f s refl in
    let q = apart (line_of f ++ s) g t e in
    let a = hexes_same 2 f.kind g.kind hf.kind hg.kind (sym p.kind ∙ q.kind) in
    let b = hexes_same 2 f.t g.t hf.t hg.t (sym p.t ∙ q.t) in
    let c = hexes_same 4 f.name g.name hf.name hg.name (sym p.name ∙ q.name) in
    let d = hexes_same 8 f.load g.load hf.load hg.load (sym p.load ∙ q.load) in
    fields_same f g a b c d

-- the lines of gs go before those of fs, and hs are the frames between
abbrev Further : List Frame → List ℕ → List Frame → List ℕ → Type 0
Further gs rest fs rest' = (hs : List Frame) × (fs ≡ gs ++ hs) × (rest ≡ text_of hs ++ rest')

-- of two ways to take lines off a text one goes at least as far as the other
fronts : (gs fs : List Frame) (rest rest' : List ℕ) → All Fit gs → All Fit fs → text_of gs ++ rest ≡ text_of fs ++ rest' →
    Further gs rest fs rest' ⊎ Further fs rest' gs rest
fronts [] fs rest rest' hg hf e = inl (fs, refl, e)
fronts (g ∷ gs) [] rest rest' hg hf e = inr (g ∷ gs, refl, sym e)
fronts (g ∷ gs) (f ∷ fs) rest rest' hg hf e =
    let e' : line_of g ++ (text_of gs ++ rest) ≡ line_of f ++ (text_of fs ++ rest') =
    sym (append_assoc (line_of g) (text_of gs) rest) ∙ e ∙ append_assoc (line_of f) (text_of fs) rest' in
    let same = line_same g f (text_of gs ++ rest) (text_of fs ++ rest') hg.0 hf.0 e' in
    let tails = append_cancel_left (line_of f) (text_of gs ++ rest) (text_of fs ++ rest') (ap (λ h. line_of h ++ (text_of gs ++ rest)) (sym same) ∙ e') in
    elim (fronts gs fs rest rest' hg.1 hf.1 tails) [
      | inl p ↦ inl (p.0, (let q = p.1 in cc), p.2)
      | inr p ↦ inr (p.0, (let q = p.1 in cc), p.2)
    ]

-- nothing more can be read: the text is at its end, the frames are used up, or no line follows
abbrev Done : ℕ → ℕ → List ℕ → Type 0
Done room n rest = (rest ≡ []) ⊎ ((n ≡ room) ⊎ NoLine rest)

line_some : (f : Frame) (s : List ℕ) → line_of f ++ s ≡ [] → ⊥
line_some f s e = omega (arith, ap length e, length-append (line_of f) s, length_line f)

-- where reading is done no further frame stands
none_between : (room n : ℕ) (hs : List Frame) (rest rest' : List ℕ) → Done room n rest → rest ≡ text_of hs ++ rest' → n + length hs ≤ room → hs ≡ []
none_between room n [] rest rest' d e h = refl
none_between room n (x ∷ hs) rest rest' d e h =
    let line = e ∙ append_assoc (line_of x) (text_of hs) rest' in
    let never : ⊥ = elim d [
      | inl end ↦ line_some x _ (sym line ∙ end)
      | inr d' ↦ elim d' [ inl full ↦ omega arith | inr bad ↦ bad x _ line ]
    ] in
    absurd never

-- the frames read and the text left are what two readings that are done share
record Same (n n' : ℕ) (after after' : List Frame) (rest rest' : List ℕ) : Type 0 where
  count : n ≡ n'
  areas : after ≡ after'
  rests : rest ≡ rest'

module _ (text : List ℕ) (before after after' : List Frame) (n n' : ℕ) (rest rest' : List ℕ) (b : Begun text before after n rest) (b' : Begun text before after' n' rest') where
  counted : length (take n after) ≡ n
  counted = length-take-le n after (omega (arith, b.within, b.size))

  counted' : length (take n' after') ≡ n'
  counted' = length-take-le n' after' (omega (arith, b'.within, b'.size))

  ahead : Done (length before) n rest → Further (take n after) rest (take n' after') rest' → Same n n' after after' rest rest'
  ahead d (hs, fs, e) =
      let m = ap length fs ∙ length-append (take n after) hs in
      let z = none_between (length before) n hs rest rest' d e (omega (arith, counted, counted', b'.within)) in
      let l : n ≡ n' = omega (arith, counted, counted', ap (length {A = Frame}) z) in
      let fronts_same : take n after ≡ take n' after' = sym (append-nil (take n after)) ∙ ap (λ x. take n after ++ x) (sym z) ∙ sym fs in
      let s = take-append-drop n after in
      let s' = take-append-drop n' after' in
      let k = b.kept in
      let k' = b'.kept in
      record { count = l; areas = (cc); rests = e ∙ ap (λ x. text_of x ++ rest') z }

same_turned : (n n' : ℕ) (after after' : List Frame) (rest rest' : List ℕ) → Same n n' after after' rest rest' → Same n' n after' after rest' rest
same_turned n n' after after' rest rest' s = record { count = sym s.count; areas = sym s.areas; rests = sym s.rests }

one_reading : (text : List ℕ) (before after after' : List Frame) (n n' : ℕ) (rest rest' : List ℕ) → Begun text before after n rest → Begun text before after' n' rest' →
    Done (length before) n rest → Done (length before) n' rest' → Same n n' after after' rest rest'
one_reading text before after after' n n' rest rest' b b' d d' =
    elim (fronts (take n after) (take n' after') rest rest' b.fit b'.fit (sym b.front ∙ b'.front)) [
      | inl p ↦ ahead text before after after' n n' rest rest' b b' d p
      | inr p ↦ same_turned n' n after' after rest' rest (ahead text before after' after n' n rest' rest b' b d' p)
    ]

-- an answer tells how far reading came and what was left
abbrev Fate : List Frame → Result ℕ Fault → ℕ → List ℕ → Type 0
Fate before (Ok m) n rest = (m ≡ n) × (rest ≡ [])
Fate before (Err e) n rest = (place e ≡ n) × (rest ≡ [] → ⊥) × Stops before e rest

-- what an answer of `read` has in common with every other: how far it came
record Ending (text : List ℕ) (before after : List Frame) (r : Result ℕ Fault) (n : ℕ) (rest : List ℕ) : Type 0 where
  begun : Begun text before after n rest
  over : Done (length before) n rest
  fate : Fate before r n rest

ending : (text : List ℕ) (before after : List Frame) (r : Result ℕ Fault) → Reads text before after r → (n : ℕ) × ((rest : List ℕ) × Ending text before after r n rest)
ending text before after (Ok m) h = (m, ([], record { begun = h; over = inl refl; fate = (refl, refl) }))
ending text before after (Err e) (one, none, (rest, (some, b, why))) =
    (place e, (rest, record { begun = b; over = inr (elim why [ inl full ↦ inl full.1 | inr bad ↦ inr bad.2 ]); fate = (refl, some, why) }))

-- two readings that stop at one place do so for one reason
stops_same : (before : List Frame) (e e' : Fault) (rest rest' : List ℕ) → place e ≡ place e' → Stops before e rest → Stops before e' rest' → e ≡ e'
stops_same before e e' rest rest' p (inl full) (inl full') = same_fault e e' (full.0 ∙ sym full'.0) p
stops_same before e e' rest rest' p (inl full) (inr bad') = absurd (omega (arith, full.1, bad'.1))
stops_same before e e' rest rest' p (inr bad) (inl full') = absurd (omega (arith, bad.1, full'.1))
stops_same before e e' rest rest' p (inr bad) (inr bad') = same_fault e e' (bad.0 ∙ sym bad'.0) p

same_answer : (text : List ℕ) (before after after' : List Frame) (r r' : Result ℕ Fault) (n n' : ℕ) (rest rest' : List ℕ) →
    Ending text before after r n rest → Ending text before after' r' n' rest' → Same n n' after after' rest rest' → r ≡ r'
same_answer text before after after' (Ok m) (Ok m') n n' rest rest' a b s = ap Ok (a.fate.0 ∙ s.count ∙ sym b.fate.0)
same_answer text before after after' (Ok m) (Err e) n n' rest rest' a b s = absurd (b.fate.1 (sym s.rests ∙ a.fate.1))
same_answer text before after after' (Err e) (Ok m) n n' rest rest' a b s = absurd (a.fate.1 (s.rests ∙ b.fate.1))
same_answer text before after after' (Err e) (Err e') n n' rest rest' a b s =
    ap Err (stops_same before e e' rest rest' (a.fate.0 ∙ s.count ∙ sym b.fate.0) a.fate.2 b.fate.2)

-- reading has one answer and leaves one content
pub reads_once : (text : List ℕ) (before after : List Frame) (r : Result ℕ Fault) → Reads text before after r → Only text before after r
reads_once text before after r h after' r' h' =
    let a = ending text before after r h in
    let b = ending text before after' r' h' in
    let s = one_reading text before after after' a.0 b.0 a.1.0 b.1.0 a.1.1.begun b.1.1.begun a.1.1.over b.1.1.over in
    (sym (same_answer text before after after' r r' a.0 b.0 a.1.0 b.1.0 a.1.1 b.1.1 s), sym s.areas)

-- ===== each undoes the other =====
-- frames that fit are read from their text
reads_text : (fs : List Frame) (before : List Frame) → All Fit fs → length fs ≤ length before → Reads (text_of fs) before (fs ++ drop (length fs) before) (Ok (length fs))
reads_text fs before fit room =
    let t = take_at fs (drop (length fs) before) (length fs) refl in
    record {
      size = omega (arith, length-append fs (drop (length fs) before), length-drop (length fs) before);
      within = room;
      front = sym (append-nil (text_of (take (length fs) (fs ++ drop (length fs) before))) ∙ ap text_of t);
      fit = subst (All Fit) (sym t) fit;
      kept = drop_at fs (drop (length fs) before) (length fs) refl;
    }

read_as : (fs : List Frame) (before after : List Frame) (r : Result ℕ Fault) → All Fit fs → length fs ≤ length before → Reads (text_of fs) before after r →
    (r ≡ Ok (length fs)) × (after ≡ fs ++ drop (length fs) before)
read_as fs before after r fit room h =
    let o = reads_once (text_of fs) before after r h (fs ++ drop (length fs) before) (Ok (length fs)) (reads_text fs before fit room) in
    (sym o.0, sym o.1)

accepted_written : (text : List ℕ) (before after : List Frame) (r : Result ℕ Fault) → Reads text before after r → (n : ℕ) → r ≡ Ok n → Written text (length before)
accepted_written text before after r h n e =
    let b : Reads text before after (Ok n) = subst (Reads text before after) e h in
    (take n after, (b.fit, omega (arith, length-take-le n after (omega (arith, b.within, b.size)), b.within), b.front ∙ append-nil (text_of (take n after))))

written_accepted : (text : List ℕ) (before after : List Frame) (r : Result ℕ Fault) → Reads text before after r → Written text (length before) → (n : ℕ) × (r ≡ Ok n)
written_accepted text before after r h (fs, (fit, room, e)) =
    (length fs, (read_as fs before after r fit room (subst (λ t. Reads t before after r) e h)).0)

read_back : (fs : List Frame) (out out' : List ℕ) (m : ℕ) → All Fit fs → Writes fs out out' (Ok m) → (before after : List Frame) (r : Result ℕ Fault) → length fs ≤ length before →
    Reads (take m out') before after r → (r ≡ Ok (length fs)) × (after ≡ fs ++ drop (length fs) before)
read_back fs out out' m fit (count, room, is) before after r fits h =
    let t : take m out' ≡ text_of fs = ap (take m) is ∙ take_at (text_of fs) (drop m out) m (length_text fs ∙ sym count) in
    read_as fs before after r fit fits (subst (λ t. Reads t before after r) t h)

written_back : (text : List ℕ) (before after : List Frame) (n : ℕ) → Reads text before after (Ok n) → (out out' : List ℕ) (r : Result ℕ Fault) → length text ≤ length out →
    Writes (take n after) out out' r → (r ≡ Ok (length text)) × (take (length text) out' ≡ text)
written_back text before after n b out out' (Ok m) room (count, fits, is) =
    let t : text ≡ text_of (take n after) = b.front ∙ append-nil (text_of (take n after)) in
    let l : m ≡ length text = count ∙ sym (length_text (take n after)) ∙ ap length (sym t) in
    let e = ap (take (length text)) is ∙ take_at (text_of (take n after)) (drop m out) (length text) (ap length (sym t)) in
    (ap Ok l, e ∙ sym t)
written_back text before after n b out out' (Err e) room (a, a', a'', a''', short, is) =
    let t : text ≡ text_of (take n after) = b.front ∙ append-nil (text_of (take n after)) in
    absurd (omega (arith, ap length t, length_text (take n after)))

pub inverse : Inverse
inverse = record {
  accepted = λ text before after r h. ((λ p. accepted_written text before after r h p.0 p.1), written_accepted text before after r h);
  read_back = read_back;
  written_back = written_back;
}
