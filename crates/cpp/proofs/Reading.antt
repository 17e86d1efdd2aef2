-- Reading as a function is what read answers and leaves.
use Rattle.std.proofs.Common.{◌≡◌, ℕ, zero, suc, ◌<◌, ◌≤◌, Bool, true, false, cond, eqb, ◌⊎◌, List, [], ◌∷◌, ◌++◌, length, take, drop, Ok, Err, Result, sym, refl, ap, ◌∙◌, subst, inl, inr, arith}
use Rattle.std.specs.List.{AllByRecursion as All}
use Rattle.std.proofs.lemmas.List.{append_assoc, length-append, length-drop, take_at, drop_at}
use Rattle.std.proofs.lemmas.Bool.{eqb-true, eqb-false}
use Rattle.syntax.specs.declared.frame.Frame.{Frame}
use Rattle.syntax.specs.declared.fault.Fault.{Fault as SyntaxFault}
use Rattle.syntax.specs.declared.fault.Fault.TheVariants.{BadLine, FramesFull}
use Rattle.codec.specs.Text.{line_of, text_of, Fit}
use Rattle.codec.specs.Codec.{NoLine, Begun, Reads}
use Rattle.codec.proofs.TextLaw.{reads_once}
use Rattle.history.specs.Language.{Fault}
use Rattle.cpp.specs.Text.{frame_on, begins_line, lines_read, read_answer, reads}
use Rattle.cpp.specs.Reading.{SameAnswer, filled_with, reading_from, ReadsTied}
use Rattle.cpp.proofs.Lines.{line_there, line_none}

-- the frames of the lines at the front of a text, as far as there is room, and the rest
record Fronts (room : ℕ) (text : List ℕ) (fs : List Frame) (rest : List ℕ) : Type 0 where
  few : length fs ≤ room
  front : text ≡ text_of fs ++ rest
  fit : All Fit fs
  stop : length fs < room → NoLine rest

-- one line more, where one stands there
abbrev more_read : Bool → List ℕ → List Frame × List ℕ → List Frame × List ℕ
more_read b text r = cond b (frame_on text ∷ r.0, r.1) ([], text)

-- so they are after one line more
fronts_next : (room : ℕ) (text : List ℕ) (b : Bool) → begins_line text ≡ b → (r : List Frame × List ℕ) → Fronts room (drop 17 text) r.0 r.1 →
    Fronts (suc room) text (more_read b text r).0 (more_read b text r).1
fronts_next room text true e r ih =
    let p = line_there text e in
    record {
      few = omega (arith, ih.few);
      front = p.1 ∙ ap (λ t. line_of (frame_on text) ++ t) ih.front ∙ sym (append_assoc (line_of (frame_on text)) (text_of r.0) r.1);
      fit = (p.0, ih.fit);
      stop = λ l. ih.stop (omega arith);
    }
fronts_next room text false e r ih = record { few = omega arith; front = refl; fit = tt; stop = λ _. line_none text e }

-- the lines read are such
lines_fronts : (room : ℕ) (text : List ℕ) → Fronts room text (lines_read room text).0 (lines_read room text).1
unfolding lines_read
lines_fronts zero text = record { few = omega arith; front = refl; fit = tt; stop = λ l. absurd (omega arith) }
lines_fronts (suc room) text = fronts_next room text (begins_line text) refl (lines_read room (drop 17 text)) (lines_fronts room (drop 17 text))

-- ## one answer of read

module _ (text : List ℕ) (before : List Frame) (fs : List Frame) (rest : List ℕ) (w : Fronts (length before) text fs rest) where
  -- so many lines of the text are read into the area
  begun : Begun text before (filled_with fs before) (length fs) rest
  begun =
      let t = take_at fs (drop (length fs) before) (length fs) refl in
      record {
        size = omega (arith, length-append fs (drop (length fs) before), length-drop (length fs) before, w.few);
        within = w.few;
        front = w.front ∙ ap (λ gs. text_of gs ++ rest) (sym t);
        fit = subst (All Fit) (sym t) w.fit;
        kept = drop_at fs (drop (length fs) before) (length fs) refl;
      }

-- an answer that reading gives, as read would
record Own (text : List ℕ) (before fs : List Frame) (answer : Result (List Frame) Fault) : Type 0 where
  own : Result ℕ SyntaxFault
  happens : Reads text before (filled_with fs before) own
  answers : SameAnswer own answer

-- the answer of the function is one of read
own_answer : (text : List ℕ) (before fs : List Frame) (rest : List ℕ) → Fronts (length before) text fs rest → Own text before fs (read_answer (length before) fs rest)
own_answer text before fs [] w = record { own = Ok (length fs); happens = begun text before fs [] w; answers = refl }
own_answer text before fs (x ∷ xs) w = go (eqb (length fs) (length before)) refl
  where
    go : (b : Bool) → eqb (length fs) (length before) ≡ b → Own text before fs (Err (record { number = cond b 12 11; layer = 1; sheet = 255; place = length fs }))
    go true e =
        record {
          own = Err (FramesFull (length fs));
          happens = (refl, refl, (x ∷ xs, ((λ e. cc), begun text before fs (x ∷ xs) w, inl (refl, eqb-true (length fs) (length before) e))));
          answers = refl;
        }
    go false e =
        let l : length fs < length before = (let ne = eqb-false (length fs) (length before) e in omega (arith, w.few, ne)) in
        record {
          own = Err (BadLine (length fs));
          happens = (refl, refl, (x ∷ xs, ((λ e. cc), begun text before fs (x ∷ xs) w, inr (refl, l, w.stop l))));
          answers = refl;
        }

-- ## every answer of read

-- reading that answered a fault with these numbers
abbrev Refused : List ℕ → List Frame → List Frame → Fault → Type 0
Refused text before after f =
    (f.layer ≡ 1) × (f.sheet ≡ 255) ×
    ((rest : List ℕ) × ((rest ≡ [] → ⊥) × Begun text before after f.place rest ×
    (((f.number ≡ 12) × (f.place ≡ length before)) ⊎ ((f.number ≡ 11) × (f.place < length before) × NoLine rest))))

-- two answers that are as the function says are both of read, or none is
same_reads : (text : List ℕ) (before after : List Frame) (r q : Result ℕ SyntaxFault) (a : Result (List Frame) Fault) →
    SameAnswer r a → SameAnswer q a → Reads text before after q → Reads text before after r
same_reads text before after (Ok n) (Ok m) (Ok fs) i j h = subst (λ k. Begun text before after k []) (j ∙ sym i) h
same_reads text before after (Ok n) (Ok m) (Err f) i j h = absurd i
same_reads text before after (Ok n) (Err e) (Ok fs) i j h = absurd j
same_reads text before after (Ok n) (Err e) (Err f) i j h = absurd i
same_reads text before after (Err e) (Ok m) (Ok fs) i j h = absurd i
same_reads text before after (Err e) (Ok m) (Err f) i j h = absurd j
same_reads text before after (Err e) (Err d) (Ok fs) i j h = absurd i
same_reads text before after (Err e) (Err d) (Err f) i j h = subst (Refused text before after) (j ∙ sym i) h

-- what read answers and leaves, by the function
module _ (text : List ℕ) (before after : List Frame) (r : Result ℕ SyntaxFault) where
  -- the room for frames
  abbrev room : ℕ
  room = length before

  -- the area with the frames of the lines read
  abbrev area : List Frame
  area = filled_with (lines_read room text).0 before

  -- the answer found
  found : Own text before (lines_read room text).0 (reads text room)
  unfolding reads
  found = own_answer text before (lines_read room text).0 (lines_read room text).1 (lines_fronts room text)

  -- what read does is what was found
  as_found : Reads text before after r → SameAnswer r (reads text room) × (after ≡ area)
  as_found h =
      let s = reads_once text before area found.own found.happens after r h in
      (subst (λ q. SameAnswer q (reads text room)) (sym s.0) found.answers, s.1)

  -- and what was found read does
  from_found : SameAnswer r (reads text room) × (after ≡ area) → Reads text before after r
  from_found h =
      subst (λ a. Reads text before a r) (sym h.1)
      (same_reads text before area r found.own (reads text room) h.0 found.answers found.happens)

-- the answer by what was left
answer_known : (rest : List ℕ) (before after fs : List Frame) (n : ℕ) (r : Result ℕ SyntaxFault) →
    SameAnswer r (read_answer n fs rest) → after ≡ filled_with fs before → read_answer n fs rest ≡ reading_from after r
answer_known [] before after fs n (Ok m) a e = ap Ok (sym (ap (take m) e ∙ take_at fs (drop (length fs) before) m (sym a)))
answer_known [] before after fs n (Err f) a e = absurd a
answer_known (b ∷ bs) before after fs n (Ok m) a e = absurd a
answer_known (b ∷ bs) before after fs n (Err f) a e = ap Err (sym a)

-- so reading is known from what read answered and left
reading_known : (text : List ℕ) (before after : List Frame) (r : Result ℕ SyntaxFault) → Reads text before after r →
    reads text (length before) ≡ reading_from after r
unfolding reads
reading_known text before after r h =
    let n = length before in
    let a = as_found text before after r h in
    answer_known (lines_read n text).1 before after (lines_read n text).0 n r a.0 a.1

-- of every text and area
pub reads_tied : ReadsTied
reads_tied = record { exactly = λ text before after r. (as_found text before after r, from_found text before after r); known = reading_known }
