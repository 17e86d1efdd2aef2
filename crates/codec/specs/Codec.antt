-- What `read` and `write` answer and leave, and the law that each undoes the other.
use Rattle.std.specs.Prelude.{◌≡◌, ℕ, ◌*◌, ◌<◌, ◌≤◌, ◌⊎◌, ◌↔◌, List, [], ◌++◌, length, take, drop, Ok, Err, Result, ◌≢◌}
use Rattle.std.specs.List.{AllByRecursion}
use Rattle.syntax.specs.declared.frame.Frame.{Frame}
use Rattle.syntax.specs.declared.fault.Fault.{Fault}
use Rattle.codec.specs.Text.{line_of, text_of, Fit}
use Rattle.syntax.specs.Faults.{number, layer, sheet, place}

-- no frame's line stands at the front of the text
abbrev pub NoLine : List ℕ → Type 0
NoLine rest = (f : Frame) (s : List ℕ) → rest ≢ line_of f ++ s

-- n lines of the text were read: the first n frames of the area are now theirs, the others are as before, and `rest` is the text after those lines
pub record Begun (text : List ℕ) (before after : List Frame) (n : ℕ) (rest : List ℕ) : Type 0 where
  pub size : length after ≡ length before
  pub within : n ≤ length before
  pub front : text ≡ text_of (take n after) ++ rest
  pub fit : AllByRecursion Fit (take n after)
  pub kept : drop n after ≡ drop n before

-- why reading stops at a line: 12 where the frames are used up, and only else 11, where what comes is no line
abbrev pub Stops : List Frame → Fault → List ℕ → Type 0
Stops before e rest = ((number e ≡ 12) × (place e ≡ length before)) ⊎ ((number e ≡ 11) × (place e < length before) × NoLine rest)

-- what reading answers and leaves: the count of frames where the text is read to its end, or the fault at the first line that stops it
abbrev pub Reads : List ℕ → List Frame → List Frame → Result ℕ Fault → Type 0
Reads text before after (Ok n) = Begun text before after n []
Reads text before after (Err e) =
    (layer e ≡ 1) × (sheet e ≡ 255) ×
    ((rest : List ℕ) × ((rest ≢ []) × Begun text before after (place e) rest × Stops before e rest))

-- no other answer and no other content of the area would do
abbrev pub Only : List ℕ → List Frame → List Frame → Result ℕ Fault → Type 0
Only text before after r = (after' : List Frame) (r' : Result ℕ Fault) → Reads text before after' r' → (r' ≡ r) × (after' ≡ after)

-- what writing answers and leaves: the count of bytes, or 13 and the area as it was
abbrev pub Writes : List Frame → List ℕ → List ℕ → Result ℕ Fault → Type 0
Writes frames before after (Ok n) = (n ≡ 17 * length frames) × (n ≤ length before) × (after ≡ text_of frames ++ drop n before)
Writes frames before after (Err e) =
    (number e ≡ 13) × (layer e ≡ 1) × (sheet e ≡ 255) × (place e ≡ 0) × (length before < 17 * length frames) × (after ≡ before)

-- the text is one that writing produces, of frames for which there is room
abbrev pub Written : List ℕ → ℕ → Type 0
Written text room = (fs : List Frame) × (AllByRecursion Fit fs × (length fs ≤ room) × (text ≡ text_of fs))

-- reading and writing undo each other
pub record Inverse : Type 0 where
  -- reading accepts exactly the texts that writing produces, given frames enough
  pub accepted :
      (text : List ℕ) (before after : List Frame) (r : Result ℕ Fault) → Reads text before after r → ((n : ℕ) × (r ≡ Ok n)) ↔ Written text (length before)
  -- what is written of frames is read as those frames
  pub read_back :
      (fs : List Frame) (out out' : List ℕ) (m : ℕ) → AllByRecursion Fit fs → Writes fs out out' (Ok m) →
      (before after : List Frame) (r : Result ℕ Fault) → length fs ≤ length before → Reads (take m out') before after r →
      (r ≡ Ok (length fs)) × (after ≡ fs ++ drop (length fs) before)
  -- what is read of a text is written as that text
  pub written_back :
      (text : List ℕ) (before after : List Frame) (n : ℕ) → Reads text before after (Ok n) →
      (out out' : List ℕ) (r : Result ℕ Fault) → length text ≤ length out → Writes (take n after) out out' r →
      (r ≡ Ok (length text)) × (take (length text) out' ≡ text)
