-- Reading a text: the frames of the lines at its front, as many as there is room for, and what comes after them.
use Rattle.std.specs.Prelude.{ℕ, zero, suc, ◌+◌, ◌-◌, ◌*◌, Bool, cond, List, [], ◌∷◌, length, take, drop, Ok, Err, Result, ◌==◌, nat_lt}
use Rattle.std.specs.Str.{bytes_eq}
use Rattle.syntax.specs.declared.frame.Frame.{Frame}
use Rattle.codec.specs.Text.{line_of}
use Rattle.history.specs.Language.{Fault}

-- the value of a byte, where it is that of a digit
abbrev pub digit_value : ℕ → ℕ
digit_value b = cond (nat_lt b 65) (b - 48) (b - 55)

-- the number of some digits, the highest first, that come after those of n
abbrev pub spelled : ℕ → List ℕ → ℕ
spelled n [] = n
spelled n (b ∷ bs) = spelled (n * 16 + digit_value b) bs

-- the frame that sixteen digits at the front of a text spell
unfoldable pub frame_on : List ℕ → Frame
frame_on text =
    record {
      kind = spelled 0 (take 2 text);
      t = spelled 0 (take 2 (drop 2 text));
      name = spelled 0 (take 4 (drop 4 text));
      load = spelled 0 (take 8 (drop 8 text));
    }

-- a line stands at the front of the text: what is written of the frame that it spells
unfoldable pub begins_line : List ℕ → Bool
begins_line text = bytes_eq (take 17 text) (line_of (frame_on text))

-- the frames of the lines at the front of a text, at most so many, and the text after them
unfoldable pub lines_read : ℕ → List ℕ → List Frame × List ℕ
lines_read zero text = ([], text)
lines_read (suc room) text =
    cond (begins_line text) (let r = lines_read room (drop 17 text) in (frame_on text ∷ r.0, r.1)) ([], text)

-- a refusal of reading: layer 1, no sheet
abbrev pub line_fault : ℕ → ℕ → Fault
line_fault n p = record { number = n; layer = 1; sheet = 255; place = p }

-- read to its end, or stopped at the line after those read: 12 where the frames are used up, else 11
abbrev pub read_answer : ℕ → List Frame → List ℕ → Result (List Frame) Fault
read_answer room fs [] = Ok fs
read_answer room fs (b ∷ bs) = Err (line_fault (cond (length fs == room) 12 11) (length fs))

-- reading a text into so many frames
unfoldable pub reads : List ℕ → ℕ → Result (List Frame) Fault
reads text room = let r = lines_read room text in read_answer room r.0 r.1
