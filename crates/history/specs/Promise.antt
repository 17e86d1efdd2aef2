-- What each call promises of a book that stands as a history of calls says.
use Rattle.std.specs.Prelude.{◌≡◌, ℕ, Bool, true, cond, List, ◌∷◌, None, Option, Result}
use Rattle.history.specs.Language.{Fault, Language}
use Rattle.history.specs.Calls.{sized, Call, Call.post, Call.put, Call.clear, Call.check, History, Answer}
use Rattle.history.specs.Plain.{plain, answer, reading}
use Rattle.history.specs.Due.{CheckAccepted, CheckedValid}
use Rattle.history.specs.Working.{State}
use Rattle.history.specs.Stands.{Stands}
use Rattle.history.specs.Readable.{Typed, Readable}
use Rattle.history.specs.Law.{Checks}

-- the same records over other areas
abbrev pub with_areas : {Frame : Type 0} → State Frame → List Frame → List ℕ → State Frame
with_areas book f k = record { records = book.records; frames = f; column = k; valid = book.valid }

module _ {Frame Def Text : Type 0} (L : Language Frame Def Text) where
  -- both areas handed to the call have 8,192 places
  abbrev pub fitted : Call L → Bool
  fitted (post s t room fl cl) = sized fl cl
  fitted (put s d fl cl) = sized fl cl
  fitted (clear s fl cl) = sized fl cl
  fitted (check fl cl a b) = sized fl cl

  -- the areas handed over are those, f and k, that the calls before left, unless one has another length
  abbrev pub Handed : Call L → State Frame → List Frame → List ℕ → Type 0
  Handed c book f k = fitted c ≡ true → (book.frames ≡ f) × (book.column ≡ k)

  -- the areas that the next call starts from: an area of another length is none of the book's
  abbrev pub left_by : Call L → State Frame → List Frame → List ℕ → State Frame
  left_by c book' f k = with_areas book' (cond (fitted c) book'.frames f) (cond (fitted c) book'.column k)

  -- the call c after the history h answered r and left book'
  pub record Keeps (h : History L) (c : Call L) (r : Answer L) (book' : State Frame) : Type 0 where
    -- the answer is the plain book's
    pub answered : r ≡ answer L h c
    -- a check without 32 and 39 is as the law says
    pub checks : CheckAccepted L h c → Checks L h r book'
    -- the history goes on with this call, accepted or refused
    pub goes_on : Stands L (plain L (c ∷ h)) book'
    -- and the book is readable as the law says
    pub readable : Readable L (c ∷ h) book'

  -- the promise of a call that found `book`, answered `r` and left `book'`
  abbrev pub Promise : State Frame → Call L → Answer L → State Frame → Type 0
  Promise book c r book' =
      (h : History L) (f : List Frame) (k : List ℕ) → Stands L (plain L h) (with_areas book f k) → Handed c book f k → Keeps h c r (left_by c book' f k)

  -- a type reader was asked for after the history h, over areas of these lengths: r is the refusal, if there is one
  pub record Opens (h : History L) (fl cl : ℕ) (r : Option Fault) : Type 0 where
    -- 32, then 36 where the book is not valid
    pub told : r ≡ reading L (plain L h) fl cl
    -- so on a valid book 32 alone refuses it
    pub only_lengths : CheckedValid L h → sized fl cl ≡ true → r ≡ None
    -- and there is one of a valid book alone
    pub only_valid : r ≡ None → CheckedValid L h

  -- the promise of making a type reader over areas of these lengths
  abbrev pub ReaderPromise : State Frame → ℕ → ℕ → Option Fault → Type 0
  ReaderPromise book fl cl r =
      (h : History L) (f : List Frame) (k : List ℕ) → Stands L (plain L h) (with_areas book f k) → Opens h fl cl r

  -- the promise of a question for the type at a place of a sheet
  abbrev pub QuestionPromise : State Frame → ℕ → ℕ → Result (Option ℕ) Fault → Type 0
  QuestionPromise book s k r = (h : History L) → Stands L (plain L h) book → Typed L h s k r
