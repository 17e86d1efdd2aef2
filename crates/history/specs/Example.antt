-- A small language to try the law on: a definition is a title and at most one call, which wants a certain head of the name called.
use Rattle.std.specs.Prelude.{◌≡◌, ℕ, Bool, true, false, cond, List, [], ◌∷◌, length, replicate, Some, None, Ok, Err, Option, Result, ◌==◌, nat_lt}
use Rattle.history.specs.Words.{map_some}
use Rattle.history.specs.Language.{Fault, Verdict, Verdict.good, Verdict.bad, Heads, heads_of, zeros, Language}
use Rattle.history.specs.Calls.{Call, Answer}
use Rattle.history.specs.Working.{State, working_reading, asked}
use Rattle.history.specs.Runs.{Does}
use Rattle.history.specs.Promise.{Promise, ReaderPromise, QuestionPromise}

-- nothing, a title with name and head, or a call with the name called and the head wanted
pub data Frame : Type 0 where
  nothing : Frame
  title : ℕ → ℕ → Frame
  call : ℕ → ℕ → Frame

-- name, head, and the name called with the head wanted
pub record Def : Type 0 where
  pub name : ℕ
  pub head : ℕ
  pub body : Option (ℕ × ℕ)

-- the frames of a body
abbrev pub body_frames : Option (ℕ × ℕ) → List Frame
body_frames None = []
body_frames (Some c) = call c.0 c.1 ∷ []

-- the frames of a definition
abbrev pub written : Def → List Frame
written d = title d.name d.head ∷ body_frames d.body

-- a call is an expression
abbrev pub is_call : Frame → Bool
is_call nothing = false
is_call (title n h) = false
is_call (call n w) = true

-- one frame's call before others
abbrev pub with_called : Frame → List ℕ → List ℕ
with_called nothing ns = ns
with_called (title n h) ns = ns
with_called (call n w) ns = n ∷ ns

-- the names that frames call
abbrev pub called : List Frame → List ℕ
called [] = []
called (f ∷ fs) = with_called f (called fs)

-- the one fault of form
abbrev pub unformed : Fault
unformed = record { number = 25; layer = 2; sheet = 255; place = 0 }

-- after the title one call, and nothing more
abbrev pub form_call : ℕ → ℕ → Frame → List Frame → Result Def Fault
form_call n h nothing fs = Err unformed
form_call n h (title m k) fs = Err unformed
form_call n h (call m w) [] = Ok (record { name = n; head = h; body = Some (m, w) })
form_call n h (call m w) (f ∷ fs) = Err unformed

-- after the title a body, or nothing
abbrev pub form_body : ℕ → ℕ → List Frame → Result Def Fault
form_body n h [] = Ok (record { name = n; head = h; body = None })
form_body n h (f ∷ fs) = form_call n h f fs

-- first a title
abbrev pub form_title : Frame → List Frame → Result Def Fault
form_title nothing fs = Err unformed
form_title (title n h) fs = form_body n h fs
form_title (call n w) fs = Err unformed

-- the definition that frames form
abbrev pub formed_from : List Frame → Result Def Fault
formed_from [] = Err unformed
formed_from (f ∷ fs) = form_title f fs

-- a text is its frames; one fault of reading, at the first frame without room
abbrev pub read_into : List Frame → ℕ → Result (List Frame) Fault
read_into t room = cond (nat_lt room (length t)) (Err (record { number = 12; layer = 1; sheet = 255; place = room })) (Ok t)

-- the column of a sheet whose call stands at place 1 and has type 2
unfoldable pub call_column : List ℕ
call_column = 0 ∷ 2 ∷ replicate 254 0

-- 52 where the name has no head, 54 where it has another
abbrev pub judge_call : Option ℕ → ℕ → Verdict
judge_call None w = bad 4 52 1
judge_call (Some x) w = cond (x == w) (good call_column) (bad 4 54 1)

-- without a call there is nothing to find
abbrev pub judge_body : Heads → Option (ℕ × ℕ) → Verdict
judge_body h None = good zeros
judge_body h (Some c) = judge_call (h c.0) c.1

-- a derivation: the name called has the head wanted
abbrev pub Derives : Heads → Option (ℕ × ℕ) → Type 0
Derives h None = Unit {0}
Derives h (Some c) = h c.0 ≡ Some c.1

-- the call stands at place 1 and has type 2
abbrev pub CallTyped : Option (ℕ × ℕ) → ℕ → ℕ → Type 0
CallTyped None p u = ⊥
CallTyped (Some c) p u = (p ≡ 1) × (u ≡ 2)

-- the small language
abbrev pub example : Language Frame Def (List Frame)
example =
    record {
      blank = nothing;
      expression = is_call;
      name = λ d. d.name;
      head = λ d. d.head;
      -- head 9 stands for a parameter twice, the second one at place 1
      repeated = λ d. cond (d.head == 9) (Some 1) None;
      writing = written;
      calls = called;
      form = formed_from;
      reads = read_into;
      judge = λ h d. judge_body h d.body;
      Tree = λ h d. Derives h d.body;
      Gives = λ h d n. CallTyped d.body;
      Valid = λ e. (t : ℕ) (d : Def) → e t ≡ Some d → Derives (heads_of (λ s. map_some (λ c. (c.name, c.head)) (e s))) d.body;
    }

-- what the law's promises say of a call, a reader and a question
pub record Promises : Type 0 where
  pub calls : (book : State Frame) (c : Call example) (r : Answer example) (book' : State Frame) → Does example book c r book' → Promise example book c r book'
  pub reader : (book : State Frame) (fl cl : ℕ) → ReaderPromise example book fl cl (working_reading book fl cl)
  pub question : (book : State Frame) (s k : ℕ) → QuestionPromise example book s k (asked example book s k)
