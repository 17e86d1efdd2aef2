-- A trial run: a caller and its callee, which gets another head and is cleared; refusals of each kind; frames altered from outside.
use Rattle.std.specs.Prelude.{◌≡◌, ℕ, List, [], ◌∷◌, replicate, Some, None, Ok, Err}
use Rattle.history.specs.Language.{Fault}
use Rattle.history.specs.Calls.{Call, Call.post, Call.put, Call.clear, Call.check, History, Answer, Answer.refused, Answer.done, Answer.checked}
use Rattle.history.specs.Plain.{answer}
use Rattle.history.specs.Areas.{with_part}
use Rattle.history.specs.Working.{State, working_reading, fresh_state, asked}
use Rattle.history.specs.Runs.{working_step, working_answer}
use Rattle.history.specs.Example.{Frame, Frame.nothing, Frame.title, Frame.call, Def, written, example}

-- the answers of calls after a history, by the plain book
abbrev pub plain_answers : History example → List (Call example) → List (Answer example)
plain_answers h [] = []
plain_answers h (c ∷ cs) = answer example h c ∷ plain_answers (c ∷ h) cs

-- the same by the working book
abbrev pub working_answers : State Frame → List (Call example) → List (Answer example)
working_answers book [] = []
working_answers book (c ∷ cs) = working_answer example book c ∷ working_answers (working_step example book c) cs

-- the working book after calls
abbrev pub working_end : State Frame → List (Call example) → State Frame
working_end book [] = book
working_end book (c ∷ cs) = working_end (working_step example book c) cs

-- name 1 with head 3
abbrev pub callee : Def
callee = record { name = 1; head = 3; body = None }

-- name 1 with head 2
abbrev pub callee_altered : Def
callee_altered = record { name = 1; head = 2; body = None }

-- a parameter twice
abbrev pub twice : Def
twice = record { name = 3; head = 9; body = None }

-- name 2 calls name 1 and wants head 3
abbrev pub caller : Def
caller = record { name = 2; head = 5; body = Some (1, 3) }

-- a check that is accepted
abbrev pub go : Call example
go = check 8192 8192 256 256

-- a callee and its caller; the callee gets another head, is cleared, is put elsewhere, and moves back with nothing checked between
abbrev pub edits : List (Call example)
edits =
    go ∷ put 0 callee 8192 8192 ∷ put 1 caller 8192 8192 ∷ go ∷ go
    ∷ put 0 callee_altered 8192 8192 ∷ go
    ∷ clear 0 8192 8192 ∷ go
    ∷ put 5 callee 8192 8192 ∷ go
    ∷ clear 5 8192 8192 ∷ put 0 callee 8192 8192 ∷ go ∷ []

-- a fault by number, layer, sheet and place
abbrev pub fault : ℕ → ℕ → ℕ → ℕ → Fault
fault n l s p = record { number = n; layer = l; sheet = s; place = p }

-- and what they are answered
abbrev pub edits_said : List (Answer example)
edits_said =
    checked 0 None ∷ done ∷ done ∷ checked 2 None ∷ checked 0 None
    ∷ done ∷ checked 2 (Some (fault 54 4 1 1))
    ∷ done ∷ checked 1 (Some (fault 52 4 1 1))
    ∷ done ∷ checked 2 None
    ∷ done ∷ done ∷ checked 2 None ∷ []

-- each refusal, on a book with the callee on sheet 0
abbrev pub refusals : List (Call example)
refusals =
    put 0 callee 8192 8192
    ∷ put 40 callee 8191 8192 ∷ put 1 callee 8192 8191 ∷ put 31 callee 8192 8192 ∷ put 3 twice 8192 8192
    ∷ clear 32 0 0 ∷ clear 4 8193 8192 ∷ clear 4 8192 8192
    ∷ check 8192 8191 255 255 ∷ check 8192 8192 255 256 ∷ check 8192 8192 256 255
    ∷ post 200 (written caller) 1 8192 8192 ∷ post 7 (nothing ∷ []) 9 8192 8192 ∷ post 32 (written caller) 9 8192 8192
    ∷ go ∷ []

-- and what they are answered
abbrev pub refusals_said : List (Answer example)
refusals_said =
    done
    ∷ refused (fault 31 3 40 0) ∷ refused (fault 32 3 1 0) ∷ refused (fault 33 3 31 0) ∷ refused (fault 34 3 3 1)
    ∷ refused (fault 31 3 32 0) ∷ refused (fault 32 3 4 0) ∷ refused (fault 35 3 4 0)
    ∷ refused (fault 32 3 255 0) ∷ refused (fault 39 3 255 0) ∷ refused (fault 39 3 255 0)
    ∷ refused (fault 12 1 200 1) ∷ refused (fault 25 2 7 0) ∷ refused (fault 31 3 32 0)
    ∷ checked 1 None ∷ []

-- a caller on sheet 1 whose title was given another head from outside
abbrev pub altered_outside : State Frame
altered_outside =
    let book = working_step example (fresh_state example) (put 1 caller 8192 8192) in
    record {
      records = book.records;
      frames = with_part 1 (title 2 4 ∷ call 1 3 ∷ replicate 254 nothing) book.frames;
      column = book.column;
      valid = book.valid;
    }

-- both books answer so, computed
pub record Trial : Type 0 where
  pub plain_edits : plain_answers [] edits ≡ edits_said
  pub working_edits : working_answers (fresh_state example) edits ≡ edits_said
  pub plain_refusals : plain_answers [] refusals ≡ refusals_said
  pub working_refusals : working_answers (fresh_state example) refusals ≡ refusals_said
  -- 38 is answered, counted and kept
  pub broken : working_answers altered_outside (go ∷ go ∷ []) ≡ checked 1 (Some (fault 38 3 1 0)) ∷ checked 0 (Some (fault 38 3 1 0)) ∷ []
  -- after the edits the reader opens; the call has its type, the title, the place past the end and an empty sheet none
  pub opened : working_reading (working_end (fresh_state example) edits) 8192 8192 ≡ None
  pub typed : asked example (working_end (fresh_state example) edits) 1 1 ≡ Ok (Some 2)
  pub title_none : asked example (working_end (fresh_state example) edits) 1 0 ≡ Ok None
  pub past_none : asked example (working_end (fresh_state example) edits) 1 2 ≡ Ok None
  pub empty_none : asked example (working_end (fresh_state example) edits) 5 300 ≡ Ok None
  pub no_sheet : asked example (working_end (fresh_state example) edits) 32 0 ≡ Err (fault 31 3 32 0)
