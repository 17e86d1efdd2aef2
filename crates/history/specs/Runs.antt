-- What a call does to the working book, and the states that runs of calls lead to.
use Rattle.std.specs.Prelude.{◌≡◌, ℕ, Bool, cond, [], ◌∷◌, length, None, Option}
use Rattle.history.specs.Words.{filled}
use Rattle.history.specs.Language.{Fault, Language}
use Rattle.history.specs.Calls.{fresh_refusal, Call, History, outcome, Answer}
use Rattle.history.specs.Plain.{walks_by}
use Rattle.history.specs.Working.{State, record_at, working_signatures, due_flag, fresh_state, working_stepped, working_told}

module _ {Frame Def Text : Type 0} (L : Language Frame Def Text) where
  -- the state that a call leaves
  abbrev pub working_step : State Frame → Call L → State Frame
  working_step book c = working_stepped L book (outcome L (working_signatures book) c)

  -- the answer of a call
  abbrev pub working_answer : State Frame → Call L → Answer L
  working_answer book c = working_told L book (outcome L (working_signatures book) c)

  -- the call walks the sheet: it is an accepted check, and the record is marked due
  abbrev pub working_walks : State Frame → Call L → ℕ → Bool
  working_walks book c t = walks_by L (outcome L (working_signatures book) c) (due_flag (record_at book t))

  -- what a call answers and leaves, from any state
  pub record Does (book : State Frame) (c : Call L) (r : Answer L) (book' : State Frame) : Type 0 where
    pub answered : r ≡ working_answer book c
    pub left : book' ≡ working_step book c

  -- what fresh answers and leaves, from any state
  pub record Freshens (book : State Frame) (r : Option Fault) (book' : State Frame) : Type 0 where
    pub answered : r ≡ fresh_refusal (length book.frames) (length book.column)
    pub left : book' ≡ cond (filled r) book (fresh_state L)

  -- the state is reached by an accepted fresh, from any state, and then the history's calls, each from its predecessors' result
  pub data Leads : History L → State Frame → Type 0 where
    -- an accepted fresh
    fresh : {book book' : State Frame} → Freshens book None book' → Leads [] book'
    -- one call more
    next : {h : History L} {book book' : State Frame} {c : Call L} {r : Answer L} → Does book c r book' → Leads h book → Leads (c ∷ h) book'
