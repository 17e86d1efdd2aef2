-- The calls of a run as a history, and the first fault that the plain book tells in it.
use Rattle.std.specs.Prelude.{ℕ, ◌+◌, List, [], ◌∷◌, Some, None, Option}
use Rattle.history.specs.Words.{or_else}
use Rattle.history.specs.Language.{Fault}
use Rattle.history.specs.Calls.{fresh_refusal, Call, Call.post, Call.check, History, Answer, Answer.refused, Answer.done, Answer.checked}
use Rattle.history.specs.Plain.{answer}
use Rattle.cpp.specs.Cpp.{cpp}
use Rattle.input.specs.Pieces.{pieces}

-- the fault that an answer tells, if it tells one: a refusal, or of a check the fault of the lowest faulty sheet
abbrev pub fault_told : Answer cpp → Option Fault
fault_told (refused f) = Some f
fault_told done = None
fault_told (checked n o) = o

-- a piece posted on sheet k, with 257 frames to read it into
unfoldable pub posted : ℕ → List ℕ → Call cpp
posted k piece = post k piece 257 8192 8192

-- a check with stores of these capacities
unfoldable pub checking : ℕ → ℕ → Call cpp
checking a b = check 8192 8192 a b

-- the calls h and after them the posts of pieces, from sheet k on
abbrev pub posts : ℕ → History cpp → List (List ℕ) → History cpp
posts k h [] = h
posts k h (p ∷ ps) = posts (k + 1) (posted k p ∷ h) ps

-- the first fault that those posts tell, each after the ones before it
abbrev pub post_fault : ℕ → History cpp → List (List ℕ) → Option Fault
post_fault k h [] = None
post_fault k h (p ∷ ps) = or_else (fault_told (answer cpp h (posted k p))) (post_fault (k + 1) (posted k p ∷ h) ps)

-- the posts of the pieces of an input, piece k on sheet k, on a fresh book
abbrev pub all_posts : List ℕ → History cpp
all_posts input = posts 0 [] (pieces input)

-- the first fault up to the last post: of fresh, over areas of these lengths, or else of the posts
abbrev pub posting_fault : List ℕ → ℕ → ℕ → Option Fault
posting_fault input fl cl = or_else (fresh_refusal fl cl) (post_fault 0 [] (pieces input))

-- the first fault of all, that of the check among them
abbrev pub first_fault : List ℕ → ℕ → ℕ → ℕ → ℕ → Option Fault
first_fault input fl cl a b = or_else (posting_fault input fl cl) (fault_told (answer cpp (all_posts input) (checking a b)))
