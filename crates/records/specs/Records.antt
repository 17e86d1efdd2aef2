-- The records of a book as the working book of the law.
use Rattle.std.specs.Prelude.{ℕ, suc, Bool, true, false, ◌&&◌, ◌||◌, List, map, length, take, Some, None, Option, ◌==◌, nat_le, slice_index_or}
use Rattle.syntax.specs.declared.frame.Frame.{Frame}
use Rattle.heads.specs.Heads.{parameters_of}
use Rattle.rules.specs.Faults.{number}
use Rattle.walk.specs.declared.verdict.Verdict.{Verdict}
use Rattle.walk.specs.declared.verdict.Verdict.TheVariants.{Valid, Broken, Altered}
use Rattle.rules.specs.Calls.{calls}
use Rattle.history.specs.Words.{any_of, map_some}
use Rattle.history.specs.Language.{Blame, Signatures, head_for, differ}
use Rattle.history.specs.Working as working
use Rattle.history.specs.Working.{State, record_signature}
use Rattle.cpp.specs.Heads.{head_code, head_from}
use Rattle.records.specs.declared.record.Record.{Record}
use Rattle.walk.specs.declared.signature.Signature.{Signature}

-- what is kept of a verdict: no fault, or its layer, number and place
abbrev pub kept_of : Verdict → Blame
kept_of Valid = None
kept_of (Broken v p) = Some (4, number v, p)
kept_of Altered = Some (3, 38, 0)

-- name and head in the law's words
abbrev pub signature_of : Signature → ℕ × ℕ
signature_of s = (s.name, s.head)

-- the signature that a call gave or takes, none where there is none
abbrev pub signed : Option Signature → Option (ℕ × ℕ)
signed o = map_some signature_of o

-- a filled sheet's record in the law's words
abbrev pub row_of : Record → working.Record
row_of r = record { name = r.signature.name; head = r.signature.head; size = suc r.end; kept = kept_of r.kept; due = r.due }

-- what the table holds of a sheet in the law's words, none where it is empty
abbrev pub record_of : Option Record → Option working.Record
record_of o = map_some row_of o

-- the records over two areas, and whether the book is valid, as the working book
abbrev pub state_of : List (Option Record) → Bool → List Frame → List ℕ → State Frame
state_of rs v f k = record { records = map record_of rs; frames = f; column = k; valid = v }

-- the signatures of the sheets
abbrev pub signatures_of : List (Option Record) → Signatures
signatures_of rs t = map_some record_signature (slice_index_or (map record_of rs) t None)

-- a record with another verdict and mark
abbrev pub renewed : Record → Verdict → Bool → Record
renewed r v d = record { signature = r.signature; end = r.end; due = d; kept = v }

-- the sheet calls a name to which one signature gives another head than the other
abbrev pub calls_changed : Option (ℕ × ℕ) → Option (ℕ × ℕ) → List Frame → Bool
calls_changed o w fs = any_of (λ n. differ (head_for n o) (head_for n w)) (calls fs)

-- where one sheet's signature turns from o to w: a filled sheet whose counted frames call a name with another head is due
abbrev pub marked_record : Option (ℕ × ℕ) → Option (ℕ × ℕ) → List Frame → Option Record → Option Record
marked_record o w b None = None
marked_record o w b (Some r) = Some (renewed r r.kept (r.due || calls_changed o w (take (suc r.end) b)))

-- the number is that of a head with at most 16 parameters
unfoldable pub is_head : ℕ → Bool
is_head n = head_code (head_from n) == n && nat_le (length (parameters_of n)) 16

-- a filled sheet has the number of a head
abbrev pub headed : Option Record → Bool
headed None = true
headed (Some r) = is_head r.signature.head

-- two sheets are filled and have one name
abbrev pub clash : Option Record → Option Record → Bool
clash None b = false
clash (Some a) None = false
clash (Some a) (Some b) = a.signature.name == b.signature.name
