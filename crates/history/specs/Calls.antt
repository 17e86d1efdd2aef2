-- The calls on a book with their arguments, and which of them are refused, in the order of the tests.
use Rattle.std.specs.Prelude.{ℕ, Bool, true, false, cond, not, ◌&&◌, ◌||◌, List, Some, None, Ok, Err, Option, Result, ◌==◌, nat_lt}
use Rattle.history.specs.Words.{updated, lowest, filled}
use Rattle.history.specs.Language.{Fault, Signatures, head_for, Language}

-- a refusal of the book itself: layer 3, place 0
abbrev pub refusal : ℕ → ℕ → Fault
refusal n s = record { number = n; layer = 3; sheet = s; place = 0 }

-- both areas have 8,192 places
abbrev pub sized : ℕ → ℕ → Bool
sized fl cl = fl == 8192 && cl == 8192

-- fresh is refused where an area has another length; it names no sheet
unfoldable pub fresh_refusal : ℕ → ℕ → Option Fault
fresh_refusal fl cl = cond (sized fl cl) None (Some (refusal 32 255))

-- the type reader: 32, then 36 on a book that is not valid; it names no sheet
unfoldable pub reader_refusal : Bool → ℕ → ℕ → Option Fault
reader_refusal valid fl cl = cond (sized fl cl) (cond valid None (Some (refusal 36 255))) (Some (refusal 32 255))

module _ {Frame Def Text : Type 0} (L : Language Frame Def Text) where
  open L use {name, repeated, form, reads}

  -- a call with its arguments; of the areas the lengths alone (frames, column), of the stores the capacities alone (heads, variables)
  pub data Call : Type 0 where
    -- sheet, text, the number of frames to read into, lengths
    post : ℕ → Text → ℕ → ℕ → ℕ → Call
    -- sheet, the formed definition, lengths
    put : ℕ → Def → ℕ → ℕ → Call
    -- sheet, lengths
    clear : ℕ → ℕ → ℕ → Call
    -- lengths, capacities
    check : ℕ → ℕ → ℕ → ℕ → Call

  -- the calls since an accepted fresh, the newest first
  abbrev pub History : Type 0
  History = List Call

  -- what an accepted call does
  pub data Act : Type 0 where
    wrote : ℕ → Def → Act
    emptied : ℕ → Act
    walked : Act

  -- refused by f where the test holds
  abbrev pub guard : Bool → Fault → Result Act Fault → Result Act Fault
  guard true f r = Err f
  guard false f r = r

  -- 34 with the place of the first repeat
  abbrev pub unless_repeated : Option ℕ → ℕ → Act → Result Act Fault
  unless_repeated (Some p) s a = Err (record { number = 34; layer = 3; sheet = s; place = p })
  unless_repeated None s a = Ok a

  -- the name stands on another sheet than s
  abbrev pub elsewhere : Signatures → ℕ → ℕ → Bool
  elsewhere g s n = filled (lowest 32 (λ t. head_for n (updated g s None t)))

  -- put: 31, 32, 33, 34, each with the sheet that the call names
  abbrev pub putting : Signatures → ℕ → Def → ℕ → ℕ → Result Act Fault
  putting g s d fl cl =
      guard (nat_lt 31 s) (refusal 31 s) (guard (not (sized fl cl)) (refusal 32 s)
      (guard (elsewhere g s (name d)) (refusal 33 s) (unless_repeated (repeated d) s (wrote s d))))

  -- what was read, formed
  abbrev pub formed : Result (List Frame) Fault → Result Def Fault
  formed (Ok fs) = form fs
  formed (Err f) = Err f

  -- post: of a fault of reading or form the sheet alone is set; else as put
  abbrev pub posting : Signatures → ℕ → Result Def Fault → ℕ → ℕ → Result Act Fault
  posting g s (Err f) fl cl = Err (record { number = f.number; layer = f.layer; sheet = s; place = f.place })
  posting g s (Ok d) fl cl = putting g s d fl cl

  -- clear: 31, 32, 35, each with the sheet that the call names
  abbrev pub clearing : Signatures → ℕ → ℕ → ℕ → Result Act Fault
  clearing g s fl cl =
      guard (nat_lt 31 s) (refusal 31 s) (guard (not (sized fl cl)) (refusal 32 s)
      (guard (not (filled (g s))) (refusal 35 s) (Ok (emptied s))))

  -- check: 32, then 39 where either store's capacity is under 256; it names no sheet
  abbrev pub checking : ℕ → ℕ → ℕ → ℕ → Result Act Fault
  checking fl cl a b =
      guard (not (sized fl cl)) (refusal 32 255) (guard (nat_lt a 256 || nat_lt b 256) (refusal 39 255) (Ok walked))

  -- what a call does on a book with these signatures, or its refusal
  unfoldable pub outcome : Signatures → Call → Result Act Fault
  outcome g (post s t room fl cl) = posting g s (formed (reads t room)) fl cl
  outcome g (put s d fl cl) = putting g s d fl cl
  outcome g (clear s fl cl) = clearing g s fl cl
  outcome g (check fl cl a b) = checking fl cl a b

  -- what a call tells: its refusal, that it was done, or of a check the number walked and the fault if there is one
  pub data Answer : Type 0 where
    refused : Fault → Answer
    done : Answer
    checked : ℕ → Option Fault → Answer
