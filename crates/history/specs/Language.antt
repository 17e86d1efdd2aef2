-- A language of definitions with a local judge: what the law needs of it, in words alone.
use Rattle.std.specs.Prelude.{◌≡◌, ℕ, ◌-◌, Bool, true, false, cond, not, ◌&&◌, List, [], ◌∷◌, ◌++◌, length, replicate, Some, None, Option, Result, ◌==◌, nat_lt, slice_index}
use Rattle.history.specs.Words.{lowest, map_some}

-- a fault: its number, the layer that found it, the sheet named or faulty, and the place
pub record Fault : Type 0 where
  pub number : ℕ
  pub layer : ℕ
  pub sheet : ℕ
  pub place : ℕ

-- the judge's verdict on one sheet: valid, with its part of the column, or a fault's layer, number and place
pub data Verdict : Type 0 where
  good : List ℕ → Verdict
  bad : ℕ → ℕ → ℕ → Verdict

-- a head, told as a number, for each name that has one
abbrev pub Heads : Type 0
Heads = ℕ → Option ℕ

-- the signature, name and head, of each sheet that has one
abbrev pub Signatures : Type 0
Signatures = ℕ → Option (ℕ × ℕ)

-- the head that a signature gives to the name n
abbrev pub head_for : ℕ → Option (ℕ × ℕ) → Option ℕ
head_for n None = None
head_for n (Some p) = cond (p.0 == n) (Some p.1) None

-- two answers of a head table differ: another head, none any more, or a first one
abbrev pub differ : Option ℕ → Option ℕ → Bool
differ None None = false
differ None (Some b) = true
differ (Some a) None = true
differ (Some a) (Some b) = not (a == b)

-- the head table of 32 sheets
unfoldable pub heads_of : Signatures → Heads
heads_of g n = lowest 32 (λ t. head_for n (g t))

-- two head tables give the same head to every listed name
abbrev pub Agree : Heads → Heads → List ℕ → Type 0
Agree h k [] = Unit {0}
Agree h k (n ∷ ns) = (h n ≡ k n) × Agree h k ns

-- a part of the column without a type
unfoldable pub zeros : List ℕ
zeros = replicate 256 0

-- the part of the column that a verdict asks for: a faulty sheet has no types
abbrev pub column_of : Verdict → List ℕ
column_of (good c) = c
column_of (bad l n p) = zeros

-- what is kept of a verdict: no fault, or its layer, number and place
abbrev pub Blame : Type 0
Blame = Option (ℕ × ℕ × ℕ)

-- what is kept of this verdict
abbrev pub blame : Verdict → Blame
blame (good c) = None
blame (bad l n p) = Some (l, n, p)

-- the fault that a kept verdict tells of the sheet t
abbrev pub fault_on : ℕ → Blame → Option Fault
fault_on t None = None
fault_on t (Some b) = Some (record { number = b.1; layer = b.0; sheet = t; place = b.2 })

-- the fault that a verdict tells of the sheet t
abbrev pub fault_from : ℕ → Verdict → Option Fault
fault_from t v = fault_on t (blame v)

-- a column's number as a type: 1 to 5, and no other
abbrev pub as_type : ℕ → Option ℕ
as_type n = cond (nat_lt 0 n && nat_lt n 6) (Some n) None

-- the type at place p of a sheet of k frames, by its part of the column; none at or past the end
abbrev pub type_at : ℕ → List ℕ → ℕ → Option ℕ
type_at k c p = cond (nat_lt p k) (as_type (slice_index c p)) None

-- the words of a language whose definitions stand on sheets of frames
pub record Language (Frame Def Text : Type 0) : Type 1 where
  -- the frame where nothing is written
  pub blank : Frame
  -- the frame ends an expression
  pub expression : Frame → Bool
  -- the name that calls use
  pub name : Def → ℕ
  -- parameter types and return type, told as a number
  pub head : Def → ℕ
  -- the place of the first repeated parameter
  pub repeated : Def → Option ℕ
  -- the frames that write a definition
  pub writing : Def → List Frame
  -- the names that frames call
  pub calls : List Frame → List ℕ
  -- the definition that frames form
  pub form : List Frame → Result Def Fault
  -- reading a text into so many frames
  pub reads : Text → ℕ → Result (List Frame) Fault
  -- the judge of one definition, under the heads of a whole book
  pub judge : Heads → Def → Verdict
  -- a derivation of a definition's validity, under the heads of a whole book
  pub Tree : Heads → Def → Type 0
  -- in that derivation an expression ends at this place and has this type
  pub Gives : (h : Heads) (d : Def) → Tree h d → ℕ → ℕ → Type 0
  -- the definitions on the sheets have a derivation of their validity as a whole
  pub Valid : (ℕ → Option Def) → Type 0

module _ {Frame Def Text : Type 0} (L : Language Frame Def Text) where
  open L use {blank, name, head, writing, Tree}

  -- the count of frames of a definition, its end
  abbrev pub size : Def → ℕ
  size d = length (writing d)

  -- a sheet's part of the frames: its own, blank ones after them, 256 in all
  unfoldable pub image : Def → List Frame
  image d = writing d ++ replicate (256 - length (writing d)) blank

  -- the part of the frames of an empty sheet
  unfoldable pub blanks : List Frame
  blanks = replicate 256 blank

  -- the definition on each sheet that has one
  abbrev pub Entries : Type 0
  Entries = ℕ → Option Def

  -- name and head of a definition
  abbrev pub signature : Def → ℕ × ℕ
  signature d = (name d, head d)

  -- and of each sheet's
  abbrev pub signatures : Entries → Signatures
  signatures e t = map_some signature (e t)

  -- the heads of the whole book
  abbrev pub heads_in : Entries → Heads
  heads_in e = heads_of (signatures e)

  -- each definition has a derivation, all with the heads of the whole book
  abbrev pub BookDerives : Entries → Type 0
  BookDerives e = (t : ℕ) (d : Def) → e t ≡ Some d → Tree (heads_in e) d
