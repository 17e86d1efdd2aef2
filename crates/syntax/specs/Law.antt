-- The law of the form: what it is for frames to be the writing of a tree, and of only one.
use Rattle.std.specs.Prelude.{◌≡◌, ℕ, ◌+◌, List, ◌++◌, take, ◌≢◌}
use Rattle.syntax.specs.declared.frame.Frame.{Frame}
use Rattle.syntax.specs.Trees.{Definition}
use Rattle.syntax.specs.Writing.{written}
use Rattle.syntax.specs.Limits.{Within}
use Rattle.syntax.specs.Form.{Verdict, fine, refused}

-- the frames are the writing of d, which is within the limits, and of no other tree, within them or not
pub record TreeOf (fs : List Frame) (d : Definition) : Type 0 where
  pub within : Within d
  pub writes : written d ≡ fs
  pub only : (e : Definition) → written e ≡ fs → e ≡ d

-- there is a tree within the limits whose writing the frames are, and only one
abbrev pub HasTree : List Frame → Type 0
HasTree fs = (d : Definition) × TreeOf fs d

-- no tree within the limits has the frames as its writing
abbrev pub HasNoTree : List Frame → Type 0
HasNoTree fs = (d : Definition) → Within d → written d ≢ fs

-- accepted are exactly the writings of trees within the limits
abbrev pub Exactly : List Frame → Verdict → Type 0
Exactly fs (fine u) = HasTree fs
Exactly fs (refused n p) = HasNoTree fs

-- x is what g tells of the tree that the frames write
abbrev pub OfTree : {A : Type 0} → List Frame → (Definition → A) → A → Type 0
OfTree fs g x = (d : Definition) → written d ≡ fs → x ≡ g d

-- the writing of some tree begins with the frames
abbrev pub Begins : List Frame → Type 0
Begins fs = (d : Definition) × ((rest : List Frame) × (written d ≡ fs ++ rest))

-- no tree within the limits has a writing that begins with the frames
abbrev pub BeginsNone : List Frame → Type 0
BeginsNone fs = (d : Definition) (rest : List Frame) → Within d → written d ≢ fs ++ rest

-- the place of a refusal is where the writing of a tree can go on no more: up to it the frames begin one, with
-- the frame at it none within the limits; but 20 is about the count alone, and 25 says that the frames go on too short
pub record Stops (fs : List Frame) (n p : ℕ) : Type 0 where
  pub before : (n ≢ 20) → Begins (take p fs)
  pub after : (n ≢ 25) → BeginsNone (take (p + 1) fs)
