-- The text of frames: sixteen upper-case hexadecimal digits a frame, in field order, highest digit first, then byte 10.
use Rattle.std.specs.Prelude.{ℕ, zero, suc, ◌+◌, ◌/◌, ◌%◌, ◌^◌, ◌<◌, cond, List, [], ◌∷◌, ◌++◌, nat_lt}
use Rattle.std.specs.List.{flat_map}
use Rattle.syntax.specs.declared.frame.Frame.{Frame}

-- the byte of a digit below 16
abbrev pub digit : ℕ → ℕ
digit d = cond (nat_lt d 10) (48 + d) (55 + d)

-- the lowest w digits of n, highest first
unfoldable pub hexes : ℕ → ℕ → List ℕ
hexes zero n = []
hexes (suc w) n = hexes w (n / 16) ++ (digit (n % 16) ∷ [])

unfoldable pub line_of : Frame → List ℕ
line_of f = hexes 2 f.kind ++ (hexes 2 f.t ++ (hexes 4 f.name ++ (hexes 8 f.load ++ (10 ∷ []))))

abbrev pub text_of : List Frame → List ℕ
text_of fs = flat_map line_of fs

-- each field is within its width
pub record Fit (f : Frame) : Type 0 where
  pub kind : f.kind < 2 ^ 8
  pub t : f.t < 2 ^ 8
  pub name : f.name < 2 ^ 16
  pub load : f.load < 2 ^ 32
