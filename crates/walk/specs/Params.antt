-- The parameters of a sheet by its frames, and whether a name stands twice among them.
use Rattle.std.specs.Prelude.{ℕ, suc, ◌<◌, Bool as Truth, false, cond, ◌||◌, List, [], ◌∷◌, length, take, drop, Some, None, Option, slice_index_or}
use Rattle.syntax.specs.declared.frame.Frame.{Frame}
use Rattle.syntax.specs.Writing.{blank}
use Rattle.rules.specs.Judge.{among}
use Rattle.walk.specs.Machines.{names_of}

-- the PARAM frames: as many as HEAD counts
abbrev pub param_frames : List Frame → List Frame
param_frames fs = take (slice_index_or fs 0 blank).load (drop 1 fs)

-- one of the names is among those seen or stands twice
abbrev pub repeats : List ℕ → List ℕ → Truth
repeats seen [] = false
repeats seen (x ∷ xs) = among seen x || repeats (x ∷ seen) xs

-- a sheet has a parameter twice
abbrev pub param_twice : List Frame → Truth
param_twice fs = repeats [] (names_of (param_frames fs))

-- the place of the first name that stands among those before it: the first of the list has place p, and `seen` stand before it
abbrev pub first_repeat : ℕ → List ℕ → List ℕ → Option ℕ
first_repeat p seen [] = None
first_repeat p seen (x ∷ xs) = cond (among seen x) (Some p) (first_repeat (suc p) (x ∷ seen) xs)

-- the lowest place of a parameter whose name an earlier one has; the first parameter stands at place 1, after HEAD
abbrev pub repeated_param : List Frame → Option ℕ
repeated_param fs = first_repeat 1 [] (names_of (param_frames fs))

-- a place that is found is that of a frame after HEAD
abbrev pub Placed : List Frame → Option ℕ → Type 0
Placed fs (Some p) = (0 < p) × (p < length fs)
Placed fs None = Unit {0}
