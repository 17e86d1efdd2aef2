-- What a check leaves in the two stores: every head, and the variables of the last walk.
use Rattle.std.specs.Prelude.{ℕ, zero, suc, cond, List, [], ◌∷◌, take, Some, None, Ok, Err, Option, Result}
use Rattle.syntax.specs.declared.frame.Frame.{Frame}
use Rattle.levels.specs.Store.{Store, placed, with_levels}
use Rattle.rules.specs.Walk.{walk_sheet}
use Rattle.walk.specs.Judge.{Numbers}
use Rattle.walk.specs.Tied.{walk_levels}
use Rattle.history.specs.Words.{or_else}
use Rattle.history.specs.Language.{Fault, Heads, Signatures, heads_of}
use Rattle.history.specs.Areas.{part}
use Rattle.history.specs.Working.{Record, State, record_at, working_signatures, fits}
use Rattle.cpp.specs.Sheet.{Sheet, form}
use Rattle.cpp.specs.Heads.{signature_from}
use Rattle.cpp.specs.Cpp.{cpp}

-- a level with the signature, if there is one
abbrev pub with_signature : Option (ℕ × ℕ) → Numbers → Numbers
with_signature None l = l
with_signature (Some p) l = placed p l

-- the names and heads of the sheets below k
unfoldable pub heads_below : ℕ → Signatures → Numbers
heads_below zero g = []
heads_below (suc k) g = with_signature (g k) (heads_below k g)

-- the one level that a check leaves in the store of heads: every record's head
abbrev pub heads_left : State Frame → List Numbers
heads_left book = heads_below 32 (working_signatures book) ∷ []

-- the levels that the walk of a definition leaves, at its end or at its fault; frames that do not fit their record are not walked
abbrev pub levels_again : Heads → Result Sheet Fault → Record → Option (List Numbers)
levels_again h (Err f) r = None
levels_again h (Ok d) r = cond (fits cpp r d) (Some (walk_levels (walk_sheet (signature_from h) d.frames))) None

-- the levels that the walk of a sheet leaves, if it is due and walked
abbrev pub levels_walked : Heads → List Frame → Option Record → Option (List Numbers)
levels_walked h b None = None
levels_walked h b (Some r) = cond r.due (levels_again h (form (take r.size b)) r) None

-- the answer of the highest number below k that has one
unfoldable pub highest : {X : Type 0} → ℕ → (ℕ → Option X) → Option X
highest zero f = None
highest (suc k) f = or_else (f k) (highest k f)

-- a store with these levels, if there are any
abbrev pub releveled : Store ℕ → Option (List Numbers) → Store ℕ
releveled s None = s
releveled s (Some ls) = with_levels s ls

-- the levels that a sheet's walk in a check leaves
unfoldable pub sheet_levels : State Frame → ℕ → Option (List Numbers)
sheet_levels book t = levels_walked (heads_of (working_signatures book)) (part t book.frames) (record_at book t)

-- the store of variables after a check: as the last walk left it, untouched with no walk
abbrev pub variables_left : State Frame → Store ℕ → Store ℕ
variables_left book s = releveled s (highest 32 (sheet_levels book))
