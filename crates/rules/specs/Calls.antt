-- A walk depends on the heads only through the names that the sheet calls.
use Rattle.std.specs.Prelude.{◌≡◌, ℕ, cond, List, [], ◌∷◌, ◌==◌}
use Rattle.syntax.specs.declared.frame.Frame.{Frame}
use Rattle.rules.specs.Heads.{Signature}
use Rattle.rules.specs.Walk.{walk_sheet}

-- the names that some frames call
abbrev pub calls : List Frame → List ℕ
calls [] = []
calls (f ∷ fs) = cond (f.kind == 0x26) (f.name ∷ calls fs) (calls fs)

-- two signatures give each of the names the same head, or both none
abbrev pub Agree : Signature → Signature → List ℕ → Type 0
Agree S S' [] = Unit {0}
Agree S S' (f ∷ fs) = (S f ≡ S' f) × Agree S S' fs

-- the whole outcome: the column or the fault, and the levels left
abbrev pub CallsDecide : Type 0
CallsDecide = (S S' : Signature) (fs : List Frame) → Agree S S' (calls fs) → walk_sheet S fs ≡ walk_sheet S' fs
