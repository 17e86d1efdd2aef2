-- The walk decides the rules: over the frames of a definition it answers a column exactly where a derivation has that column.
use Rattle.std.specs.Prelude.{◌≡◌, ℕ, true, ◌↔◌, List, [], ◌∷◌, Ok}
use Rattle.syntax.specs.declared.frame.Frame.{Frame}
use Rattle.syntax.specs.declared.frame.«Type».{«Type» as Ty}
use Rattle.syntax.specs.Trees.{Stmt, perform, declare, init, return_nothing, return_value, block, while, choose, Stmts, empty, then, Definition}
use Rattle.syntax.specs.Writing.{written}
use Rattle.syntax.specs.Form.{is_sheet}
use Rattle.rules.specs.Heads.{Signature, Table, Levels}
use Rattle.rules.specs.Sequences.{declare_all, declare_params, ValidDefinition}
use Rattle.rules.specs.Columns.{column}
use Rattle.rules.specs.Walk.{walk_sheet}

-- a table with what a statement declares, and what the own statements of a sequence declare
abbrev pub stmt_level : Stmt → Table Ty → Table Ty
stmt_level (perform e) τ = τ
stmt_level (declare t xs) τ = declare_all t xs τ
stmt_level (init t x e) τ = (x, t) ∷ τ
stmt_level return_nothing τ = τ
stmt_level (return_value e) τ = τ
stmt_level (block ss) τ = τ
stmt_level (while e s) τ = τ
stmt_level (choose e s₁ s₂) τ = τ

abbrev pub body_level : Stmts → Table Ty → Table Ty
body_level empty τ = τ
body_level (then s ss) τ = body_level ss (stmt_level s τ)

-- the level that stands at the end of a definition: its parameters, and the names that its body's own statements declare
abbrev pub level_left : Definition → Table Ty
level_left d = body_level d.body (declare_params d.params [])

-- a derivation of the definition has the column c, and one level is left, Γ
abbrev pub Derived : Signature → Definition → List ℕ → Levels → Type 0
Derived S d c Γ = (D : ValidDefinition S d) × (column S d D ≡ c) × (level_left d ∷ [] ≡ Γ)

-- over the frames of a definition
abbrev pub WalkDecides : Type 0
WalkDecides = (S : Signature) (d : Definition) (c : List ℕ) (Γ : Levels) → (walk_sheet S (written d) ≡ Ok (c, Γ)) ↔ Derived S d c Γ

-- over frames that have the form of a sheet
abbrev pub SheetDecides : Type 0
SheetDecides = (S : Signature) (fs : List Frame) → is_sheet fs ≡ true → (c : List ℕ) (Γ : Levels)
    → (walk_sheet S fs ≡ Ok (c, Γ)) ↔ ((d : Definition) × (written d ≡ fs) × Derived S d c Γ)
