-- What a column says: at an expression's last frame the type that every derivation gives it, and 0 elsewhere.
use Rattle.std.specs.Prelude.{◌≡◌, ℕ, ◌-◌, true, ◌↔◌, List, ◌++◌, length, replicate, Ok, Err, Result, slice_index}
use Rattle.syntax.specs.declared.frame.Frame.{Frame}
use Rattle.syntax.specs.declared.frame.«Type».{«Type» as Ty}
use Rattle.syntax.specs.Trees.{Expr, Definition}
use Rattle.syntax.specs.Writing.{type_code, written}
use Rattle.syntax.specs.Form.{is_sheet}
use Rattle.rules.specs.Heads.{Signature, Levels}
use Rattle.rules.specs.Rules.{WellTyped}
use Rattle.rules.specs.Sequences.{ValidDefinition}
use Rattle.rules.specs.Columns.{column}
use Rattle.rules.specs.Faults.{Fault}
use Rattle.rules.specs.Walk.{walk_sheet}
use Rattle.rules.specs.Places.{Ends, Gives}

-- an expression has at most one type
abbrev pub TypeOnce : Type 0
TypeOnce = (S : Signature) (Γ : Levels) (e : Expr) (t u : Ty) → WellTyped S Γ e t → WellTyped S Γ e u → t ≡ u

-- the column has the number of a type exactly where the derivation gives that type
abbrev pub ColumnTypes : Type 0
ColumnTypes = (S : Signature) (d : Definition) (D : ValidDefinition S d) (p : ℕ) (u : Ty) → (slice_index (column S d D) p ≡ type_code u) ↔ Gives S d D p u

-- a derivation gives a type exactly where an expression ends
abbrev pub TypedPlaces : Type 0
TypedPlaces = (S : Signature) (d : Definition) (D : ValidDefinition S d) (p : ℕ) → ((u : Ty) × Gives S d D p u) ↔ ((x : Expr) × Ends d p x)

-- at a place where an expression ends every derivation gives one and the same type
abbrev pub TypesAgree : Type 0
TypesAgree = (S : Signature) (d : Definition) (D D' : ValidDefinition S d) (p : ℕ) (u v : Ty) → Gives S d D p u → Gives S d D' p v → u ≡ v

-- where no expression ends the column has 0
abbrev pub ColumnBlank : Type 0
ColumnBlank = (S : Signature) (d : Definition) (D : ValidDefinition S d) (p : ℕ) → ((x : Expr) → Ends d p x → ⊥) → slice_index (column S d D) p ≡ 0

-- the column has a number for each frame
abbrev pub ColumnLong : Type 0
ColumnLong = (S : Signature) (d : Definition) (D : ValidDefinition S d) → length (column S d D) ≡ length (written d)

-- what a walk leaves in the 256 numbers of a sheet's column: the types and then 0, or at a fault only 0
unfoldable pub column_left : Result (List ℕ × Levels) Fault → List ℕ
column_left (Ok a) = a.0 ++ replicate (256 - length a.0) 0
column_left (Err x) = replicate 256 0

-- they are 256 for every sheet
abbrev pub ColumnWide : Type 0
ColumnWide = (S : Signature) (fs : List Frame) → is_sheet fs ≡ true → length (column_left (walk_sheet S fs)) ≡ 256
