-- The rules for sequences of statements and for definitions, as derivations: one constructor for each rule.
use Rattle.std.specs.Prelude.{◌≡◌, ℕ, false, List, [], ◌∷◌, None, ◌==◌}
use Rattle.syntax.specs.declared.frame.«Type».{«Type» as Ty}
use Rattle.syntax.specs.declared.frame.«Type».TheVariants.{Bool, Void}
use Rattle.syntax.specs.declared.frame.Parameter.{Parameter}
use Rattle.syntax.specs.Trees.{Expr, Stmt, perform, declare, init, return_nothing, return_value, block, while, choose, Stmts, empty, then, Definition}
use Rattle.levels.specs.Store.{find}
use Rattle.rules.specs.Heads.{Signature, Table, Levels}
use Rattle.rules.specs.Rules.{WellTyped}

-- x is none of the names
abbrev pub NotIn : ℕ → List ℕ → Type 0
NotIn x [] = Unit {0}
NotIn x (y ∷ ys) = ((x == y) ≡ false) × NotIn x ys

-- no name stands twice
abbrev pub Distinct : List ℕ → Type 0
Distinct [] = Unit {0}
Distinct (x ∷ xs) = NotIn x xs × Distinct xs

-- a table lacks a name, or each of some names
abbrev pub Lacks : {A : Type 0} → Table A → ℕ → Type 0
Lacks τ x = find τ x ≡ None

abbrev pub LacksAll : Table Ty → List ℕ → Type 0
LacksAll τ [] = Unit {0}
LacksAll τ (x ∷ xs) = Lacks τ x × LacksAll τ xs

-- a table with names of one type added in their order
abbrev pub declare_all : Ty → List ℕ → Table Ty → Table Ty
declare_all t [] τ = τ
declare_all t (x ∷ xs) τ = declare_all t xs ((x, t) ∷ τ)

-- a sequence of statements is valid under the heads S and the tables Γ, in a function that returns r.
-- Where a rule speaks of the top of the tables it names it: τ, with the tables Γ below
pub data ValidSequence (S : Signature) (r : Ty) : Levels → Stmts → Type 0 where
  empty_valid : {Γ : Levels} → ValidSequence S r Γ empty
  perform_valid : {Γ : Levels} {e : Expr} {t : Ty} {ss : Stmts}
      → WellTyped S Γ e t → ValidSequence S r Γ ss
      → ValidSequence S r Γ (then (perform e) ss)
  declare_valid : {Γ : Levels} {τ : Table Ty} {t : Ty} {xs : List ℕ} {ss : Stmts}
      → Distinct xs → LacksAll τ xs → ValidSequence S r (declare_all t xs τ ∷ Γ) ss
      → ValidSequence S r (τ ∷ Γ) (then (declare t xs) ss)
  init_valid : {Γ : Levels} {τ : Table Ty} {t : Ty} {x : ℕ} {e : Expr} {ss : Stmts}
      → WellTyped S (τ ∷ Γ) e t → Lacks τ x → ValidSequence S r (((x, t) ∷ τ) ∷ Γ) ss
      → ValidSequence S r (τ ∷ Γ) (then (init t x e) ss)
  return_nothing_valid : {Γ : Levels} {ss : Stmts}
      → r ≡ Void → ValidSequence S r Γ ss
      → ValidSequence S r Γ (then return_nothing ss)
  return_value_valid : {Γ : Levels} {e : Expr} {ss : Stmts}
      → WellTyped S Γ e r → ValidSequence S r Γ ss
      → ValidSequence S r Γ (then (return_value e) ss)
  block_valid : {Γ : Levels} {rs ss : Stmts}
      → ValidSequence S r ([] ∷ Γ) rs → ValidSequence S r Γ ss
      → ValidSequence S r Γ (then (block rs) ss)
  while_valid : {Γ : Levels} {e : Expr} {s : Stmt} {ss : Stmts}
      → WellTyped S Γ e Bool → ValidSequence S r Γ (then s empty) → ValidSequence S r Γ ss
      → ValidSequence S r Γ (then (while e s) ss)
  choose_valid : {Γ : Levels} {e : Expr} {s₁ s₂ : Stmt} {ss : Stmts}
      → WellTyped S Γ e Bool → ValidSequence S r Γ (then s₁ empty) → ValidSequence S r Γ (then s₂ empty) → ValidSequence S r Γ ss
      → ValidSequence S r Γ (then (choose e s₁ s₂) ss)

-- the first table of a function: its parameters, added in their order
abbrev pub declare_params : List Parameter → Table Ty → Table Ty
declare_params [] τ = τ
declare_params (p ∷ ps) τ = declare_params ps ((p.name, p.t) ∷ τ)

-- a definition is valid under the heads S: its body is, over the table of its parameters
abbrev pub ValidDefinition : Signature → Definition → Type 0
ValidDefinition S d = ValidSequence S d.returns (declare_params d.params [] ∷ []) d.body
