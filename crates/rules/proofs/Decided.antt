-- The walk decides the rules.
use Rattle.std.proofs.Common.{◌≡◌, ℕ, true, false, ◌↔◌, List, [], ◌∷◌, reverse, Ok, Result, sym, refl, ap, ◌∙◌, ap₂}
use Rattle.syntax.specs.declared.frame.Frame.{Frame}
use Rattle.syntax.specs.declared.frame.«Type».{«Type» as Ty}
use Rattle.syntax.specs.Trees.{Stmt, perform, declare, init, return_nothing, return_value, block, while, choose, Stmts, empty, then, Definition}
use Rattle.syntax.specs.Writing.{END, write_stmts, written}
use Rattle.syntax.specs.Limits.{Within}
use Rattle.syntax.specs.Form.{is_sheet}
use Rattle.syntax.proofs.Law.{sheet_tree}
use Rattle.rules.specs.Heads.{Signature, Table, Levels}
use Rattle.rules.specs.Sequences.{declare_params, ValidDefinition}
use Rattle.rules.specs.Columns.{sequence_column, column}
use Rattle.rules.specs.Faults.{Fault, ◌>>=◌}
use Rattle.rules.specs.Walk.{idle, State, state, walk, start, returned, walk_frames, walk_sheet}
use Rattle.rules.specs.Decided.{stmt_level, body_level, level_left, Derived, WalkDecides, SheetDecides}
use Rattle.rules.proofs.Checker.{top_after, check_stmts}
use Rattle.rules.proofs.Stacked.{blanks_stacked, blanks_turned, sequence_stacked, sequence_turned}
use Rattle.rules.proofs.Results.{answers_same, bound, bind_assoc}
use Rattle.rules.proofs.Statements.{sequence_complete, stmts_sound}
use Rattle.rules.proofs.Walks.{tops_after, walk_stmts, walk_params}
use Rattle.rules.proofs.Decoded.{tokens_written, returned_written}

-- ===== what a definition leaves =====
pub top_level : (s : Stmt) (τ : Table Ty) → top_after false s τ ≡ stmt_level s τ
top_level (perform e) τ = refl
top_level (declare t xs) τ = refl
top_level (init t x e) τ = refl
top_level return_nothing τ = refl
top_level (return_value e) τ = refl
top_level (block ss) τ = refl
top_level (while e s) τ = refl
top_level (choose e s₁ s₂) τ = refl

tops_level : (S : Signature) (r : Ty) (ss : Stmts) (τ : Table Ty) → tops_after S r ss τ ≡ body_level ss τ
tops_level S r empty τ = refl
tops_level S r (then s ss) τ = tops_level S r ss (top_after false s τ) ∙ ap (body_level ss) (top_level s τ)

-- ===== the walk over a definition, by the checker of its body =====
module _ (S : Signature) (d : Definition) where
  abbrev pub params_level : Table Ty
  params_level = declare_params d.params []

  abbrev pub before_body : List ℕ
  before_body = blanks_stacked d.params (0 ∷ [])

  abbrev pub body_checked : Result (List ℕ) Fault
  body_checked = check_stmts S d.returns [] params_level d.body before_body

  abbrev pub end_state : List ℕ → State
  end_state c = state (0 ∷ c) [] (level_left d ∷ []) [] idle

  pub walk_written : walk_frames S (returned (written d)) (written d) ≡ (body_checked >>= λ c. Ok (end_state c))
  walk_written =
      ap₂ (λ r ms. walk S r ms start) (returned_written d) (tokens_written d)
      ∙ walk_params S d.returns d.params (write_stmts d.body (END ∷ [])) (0 ∷ []) []
      ∙ walk_stmts S d.returns d.body (END ∷ []) before_body [] params_level [] refl refl
      ∙ ap (λ (σ : Table Ty). body_checked >>= λ c. Ok (state (0 ∷ c) [] (σ ∷ []) [] idle)) (tops_level S d.returns d.body params_level)

  pub sheet_written : walk_sheet S (written d) ≡ (body_checked >>= λ c. Ok (reverse (0 ∷ c), level_left d ∷ []))
  sheet_written = ap (λ m. m >>= λ s. Ok (reverse s.column, s.levels)) walk_written ∙ bind_assoc body_checked _ _

  -- the column that the checker piled up, turned round
  column_turned : (D : ValidDefinition S d) → reverse (0 ∷ sequence_stacked D before_body) ≡ column S d D
  column_turned D = sequence_turned D before_body (0 ∷ []) ∙ blanks_turned d.params (0 ∷ []) (sequence_column D (0 ∷ []))

  pub walk_derived : (D : ValidDefinition S d) → walk_sheet S (written d) ≡ Ok (column S d D, level_left d ∷ [])
  walk_derived D = sheet_written ∙ rw (sequence_complete S d.returns D before_body) (ap (λ c. Ok (c, level_left d ∷ [])) (column_turned D))

  pub derived_walk : (c : List ℕ) (Γ : Levels) → walk_sheet S (written d) ≡ Ok (c, Γ) → Derived S d c Γ
  derived_walk c Γ h = bound body_checked _ (sym sheet_written ∙ h) λ b h₁ h₂.
      let D = stmts_sound S d.returns d.body [] params_level before_body h₁ in
      let e : Ok (column S d D, level_left d ∷ []) ≡ Ok (c, Γ) = sym (walk_derived D) ∙ h in
      (D, ap (λ (p : List ℕ × Levels). p.0) (answers_same e), ap (λ (p : List ℕ × Levels). p.1) (answers_same e))

  pub decided : (c : List ℕ) (Γ : Levels) → (walk_sheet S (written d) ≡ Ok (c, Γ)) ↔ Derived S d c Γ
  decided c Γ = (derived_walk c Γ, (λ q. walk_derived q.0 ∙ ap₂ (λ x y. Ok (x, y)) q.1 q.2))

pub walk_decides : WalkDecides
walk_decides S d c Γ = decided S d c Γ

-- ===== sheets =====
-- a sheet is the writing of a definition within the limits
pub sheet_definition : (fs : List Frame) → is_sheet fs ≡ true → (d : Definition) × Within d × (written d ≡ fs)
sheet_definition fs h = let t = sheet_tree fs h in (t.0, t.1.within, t.1.writes)

pub sheet_decides : SheetDecides
sheet_decides S fs h c Γ =
    let w = sheet_definition fs h in (
      (λ k. (w.0, w.2, (decided S w.0 c Γ).0 (ap (walk_sheet S) w.2 ∙ k))),
      (λ q. ap (walk_sheet S) (sym q.1) ∙ (decided S q.0 c Γ).1 q.2),
    )
