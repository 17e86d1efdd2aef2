-- A step refuses at its own place, and never for a missing END.
use Rattle.std.proofs.Common.{◌≡◌, ℕ, Bool, true, false, cond, eqb, ltb, leb, List, [], ◌∷◌, length, Some, None, Option, refl, arith}
use Rattle.syntax.specs.declared.frame.Frame.{Frame}
use Rattle.syntax.specs.declared.kinds.Role.{Role}
use Rattle.syntax.specs.declared.kinds.Role.TheVariants.{Head, Param, End, Operand, Call, Statement, Decl, Name, Open, Close, While, If}
use Rattle.syntax.specs.declared.kinds.Row.{Row}
use Rattle.syntax.specs.declared.stages.Stage.{Stage}
use Rattle.syntax.specs.declared.stages.Stage.TheVariants.{Start, Params, Names, Body, Ended}
use Rattle.syntax.specs.declared.stages.Unfinished.{Unfinished}
use Rattle.syntax.specs.declared.stages.Unfinished.TheVariants.{Block, Loop, Choice}
use Rattle.syntax.specs.Kinds.{row, fields_fit}
use Rattle.syntax.specs.Form.{Answer, fine, refused, State, has_ended, starting, at_params, at_names, in_body, exactly, operand, begin, close, end, allow, known, step}

-- an answer, or a refusal at place p other than 25 and 20
abbrev pub Placed : ℕ → Answer State → Type 0
Placed p (fine s) = Unit {0}
Placed p (refused n q) = (q ≡ p) × (n ≡ 25 → ⊥) × (n ≡ 20 → ⊥)

module _ (p : ℕ) where
  not_here : Placed p (refused 23 p)
  not_here = (refl, (λ h. omega arith), (λ h. omega arith))

  placed_cond : (b : Bool) (x y : Answer State) → Placed p x → Placed p y → Placed p (cond b x y)
  placed_cond true x y h k = h
  placed_cond false x y h k = k

  placed_start : (g : Stage) (a : Answer State) → Placed p a → Placed p (starting p g a)
  placed_start Start a h = h
  placed_start (Params n) a h = not_here
  placed_start (Names n) a h = not_here
  placed_start Body a h = not_here
  placed_start Ended a h = not_here

  placed_params : (g : Stage) (f : ℕ → Answer State) → ((n : ℕ) → Placed p (f n)) → Placed p (at_params p g f)
  placed_params Start f h = not_here
  placed_params (Params n) f h = h n
  placed_params (Names n) f h = not_here
  placed_params Body f h = not_here
  placed_params Ended f h = not_here

  placed_names : (g : Stage) (f : ℕ → Answer State) → ((n : ℕ) → Placed p (f n)) → Placed p (at_names p g f)
  placed_names Start f h = not_here
  placed_names (Params n) f h = not_here
  placed_names (Names n) f h = h n
  placed_names Body f h = not_here
  placed_names Ended f h = not_here

  placed_body : (g : Stage) (a : Answer State) → Placed p a → Placed p (in_body p g a)
  placed_body Start a h = not_here
  placed_body (Params n) a h = not_here
  placed_body (Names n) a h = not_here
  placed_body Body a h = h
  placed_body Ended a h = not_here

  placed_operand : (n : ℕ) (u : List Unfinished) (r : ℕ) → Placed p (operand p n u r)
  placed_operand n u r = placed_cond (leb n r) _ _ tt not_here

  placed_exactly : (n r : ℕ) (a : Answer State) → Placed p a → Placed p (exactly p n r a)
  placed_exactly n r a h = placed_cond (eqb r n) _ _ h not_here

  placed_begin : (x : Unfinished) (u : List Unfinished) → Placed p (begin p x u)
  placed_begin x u = placed_cond (ltb (length u) 32) _ _ tt (refl, (λ h. omega arith), (λ h. omega arith))

  placed_close : (u : List Unfinished) → Placed p (close p u)
  placed_close [] = not_here
  placed_close (Block ∷ u) = tt
  placed_close (Loop ∷ u) = not_here
  placed_close (Choice n ∷ u) = not_here

  placed_end : (u : List Unfinished) → Placed p (end p u)
  placed_end [] = tt
  placed_end (x ∷ u) = not_here

  placed_allow : (o : Role) (load : ℕ) (g : Stage) (u : List Unfinished) (r : ℕ) → Placed p (allow p o load g u r)
  placed_allow Head load g u r = placed_start g _ tt
  placed_allow Param load g u r = placed_params g _ (λ n. tt)
  placed_allow Name load g u r = placed_names g _ (λ n. tt)
  placed_allow (Operand n) load g u r = placed_body g _ (placed_operand n u r)
  placed_allow Call load g u r = placed_body g _ (placed_operand load u r)
  placed_allow (Statement n) load g u r = placed_body g _ (placed_exactly n r _ tt)
  placed_allow Decl load g u r = placed_body g _ (placed_exactly 0 r _ tt)
  placed_allow While load g u r = placed_body g _ (placed_exactly 1 r _ (placed_begin Loop u))
  placed_allow If load g u r = placed_body g _ (placed_exactly 1 r _ (placed_begin (Choice 2) u))
  placed_allow Open load g u r = placed_body g _ (placed_exactly 0 r _ (placed_begin Block u))
  placed_allow Close load g u r = placed_body g _ (placed_exactly 0 r _ (placed_close u))
  placed_allow End load g u r = placed_body g _ (placed_exactly 0 r _ (placed_end u))

  placed_known : (s : State) (f : Frame) (o : Option Row) → Placed p (known p s f o)
  placed_known s f None = (refl, (λ h. omega arith), (λ h. omega arith))
  placed_known s f (Some r) =
      placed_cond (fields_fit r f) _ _ (placed_allow r.role f.load s.stage s.stack s.ready) (refl, (λ h. omega arith), (λ h. omega arith))

  pub placed_step : (s : State) (f : Frame) → Placed p (step p s f)
  unfolding step
  placed_step s f = placed_cond (has_ended s.stage) _ _ (refl, (λ h. omega arith), (λ h. omega arith)) (placed_known s f (row f.kind))
