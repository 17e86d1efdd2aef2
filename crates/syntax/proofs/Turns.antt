-- One step of the machine, by the tests that it makes.
use Rattle.std.proofs.Common.{◌≡◌, ℕ, Bool, true, false, cond, Some, None, Option, refl, ◌∙◌}
use Rattle.syntax.specs.declared.frame.Frame.{Frame}
use Rattle.syntax.specs.declared.kinds.Row.{Row}
use Rattle.syntax.specs.declared.stages.Stage.{Stage}
use Rattle.syntax.specs.declared.stages.Stage.TheVariants.{Start, Params, Names, Body, Ended}
use Rattle.syntax.specs.Kinds.{row, fields_fit}
use Rattle.syntax.specs.Form.{Answer, fine, refused, State, has_ended, allow, known, step}

pub not_ended : (g : Stage) → (g ≡ Ended → ⊥) → has_ended g ≡ false
not_ended Start h = refl
not_ended (Params n) h = refl
not_ended (Names n) h = refl
not_ended Body h = refl
not_ended Ended h = absurd (h refl)

module _ (p : ℕ) (s : State) (f : Frame) where
  module _ (g : has_ended s.stage ≡ false) where
    tested : (o : Option Row) → o ≡ row f.kind → step p s f ≡ known p s f o
    unfolding step
    tested o e = rw (g, e) refl

    pub step_fit : (r : Row) → Some r ≡ row f.kind → fields_fit r f ≡ true → step p s f ≡ allow p r.role f.load s.stage s.stack s.ready
    step_fit r e h = tested (Some r) e ∙ rw h refl

-- no refusal is an answer
pub clash : {A C : Type 0} {n p : ℕ} {a : A} → ◌≡◌ {A = Answer A} (refused n p) (fine a) → C
clash h = cc

-- a step that went on: the row, and what the frame did
pub record Went (p : ℕ) (s : State) (f : Frame) (t : State) : Type 0 where
  pub row_of : Row
  pub is : row f.kind ≡ Some row_of
  pub fits : fields_fit row_of f ≡ true
  pub goes : allow p row_of.role f.load s.stage s.stack s.ready ≡ fine t

pub went : (p : ℕ) (s : State) (f : Frame) (t : State) → step p s f ≡ fine t → Went p s f t
unfolding step
went p s f t h = first (has_ended s.stage) h
  where
    third : (r : Row) → row f.kind ≡ Some r → (b : Bool) → fields_fit r f ≡ b
        → cond b (allow p r.role f.load s.stage s.stack s.ready) (refused 22 p) ≡ fine t → Went p s f t
    third r e true g h = record { row_of = r; is = e; fits = g; goes = h }
    third r e false g h = cc

    second : (o : Option Row) → row f.kind ≡ o → known p s f o ≡ fine t → Went p s f t
    second None e h = cc
    second (Some r) e h = third r e (fields_fit r f) refl h

    first : (b : Bool) → cond b (refused 26 p) (known p s f (row f.kind)) ≡ fine t → Went p s f t
    first true h = cc
    first false h = second (row f.kind) refl h
