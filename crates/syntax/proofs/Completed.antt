-- From every state of the machine there are frames that end the sheet.
use Rattle.std.proofs.Common.{◌≡◌, ℕ, zero, suc, ◌+◌, ◌-◌, ◌<◌, ◌≤◌, Bool, true, false, cond, ltb, List, [], ◌∷◌, refl, ap, ◌∙◌, arith}
use lib.Dec.{eqb-suc-zero}
use Rattle.std.proofs.Math.Numerals.{sub-one}
use Rattle.std.proofs.lemmas.Bool.{ltb-true}
use Rattle.syntax.specs.declared.frame.Frame.{Frame}
use Rattle.syntax.specs.declared.frame.«Type».TheVariants.{Int, Void}
use Rattle.syntax.specs.declared.stages.Stage.{Stage}
use Rattle.syntax.specs.declared.stages.Stage.TheVariants.{Start, Params, Names, Body, Ended}
use Rattle.syntax.specs.declared.stages.Unfinished.{Unfinished}
use Rattle.syntax.specs.declared.stages.Unfinished.TheVariants.{Block, Loop, Choice}
use Rattle.syntax.specs.Trees.{plus}
use Rattle.syntax.specs.Writing.{HEAD, PARAM, NAME, END, DO, RETV, CLOSE, BINARY, frame_of}
use Rattle.syntax.specs.Form.{fine, State, at, finish, accepted, step, run}
use Rattle.syntax.proofs.Forgotten.{operand_none, operand_less}
use Rattle.syntax.proofs.Exact.{onward, run_more}

-- some frames lead from the state to the end
abbrev pub Completes : ℕ → State → Type 0
Completes p s = (rest : List Frame) × (run p s rest ≡ accepted)

goes_on : (p : ℕ) (s : State) (f : Frame) (t : State) → step p s f ≡ fine t → Completes (p + 1) t → Completes p s
goes_on p s f t e h = (f ∷ h.0, run_more p s f h.0 ∙ ap (onward p h.0) e ∙ h.1)

-- how many statements are to come at most
abbrev weight : List Unfinished → ℕ
weight [] = 0
weight (Block ∷ u) = suc (weight u)
weight (Loop ∷ u) = suc (weight u)
weight (Choice n ∷ u) = suc (n + weight u)

weight_half : (n : ℕ) (u : List Unfinished) (b : Bool) → ltb 1 n ≡ b → weight (finish u) ≤ weight u → weight (cond b (Choice (n - 1) ∷ u) (finish u)) < suc (n + weight u)
weight_half n u true e h = let k = ltb-true 1 n e in omega arith
weight_half n u false e h = omega arith

weight_finish : (u : List Unfinished) → weight (finish u) ≤ weight u
weight_finish [] = omega arith
weight_finish (Block ∷ u) = omega arith
weight_finish (Loop ∷ u) = let h = weight_finish u in omega arith
weight_finish (Choice n ∷ u) = let h = weight_half n u (ltb 1 n) refl (weight_finish u) in omega arith

weight_choice : (n : ℕ) (u : List Unfinished) → weight (finish (Choice n ∷ u)) < suc (n + weight u)
weight_choice n u = weight_half n u (ltb 1 n) refl (weight_finish u)

-- nothing is ready: the innermost thing is ended first
completes_stack : (m : ℕ) (u : List Unfinished) → weight u ≤ m → (p : ℕ) → Completes p (at Body u 0)
unfolding step
completes_stack m [] h p = goes_on p (at Body [] 0) (frame_of END) (at Ended [] 0) refl ([], refl)
completes_stack zero (Block ∷ u) h p = absurd (omega arith)
completes_stack zero (Loop ∷ u) h p = absurd (omega arith)
completes_stack zero (Choice n ∷ u) h p = absurd (omega arith)
completes_stack (suc m) (Block ∷ u) h p =
    let k = weight_finish u in
    goes_on p (at Body (Block ∷ u) 0) (frame_of CLOSE) (at Body (finish u) 0) refl (completes_stack m (finish u) (omega arith) (p + 1))
completes_stack (suc m) (Loop ∷ u) h p =
    let k = weight_finish u in
    goes_on p (at Body (Loop ∷ u) 0) (frame_of RETV) (at Body (finish u) 0) refl (completes_stack m (finish u) (omega arith) (p + 1))
completes_stack (suc m) (Choice n ∷ u) h p =
    let k = weight_choice n u in
    goes_on p (at Body (Choice n ∷ u) 0) (frame_of RETV) (at Body (finish (Choice n ∷ u)) 0) refl (completes_stack m (finish (Choice n ∷ u)) (omega arith) (p + 1))

-- operands are joined to one, which is then a statement
completes_body : (r : ℕ) (u : List Unfinished) (p : ℕ) → Completes p (at Body u r)
unfolding step
completes_body zero u p = completes_stack (weight u) u (omega arith) p
completes_body (suc zero) u p = goes_on p (at Body u 1) (frame_of DO) (at Body (finish u) 0) refl (completes_stack (weight (finish u)) (finish u) (omega arith) (p + 1))
completes_body (suc (suc r)) u p =
    goes_on p (at Body u (suc (suc r))) (frame_of (BINARY plus)) (at Body u (suc r))
    (operand_less p 1 u (suc r) ∙ operand_less p 0 u r ∙ operand_none p u r) (completes_body (suc r) u (p + 1))

completes_params : (n : ℕ) (u : List Unfinished) (r p : ℕ) → Completes p (at (Params n) u r)
unfolding step
completes_params zero u r p = goes_on p (at (Params 0) u r) (frame_of (PARAM Int 0)) (at Body u r) refl (completes_body r u (p + 1))
completes_params (suc zero) u r p = goes_on p (at (Params 1) u r) (frame_of (PARAM Int 0)) (at Body u r) refl (completes_body r u (p + 1))
completes_params (suc (suc n)) u r p =
    goes_on p (at (Params (suc (suc n))) u r) (frame_of (PARAM Int 0)) (at (Params (suc n)) u r)
    (rw (sub-one (suc (suc n)), eqb-suc-zero n) refl) (completes_params (suc n) u r (p + 1))

completes_names : (n : ℕ) (u : List Unfinished) (r p : ℕ) → Completes p (at (Names n) u r)
unfolding step
completes_names zero u r p = goes_on p (at (Names 0) u r) (frame_of (NAME 0)) (at Body (finish u) r) refl (completes_body r (finish u) (p + 1))
completes_names (suc zero) u r p = goes_on p (at (Names 1) u r) (frame_of (NAME 0)) (at Body (finish u) r) refl (completes_body r (finish u) (p + 1))
completes_names (suc (suc n)) u r p =
    goes_on p (at (Names (suc (suc n))) u r) (frame_of (NAME 0)) (at (Names (suc n)) u r)
    (rw (sub-one (suc (suc n)), eqb-suc-zero n) refl) (completes_names (suc n) u r (p + 1))

completes_at : (g : Stage) (u : List Unfinished) (r p : ℕ) → Completes p (at g u r)
unfolding step
completes_at Start u r p = goes_on p (at Start u r) (frame_of (HEAD Void 0 0)) (at Body u r) refl (completes_body r u (p + 1))
completes_at (Params n) u r p = completes_params n u r p
completes_at (Names n) u r p = completes_names n u r p
completes_at Body u r p = completes_body r u p
completes_at Ended u r p = ([], refl)

pub completes : (p : ℕ) (s : State) → Completes p s
completes p s = completes_at s.stage s.stack s.ready p
