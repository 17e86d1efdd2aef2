-- What a frame that the form allows finds and leaves, by the shape of what it does.
use Rattle.std.proofs.Common.{◌≡◌, ℕ, suc, ◌+◌, ◌-◌, ◌<◌, ◌≤◌, List, ◌∷◌, length, Ok, sym, refl, ap, ◌∙◌, subst, arith, Option, None}
use Rattle.std.proofs.lemmas.List.{length-drop}
use Rattle.syntax.specs.declared.frame.Frame.{Frame}
use Rattle.syntax.specs.declared.stages.Stage.{Stage}
use Rattle.syntax.specs.declared.stages.Stage.TheVariants.{Body}
use Rattle.syntax.specs.declared.stages.Unfinished.{Unfinished}
use Rattle.syntax.specs.Form.{State as Form, at, fine, in_body, operand, finish}
use Rattle.levels.specs.Store.{standing}
use Rattle.walk.specs.declared.machine.Declaration.{Declaration}
use Rattle.walk.specs.Judge.{Numbers, arity, judge}
use Rattle.walk.specs.Step.{idle, State, state, stepped, turn}
use Rattle.walk.specs.Machines.{Ready}
use Rattle.walk.proofs.Counts.{blocks, blocks_finish}
use Rattle.walk.proofs.Allowed.{body_is, operand_is}
use Rattle.walk.proofs.Answered.{stepped_typed, typed_is}
use Rattle.walk.proofs.Agreeing.{Agrees, Agreeing, some_level}
use Rattle.walk.proofs.Readies as readies

module _ (cap : ℕ) (room : 256 ≤ cap) (i : ℕ) (fs : List Frame) (s : State) (p : Option Declaration) (l : i < 256) (still : s.names ≡ idle → p ≡ None) where
  -- the needs of the step are met, and what it leaves agrees with the form's next state
  pub record Goes (f : Frame) (φ : Form) : Type 0 where
    pub ready : Ready cap i f s.operands s.levels s.things p
    pub leaves : (hs : List Numbers) (ρ b : ℕ) (s' : State) → stepped hs ρ f s ≡ Ok (turn b s') → Agreeing (i + 1) fs φ s'

  -- an expression that takes n operands
  pub goes_typed : (f : Frame) (n : ℕ) → 0x20 ≤ f.kind → arity f ≡ n → (g : Stage) (u : List Unfinished) (r : ℕ) {φ : Form} → in_body i g (operand i n u r) ≡ fine φ
      → Agrees i (f ∷ fs) g u r s → Goes f φ
  goes_typed f n k e g u r h a₀ =
      let b₀ = body_is i g (operand i n u r) h in
      let a = subst (λ g. Agrees i (f ∷ fs) g u r s) b₀.0 a₀ in
      let o = operand_is i n u r b₀.1 in
      let b = a.0 in
      let few = b.few in
      let len = a.1 in
      let le = a.3 in
      let nr = o.0 in
      let ld = length-drop (arity f) s.operands in
      record {
        ready = readies.ready_expr cap i f s.operands s.levels s.things p k (some_level b) (omega arith) (omega arith) (omega arith) (still a.2);
        leaves = λ hs ρ c s' h.
            let is = typed_is f s (judge hs s.levels f s.operands) c s' (sym (stepped_typed hs ρ f s k) ∙ h) in
            subst (λ φ. Agreeing (i + 1) fs φ s') o.1
            (subst (λ s. Agreeing (i + 1) fs (at Body u (r - n + 1)) s) (sym is)
            (record { things = b.things; deep = b.deep; few = omega arith }, omega arith, refl, omega arith));
      }

  -- a statement that takes all operands and is finished
  pub goes_simple : (f : Frame) (u : List Unfinished) (r : ℕ) (os : List ℕ) (ls : List Numbers) → Agrees i (f ∷ fs) Body u r s → Ready cap i f s.operands s.levels s.things p
      → length os ≡ 0 → length ls ≡ length s.levels → standing ls ≤ suc (standing s.levels)
      → ((hs : List Numbers) (ρ b : ℕ) (s' : State) → stepped hs ρ f s ≡ Ok (turn b s') → s' ≡ state os ls (finish s.things) idle) → {φ : Form} → at Body (finish u) 0 ≡ φ → Goes f φ
  goes_simple f u r os ls a y z ll w steps e =
      let b = a.0 in
      let few = b.few in
      record {
        ready = y;
        leaves = λ hs ρ c s' h.
            subst (λ φ. Agreeing (i + 1) fs φ s') e
            (subst (λ s. Agreeing (i + 1) fs (at Body (finish u) 0) s) (sym (steps hs ρ c s' h))
            (record { things = ap finish b.things; deep = ll ∙ b.deep ∙ ap suc (sym (blocks_finish u)); few = omega arith }, z, refl, omega arith));
      }

  -- a statement that begins an unfinished thing
  pub goes_begins : (f : Frame) (u : List Unfinished) (r : ℕ) (os : List ℕ) (ls : List Numbers) (x : Unfinished) → Agrees i (f ∷ fs) Body u r s → Ready cap i f s.operands s.levels s.things p
      → length os ≡ 0 → length ls ≡ suc (blocks (x ∷ u)) → standing ls ≤ standing s.levels
      → ((hs : List Numbers) (ρ b : ℕ) (s' : State) → stepped hs ρ f s ≡ Ok (turn b s') → s' ≡ state os ls (x ∷ s.things) idle) → {φ : Form} → at Body (x ∷ u) 0 ≡ φ → Goes f φ
  goes_begins f u r os ls x a y z ll w steps e =
      let b = a.0 in
      let few = b.few in
      record {
        ready = y;
        leaves = λ hs ρ c s' h.
            subst (λ φ. Agreeing (i + 1) fs φ s') e
            (subst (λ s. Agreeing (i + 1) fs (at Body (x ∷ u) 0) s) (sym (steps hs ρ c s' h))
            (record { things = ap (λ v. x ∷ v) b.things; deep = ll; few = omega arith }, z, refl, omega arith));
      }
