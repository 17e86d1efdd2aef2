-- The state of a walk agrees with the state of the form before the same frame.
use Rattle.std.proofs.Common.{◌≡◌, ℕ, zero, suc, ◌<◌, ◌≤◌, false, eqb, List, [], ◌∷◌, length, take, sym, refl, ap, ◌∙◌, subst, arith}
use Rattle.std.proofs.lemmas.Bool.{ne_eqb, cond-false}
use Rattle.syntax.specs.declared.frame.Frame.{Frame}
use Rattle.syntax.specs.declared.stages.Stage.{Stage}
use Rattle.syntax.specs.declared.stages.Stage.TheVariants.{Start, Params, Names, Body, Ended}
use Rattle.syntax.specs.declared.stages.Unfinished.{Unfinished}
use Rattle.syntax.specs.Form.{State as Form, at, finish, await_params, await_names, run, accepted}
use Rattle.levels.specs.Store.{standing}
use Rattle.walk.specs.Judge.{Numbers}
use Rattle.walk.specs.Step.{idle, naming, State, awaiting, start}
use Rattle.walk.specs.Machines.{names_of}
use Rattle.walk.specs.Params.{repeats, param_twice}
use Rattle.walk.proofs.Counts.{blocks, blocks_finish, top_names}

-- as many levels as blocks are unfinished and one more, and fewer names than frames before
pub record Standing (i : ℕ) (u : List Unfinished) (s : State) : Type 0 where
  pub things : s.things ≡ u
  pub deep : length s.levels ≡ suc (blocks u)
  pub few : standing s.levels < i

abbrev pub Agrees : ℕ → List Frame → Stage → List Unfinished → ℕ → State → Type 0
Agrees i fs Start u r s = (s ≡ start) × (u ≡ []) × (r ≡ 0) × (param_twice fs ≡ false)
Agrees i fs (Params k) u r s = Standing i u s × (s.operands ≡ []) × (s.names ≡ idle) × (r ≡ 0) × (0 < k) × (repeats (top_names s.levels) (names_of (take k fs)) ≡ false)
Agrees i fs (Names k) u r s = Standing i u s × (s.operands ≡ []) × (r ≡ 0) × (0 < k) × ((t : ℕ) × (earlier : List ℕ) × (s.names ≡ naming t k earlier))
Agrees i fs Body u r s = Standing i u s × (length s.operands ≡ r) × (s.names ≡ idle) × (r ≤ i)
Agrees i fs Ended u r s = Unit {0}

abbrev pub Agreeing : ℕ → List Frame → Form → State → Type 0
Agreeing i fs φ s = Agrees i fs φ.stage φ.stack φ.ready s

-- from a state of the form that agrees, the frames from the place i on are a sheet's
pub record Sound (i : ℕ) (fs : List Frame) (s : State) : Type 0 where
  pub form : Form
  pub forms_on : run i form fs ≡ accepted
  pub agrees : Agreeing i fs form s

pub some_level : {i : ℕ} {u : List Unfinished} {s : State} → Standing i u s → 0 < length s.levels
some_level b = let d = b.deep in omega arith

pub no_operands : (os : List ℕ) → length os ≡ 0 → os ≡ []
no_operands [] h = refl
no_operands (x ∷ os) h = absurd (omega arith)

-- with one to come at least the form waits for it
not_zero : (k : ℕ) → eqb (suc k) 0 ≡ false
not_zero k = ne_eqb (suc k) 0 (λ e. omega arith)

more_params : (k : ℕ) (u : List Unfinished) (r : ℕ) → await_params (suc k) u r ≡ at (Params (suc k)) u r
more_params k u r = cond-false (eqb (suc k) 0) (at Body u r) (at (Params (suc k)) u r) (not_zero k)

more_names : (k : ℕ) (u : List Unfinished) (r : ℕ) → await_names (suc k) u r ≡ at (Names (suc k)) u r
more_names k u r = cond-false (eqb (suc k) 0) (at Body (finish u) r) (at (Names (suc k)) u r) (not_zero k)

-- with so many parameters to come
pub at_params : (i : ℕ) (fs : List Frame) (u : List Unfinished) (s : State) (k r : ℕ) → Standing i u s → s.operands ≡ [] → s.names ≡ idle → r ≡ 0
    → repeats (top_names s.levels) (names_of (take k fs)) ≡ false → Agreeing i fs (await_params k u r) s
at_params i fs u s zero r b os n e a = (b, ap length os ∙ sym e, n, omega arith)
at_params i fs u s (suc k) r b os n e a = subst (λ φ. Agreeing i fs φ s) (sym (more_params k u r)) (b, os, n, e, omega arith, a)

-- with so many names to come
pub at_coming : (i : ℕ) (fs : List Frame) (os : List ℕ) (ls : List Numbers) (u v : List Unfinished) (t k r : ℕ) (earlier : List ℕ) → v ≡ u → os ≡ [] → r ≡ 0
    → length ls ≡ suc (blocks u) → standing ls < i → Agreeing i fs (await_names k u r) (awaiting os ls v t k earlier)
at_coming i fs os ls u v t zero r earlier e n z d w = (record { things = ap finish e; deep = d ∙ ap suc (sym (blocks_finish u)); few = w }, ap length n ∙ sym z, refl, omega arith)
at_coming i fs os ls u v t (suc k) r earlier e n z d w =
    subst (λ φ. Agreeing i fs φ (awaiting os ls v t (suc k) earlier)) (sym (more_names k u r)) (record { things = e; deep = d; few = w }, n, z, omega arith, (t, earlier, refl))
