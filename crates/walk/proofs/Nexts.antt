-- What is known at a frame of a sheet, and after it.
use Rattle.std.proofs.Common.{◌≡◌, ℕ, ◌+◌, ◌<◌, ◌≤◌, true, false, List, ◌∷◌, length, Ok, sym, refl, ap, ◌∙◌, subst, arith, Option, None, Some}
use Rattle.std.proofs.lemmas.Bool.{false≢true}
use Rattle.syntax.specs.declared.frame.Frame.{Frame}
use Rattle.syntax.specs.declared.stages.Unfinished.{Unfinished}
use Rattle.syntax.specs.Form.{fine, refused, Verdict, accepted, forms, is_fine, is_sheet, start as form_start}
use Rattle.syntax.proofs.Exact.{forms_run}
use Rattle.syntax.proofs.Heads.{two_frames}
use Rattle.walk.specs.declared.machine.Declaration.{Declaration}
use Rattle.walk.specs.Judge.{Numbers}
use Rattle.walk.specs.Step.{Names as Coming, idle, naming, State, stepped, turn, start}
use Rattle.walk.specs.Machines.{Ready, Within, Awaits, coming_at}
use Rattle.walk.specs.Params.{param_twice}
use Rattle.walk.proofs.Allowed.{allowed}
use Rattle.walk.proofs.Agreeing.{Agreeing, Sound}
use Rattle.walk.proofs.Sound.{goes_by}

-- the step's needs are met, and the sheet goes on soundly after it
pub record Next (cap i : ℕ) (fs : List Frame) (f : Frame) (s : State) (p : Option Declaration) : Type 0 where
  pub ready : Ready cap i f s.operands s.levels s.things p
  pub leaves : (hs : List Numbers) (ρ b : ℕ) (s' : State) → stepped hs ρ f s ≡ Ok (turn b s') → Sound (i + 1) fs s'

pub next : (cap i : ℕ) (fs : List Frame) (f : Frame) (s : State) (p : Option Declaration) → 256 ≤ cap → i < 256 → (s.names ≡ idle → p ≡ None)
    → ((t k : ℕ) (earlier : List ℕ) → 0 < k → s.names ≡ naming t k earlier → Awaits i p) → Sound i (f ∷ fs) s → Next cap i fs f s p
next cap i fs f s p room l still await h =
    let q = allowed i h.form f fs h.forms_on in
    let m = q.token in
    let g = goes_by cap room i fs s p l still await m h.form.stage h.form.stack h.form.ready q.allows (subst (λ f. Agreeing i (f ∷ fs) h.form s) (sym q.is) h.agrees) in
    record {
      ready = subst (λ f. Ready cap i f s.operands s.levels s.things p) q.is g.ready;
      leaves = λ hs ρ b s' k. record { form = q.after; forms_on = q.goes_on; agrees = g.leaves hs ρ b s' (ap (λ f. stepped hs ρ f s) q.is ∙ k) };
    }

-- ===== the code's names to come =====
left_of : Coming → ℕ
left_of idle = 0
left_of (naming t k earlier) = k

pub nothing_coming : (i : ℕ) (u : List Unfinished) (p : Option Declaration) (fs : List Frame) → coming_at i u p fs ≡ idle → p ≡ None
nothing_coming i u None fs h = refl
nothing_coming i u (Some d) fs h = let z : ◌≡◌ {A = ℕ} 0 1 = cc in absurd (omega arith)

pub some_coming : (i : ℕ) (u : List Unfinished) (p : Option Declaration) (fs : List Frame) → Within i p → (t k : ℕ) (earlier : List ℕ) → 0 < k → coming_at i u p fs ≡ naming t k earlier → Awaits i p
unfolding left_of
some_coming i u None fs w t k earlier l h = let e = ap left_of h in absurd (omega arith)
some_coming i u (Some d) fs w t k earlier l h = let e = ap left_of h in (w, omega arith)

-- ===== a sheet from its start =====
fine_accepted : (v : Verdict) → is_fine v ≡ true → v ≡ accepted
fine_accepted (fine u) h = refl
fine_accepted (refused n p) h = absurd (false≢true h)

pub sheet_accepted : (fs : List Frame) → is_sheet fs ≡ true → forms fs ≡ accepted
sheet_accepted fs h = fine_accepted (forms fs) h

pub sheet_short : (fs : List Frame) → is_sheet fs ≡ true → length fs ≤ 256
sheet_short fs h = (forms_run fs (sheet_accepted fs h)).0

pub sheet_some : (fs : List Frame) → is_sheet fs ≡ true → 0 < length fs
sheet_some fs h = let k = two_frames fs h in omega arith

pub sound_start : (fs : List Frame) → is_sheet fs ≡ true → param_twice fs ≡ false → Sound 0 fs start
sound_start fs h a = record { form = form_start; forms_on = (forms_run fs (sheet_accepted fs h)).1; agrees = (refl, refl, refl, a) }
