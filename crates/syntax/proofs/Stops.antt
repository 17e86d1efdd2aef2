-- Where a list is refused: up to that place it can go on to a sheet, with the frame there it cannot.
use Rattle.std.proofs.Common.{◌≡◌, ℕ, suc, ◌+◌, ◌<◌, Bool, true, false, cond, List, [], ◌∷◌, ◌++◌, map, length, take, sym, refl, ap, ◌∙◌, subst, inl, inr, add-zero, zero-add, add-one, arith}
use Rattle.std.proofs.lemmas.List.{length-append, length-take-le}
use Rattle.std.proofs.lemmas.Bool.{cases_lt}
use Rattle.syntax.specs.declared.frame.Frame.{Frame}
use Rattle.syntax.specs.Trees.{Definition}
use Rattle.syntax.specs.Writing.{write_definition, frame_of, written}
use Rattle.syntax.specs.Form.{Answer, fine, refused, Verdict, accepted, State, has_ended, step, run, start, forms}
use Rattle.syntax.specs.Law.{BeginsNone, Stops}
use Rattle.syntax.proofs.Builder.{nothing_yet, done}
use Rattle.syntax.proofs.Flattened.{built}
use Rattle.syntax.proofs.Runs.{forms_long, forms_short}
use Rattle.syntax.proofs.Exact.{onward, run_more, run_reads, forms_run, within_accepted}
use Rattle.syntax.proofs.Places.{Placed, placed_step}
use Rattle.syntax.proofs.Completed.{completes}

-- the run over the frames from place q on halts after k of them
record Halts (q : ℕ) (s : State) (fs : List Frame) (n p : ℕ) : Type 0 where
  k : ℕ
  place : p ≡ q + k
  state : State
  leads : (rest : List Frame) → run q s (take k fs ++ rest) ≡ run p state rest
  fails : (n ≡ 25 → ⊥) → (rest : List Frame) → run q s (take (suc k) fs ++ rest) ≡ refused n p
  not_20 : n ≡ 20 → ⊥

halts_end : (q : ℕ) (s : State) (n p : ℕ) (b : Bool) → cond b accepted (refused 25 q) ≡ refused n p → Halts q s [] n p
halts_end q s n p true h = cc
halts_end q s n p false h =
    let e : q ≡ p = cc in
    let m : 25 ≡ n = cc in
    record {
      k = 0;
      place = sym e ∙ sym (add-zero q);
      state = s;
      leads = λ rest. cc;
      fails = λ g. absurd (g (sym m));
      not_20 = λ g. omega arith;
    }

halts : (fs : List Frame) (q : ℕ) (s : State) (n p : ℕ) → run q s fs ≡ refused n p → Halts q s fs n p
halts [] q s n p h = halts_end q s n p (has_ended s.stage) h
halts (f ∷ fs) q s n p h = go (step q s f) refl (placed_step q s f) (sym (run_more q s f fs) ∙ h) (λ t k. halts fs (q + 1) t n p k)
  where
    go : (a : Answer State) → step q s f ≡ a → Placed q a → onward q fs a ≡ refused n p → ((t : State) → run (q + 1) t fs ≡ refused n p → Halts (q + 1) t fs n p) → Halts q s (f ∷ fs) n p
    go (fine t) e l h ih =
        let r = ih t h in
        let i : q + 1 + r.k ≡ q + suc r.k = omega arith in
        record {
          k = suc r.k;
          place = r.place ∙ i;
          state = r.state;
          leads = λ rest. cc (run_more q s f (take r.k fs ++ rest), r.leads rest);
          fails = λ g rest. cc (run_more q s f (take (suc r.k) fs ++ rest), r.fails g rest);
          not_20 = r.not_20;
        }
    go (refused m i) e l h ih =
        let a : i ≡ p = cc in
        let b : m ≡ n = cc in
        record {
          k = 0;
          place = sym a ∙ l.0 ∙ sym (add-zero q);
          state = s;
          leads = λ rest. cc;
          fails = λ g rest. cc (run_more q s f rest);
          not_20 = λ g. l.2 (b ∙ g);
        }

run_tree : (fs : List Frame) → run 0 start fs ≡ accepted → (d : Definition) × (written d ≡ fs)
unfolding written
run_tree fs h =
    let r = run_reads fs 0 nothing_yet h in
    let w : write_definition r.3.0 [] ≡ r.0 = built r.0 nothing_yet (done r.3.0) r.3.1 in
    (r.3.0, ap (map frame_of) w ∙ r.1)

-- of frames that are too many: no tree within the limits has so many
too_many : (fs : List Frame) → 256 < length fs → BeginsNone (take 257 fs)
too_many fs h d rest w e =
    let l : length (written d) ≡ length (take 257 fs ++ rest) = ap length e in
    let a = length-append (take 257 fs) rest in
    let t : length (take 257 fs) ≡ 257 = length-take-le 257 fs (omega arith) in
    let f = w.frames in
    omega arith

stops_short : (fs : List Frame) (n p : ℕ) → run 0 start fs ≡ refused n p → Stops fs n p
stops_short fs n p h =
    let r = halts fs 0 start n p h in
    let i : p ≡ r.k = r.place ∙ zero-add r.k in
    let c = completes p r.state in
    let t = run_tree (take r.k fs ++ c.0) (r.leads c.0 ∙ c.1) in
    record {
      before = λ g. (t.0, (c.0, t.1 ∙ ap (λ j. take j fs ++ c.0) (sym i)));
      after = λ g d rest w e.
          cc (r.fails g rest, add-one p, (forms_run (written d) (within_accepted d w)).1);
    }

pub stops : (fs : List Frame) (n p : ℕ) → forms fs ≡ refused n p → Stops fs n p
stops fs n p h = elim (cases_lt 256 (length fs)) [ inl lt ↦ long lt | inr ge ↦ stops_short fs n p (sym (forms_short fs ge) ∙ h) ]
  where
    long : 256 < length fs → Stops fs n p
    long lt =
        let v : ◌≡◌ {A = Verdict} (refused 20 256) (refused n p) = sym (forms_long fs lt) ∙ h in
        let a : 20 ≡ n = cc in
        let b : 256 ≡ p = cc in
        record { before = λ g. absurd (g (sym a)); after = λ g. subst (λ j. BeginsNone (take (j + 1) fs)) b (too_many fs lt) }
