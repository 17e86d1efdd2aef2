-- The form accepts exactly the writings of trees within the limits, each of one tree.
use Rattle.std.proofs.Common.{◌≡◌, ℕ, ◌+◌, ◌≤◌, Bool, true, false, cond, ltb, List, [], ◌∷◌, map, length, sym, refl, ap, ◌∙◌, subst, ap₂, Some, None, Option}
use Rattle.std.specs.Option.{option_and_then, option_map}
use Rattle.std.proofs.lemmas.Bool.{ltb-false, le-ltb}
use Rattle.std.proofs.lemmas.Option.{cond_some}
use Rattle.syntax.specs.declared.frame.Frame.{Frame}
use Rattle.syntax.specs.Trees.{Definition}
use Rattle.syntax.specs.Writing.{Token, HEAD, PARAM, END, DO, DECL, NAME, INIT, RETV, RET, OPEN, CLOSE, WHILE, IF, LITERAL, VARIABLE, CALL, UPDATE, BINARY, ASSIGN, frame_of, write_definition, written}
use Rattle.syntax.specs.Limits.{Within}
use Rattle.syntax.specs.Form.{Answer, fine, refused, Verdict, accepted, State, has_ended, allow, step, ending, run, start, forms}
use Rattle.syntax.proofs.Builder.{when, Tree, nothing_yet, taking_params, building, taking_names, done, build, builds}
use Rattle.syntax.proofs.Flattened.{built}
use Rattle.syntax.proofs.Rebuilt.{shallows, build_all}
use Rattle.syntax.proofs.Forgotten.{erase, heed, forgets}
use Rattle.syntax.proofs.Turns.{went, step_fit}
use Rattle.syntax.proofs.TokenRows.{role, token_row, row_token}
use Rattle.syntax.proofs.TokenFields.{fields_fits, fits_fields, Legal, fits_legal, legal_fits}
use Rattle.syntax.proofs.TokenFrames.{token_of}
use Rattle.syntax.proofs.TokenCodes.{map_frame_of}
use Rattle.syntax.proofs.LimitsMet.{AllLegal, definition_legal, definition_fits, shallow_body, deep_body}

-- ===== from the frames to the tree =====
heed_fine : (a : Answer State) {t : State} → heed a ≡ Some t → a ≡ fine t
heed_fine (fine s) h = cc
heed_fine (refused n p) h = cc

erases_some : (o : Option Tree) {t : State} → option_map erase o ≡ Some t → (q : Tree) × (o ≡ Some q) × (erase q ≡ t)
erases_some None h = cc
erases_some (Some q) h = (q, refl, cc)

-- a token that the machine step-built is in range and builds
step_taken : (m : Token) (p : ℕ) (s : Tree) (t : State) → step p (erase s) (frame_of m) ≡ fine t → Legal m × ((q : Tree) × (build m s ≡ Some q) × (erase q ≡ t))
step_taken m p s t h =
    let w = went p (erase s) (frame_of m) t h in
    let i = row_token m in
    let j = w.is in
    let r : w.row_of ≡ token_row m = cc in
    (fits_legal m (fields_fits (token_row m) (frame_of m) (rw r at w.fits)), erases_some (build m s) (forgets p m s ∙ ap heed (rw r at w.goes)))

-- the frames are those of tokens within their ranges, which build a definition from s on
abbrev pub Reads : List Frame → Tree → Type 0
Reads fs s = (ms : List Token) × (map frame_of ms ≡ fs) × AllLegal ms × ((D : Definition) × (builds ms s ≡ Some (done D)))

at_end : (s : Tree) (p : ℕ) → ending p (erase s).stage ≡ accepted → (D : Definition) × (s ≡ done D)
at_end nothing_yet p h = cc
at_end (taking_params ρ f k ps) p h = cc
at_end (building H es cs d) p h = cc
at_end (taking_names H cs d t k xs) p h = cc
at_end (done D) p h = (D, refl)

abbrev pub onward : ℕ → List Frame → Answer State → Verdict
onward p fs (fine s) = run (p + 1) s fs
onward p fs (refused n q) = refused n q

pub run_more : (p : ℕ) (s : State) (f : Frame) (fs : List Frame) → run p s (f ∷ fs) ≡ onward p fs (step p s f)
run_more p s f fs = go (step p s f) refl
  where
    go : (a : Answer State) → step p s f ≡ a → run p s (f ∷ fs) ≡ onward p fs a
    go (fine t) e = rw (e, run) refl
    go (refused n q) e = rw (e, run) refl

pub run_reads : (fs : List Frame) (p : ℕ) (s : Tree) → run p (erase s) fs ≡ accepted → Reads fs s
run_reads [] p s h = let e = at_end s p h in ([], refl, tt, (e.0, ap Some e.1))
run_reads (f ∷ fs) p s h = go (step p (erase s) f) refl (sym (run_more p (erase s) f fs) ∙ h) (λ q k. run_reads fs (p + 1) q k)
  where
    by_token : (m : Token) → frame_of m ≡ f → (t : State) → step p (erase s) f ≡ fine t → run (p + 1) t fs ≡ accepted → ((q : Tree) → run (p + 1) (erase q) fs ≡ accepted → Reads fs q) → Reads (f ∷ fs) s
    by_token m e t g h ih =
        let k = step_taken m p s t (ap (step p (erase s)) e ∙ g) in
        let r = ih k.1.0 (ap (λ x. run (p + 1) x fs) k.1.2 ∙ h) in
        let b : builds (m ∷ r.0) s ≡ Some (done r.3.0) = ap (option_and_then (builds r.0)) k.1.1 ∙ r.3.1 in
        (m ∷ r.0, ap₂ (λ y ys. y ∷ ys) e r.1, (k.0, r.2), (r.3.0, b))

    go : (a : Answer State) → step p (erase s) f ≡ a → onward p fs a ≡ accepted → ((q : Tree) → run (p + 1) (erase q) fs ≡ accepted → Reads fs q) → Reads (f ∷ fs) s
    go (fine t) e h ih =
        let w = went p (erase s) f t e in
        let m = token_of f w.row_of w.is w.fits in
        by_token m.0 m.1 t e h ih
    go (refused n q) e h ih = cc

-- ===== from the tree to the frames =====
build_done : (m : Token) (D : Definition) → build m (done D) ≡ None
build_done (HEAD t f n) D = refl
build_done (PARAM t x) D = refl
build_done END D = refl
build_done DO D = refl
build_done (DECL t k) D = refl
build_done (NAME x) D = refl
build_done (INIT t x) D = refl
build_done RETV D = refl
build_done RET D = refl
build_done OPEN D = refl
build_done CLOSE D = refl
build_done WHILE D = refl
build_done IF D = refl
build_done (LITERAL l) D = refl
build_done (VARIABLE x) D = refl
build_done (CALL f k) D = refl
build_done (UPDATE c x) D = refl
build_done (BINARY o) D = refl
build_done (ASSIGN x) D = refl

erase_not_ended : (m : Token) (s : Tree) {q : Tree} → build m s ≡ Some q → has_ended (erase s).stage ≡ false
erase_not_ended m nothing_yet h = refl
erase_not_ended m (taking_params ρ f k ps) h = refl
erase_not_ended m (building H es cs d) h = refl
erase_not_ended m (taking_names H cs d t k xs) h = refl
erase_not_ended m (done D) h = cc (build_done m D)

step_built : (m : Token) (p : ℕ) (s q : Tree) → Legal m → build m s ≡ Some q → step p (erase s) (frame_of m) ≡ fine (erase q)
step_built m p s q l b =
    step_fit p (erase s) (frame_of m) (erase_not_ended m s b) (token_row m) (sym (row_token m)) (fits_fields (token_row m) (frame_of m) (legal_fits m l))
    ∙ heed_fine (allow p (role m) (frame_of m).load (erase s).stage (erase s).stack (erase s).ready) (sym (forgets p m s) ∙ ap (option_map erase) b)

run_writes : (ms : List Token) (p : ℕ) (s : Tree) (D : Definition) → AllLegal ms → builds ms s ≡ Some (done D) → run p (erase s) (map frame_of ms) ≡ accepted
run_writes [] p s D l h = let e : s ≡ done D = cc in rw e refl
run_writes (m ∷ ms) p s D l h = go (build m s) refl h (λ q k. run_writes ms (p + 1) q D l.1 k)
  where
    go : (o : Option Tree) → build m s ≡ o → option_and_then (builds ms) o ≡ Some (done D) → ((q : Tree) → builds ms q ≡ Some (done D) → run (p + 1) (erase q) (map frame_of ms) ≡ accepted)
        → run p (erase s) (map frame_of (m ∷ ms)) ≡ accepted
    go None e h ih = cc
    go (Some q) e h ih = run_more p (erase s) (frame_of m) (map frame_of ms) ∙ ap (onward p (map frame_of ms)) (step_built m p s q l.0 e) ∙ ih q h

-- ===== the whole =====
pub forms_run : (fs : List Frame) → forms fs ≡ accepted → (length fs ≤ 256) × (run 0 start fs ≡ accepted)
forms_run fs h = go (ltb 256 (length fs)) refl h
  where
    go : (b : Bool) → ltb 256 (length fs) ≡ b → cond b (refused 20 256) (run 0 start fs) ≡ accepted → (length fs ≤ 256) × (run 0 start fs ≡ accepted)
    go true e h = cc
    go false e h = (ltb-false 256 (length fs) e, h)

pub accepted_tree : (fs : List Frame) → forms fs ≡ accepted → (D : Definition) × Within D × (written D ≡ fs)
unfolding written
accepted_tree fs h =
    let k = forms_run fs h in
    let r = run_reads fs 0 nothing_yet k.1 in
    let D = r.3.0 in
    let w : write_definition D [] ≡ r.0 = built r.0 nothing_yet (done D) r.3.1 in
    let g = definition_fits D (subst AllLegal (sym w) r.2) in
    let e : map frame_of (write_definition D []) ≡ fs = ap (map frame_of) w ∙ r.1 in
    let s = cond_some (shallows 0 D.body) (done D) (done D) (sym (build_all D) ∙ ap (λ x. builds x nothing_yet) w ∙ r.3.1) in (
      D,
      record {
        named = g.0;
        params = g.1;
        params_fit = g.2;
        body_fits = g.3;
        unfinished = shallow_body D.body s.0;
        frames = subst (λ (x : List Frame). length x ≤ 256) (sym e) k.0;
      },
      e,
    )

pub within_accepted : (D : Definition) → Within D → forms (written D) ≡ accepted
unfolding written
within_accepted D w =
    rw (le-ltb 256 (length (written D)) w.frames) refl
    ∙ run_writes (write_definition D []) 0 nothing_yet D (definition_legal D w.named w.params w.params_fit w.body_fits)
    (build_all D ∙ ap (λ b. when b (Some (done D))) (deep_body D.body w.unfinished))

-- no other tree, within the limits or not, has the same writing
pub written_once : (D E : Definition) → Within D → written E ≡ written D → E ≡ D
unfolding written
written_once D E w e =
    let m : write_definition E [] ≡ write_definition D [] = map_frame_of _ _ e in
    let k : when (shallows 0 E.body) (Some (done E)) ≡ Some (done D) =
    sym (build_all E) ∙ ap (λ x. builds x nothing_yet) m ∙ build_all D ∙ ap (λ b. when b (Some (done D))) (deep_body D.body w.unfinished) in
    let s = cond_some (shallows 0 E.body) (done E) (done D) k in
    cc
