-- The run over the frames, one at a time.
use Rattle.std.proofs.Common.{◌≡◌, ℕ, ◌+◌, ◌<◌, ◌≤◌, List, length, get_or, drop, refl, ◌∙◌}
use Rattle.std.proofs.lemmas.List.{at_drop_more}
use Rattle.std.proofs.lemmas.Bool.{le-ltb, lt-ltb}
use Rattle.syntax.specs.declared.frame.Frame.{Frame}
use Rattle.syntax.specs.Form.{fine, refused, State, step, run, start, forms}

pub forms_long : (fs : List Frame) → 256 < length fs → forms fs ≡ refused 20 256
forms_long fs h = rw (lt-ltb 256 (length fs) h) refl

pub forms_short : (fs : List Frame) → length fs ≤ 256 → forms fs ≡ run 0 start fs
forms_short fs h = rw (le-ltb 256 (length fs) h) refl

module _ (fs : List Frame) (i : ℕ) (s : State) where
  pub run_more : (z : Frame) (t : State) → i < length fs → step i s (get_or fs i z) ≡ fine t → run i s (drop i fs) ≡ run (i + 1) t (drop (i + 1) fs)
  run_more z t h e = at_drop_more (run i s) fs i z h ∙ rw (e, run) refl
