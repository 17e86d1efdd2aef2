-- The law of the form: accepted are exactly the writings of trees within the limits, each of one tree.
use Rattle.std.proofs.Common.{◌≡◌, ℕ, true, List, sym, refl, ◌∙◌}
use Rattle.syntax.specs.declared.frame.Frame.{Frame}
use Rattle.syntax.specs.Form.{fine, refused, Verdict, accepted, forms, is_fine, is_sheet}
use Rattle.syntax.specs.Law.{HasTree, HasNoTree, Exactly}
use Rattle.syntax.proofs.Exact.{accepted_tree, within_accepted, written_once}

pub has_tree : (fs : List Frame) → forms fs ≡ accepted → HasTree fs
has_tree fs h =
    let p = accepted_tree fs h in
    (p.0, record { within = p.1; writes = p.2; only = λ e k. written_once p.0 e p.1 (k ∙ sym p.2) })

pub has_no_tree : (fs : List Frame) (n p : ℕ) → forms fs ≡ refused n p → HasNoTree fs
has_no_tree fs n p h d w k = cc (within_accepted d w)

pub exactly : (fs : List Frame) → Exactly fs (forms fs)
exactly fs = go (forms fs) refl
  where
    go : (v : Verdict) → forms fs ≡ v → Exactly fs v
    go (fine u) e = has_tree fs e
    go (refused n p) e = has_no_tree fs n p e

is_fine_accepted : (v : Verdict) → is_fine v ≡ true → v ≡ accepted
is_fine_accepted (fine u) h = refl
is_fine_accepted (refused n p) h = cc

pub sheet_tree : (fs : List Frame) → is_sheet fs ≡ true → HasTree fs
sheet_tree fs h = has_tree fs (is_fine_accepted (forms fs) h)
