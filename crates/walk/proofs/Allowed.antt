-- What is known where the form allows a frame.
use Rattle.std.proofs.Common.{◌≡◌, ℕ, ◌+◌, ◌-◌, ◌<◌, ◌≤◌, Bool as Truth, true, false, cond, eqb, ltb, leb, List, [], ◌∷◌, length, Some, sym, refl, ap, ◌∙◌}
use Rattle.std.proofs.lemmas.Bool.{eqb-true, ltb-true, leb-true}
use Rattle.syntax.specs.declared.frame.Frame.{Frame}
use Rattle.syntax.specs.declared.kinds.Row.{Row}
use Rattle.syntax.specs.declared.stages.Stage.{Stage}
use Rattle.syntax.specs.declared.stages.Stage.TheVariants.{Start, Params, Names, Body, Ended}
use Rattle.syntax.specs.declared.stages.Unfinished.{Unfinished}
use Rattle.syntax.specs.declared.stages.Unfinished.TheVariants.{Block, Loop, Choice}
use Rattle.syntax.specs.Writing.{Token, frame_of}
use Rattle.syntax.specs.Kinds.{row}
use Rattle.syntax.specs.Form.{Answer, fine, refused, State, at, starting, at_params, at_names, in_body, exactly, operand, begin, close, end, finish, allow, step, run, accepted}
use Rattle.syntax.proofs.Turns.{clash, went}
use Rattle.syntax.proofs.TokenRows.{token_row, role, row_token}
use Rattle.syntax.proofs.TokenFrames.{token_of}
use Rattle.syntax.proofs.Exact.{onward, run_more}

pub fine_same : {A : Type 0} {a b : A} → ◌≡◌ {A = Answer A} (fine a) (fine b) → a ≡ b
fine_same h = cc

module _ (p : ℕ) {t : State} where
  pub starting_is : (g : Stage) (a : Answer State) → starting p g a ≡ fine t → (g ≡ Start) × (a ≡ fine t)
  starting_is Start a h = (refl, h)
  starting_is (Params n) a h = clash h
  starting_is (Names n) a h = clash h
  starting_is Body a h = clash h
  starting_is Ended a h = clash h

  pub params_is : (g : Stage) (f : ℕ → Answer State) → at_params p g f ≡ fine t → (n : ℕ) × (g ≡ Params n) × (f n ≡ fine t)
  params_is Start f h = clash h
  params_is (Params n) f h = (n, refl, h)
  params_is (Names n) f h = clash h
  params_is Body f h = clash h
  params_is Ended f h = clash h

  pub names_is : (g : Stage) (f : ℕ → Answer State) → at_names p g f ≡ fine t → (n : ℕ) × (g ≡ Names n) × (f n ≡ fine t)
  names_is Start f h = clash h
  names_is (Params n) f h = clash h
  names_is (Names n) f h = (n, refl, h)
  names_is Body f h = clash h
  names_is Ended f h = clash h

  pub body_is : (g : Stage) (a : Answer State) → in_body p g a ≡ fine t → (g ≡ Body) × (a ≡ fine t)
  body_is Start a h = clash h
  body_is (Params n) a h = clash h
  body_is (Names n) a h = clash h
  body_is Body a h = (refl, h)
  body_is Ended a h = clash h

  tested : (b : Truth) (a : Answer State) (n : ℕ) → cond b a (refused n p) ≡ fine t → (b ≡ true) × (a ≡ fine t)
  tested true a n h = (refl, h)
  tested false a n h = clash h

  pub exactly_is : (n r : ℕ) (a : Answer State) → exactly p n r a ≡ fine t → (r ≡ n) × (a ≡ fine t)
  exactly_is n r a h = let k = tested (eqb r n) a 23 h in (eqb-true r n k.0, k.1)

  pub operand_is : (n : ℕ) (u : List Unfinished) (r : ℕ) → operand p n u r ≡ fine t → (n ≤ r) × (at Body u (r - n + 1) ≡ t)
  operand_is n u r h = let k = tested (leb n r) (fine (at Body u (r - n + 1))) 23 h in (leb-true n r k.0, fine_same k.1)

  pub begin_is : (x : Unfinished) (u : List Unfinished) → begin p x u ≡ fine t → (length u < 32) × (at Body (x ∷ u) 0 ≡ t)
  begin_is x u h = let k = tested (ltb (length u) 32) (fine (at Body (x ∷ u) 0)) 24 h in (ltb-true (length u) 32 k.0, fine_same k.1)

  pub close_is : (u : List Unfinished) → close p u ≡ fine t → (v : List Unfinished) × (u ≡ Block ∷ v) × (at Body (finish v) 0 ≡ t)
  close_is [] h = clash h
  close_is (Block ∷ u) h = (u, refl, fine_same h)
  close_is (Loop ∷ u) h = clash h
  close_is (Choice n ∷ u) h = clash h

  pub end_is : (u : List Unfinished) → end p u ≡ fine t → at Ended [] 0 ≡ t
  end_is [] h = fine_same h
  end_is (x ∷ u) h = clash h

-- a frame of a form that goes on is the frame of a token that is allowed there, and the form goes on after it
pub record Allowed (p : ℕ) (s : State) (f : Frame) (fs : List Frame) : Type 0 where
  pub token : Token
  pub is : frame_of token ≡ f
  pub after : State
  pub allows : allow p (role token) (frame_of token).load s.stage s.stack s.ready ≡ fine after
  pub goes_on : run (p + 1) after fs ≡ accepted

row_same : {r q : Row} → Some r ≡ Some q → r ≡ q
row_same h = cc

pub allowed : (p : ℕ) (s : State) (f : Frame) (fs : List Frame) → run p s (f ∷ fs) ≡ accepted → Allowed p s f fs
allowed p s f fs h = go (step p s f) refl (sym (run_more p s f fs) ∙ h)
  where
    go : (a : Answer State) → step p s f ≡ a → onward p fs a ≡ accepted → Allowed p s f fs
    go (fine t) e h =
        let w = went p s f t e in
        let m = token_of f w.row_of w.is w.fits in
        let r : w.row_of ≡ token_row m.0 = row_same (sym w.is ∙ ap (λ (x : Frame). row x.kind) (sym m.1) ∙ row_token m.0) in
        record {
          token = m.0;
          is = m.1;
          after = t;
          allows = ap (λ (x : Row). allow p x.role (frame_of m.0).load s.stage s.stack s.ready) (sym r) ∙ ap (λ (x : Frame). allow p w.row_of.role x.load s.stage s.stack s.ready) m.1 ∙ w.goes;
          goes_on = h;
        }
    go (refused n q) e h = clash h
