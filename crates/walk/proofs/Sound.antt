-- The form of a sheet gives what the step needs at each frame, whatever its token.
use Rattle.std.proofs.Common.{◌≡◌, ℕ, suc, ◌+◌, ◌-◌, ◌<◌, ◌≤◌, eqb, List, [], ◌∷◌, length, get_or, take, drop, sym, refl, ap, ◌∙◌, subst, arith, Option, None}
use Rattle.std.proofs.lemmas.List.{length-drop}
use Rattle.syntax.specs.declared.frame.Frame.{Frame}
use Rattle.syntax.specs.declared.frame.«Type».{«Type» as Ty}
use Rattle.syntax.specs.declared.stages.Stage.{Stage}
use Rattle.syntax.specs.declared.stages.Stage.TheVariants.{Body}
use Rattle.syntax.specs.declared.stages.Unfinished.{Unfinished}
use Rattle.syntax.specs.declared.stages.Unfinished.TheVariants.{Block, Loop, Choice}
use Rattle.syntax.specs.Writing.{Token, HEAD, PARAM, END, DO, DECL, NAME, INIT, RETV, RET, OPEN, CLOSE, WHILE, IF, LITERAL, VARIABLE, CALL, UPDATE, BINARY, ASSIGN, frame_of, type_code}
use Rattle.syntax.specs.Form.{Answer, State as Form, at, fine, in_body, operand, exactly, allow, finish, await_params, await_names}
use Rattle.syntax.proofs.TokenRows.{role}
use Rattle.levels.specs.Store.{standing, stands, added}
use Rattle.rules.specs.declared.violation.Violation.TheVariants.{Repeated, OtherInitial}
use Rattle.walk.specs.declared.machine.Declaration.{Declaration}
use Rattle.walk.specs.Step.{idle, naming, State, state, kept, named, stated}
use Rattle.walk.specs.Machines.{Awaits, names_of}
use Rattle.walk.proofs.Counts.{blocks, blocks_le, blocks_finish, length_added, standing_added, length_kept, standing_kept, length_below, standing_below, stands_top, top_names, top_added}
use Rattle.walk.proofs.Allowed.{starting_is, params_is, names_is, body_is, exactly_is, begin_is, close_is, end_is, fine_same}
use Rattle.walk.proofs.Answered.{plain_is, ok_is, asked_is, unless_is, init_is}
use Rattle.walk.proofs.Agreeing.{Agrees, Agreeing, some_level, no_operands, at_params, at_coming}
use Rattle.walk.proofs.Shapes.{Goes, goes_typed, goes_simple, goes_begins}
use Rattle.walk.proofs.Kinded.{Kinded, literal_kinded, update_kinded, binary_kinded}
use Rattle.walk.proofs.Repeating.{repeats_front, repeats_same}
use Rattle.walk.proofs.Readies as readies

module _ (cap : ℕ) (room : 256 ≤ cap) (i : ℕ) (fs : List Frame) (s : State) (p : Option Declaration) (l : i < 256) (still : s.names ≡ idle → p ≡ None)
    (await : (t k : ℕ) (earlier : List ℕ) → 0 < k → s.names ≡ naming t k earlier → Awaits i p) where
  abbrev Found : Token → Form → Type 0
  Found m φ = Goes cap room i fs s p l still (frame_of m) φ

  expr : (f : Frame) (n : ℕ) → Kinded f n → (g : Stage) (u : List Unfinished) (r : ℕ) {φ : Form} → in_body i g (operand i n u r) ≡ fine φ
      → Agrees i (f ∷ fs) g u r s → Goes cap room i fs s p l still f φ
  expr f n k g u r h a = goes_typed cap room i fs s p l still f n k.late k.takes g u r h a

  -- in the body with exactly n operands
  exact : {C : Type 0} (f : Frame) (n : ℕ) (g : Stage) (u : List Unfinished) (r : ℕ) (x : Answer Form) {φ : Form} → in_body i g (exactly i n r x) ≡ fine φ → Agrees i (f ∷ fs) g u r s
      → (x ≡ fine φ → r ≡ n → Agrees i (f ∷ fs) Body u r s → C) → C
  exact f n g u r x h a k =
      let b = body_is i g (exactly i n r x) h in
      let e = exactly_is i n r x b.1 in
      k e.1 e.0 (subst (λ g. Agrees i (f ∷ fs) g u r s) b.0 a)

  param_goes : (t : Ty) (x : ℕ) (g : Stage) (u : List Unfinished) (r : ℕ) {φ : Form} → allow i (role (PARAM t x)) 0 g u r ≡ fine φ → Agrees i (frame_of (PARAM t x) ∷ fs) g u r s → Found (PARAM t x) φ
  param_goes t x g u r h a₀ =
      let q = params_is i g _ h in
      let k = q.0 in
      let a = subst (λ g. Agrees i (frame_of (PARAM t x) ∷ fs) g u r s) q.1 a₀ in
      let b = a.0 in let few = b.few in
      let ls = s.levels in
      let sa = standing_added ls (x, type_code t) in
      let w = repeats_front (top_names ls) k (frame_of (PARAM t x)) fs a.4 a.5 in
      record {
        ready = readies.ready_param cap i (frame_of (PARAM t x)) _ _ _ p refl (some_level b) (omega arith) (stands_top ls x ∙ w.0) (still a.2);
        leaves = λ hs ρ c s' h.
            subst (λ φ. Agreeing (i + 1) fs φ s') (fine_same q.2)
            (subst (λ s. Agreeing (i + 1) fs (await_params (k - 1) u r) s) (sym (ok_is (plain_is _ c s' h)))
            (at_params (i + 1) fs u (state s.operands (added ls (x, type_code t)) s.things idle) (k - 1) r
            (record { things = b.things; deep = length_added ls (x, type_code t) ∙ b.deep; few = omega arith }) a.1 refl a.3
            (repeats_same (names_of (take (k - 1) fs)) _ _ (λ y. top_added ls (x, type_code t) y (some_level b)) ∙ w.1)));
      }

  pub goes_by : (m : Token) (g : Stage) (u : List Unfinished) (r : ℕ) {φ : Form} → allow i (role m) (frame_of m).load g u r ≡ fine φ → Agrees i (frame_of m ∷ fs) g u r s → Found m φ
  goes_by (LITERAL v) g u r h a = expr (frame_of (LITERAL v)) 0 (literal_kinded v) g u r h a
  goes_by (VARIABLE x) g u r h a = expr (frame_of (VARIABLE x)) 0 (record { late = omega arith; takes = refl }) g u r h a
  goes_by (CALL f k) g u r h a = expr (frame_of (CALL f k)) k (record { late = omega arith; takes = refl }) g u r h a
  goes_by (UPDATE c x) g u r h a = expr (frame_of (UPDATE c x)) 0 (update_kinded c x) g u r h a
  goes_by (BINARY o) g u r h a = expr (frame_of (BINARY o)) 2 (binary_kinded o) g u r h a
  goes_by (ASSIGN x) g u r h a = expr (frame_of (ASSIGN x)) 1 (record { late = omega arith; takes = refl }) g u r h a
  goes_by DO g u r h a = exact (frame_of DO) 1 g u r _ h a λ e z a.
      let b = a.0 in let few = b.few in let len = a.1 in let ld = length-drop 1 s.operands in
      goes_simple cap room i fs s p l still (frame_of DO) u r (drop 1 s.operands) s.levels a
      (readies.ready_do cap i (frame_of DO) _ _ _ p refl (some_level b) (omega arith) (omega arith) (still a.2))
      (omega arith) refl (omega arith) (λ hs ρ c s' h. ok_is (plain_is _ c s' h)) (fine_same e)
  goes_by (INIT t x) g u r h a = exact (frame_of (INIT t x)) 1 g u r _ h a λ e z a.
      let b = a.0 in let few = b.few in let len = a.1 in let ld = length-drop 1 s.operands in
      let kept_now = kept s.things s.levels x (type_code t) in
      goes_simple cap room i fs s p l still (frame_of (INIT t x)) u r (drop 1 s.operands) kept_now a
      (readies.ready_init cap i (frame_of (INIT t x)) _ _ _ p refl (some_level b) (omega arith) (omega arith) (still a.2))
      (omega arith) (length_kept s.things s.levels x (type_code t)) (standing_kept s.things s.levels x (type_code t))
      (λ hs ρ c s' h. init_is (eqb (type_code t) (get_or s.operands 0 5)) (stands s.levels x) Repeated OtherInitial
      (state (drop 1 s.operands) kept_now (finish s.things) idle) (plain_is (stated ρ (frame_of (INIT t x)) s) c s' h)) (fine_same e)
  goes_by RETV g u r h a = exact (frame_of RETV) 0 g u r _ h a λ e z a.
      let b = a.0 in let few = b.few in let len = a.1 in
      goes_simple cap room i fs s p l still (frame_of RETV) u r s.operands s.levels a
      (readies.ready_retv cap i (frame_of RETV) _ _ _ p refl (some_level b) (omega arith) (still a.2))
      (omega arith) refl (omega arith) (λ hs ρ c s' h. asked_is _ _ _ (plain_is _ c s' h)) (fine_same e)
  goes_by RET g u r h a = exact (frame_of RET) 1 g u r _ h a λ e z a.
      let b = a.0 in let few = b.few in let len = a.1 in let ld = length-drop 1 s.operands in
      goes_simple cap room i fs s p l still (frame_of RET) u r (drop 1 s.operands) s.levels a
      (readies.ready_ret cap i (frame_of RET) _ _ _ p refl (some_level b) (omega arith) (omega arith) (still a.2))
      (omega arith) refl (omega arith) (λ hs ρ c s' h. asked_is _ _ _ (plain_is _ c s' h)) (fine_same e)
  goes_by OPEN g u r h a = exact (frame_of OPEN) 0 g u r _ h a λ e z a.
      let w = begin_is i Block u e in
      let v = w.0 in
      let b = a.0 in let few = b.few in let len = a.1 in let bl = blocks_le u in let d = b.deep in
      let lv : length s.things ≡ length u = ap length b.things in
      goes_begins cap room i fs s p l still (frame_of OPEN) u r s.operands ([] ∷ s.levels) Block a
      (readies.ready_open cap i (frame_of OPEN) _ _ _ p refl (some_level b) (omega arith) (omega arith) (omega arith) (still a.2))
      (omega arith) (ap suc d) (omega arith) (λ hs ρ c s' h. ok_is (plain_is _ c s' h)) w.1
  goes_by WHILE g u r h a = exact (frame_of WHILE) 1 g u r _ h a λ e z a.
      let w = begin_is i Loop u e in
      let v = w.0 in
      let b = a.0 in let few = b.few in let len = a.1 in let ld = length-drop 1 s.operands in
      let lv : length s.things ≡ length u = ap length b.things in
      goes_begins cap room i fs s p l still (frame_of WHILE) u r (drop 1 s.operands) s.levels Loop a
      (readies.ready_begin cap i (frame_of WHILE) _ _ _ p (omega arith) (omega arith) (some_level b) (omega arith) (omega arith) (omega arith) (still a.2))
      (omega arith) b.deep (omega arith) (λ hs ρ c s' h. asked_is _ _ _ (plain_is _ c s' h)) w.1
  goes_by IF g u r h a = exact (frame_of IF) 1 g u r _ h a λ e z a.
      let w = begin_is i (Choice 2) u e in
      let v = w.0 in
      let b = a.0 in let few = b.few in let len = a.1 in let ld = length-drop 1 s.operands in
      let lv : length s.things ≡ length u = ap length b.things in
      goes_begins cap room i fs s p l still (frame_of IF) u r (drop 1 s.operands) s.levels (Choice 2) a
      (readies.ready_begin cap i (frame_of IF) _ _ _ p (omega arith) (omega arith) (some_level b) (omega arith) (omega arith) (omega arith) (still a.2))
      (omega arith) b.deep (omega arith) (λ hs ρ c s' h. asked_is _ _ _ (plain_is _ c s' h)) w.1
  goes_by CLOSE g u r h a = exact (frame_of CLOSE) 0 g u r _ h a λ e z a.
      let q = close_is i u e in
      let v = q.0 in
      let b = a.0 in let few = b.few in let len = a.1 in
      let th : s.things ≡ Block ∷ v = b.things ∙ q.1 in
      let d : length s.levels ≡ suc (suc (blocks v)) = b.deep ∙ ap (λ u. suc (blocks u)) q.1 in
      let sb = standing_below s.levels in
      record {
        ready = readies.ready_close cap i (frame_of CLOSE) _ _ _ p refl (some_level b) (omega arith) (still a.2);
        leaves = λ hs ρ c s' h.
            subst (λ φ. Agreeing (i + 1) fs φ s') q.2
            (subst (λ s. Agreeing (i + 1) fs (at Body (finish v) 0) s) (sym (ok_is (plain_is _ c s' h)))
            (record { things = ap (λ v. finish (drop 1 v)) th; deep = length_below s.levels (suc (blocks v)) d ∙ ap suc (sym (blocks_finish v)); few = omega arith }, omega arith, refl, omega arith));
      }
  goes_by END g u r h a = exact (frame_of END) 0 g u r _ h a λ e z a.
      let b = a.0 in let few = b.few in
      record {
        ready = readies.ready_end cap i (frame_of END) _ _ _ p refl (some_level b) (omega arith) (still a.2);
        leaves = λ hs ρ c s' h. subst (λ φ. Agreeing (i + 1) fs φ s') (end_is i u e) tt;
      }
  goes_by (DECL t k) g u r h a = exact (frame_of (DECL t k)) 0 g u r _ h a λ e z a.
      let b = a.0 in let few = b.few in let len = a.1 in
      record {
        ready = readies.ready_decl cap i (frame_of (DECL t k)) _ _ _ p refl (some_level b) (omega arith) (still a.2);
        leaves = λ hs ρ c s' h.
            subst (λ φ. Agreeing (i + 1) fs φ s') (fine_same e)
            (subst (λ s. Agreeing (i + 1) fs (await_names k u 0) s) (sym (ok_is (plain_is _ c s' h)))
            (at_coming (i + 1) fs s.operands s.levels u s.things (type_code t) k 0 [] b.things (no_operands s.operands (omega arith)) refl b.deep (omega arith)));
      }
  goes_by (NAME x) g u r h a₀ =
      let q = names_is i g _ h in
      let k = q.0 in
      let a = subst (λ g. Agrees i (frame_of (NAME x) ∷ fs) g u r s) q.1 a₀ in
      let b = a.0 in let few = b.few in
      let t = a.4.0 in
      let earlier = a.4.1 in
      let os = s.operands in let ls = s.levels in let v = s.things in
      let sk = standing_kept v ls x t in
      record {
        ready = readies.ready_name cap i (frame_of (NAME x)) _ _ _ p refl (some_level b) (omega arith) (await t k earlier a.3 a.4.2);
        leaves = λ hs ρ c s' h.
            let j = ap (λ n. named os ls v x n) (sym a.4.2) ∙ plain_is _ c s' h in
            subst (λ φ. Agreeing (i + 1) fs φ s') (fine_same q.2)
            (subst (λ s. Agreeing (i + 1) fs (await_names (k - 1) u r) s) (sym (unless_is _ _ _ j))
            (at_coming (i + 1) fs os (kept v ls x t) u v t (k - 1) r _ b.things a.1 a.2 (length_kept v ls x t ∙ b.deep) (omega arith)));
      }
  goes_by (PARAM t x) g u r h a₀ = param_goes t x g u r h a₀
  goes_by (HEAD t f k) g u r h a₀ =
      let q = starting_is i g _ h in
      let a = subst (λ g. Agrees i (frame_of (HEAD t f k) ∷ fs) g u r s) q.0 a₀ in
      let is = a.0 in
      let ll : length s.levels ≡ 0 = ap (λ (s : State). length s.levels) is in
      let sl : standing s.levels ≡ 0 = ap (λ (s : State). standing s.levels) is in
      record {
        ready = readies.ready_head cap i (frame_of (HEAD t f k)) _ _ _ p refl (omega arith) (still (ap (λ (s : State). s.names) is));
        leaves = λ hs ρ c s' h.
            subst (λ φ. Agreeing (i + 1) fs φ s') (fine_same q.1)
            (subst (λ s. Agreeing (i + 1) fs (await_params k u r) s) (sym (ok_is (plain_is _ c s' h)))
            (at_params (i + 1) fs u (state s.operands ([] ∷ s.levels) s.things idle) k r
            (record { things = ap (λ (s : State). s.things) is ∙ sym a.1; deep = ap suc ll ∙ ap (λ u. suc (blocks u)) (sym a.1); few = omega arith })
            (ap (λ (s : State). s.operands) is) refl a.2 a.3));
      }
