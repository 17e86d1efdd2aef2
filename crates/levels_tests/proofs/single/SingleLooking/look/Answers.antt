use Rattle.std.proofs.Common.{◌≡◌, Bool, true, false, cond, eqb, Some, None, sym, refl, ap, ◌∙◌}
use Rattle.std.specs.Bool.{then_some}
use Rattle.levels.specs.Store.{looked}
use Rattle.levels_tests.specs.Single.{single}
use Rattle.levels_tests.proofs.Singles.{looked_none, looked_held}
use Rattle.levels_tests.proofs.single.SingleLooking.look.Goals as goal

then_is : {V : Type 0} (b : Bool) (v : V) → then_some b v ≡ cond b (Some v) None
then_is true v = refl
then_is false v = refl

pub returns-in_err-n : goal.returns-in_err-n
returns-in_err-n g c =
    let p = c.args.self.now in
    record { result = c.from_residual.ensures ∙ looked_none p.upper p.lower c.args.name ∙ sym (ap (λ h. looked (single p.upper p.lower h).levels c.args.name) c.in_err-n.was) }

pub returns : goal.returns
returns g c =
    let p = c.args.self.now in
    record {
      result = c.then_some.ensures ∙ then_is (eqb c.in_ok-n.n c.args.name) c.in_ok-n.value
          ∙ sym (looked_held p.upper p.lower c.args.name c.in_ok-n.n c.in_ok-n.value)
          ∙ sym (ap (λ h. looked (single p.upper p.lower h).levels c.args.name) c.in_ok-n.was);
    }
