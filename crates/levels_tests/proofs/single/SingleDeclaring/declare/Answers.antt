use Rattle.std.proofs.Common.{◌<◌, sym, ap, ◌∙◌, arith}
use Rattle.levels.specs.declared.refusal.Refusal.TheVariants.{NoLevel, Repeated, Full}
use Rattle.levels.specs.Refusals.{answer}
use Rattle.levels.specs.Store.{declared, declare_refused}
use Rattle.levels_tests.specs.Single.{single}
use Rattle.levels_tests.proofs.Singles.{repeated, full_of, no_level, refused_same, none_of, declare_made, declared_made}
use Rattle.levels_tests.proofs.single.SingleDeclaring.declare.Goals as goal

pub returns-then-here : goal.returns-then-here
returns-then-here g c =
    let p = c.args.self.now in
    let r = repeated p.upper p.lower c.args.name p.held (sym c.if-here.true ∙ c.here.ensures.result) in
    record { result = sym (ap answer r); leaves = refused_same (single p.upper p.lower p.held) c.args.name c.args.value Repeated r }

pub returns-then-is_some : goal.returns-then-is_some
returns-then-is_some g c =
    let p = c.args.self.now in
    let r = full_of p.upper p.lower c.args.name p.held (sym c.is_some.ensures ∙ c.if-is_some.true) (sym c.if-here.false ∙ c.here.ensures.result) in
    record { result = sym (ap answer r); leaves = refused_same (single p.upper p.lower p.held) c.args.name c.args.value Full r }

pub returns-then-self-eq0 : goal.returns-then-self-eq0
returns-then-self-eq0 g c =
    let p = c.args.self.now in
    let r = no_level p.upper p.lower c.args.name p.held c.if-self-eq0.true (sym c.is_some.ensures ∙ c.if-is_some.false) in
    record { result = sym (ap answer r); leaves = refused_same (single p.upper p.lower p.held) c.args.name c.args.value NoLevel r }

pub returns : goal.returns
returns g c =
    let p = c.args.self.now in
    let k = c.args.name in
    let low : 0 < p.upper = omega (arith, c.if-self-eq0.false) in
    let bare = none_of p.held (sym c.is_some.ensures ∙ c.if-is_some.false) in
    record {
      result = ap answer (declare_made p.upper p.lower k c.args.value low) ∙ sym (ap (λ h. answer (declare_refused (single p.upper p.lower h) k)) bare);
      leaves = declared_made p.upper p.lower k c.args.value low ∙ sym (ap (λ h. declared (single p.upper p.lower h) k c.args.value) bare);
    }
