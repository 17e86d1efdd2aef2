-- Two declarations on the one level of a store, the second one refused.
use Rattle.std.proofs.Common.{◌≡◌, ℕ, Some, None, Ok, Err, sym, ap, ◌∙◌}
use Rattle.levels.specs.declared.refusal.Refusal.{Refusal}
use Rattle.levels.specs.Refusals.{answer, answer_with, unless}
use Rattle.levels.specs.Store.{Store, entered, wiped, declared, declare_refused, looked, or_else}
use Rattle.levels.proofs.Refusing.{answer_given, answer_refused}
use Rattle.levels_clients.specs.Two.{two_answer, two_left}

-- the stores that the calls pass through, and the two answers
module _ {V : Type 0} (m0 m1 m2 m3 : Store V) (a : ℕ) (x : V) (b : ℕ) (y : V) (e : Refusal)
    (p1 : m1 ≡ wiped m0) (p2 : m2 ≡ entered m1) (p3 : m3 ≡ declared m2 a x)
    (first : Ok tt ≡ answer (declare_refused m2 a)) (second : Err e ≡ answer (declare_refused m3 b)) where
  abbrev s : Store V
  s = entered (wiped m0)

  same : m2 ≡ s
  same = p2 ∙ ap entered p1

  then : m3 ≡ declared s a x
  then = p3 ∙ ap (λ m. declared m a x) same

  no_refusal : declare_refused s a ≡ None
  no_refusal = ap (λ m. declare_refused m a) (sym same) ∙ answer_given tt (declare_refused m2 a) tt first

  pub second_refused : Err e ≡ two_answer m0 a x b y
  second_refused =
      let w : declare_refused (declared s a x) b ≡ Some e = ap (λ m. declare_refused m b) (sym then) ∙ answer_refused tt (declare_refused m3 b) e second in
      let found = looked (declared (declared s a x) b y).levels a in
      sym (ap (λ o. answer_with (or_else o (declare_refused (declared s a x) b)) found) no_refusal ∙ ap (λ o. answer_with o found) w)

  pub second_left : (m4 : Store V) → m4 ≡ declared m3 b y → m4 ≡ two_left m0 a x b y
  second_left m4 p4 = p4 ∙ ap (λ m. declared m b y) then ∙ sym (ap (λ o. unless o (declared (declared s a x) b y) s) no_refusal)
