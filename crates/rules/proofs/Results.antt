-- Answers that may be faults, tests, and equality of types.
use Rattle.std.proofs.Common.{◌≡◌, ℕ, Bool as Truth, true, false, List, [], ◌∷◌, Some, None, Ok, Err, Option, Result, refl}
use Rattle.std.proofs.lemmas.Bool.{eq-eqb, eqb-true, and_parts, and_from}
use Rattle.syntax.specs.declared.frame.«Type».{«Type» as Ty}
use Rattle.syntax.specs.declared.frame.«Type».TheVariants.{Bool, Int, Double, String, Void}
use Rattle.syntax.specs.Writing.{type_code}
use Rattle.syntax.specs.Types.{type_of}
use Rattle.syntax.proofs.Types.{type_code_once}
use Rattle.rules.specs.declared.violation.Violation.{Violation}
use Rattle.rules.specs.Heads.{Levels}
use Rattle.rules.specs.Faults.{Fault, ◌>>=◌, need, require, placed}
use Rattle.rules.specs.Judge.{same, same_all}

-- a refusal is no answer
pub no_answer : {A E C : Type 0} {x : E} {a : A} → Err x ≡ Ok a → C
no_answer h = cc

pub answers_same : {A E : Type 0} {a b : A} → ◌≡◌ {A = Result A E} (Ok a) (Ok b) → a ≡ b
answers_same h = cc

-- the parts of a chain that answered
pub bound : {A B E C : Type 0} (m : Result A E) (f : A → Result B E) {b : B} → (m >>= f) ≡ Ok b → ((a : A) → m ≡ Ok a → f a ≡ Ok b → C) → C
bound (Ok a) f h k = k a refl h
bound (Err x) f h k = cc

pub needed : {A : Type 0} (v : Violation) (o : Option A) {b : A} → need v o ≡ Ok b → o ≡ Some b
needed v None h = cc
needed v (Some a) h = cc

pub required : (v : Violation) (b : Truth) {u : Unit {0}} → require v b ≡ Ok u → b ≡ true
required v true h = refl
required v false h = cc

pub placed_answer : {A : Type 0} (p : ℕ) (Γ : Levels) (m : Result A Violation) {a : A} → placed p Γ m ≡ Ok a → m ≡ Ok a
placed_answer p Γ (Ok a) h = cc
placed_answer p Γ (Err v) h = cc

-- chains
pub bind_cong : {A B E : Type 0} (m : Result A E) {f g : A → Result B E} → ((a : A) → f a ≡ g a) → (m >>= f) ≡ (m >>= g)
bind_cong (Ok a) h = h a
bind_cong (Err x) h = refl

pub bind_when : {A B E : Type 0} (m : Result A E) {f g : A → Result B E} → ((a : A) → m ≡ Ok a → f a ≡ g a) → (m >>= f) ≡ (m >>= g)
bind_when (Ok a) h = h a refl
bind_when (Err x) h = refl

pub bind_assoc : {A B C E : Type 0} (m : Result A E) (f : A → Result B E) (g : B → Result C E) → (m >>= f >>= g) ≡ (m >>= λ a. f a >>= g)
bind_assoc (Ok a) f g = refl
bind_assoc (Err x) f g = refl

-- what is chained to a chain's answer goes on as the rest of that chain does
pub bind_on : {A B C E : Type 0} (m : Result A E) (f : A → Result B E) (g : B → Result C E) {h : A → Result C E} → ((a : A) → h a ≡ (f a >>= g)) → (m >>= h) ≡ (m >>= f >>= g)
bind_on (Ok a) f g e = e a
bind_on (Err x) f g e = refl

pub bind_unit : {A E : Type 0} (m : Result A E) → (m >>= λ a. Ok a) ≡ m
bind_unit (Ok a) = refl
bind_unit (Err x) = refl

-- a step that judges and then moves
pub placed_moved : {A B C : Type 0} (p : ℕ) (Γ : Levels) (m : Result A Violation) (f : A → B) (k : B → Result C Fault)
    → (placed p Γ (m >>= λ a. Ok (f a)) >>= k) ≡ (placed p Γ m >>= λ a. k (f a))
placed_moved p Γ (Ok a) f k = refl
placed_moved p Γ (Err v) f k = refl

-- ===== types =====
pub type_back : (t : Ty) → type_of (type_code t) ≡ t
type_back Bool = refl
type_back Int = refl
type_back Double = refl
type_back String = refl
type_back Void = refl

pub same_self : (t : Ty) → same t t ≡ true
same_self t = eq-eqb (type_code t) (type_code t) refl

pub same_true : (t u : Ty) → same t u ≡ true → t ≡ u
same_true t u h = type_code_once t u (eqb-true (type_code t) (type_code u) h)

pub same_all_self : (ts : List Ty) → same_all ts ts ≡ true
same_all_self [] = refl
same_all_self (t ∷ ts) = and_from (same t t) (same_all ts ts) (same_self t) (same_all_self ts)

pub same_all_true : (ts us : List Ty) → same_all ts us ≡ true → ts ≡ us
same_all_true [] [] h = refl
same_all_true [] (u ∷ us) h = cc
same_all_true (t ∷ ts) [] h = cc
same_all_true (t ∷ ts) (u ∷ us) h =
    let p = and_parts (same t u) (same_all ts us) h in
    let e = same_true t u p.0 in
    let e' = same_all_true ts us p.1 in
    cc
