-- The first name that a declaration may not have.
use Rattle.std.proofs.Common.{◌≡◌, ℕ, Bool as Truth, cond, List, [], ◌∷◌, ◌++◌, length, Ok, Err, sym, refl, ap, ◌∙◌}
use Rattle.syntax.specs.declared.frame.«Type».{«Type» as Ty}
use Rattle.rules.specs.declared.violation.Violation.{Violation}
use Rattle.rules.specs.declared.violation.Violation.TheVariants.{Repeated}
use Rattle.rules.specs.Heads.{Table, Levels}
use Rattle.rules.specs.Sequences.{declare_all}
use Rattle.rules.specs.Places.{after_each}
use Rattle.rules.specs.Faults.{fault, ◌>>=◌, placed}
use Rattle.rules.specs.Judge.{judge_name}
use Rattle.rules.specs.Broken.{NamesBroken}
use Rattle.rules.proofs.Checker.{check_names}
use Rattle.rules.proofs.Statements.{free_of_none, names_sound, names_complete}
use Rattle.rules.proofs.Walks.{kept_rest, kept_none}
use Rattle.rules.proofs.Broken.{fails, requires_false}
use Rattle.rules.proofs.BrokenExpressions.{placed_fails}

-- where the names stop: those before pass, and with the next one they fail
record NamesStop (own : Truth) (Γ : Levels) (τ : Table Ty) (t : Ty) (earlier xs a : List ℕ) (v : Violation) (p : ℕ) (Δ : Levels) : Type 0 where
  before : List ℕ
  name : ℕ
  rest : List ℕ
  names : xs ≡ before ++ name ∷ rest
  column : List ℕ
  passes : check_names own Γ τ t earlier before a ≡ Ok column
  stops : check_names own Γ τ t earlier (before ++ name ∷ []) a ≡ Err (fault v p Δ)
  violation : Repeated ≡ v
  place : p ≡ after_each before (length a)
  left : cond own τ (declare_all t before τ) ∷ Γ ≡ Δ

names_stop : (own : Truth) (Γ : Levels) (τ : Table Ty) (t : Ty) (earlier xs a : List ℕ) (v : Violation) (p : ℕ) (Δ : Levels) → check_names own Γ τ t earlier xs a ≡ Err (fault v p Δ) → NamesStop own Γ τ t earlier xs a v p Δ
names_stop own Γ τ t earlier [] a v p Δ h = cc
names_stop own Γ τ t earlier (x ∷ xs) a v p Δ h =
    let judged = placed (length a) (τ ∷ Γ) (judge_name (τ ∷ Γ) earlier x) in
    let σ = cond own τ ((x, t) ∷ τ) in
    let seen = cond own (x ∷ earlier) earlier in
    let ih = λ (k : check_names own Γ σ t seen xs (0 ∷ a) ≡ Err (fault v p Δ)). names_stop own Γ σ t seen xs (0 ∷ a) v p Δ k in
    fails judged _ h
    (λ h₁.
    let k = placed_fails (length a) (τ ∷ Γ) _ h₁ in
    record {
      before = [];
      name = x;
      rest = xs;
      names = refl;
      column = a;
      passes = refl;
      stops = ap (λ m. m >>= λ _. check_names own Γ σ t seen [] (0 ∷ a)) h₁;
      violation = (requires_false Repeated _ k.0).1;
      place = k.1;
      left = ap (λ (ρ : Table Ty). ρ ∷ Γ) (kept_none own τ) ∙ k.2;
    })
    (λ u h₁ h₂.
    let q = ih h₂ in
    record {
      before = x ∷ q.before;
      name = q.name;
      rest = q.rest;
      names = ap (λ ys. x ∷ ys) q.names;
      column = q.column;
      passes = ap (λ m. m >>= λ _. check_names own Γ σ t seen q.before (0 ∷ a)) h₁ ∙ q.passes;
      stops = ap (λ m. m >>= λ _. check_names own Γ σ t seen (q.before ++ q.name ∷ []) (0 ∷ a)) h₁ ∙ q.stops;
      violation = q.violation;
      place = q.place;
      left = ap (λ (ρ : Table Ty). ρ ∷ Γ) (sym (kept_rest own t x q.before τ)) ∙ q.left;
    })

pub names_break : (own : Truth) (Γ : Levels) (τ : Table Ty) (t : Ty) (xs a : List ℕ) (v : Violation) (p : ℕ) (Δ : Levels) → check_names own Γ τ t [] xs a ≡ Err (fault v p Δ) → NamesBroken own Γ τ t xs (length a) v p Δ
names_break own Γ τ t xs a v p Δ h =
    let q = names_stop own Γ τ t [] xs a v p Δ h in
    let g = names_sound own Γ τ t [] q.before a q.passes in
    record {
      before = q.before;
      name = q.name;
      rest = q.rest;
      names = q.names;
      distinct = g.0;
      lacking = g.1;
      breaks = λ d l. cc (q.stops, names_complete own Γ τ t [] (q.before ++ q.name ∷ []) a (d, l, free_of_none (q.before ++ q.name ∷ [])));
      violation = q.violation;
      place = q.place;
      left = q.left;
    }
