-- The first name that a declaration may not have fails.
use Rattle.std.proofs.Common.{◌≡◌, ℕ, Bool as Truth, true, false, cond, not, ◌||◌, List, [], ◌∷◌, ◌++◌, length, Ok, Err, sym, refl, ap, ◌∙◌}
use Rattle.syntax.specs.declared.frame.«Type».{«Type» as Ty}
use Rattle.levels.specs.Store.{stands}
use Rattle.rules.specs.declared.violation.Violation.{Violation}
use Rattle.rules.specs.declared.violation.Violation.TheVariants.{Repeated}
use Rattle.rules.specs.Heads.{Table, Levels}
use Rattle.rules.specs.Sequences.{declare_all}
use Rattle.rules.specs.Faults.{fault, ◌>>=◌, require, placed}
use Rattle.rules.specs.Judge.{among, judge_name}
use Rattle.rules.specs.Broken.{NamesBroken}
use Rattle.rules.proofs.Checker.{check_names}
use Rattle.rules.proofs.Stacked.{blanks_stacked}
use Rattle.rules.proofs.Results.{bind_on, bind_cong}
use Rattle.rules.proofs.Statements.{free_of_none, names_sound, names_complete}
use Rattle.rules.proofs.Walks.{kept_rest, kept_none}
use Rattle.rules.proofs.BrokenExpressions.{blanks_place}

-- the names remembered after some more
remembered : Truth → List ℕ → List ℕ → List ℕ
remembered own earlier [] = earlier
remembered own earlier (x ∷ xs) = remembered own (cond own (x ∷ earlier) earlier) xs

names_append : (own : Truth) (Γ : Levels) (τ : Table Ty) (t : Ty) (earlier ys zs a : List ℕ)
    → check_names own Γ τ t earlier (ys ++ zs) a ≡ (check_names own Γ τ t earlier ys a >>= λ c. check_names own Γ (cond own τ (declare_all t ys τ)) t (remembered own earlier ys) zs c)
unfolding remembered
names_append own Γ τ t earlier [] zs a = ap (λ (σ : Table Ty). check_names own Γ σ t earlier zs a) (sym (kept_none own τ))
names_append own Γ τ t earlier (y ∷ ys) zs a =
    let judged = placed (length a) (τ ∷ Γ) (judge_name (τ ∷ Γ) earlier y) in
    let σ = cond own τ ((y, t) ∷ τ) in
    let seen = cond own (y ∷ earlier) earlier in
    bind_on judged _ _ (λ _.
    names_append own Γ σ t seen ys zs (0 ∷ a)
    ∙ bind_cong (check_names own Γ σ t seen ys (0 ∷ a)) (λ c. ap (λ (ρ : Table Ty). check_names own Γ ρ t (remembered own seen ys) zs c) (kept_rest own t y ys τ)))

-- a name passes, or fails where it stands
name_outcome : (own : Truth) (Γ : Levels) (σ : Table Ty) (t : Ty) (seen : List ℕ) (x : ℕ) (rest c : List ℕ)
    → ((b : List ℕ) → check_names own Γ σ t seen (x ∷ []) c ≡ Ok b → ⊥) → check_names own Γ σ t seen (x ∷ rest) c ≡ Err (fault Repeated (length c) (σ ∷ Γ))
name_outcome own Γ σ t seen x rest c n = go (not (stands (σ ∷ Γ) x || among seen x)) refl
  where
    go : (b : Truth) → not (stands (σ ∷ Γ) x || among seen x) ≡ b → check_names own Γ σ t seen (x ∷ rest) c ≡ Err (fault Repeated (length c) (σ ∷ Γ))
    go true e = absurd (n (0 ∷ c) (ap (λ b. placed (length c) (σ ∷ Γ) (require Repeated b) >>= λ _. check_names own Γ (cond own σ ((x, t) ∷ σ)) t (cond own (x ∷ seen) seen) [] (0 ∷ c)) e))
    go false e = ap (λ b. placed (length c) (σ ∷ Γ) (require Repeated b) >>= λ _. check_names own Γ (cond own σ ((x, t) ∷ σ)) t (cond own (x ∷ seen) seen) rest (0 ∷ c)) e

pub names_failing : (own : Truth) (Γ : Levels) (τ : Table Ty) (t : Ty) (xs a : List ℕ) (v : Violation) (p : ℕ) (Δ : Levels) → NamesBroken own Γ τ t xs (length a) v p Δ → check_names own Γ τ t [] xs a ≡ Err (fault v p Δ)
names_failing own Γ τ t xs a v p Δ q =
    let ys = q.before in
    let x = q.name in
    let σ = cond own τ (declare_all t ys τ) in
    let passes = names_complete own Γ τ t [] ys a (q.distinct, q.lacking, free_of_none ys) in
    let c = blanks_stacked ys a in
    let onward = λ (zs : List ℕ). names_append own Γ τ t [] ys zs a ∙ ap (λ m. m >>= λ b. check_names own Γ σ t (remembered own [] ys) zs b) passes in
    let never = λ (b : List ℕ) (k : check_names own Γ σ t (remembered own [] ys) (x ∷ []) c ≡ Ok b).
    let g = names_sound own Γ τ t [] (ys ++ x ∷ []) a (onward (x ∷ []) ∙ k) in
    q.breaks g.0 g.1 in
    let at : length c ≡ p = blanks_place ys a ∙ sym q.place in
    ap (λ zs. check_names own Γ τ t [] zs a) q.names
    ∙ onward (x ∷ q.rest)
    ∙ name_outcome own Γ σ t (remembered own [] ys) x q.rest c never
    ∙ (λ i. Err (fault (q.violation i) (at i) (q.left i)))
