-- What a verdict tells of the walk.
use Rattle.std.proofs.Common.{◌≡◌, ℕ, List, Ok, Err, Result, sym, refl, ap, ◌∙◌}
use Rattle.rules.specs.declared.violation.Violation.{Violation}
use Rattle.rules.specs.Heads.{Levels}
use Rattle.rules.specs.Faults.{Fault, fault, number}
use Rattle.rules.specs.Typed.{column_left}
use Rattle.history.specs.Language.{Verdict.good, Verdict.bad, zeros, column_of}
use Rattle.cpp.specs.Judge.{verdict}

-- its part of the column is what the walk leaves
pub verdict_column : (r : Result (List ℕ × Levels) Fault) → column_of (verdict r) ≡ column_left r
unfolding column_left zeros
verdict_column (Ok a) = refl
verdict_column (Err (fault v p Γ)) = refl

-- a good one is of a walk without a fault
pub good_walk : (r : Result (List ℕ × Levels) Fault) (c : List ℕ) → verdict r ≡ good c → (k : List ℕ) × (Γ : Levels) × (r ≡ Ok (k, Γ))
good_walk (Ok a) c e = (a.0, a.1, refl)
good_walk (Err (fault v p Γ)) c e = cc

-- and has its column
pub good_column : (r : Result (List ℕ × Levels) Fault) (c : List ℕ) → verdict r ≡ good c → column_left r ≡ c
good_column r c e = sym (verdict_column r) ∙ ap column_of e

-- a bad one is of its fault
pub bad_walk : (r : Result (List ℕ × Levels) Fault) (l n p : ℕ) → verdict r ≡ bad l n p → (4 ≡ l) × ((v : Violation) × (Γ : Levels) × (number v ≡ n) × (r ≡ Err (fault v p Γ)))
bad_walk (Ok a) l n p e = cc
bad_walk (Err (fault v q Γ)) l n p e =
    let i : number v ≡ n = cc in
    let j : q ≡ p = cc in
    let k : 4 ≡ l = cc in
    (k, (v, Γ, i, ap (λ q. Err (fault v q Γ)) j))
