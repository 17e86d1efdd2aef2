-- A walk leaves 256 numbers in a sheet's column.
use Rattle.std.proofs.Common.{◌≡◌, ℕ, ◌+◌, ◌-◌, ◌≤◌, List, length, replicate, Ok, Err, Result, refl, ap, ◌∙◌, arith}
use Rattle.std.proofs.lemmas.List.{length-append, length-replicate}
use Rattle.rules.specs.Heads.{Levels}
use Rattle.rules.specs.Faults.{Fault}
use Rattle.rules.specs.Walk.{walk_sheet}
use Rattle.rules.specs.Typed.{column_left, ColumnWide}
use Rattle.rules.proofs.Decided.{sheet_definition, derived_walk}
use Rattle.rules.proofs.Long.{column_long}

padded_wide : (c : List ℕ) (n : ℕ) → n ≡ 256 → length c ≤ n → length c + (n - length c) ≡ 256
padded_wide c n e h = omega arith

left_wide : (m : Result (List ℕ × Levels) Fault) → ((c : List ℕ) (Γ : Levels) → m ≡ Ok (c, Γ) → length c ≤ 256) → length (column_left m) ≡ 256
unfolding column_left
left_wide (Ok a) h =
    length-append a.0 (replicate (256 - length a.0) 0)
    ∙ ap (λ k. length a.0 + k) (length-replicate {A = ℕ} (256 - length a.0) 0)
    ∙ padded_wide a.0 256 refl (h a.0 a.1 refl)
left_wide (Err x) h = length-replicate {A = ℕ} 256 0

pub column_wide : ColumnWide
column_wide S fs h =
    let w = sheet_definition fs h in
    left_wide (walk_sheet S fs) (λ c Γ e.
    let q = derived_walk S w.0 c Γ (ap (walk_sheet S) w.2 ∙ e) in
    omega (arith, ap length q.1, column_long S w.0 q.0, w.1.frames))
