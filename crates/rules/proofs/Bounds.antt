-- The walk of a sheet stays within 33 levels and 256 names.
use Rattle.std.proofs.Common.{◌≡◌, ℕ, zero, suc, ◌+◌, ◌≤◌, List, [], ◌∷◌, map, length, take, Ok, Err, Result, sym, ap, ◌∙◌, arith}
use Rattle.std.proofs.lemmas.List.{take-map, length-map}
use Rattle.syntax.specs.declared.frame.«Type».{«Type» as Ty}
use Rattle.syntax.specs.Writing.{Token, frame_of, write_definition, written}
use Rattle.levels.specs.Store.{standing}
use Rattle.rules.specs.declared.violation.Violation.{Violation}
use Rattle.rules.specs.Heads.{Signature}
use Rattle.rules.specs.Faults.{◌>>=◌, placed}
use Rattle.rules.specs.Tokens.{token}
use Rattle.rules.specs.Walk.{State, move, walk, start, returned}
use Rattle.rules.specs.Bounds.{levels_left, WithinBounds}
use Rattle.rules.proofs.Moves.{Passes, Grown, move_grown}
use Rattle.rules.proofs.Deep.{along_definition}
use Rattle.rules.proofs.Decoded.{tokens_written}
use Rattle.rules.proofs.Decided.{sheet_definition}

-- each frame adds at most one name
names_along : (S : Signature) (r : Ty) (ms : List Token) (s : State) (n : ℕ) → standing (levels_left (walk S r (take n ms) s)) ≤ standing s.levels + length ms
names_along S r ms s zero = omega arith
names_along S r [] s (suc n) = omega arith
names_along S r (m ∷ ms) s (suc n) = go (move S r m s) (move_grown S r m s) (λ t. names_along S r ms t n)
  where
    go : (o : Result State Violation) → Passes (Grown s) o → ((t : State) → standing (levels_left (walk S r (take n ms) t)) ≤ standing t.levels + length ms)
        → standing (levels_left (placed (length s.column) s.levels o >>= λ t. walk S r (take n ms) t)) ≤ standing s.levels + suc (length ms)
    go (Ok t) g ih = omega (arith, ih t, g.names_more)
    go (Err v) g ih = omega arith

pub within_bounds : WithinBounds
unfolding written
within_bounds S fs h n =
    let w = sheet_definition fs h in
    let d = w.0 in
    let e : map token fs ≡ write_definition d [] = ap (map token) (sym w.2) ∙ tokens_written d in
    let front : map token (take n fs) ≡ take n (write_definition d []) = sym (take-map token n fs) ∙ ap (take n) e in
    let deep = along_definition S (returned fs) 33 d (omega (arith, w.1.unfinished)) n in
    let names = names_along S (returned fs) (write_definition d []) start n in
    let long : length (write_definition d []) ≤ 256 = omega (arith, w.1.frames, length-map (write_definition d []) frame_of) in (
      rw front deep,
      rw front (omega (arith, names, long)),
    )
