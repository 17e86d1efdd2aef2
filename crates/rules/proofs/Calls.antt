-- Signatures that agree on the names called give the same walk.
use Rattle.std.proofs.Common.{◌≡◌, ℕ, Bool as Truth, true, false, cond, eqb, List, [], ◌∷◌, map, reverse, length, take, drop, Ok, refl, ap, ◌∙◌}
use Rattle.syntax.specs.declared.frame.Frame.{Frame}
use Rattle.syntax.specs.declared.frame.«Type».{«Type» as Ty}
use Rattle.syntax.specs.Writing.{Token}
use Rattle.rules.specs.Heads.{Signature}
use Rattle.rules.specs.Faults.{◌>>=◌, need, placed}
use Rattle.rules.specs.Judge.{judge_arguments}
use Rattle.rules.specs.Tokens.{token}
use Rattle.rules.specs.Walk.{State, given, move, step, walk, start, returned}
use Rattle.rules.specs.Calls.{calls, Agree, CallsDecide}
use Rattle.rules.proofs.Results.{bind_cong}
use Rattle.rules.specs.declared.violation.Violation.TheVariants.{NoFunction}

module _ (S S' : Signature) (r : Ty) where
  -- a token does the same under both
  record Same (s : State) (m : Token) : Type 0 where
    moves : move S r m s ≡ move S' r m s

  -- a token found by tests is one of two
  either : (s : State) (b : Truth) (m n : Token) → (b ≡ true → Same s m) → Same s n → Same s (cond b m n)
  either s true m n h k = h refl
  either s false m n h k = k

  frame_same : (f : Frame) (s : State) → (eqb f.kind 0x26 ≡ true → S f.name ≡ S' f.name) → Same s (token f)
  frame_same f s h =
      either s (eqb f.kind 0x01) _ _ (λ _. record { moves = refl })
      (either s (eqb f.kind 0x02) _ _ (λ _. record { moves = refl })
      (either s (eqb f.kind 0x10) _ _ (λ _. record { moves = refl })
      (either s (eqb f.kind 0x11) _ _ (λ _. record { moves = refl })
      (either s (eqb f.kind 0x12) _ _ (λ _. record { moves = refl })
      (either s (eqb f.kind 0x13) _ _ (λ _. record { moves = refl })
      (either s (eqb f.kind 0x14) _ _ (λ _. record { moves = refl })
      (either s (eqb f.kind 0x15) _ _ (λ _. record { moves = refl })
      (either s (eqb f.kind 0x16) _ _ (λ _. record { moves = refl })
      (either s (eqb f.kind 0x17) _ _ (λ _. record { moves = refl })
      (either s (eqb f.kind 0x18) _ _ (λ _. record { moves = refl })
      (either s (eqb f.kind 0x19) _ _ (λ _. record { moves = refl })
      (either s (eqb f.kind 0x20) _ _ (λ _. record { moves = refl })
      (either s (eqb f.kind 0x21) _ _ (λ _. record { moves = refl })
      (either s (eqb f.kind 0x22) _ _ (λ _. record { moves = refl })
      (either s (eqb f.kind 0x23) _ _ (λ _. record { moves = refl })
      (either s (eqb f.kind 0x24) _ _ (λ _. record { moves = refl })
      (either s (eqb f.kind 0x25) _ _ (λ _. record { moves = refl })
      (either s (eqb f.kind 0x26) _ _ (λ e. record { moves = ap (λ o. need NoFunction o >>= judge_arguments (reverse (take f.load s.operands)) >>= λ t. Ok (given s (drop f.load s.operands) t)) (h e) })
      (either s (eqb f.kind 0x27) _ _ (λ _. record { moves = refl })
      (either s (eqb f.kind 0x28) _ _ (λ _. record { moves = refl })
      (either s (eqb f.kind 0x29) _ _ (λ _. record { moves = refl })
      (either s (eqb f.kind 0x2A) _ _ (λ _. record { moves = refl })
      (either s (eqb f.kind 0x30) _ _ (λ _. record { moves = refl })
      (either s (eqb f.kind 0x31) _ _ (λ _. record { moves = refl })
      (either s (eqb f.kind 0x32) _ _ (λ _. record { moves = refl })
      (either s (eqb f.kind 0x33) _ _ (λ _. record { moves = refl })
      (either s (eqb f.kind 0x34) _ _ (λ _. record { moves = refl })
      (either s (eqb f.kind 0x35) _ _ (λ _. record { moves = refl })
      (either s (eqb f.kind 0x36) _ _ (λ _. record { moves = refl })
      (either s (eqb f.kind 0x37) _ _ (λ _. record { moves = refl })
      (either s (eqb f.kind 0x38) _ _ (λ _. record { moves = refl })
      (either s (eqb f.kind 0x39) _ _ (λ _. record { moves = refl })
      (either s (eqb f.kind 0x3A) _ _ (λ _. record { moves = refl })
      (either s (eqb f.kind 0x3B) _ _ (λ _. record { moves = refl })
      (either s (eqb f.kind 0x3C) _ _ (λ _. record { moves = refl }) (record { moves = refl }))))))))))))))))))))))))))))))))))))

  agree_one : (b : Truth) (x : ℕ) (xs : List ℕ) → Agree S S' (cond b (x ∷ xs) xs) → (b ≡ true → S x ≡ S' x) × Agree S S' xs
  agree_one true x xs h = ((λ _. h.0), h.1)
  agree_one false x xs h = ((λ e. cc), h)

  walk_same : (fs : List Frame) (s : State) → Agree S S' (calls fs) → walk S r (map token fs) s ≡ walk S' r (map token fs) s
  walk_same [] s h = refl
  walk_same (f ∷ fs) s h =
      let k = agree_one (eqb f.kind 0x26) f.name (calls fs) h in
      ap (λ m. placed (length s.column) s.levels m >>= λ t. walk S r (map token fs) t) (frame_same f s k.0).moves
      ∙ bind_cong (step S' r (token f) s) (λ t. walk_same fs t k.1)

pub calls_decide : CallsDecide
calls_decide S S' fs h = ap (λ m. m >>= λ s. Ok (reverse s.column, s.levels)) (walk_same S S' (returned fs) fs start h)
