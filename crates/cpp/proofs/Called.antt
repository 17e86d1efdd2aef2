-- The names that frames call are those of the frames of the call's kind.
use Rattle.std.proofs.Common.{◌≡◌, ℕ, zero, suc, ◌<◌, Bool, true, false, cond, eqb, ◌⊎◌, ◌↔◌, List, [], ◌∷◌, length, get_or, sym, refl, inl, inr, arith}
use Rattle.std.proofs.lemmas.Bool.{eqb-true, eqb-false}
use Rattle.syntax.specs.declared.frame.Frame.{Frame}
use Rattle.syntax.specs.Writing.{blank}
use Rattle.rules.specs.Calls.{calls}
use Rattle.history.specs.Words.{Among}
use Rattle.cpp.specs.Kinds.{Called, CallsTied}

-- one frame more in front
called_later : (n : ℕ) (f : Frame) (fs : List Frame) → Called n fs → Called n (f ∷ fs)
called_later n f fs c = (suc c.0, omega (arith, c.1), c.2, c.3)

-- by the first frame, or by a later one
called_first : (n : ℕ) (f : Frame) (fs : List Frame) → Called n (f ∷ fs) → ((f.kind ≡ 0x26) × (f.name ≡ n)) ⊎ Called n fs
called_first n f fs c = at c.0 c.1 c.2 c.3
  where
    at : (i : ℕ) → i < length (f ∷ fs) → (get_or (f ∷ fs) i blank).kind ≡ 0x26 → (get_or (f ∷ fs) i blank).name ≡ n → ((f.kind ≡ 0x26) × (f.name ≡ n)) ⊎ Called n fs
    at zero l k e = inl (k, e)
    at (suc i) l k e = inr (i, omega arith, k, e)

-- one frame more, of the call's kind or not
calls_next : (n : ℕ) (f : Frame) (fs : List Frame) (b : Bool) → eqb f.kind 0x26 ≡ b → Among n (calls fs) ↔ Called n fs → Among n (cond b (f.name ∷ calls fs) (calls fs)) ↔ Called n (f ∷ fs)
calls_next n f fs true i ih = (
  (λ a. elim a [ inl e ↦ (0, omega arith, eqb-true f.kind 0x26 i, sym e) | inr h ↦ called_later n f fs (ih.0 h) ]),
  (λ c. elim (called_first n f fs c) [ inl h ↦ inl (sym h.1) | inr h ↦ inr (ih.1 h) ]),
)
calls_next n f fs false i ih = (
  (λ a. called_later n f fs (ih.0 a)),
  (λ c. elim (called_first n f fs c) [ inl h ↦ absurd (eqb-false f.kind 0x26 i h.0) | inr h ↦ ih.1 h ]),
)

-- of all frames
pub calls_tied : CallsTied
calls_tied [] n = ((λ a. absurd a), (λ c. absurd (omega (arith, c.1))))
calls_tied (f ∷ fs) n = calls_next n f fs (eqb f.kind 0x26) refl (calls_tied fs n)
