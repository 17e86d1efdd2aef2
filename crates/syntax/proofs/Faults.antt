-- A fault is told by its number and place.
use Rattle.std.proofs.Common.{◌≡◌, ℕ, cond, ◌==◌, sym, refl, ap₂, ◌∙◌}
use Rattle.syntax.specs.declared.fault.Fault.{Fault}
use Rattle.syntax.specs.declared.fault.Fault.TheVariants.{BadLine, FramesFull, TextShort, TooLong, UnknownKind, BadField, NotAllowed, TooDeep, NoEnd, AfterEnd}
use Rattle.syntax.specs.Faults.{number, place}

-- the fault with that number and place
abbrev told : ℕ → ℕ → Fault
told n k =
    cond (n == 11) (BadLine k)
    (cond (n == 12) (FramesFull k)
    (cond (n == 13) TextShort
    (cond (n == 20) TooLong
    (cond (n == 21) (UnknownKind k)
    (cond (n == 22) (BadField k)
    (cond (n == 23) (NotAllowed k)
    (cond (n == 24) (TooDeep k)
    (cond (n == 25) (NoEnd k)
    (AfterEnd k)))))))))

told_is : (e : Fault) → told (number e) (place e) ≡ e
told_is (BadLine k) = refl
told_is (FramesFull k) = refl
told_is TextShort = refl
told_is TooLong = refl
told_is (UnknownKind k) = refl
told_is (BadField k) = refl
told_is (NotAllowed k) = refl
told_is (TooDeep k) = refl
told_is (NoEnd k) = refl
told_is (AfterEnd k) = refl

pub same_fault : (d e : Fault) → number d ≡ number e → place d ≡ place e → d ≡ e
same_fault d e n p = sym (told_is d) ∙ ap₂ told n p ∙ told_is e
