-- What was read of known bytes.
use Rattle.std.proofs.Common.{◌≡◌, ℕ, ◌+◌, ◌≤◌, List, ◌++◌, length, take, drop, Some, None, Option, Result, Ok, Err, IfOk, IfSome, sym, ap, subst, ◌∙◌, append_assoc, drop_at}
use Rattle.std.proofs.lemmas.List.{take-append-le, take-take}
use Rattle.std.proofs.Math.Seq.{take-add}
use Rattle.std.specs.Io.{ReadsAtMost}
use Rattle.std.specs.Io.KnownBytes.{Consumes}

-- what was read into a part stands after the front
pub read_in_place : {E : Type 0} (a b : Option (List ℕ)) (r : Result ℕ E) (front part rest : List ℕ) (at : ℕ) → length front ≡ at → ReadsAtMost r part
    → IfOk r (λ n. Consumes a b (take n part)) → IfOk r (λ n. Consumes a b (take n (drop at (front ++ (part ++ rest)))))
read_in_place a b (Ok n) front part rest at long fits read =
    subst (Consumes a b) (sym (ap (take n) (drop_at front (part ++ rest) at long) ∙ take-append-le n part rest fits.0)) read
read_in_place a b (Err e) front part rest at long fits read = tt

-- the front as before, and n bytes more
pub read_more : (a b c : Option (List ℕ)) (xs ys : List ℕ) (f n : ℕ) → take f ys ≡ take f xs → Consumes a b (take f xs) → Consumes b c (take n (drop f ys)) → Consumes a c (take (f + n) ys)
read_more None b c xs ys f n e p q = tt
read_more (Some x) None c xs ys f n e p q = absurd p
read_more (Some x) (Some y) None xs ys f n e p q = absurd q
read_more (Some x) (Some y) (Some z) xs ys f n e p q =
    p ∙ ap (λ l. take f xs ++ l) q ∙ sym (append_assoc (take f xs) (take n (drop f ys)) z)
    ∙ ap (λ l. l ++ z) (ap (λ l. l ++ take n (drop f ys)) (sym e) ∙ sym (take-add f n ys))

-- the bytes that stay of the buffer are those that were read
pub read_kept : (o : Option (List ℕ)) (front rest bytes : List ℕ) (n long room most : ℕ) → IfSome o (λ xs. take n front ≡ take room xs)
    → bytes ≡ take n (take long (front ++ rest)) → n ≤ length front → n ≤ long → room ≡ most → IfSome o (λ xs. bytes ≡ take most xs)
read_kept None front rest bytes n long room most h e v w r = tt
read_kept (Some xs) front rest bytes n long room most h e v w r =
    e ∙ take-take n long (front ++ rest) w ∙ take-append-le n front rest v ∙ h ∙ ap (λ k. take k xs) r
