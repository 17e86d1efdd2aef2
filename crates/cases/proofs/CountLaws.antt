-- The count of the calls that answered true, call by call.
use Rattle.std.proofs.Common.{◌≡◌, ℕ, suc, ◌+◌, ◌<◌, Bool, true, false, cond, List, length, get_or, drop, Ok, Err, Result, IfErr, sym, refl, subst, ap, inl, inr, add-one, arith}
use Rattle.std.proofs.Math.Seq.{drop-cons}
use Rattle.std.proofs.lemmas.List.{drop_all}
use Rattle.cases.specs.Agreed.{Agreed, Stopped}

module _ {F X E : Type 0} (step : F → X → Result Bool E → F → Type 0) (first f : F) (xs : List X) (i n : ℕ)
    (held : (m : ℕ) (last : F) → Agreed step f (drop i xs) m last → Agreed step first xs (n + m) last) where
  module _ (f' : F) (d : X) (in' : i < length xs) where
    -- a call at the item at i, and then those at the others
    next : (t : Bool) → step f (get_or xs i d) (Ok t) f' → (m : ℕ) (last : F) → Agreed step f' (drop (i + 1) xs) m last → Agreed step first xs (n + cond t (m + 1) m) last
    next t s m last h =
        let others : drop (i + 1) xs ≡ drop (suc i) xs = ap (λ j. drop j xs) (add-one i) in
        held (cond t (m + 1) m) last
        (subst (λ ys. Agreed step f ys (cond t (m + 1) m) last) (sym (drop-cons xs i d in'))
        (t, f', s, m, refl, subst (λ ys. Agreed step f' ys m last) others h))

    -- it agreed, and is counted
    pub agreed_next : (t : Bool) (k : ℕ) → t ≡ true → k ≡ n + 1 → step f (get_or xs i d) (Ok t) f' → (m : ℕ) (last : F) → Agreed step f' (drop (i + 1) xs) m last → Agreed step first xs (k + m) last
    agreed_next t k is count s m last h =
        let sum : n + cond true (m + 1) m ≡ k + m = omega arith in
        subst (λ j. Agreed step first xs j last) sum (next true (subst (λ t. step f (get_or xs i d) (Ok t) f') is s) m last h)

    -- it differed
    pub differed_next : (t : Bool) (k : ℕ) → t ≡ false → k ≡ n → step f (get_or xs i d) (Ok t) f' → (m : ℕ) (last : F) → Agreed step f' (drop (i + 1) xs) m last → Agreed step first xs (k + m) last
    differed_next t k is count s m last h =
        let sum : n + cond false (m + 1) m ≡ k + m = omega arith in
        subst (λ j. Agreed step first xs j last) sum (next false (subst (λ t. step f (get_or xs i d) (Ok t) f') is s) m last h)

  -- no item is left
  pub all_called : i ≡ length xs → Agreed step first xs n f
  all_called e =
      let none = drop_all i xs (omega arith) in
      let sum : n + 0 ≡ n = omega arith in
      subst (λ j. Agreed step first xs j f) sum (held 0 f (subst (λ ys. Agreed step f ys 0 f) (sym none) (refl, refl)))

-- where the calls stopped at the items from i on, they stopped
module _ {F X E : Type 0} (step : F → X → Result Bool E → F → Type 0) (first f : F) (xs : List X) (i : ℕ) (e : E)
    (held : Stopped step f (drop i xs) e → Stopped step first xs e) (f' : F) (d : X) (in' : i < length xs) where
  -- with the error of the call at the item at i
  pub failed_there : step f (get_or xs i d) (Err e) f' → Stopped step first xs e
  failed_there s = held (subst (λ ys. Stopped step f ys e) (sym (drop-cons xs i d in')) (f', inl s))

  -- after a call there that differed
  pub differed_there : (t : Bool) → t ≡ false → step f (get_or xs i d) (Ok t) f' → Stopped step first xs e
  differed_there t is s = held (subst (λ ys. Stopped step f ys e) (sym (drop-cons xs i d in')) (f', inr (inl (subst (λ t. step f (get_or xs i d) (Ok t) f') is s))))

  -- after it
  pub stopped_after : (t : Bool) → step f (get_or xs i d) (Ok t) f' → Stopped step f' (drop (i + 1) xs) e → Stopped step first xs e
  stopped_after t s h =
      let others : drop (i + 1) xs ≡ drop (suc i) xs = ap (λ j. drop j xs) (add-one i) in
      held (subst (λ ys. Stopped step f ys e) (sym (drop-cons xs i d in')) (f', inr (inr (t, s, subst (λ ys. Stopped step f' ys e) others h))))

-- an error that is handed on is that of the result
pub handed_on : {A F X E : Type 0} (step : F → X → Result Bool E → F → Type 0) (first : F) (xs : List X) (r : Result A E) (e : E) → r ≡ Err e → Stopped step first xs e → IfErr r (λ e. Stopped step first xs e)
handed_on step first xs r e is s = subst (λ r. IfErr r (λ e. Stopped step first xs e)) (sym is) s
