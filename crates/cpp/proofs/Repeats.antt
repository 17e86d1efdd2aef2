-- There is no first repeat exactly where no name stands twice.
use Rattle.std.proofs.Common.{◌≡◌, ℕ, suc, Bool, true, false, cond, eqb, ◌↔◌, List, [], ◌∷◌, Some, None, refl, ◌∙◌}
use Rattle.std.proofs.lemmas.Bool.{or_parts, or_from}
use Rattle.rules.specs.Sequences.{NotIn, Distinct}
use Rattle.rules.specs.Programs.{param_names}
use Rattle.rules.specs.Books.{sheet_params}
use Rattle.history.specs.Words.{any_of}
use Rattle.cpp.specs.Sheet.{Sheet}
use Rattle.cpp.specs.Heads.{first_repeat, repeated_in}

-- each of the names is none of those before
abbrev Outside : List ℕ → List ℕ → Type 0
Outside seen [] = Unit {0}
Outside seen (x ∷ xs) = (any_of (λ y. eqb y x) seen ≡ false) × Outside seen xs

-- none of the names is x nor one before it
outside_more : (x : ℕ) (seen xs : List ℕ) → Outside (x ∷ seen) xs → NotIn x xs × Outside seen xs
unfolding any_of
outside_more x seen [] h = (tt, tt)
outside_more x seen (y ∷ ys) h =
    let p = or_parts (eqb x y) (any_of (λ z. eqb z y) seen) h.0 in
    let q = outside_more x seen ys h.1 in
    ((p.0, q.0), (p.1, q.1))

-- without a repeat each name stands once and not before
no_repeat : (p : ℕ) (seen xs : List ℕ) → first_repeat p seen xs ≡ None → Distinct xs × Outside seen xs
unfolding first_repeat
no_repeat p seen [] e = (tt, tt)
no_repeat p seen (x ∷ xs) e = go (any_of (λ y. eqb y x) seen) refl e (λ k. no_repeat (suc p) (x ∷ seen) xs k)
  where
    go : (b : Bool) → any_of (λ y. eqb y x) seen ≡ b → cond b (Some p) (first_repeat (suc p) (x ∷ seen) xs) ≡ None →
        (first_repeat (suc p) (x ∷ seen) xs ≡ None → Distinct xs × Outside (x ∷ seen) xs) → Distinct (x ∷ xs) × Outside seen (x ∷ xs)
    go true i h ih = cc
    go false i h ih =
        let r = ih h in
        let q = outside_more x seen xs r.1 in
        ((q.0, r.0), (i, q.1))

-- the other way round
outside_from : (x : ℕ) (seen xs : List ℕ) → NotIn x xs → Outside seen xs → Outside (x ∷ seen) xs
unfolding any_of
outside_from x seen [] h k = tt
outside_from x seen (y ∷ ys) h k = (or_from (eqb x y) (any_of (λ z. eqb z y) seen) h.0 k.0, outside_from x seen ys h.1 k.1)

-- where nothing stands before
outside_none : (xs : List ℕ) → Outside [] xs
unfolding any_of
outside_none [] = tt
outside_none (x ∷ xs) = (refl, outside_none xs)

-- names that stand once and not before have no repeat
repeat_none : (p : ℕ) (seen xs : List ℕ) → Distinct xs → Outside seen xs → first_repeat p seen xs ≡ None
unfolding first_repeat
repeat_none p seen [] d o = refl
repeat_none p seen (x ∷ xs) d o =
    rw o.0 refl
    ∙ repeat_none (suc p) (x ∷ seen) xs d.1 (outside_from x seen xs d.0 o.1)

-- of any names
pub repeat_distinct : (ns : List ℕ) → (first_repeat 1 [] ns ≡ None) ↔ Distinct ns
repeat_distinct ns = ((λ e. (no_repeat 1 [] ns e).0), (λ d. repeat_none 1 [] ns d (outside_none ns)))

-- so a sheet without a repeat has no parameter twice
pub params_distinct : (s : Sheet) → repeated_in s ≡ None → Distinct (param_names (sheet_params s.frames))
unfolding repeated_in
params_distinct s e = (repeat_distinct (param_names (sheet_params s.frames))).0 e
