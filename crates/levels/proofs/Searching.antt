-- A search from the end, of labels and of names.
use Rattle.std.proofs.Common.{◌≡◌, ℕ, zero, suc, ◌+◌, ◌-◌, ◌<◌, ◌≤◌, Bool, true, false, cond, eqb, ◌⊎◌, List, [], ◌∷◌, map, length, get_or, drop, is_some, Some, None, Option, sym, refl, ap, ◌∙◌, subst, inl, inr, ⊎_elim, add-zero, suc-add, zero-add, arith, eq-eqb, ne_eqb, le-leb}
use borrow.Author.Tests.{lt-leb}
use Rattle.std.proofs.lemmas.Bool.{cases_lt}
use Rattle.std.proofs.lemmas.List.{drop_more, get_or-map, length-map, map-id, drop-map}
use Rattle.levels.specs.Layout.{on_top}
use Rattle.levels.specs.Search.{newest_of, newest_labelled, is_label, later, Clear, Newest}

-- an option holds something or nothing
pub known : (o : Option ℕ) → (o ≡ None) ⊎ ((k : ℕ) × (o ≡ Some k))
known None = inl refl
known (Some k) = inr (k, refl)

label_is : (o : Option ℕ) (n : ℕ) → o ≡ Some n → is_label o n ≡ true
label_is None n e = cc
label_is (Some m) n e = let q : m ≡ n = cc in eq-eqb m n q

label_not : (o : Option ℕ) (n : ℕ) → (o ≡ Some n → ⊥) → is_label o n ≡ false
label_not None n e = refl
label_not (Some m) n e = ne_eqb m n (λ q. e (ap Some q))

-- where no place from i on has the name, the rest holds none
clear_none : (os : List (Option ℕ)) (n i : ℕ) → Clear None os (Some n) i → newest_labelled (drop i os) n ≡ None
clear_none [] n zero c = refl
clear_none [] n (suc i) c = refl
clear_none (o ∷ os) n zero c =
    ap (λ p. later p (cond (is_label o n) (Some 0) None)) (clear_none os n zero (λ j h l e. c (suc j) (omega arith) (omega arith) e))
    ∙ ap (λ t. cond t (Some 0) None) (label_not o n (c 0 (omega arith) (omega arith)))
clear_none (o ∷ os) n (suc i) c = clear_none os n i (λ j h l e. c (suc j) (omega arith) (omega arith) e)

-- what is found in a rest is found in the whole, so much later
newest_raised : (os : List (Option ℕ)) (i n k : ℕ) → newest_labelled (drop i os) n ≡ Some k → newest_labelled os n ≡ Some (i + k)
newest_raised os zero n k e = e ∙ ap Some (sym (zero-add k))
newest_raised [] (suc i) n k e = cc
newest_raised (o ∷ os) (suc i) n k e =
    ap (λ p. later p (cond (is_label o n) (Some 0) None)) (newest_raised os i n k e) ∙ ap Some (sym (suc-add i k))

-- what it is to be the last place fixes the place
pub newest_is : (os : List (Option ℕ)) (n : ℕ) (r : Option ℕ) → Newest None os (Some n) r → r ≡ newest_labelled os n
newest_is os n None w = sym (clear_none os n 0 w)
newest_is os n (Some i) w =
    sym (newest_raised os i n 0
    (ap (λ ps. newest_labelled ps n) (drop_more os i None w.0)
    ∙ ap (λ p. later p (cond (is_label (get_or os i None) n) (Some 0) None)) (clear_none os n (i + 1) (λ j h. w.2 j (omega arith)))
    ∙ ap (λ b. cond b (Some 0) None) (label_is (get_or os i None) n w.1))
    ∙ ap Some (add-zero i))

-- the first element of a list that has one
first : {A : Type 0} (xs : List A) (i : ℕ) → i < length xs → A
first [] i h = absurd (omega arith)
first (x ∷ xs) i h = x

-- the last place of a name, told of elements and not of their labels
pub newest_told : {A : Type 0} (f : A → Option ℕ) (xs : List A) (n : ℕ) (r : Option ℕ)
    → ((i : ℕ) → r ≡ Some i → i < length xs)
    → ((i : ℕ) (d : A) → r ≡ Some i → f (get_or xs i d) ≡ Some n)
    → ((i j : ℕ) (d : A) → r ≡ Some i → i + 1 ≤ j → j < length xs → f (get_or xs j d) ≡ Some n → ⊥)
    → ((j : ℕ) (d : A) → r ≡ None → j < length xs → f (get_or xs j d) ≡ Some n → ⊥)
    → Newest None (map f xs) (Some n) r
newest_told {A} f xs n None low at after none = λ j h l e.
    let s = length-map xs f in
    let k : j < length xs = omega arith in
    none j (first xs j k) refl k (sym (get_or-map f xs j (first xs j k) None k) ∙ e)
newest_told {A} f xs n (Some i) low at after none =
    let s = length-map xs f in
    let k = low i refl in
    let d : A = first xs i k in
    (omega arith, get_or-map f xs i d None k ∙ at i d refl, λ j h l e. let q : j < length xs = omega arith in after i j d refl (omega arith) q (sym (get_or-map f xs j d None q) ∙ e))

-- where every element has a name: the search, and what it is to be the last place, over the names
module _ {A : Type 0} (f : A → ℕ) where
  pub newest_named : (xs : List A) (n : ℕ) → newest_labelled (map (λ a. Some (f a)) xs) n ≡ newest_of (map f xs) n
  newest_named [] n = refl
  newest_named (x ∷ xs) n = ap (λ p. later p (cond (eqb (f x) n) (Some 0) None)) (newest_named xs n)

  labelled_at : (xs : List A) (j : ℕ) → j < length xs → get_or (map (λ a. Some (f a)) xs) j None ≡ Some (get_or (map f xs) j 0)
  labelled_at [] j h = absurd (omega arith)
  labelled_at (x ∷ xs) zero h = refl
  labelled_at (x ∷ xs) (suc j) h = labelled_at xs j (omega arith)

  module _ (xs : List A) (n : ℕ) where
    clear_to : (i : ℕ) → Clear 0 (map f xs) n i → Clear None (map (λ a. Some (f a)) xs) (Some n) i
    clear_to i c j h l e =
        let s = length-map xs f in
        let t = length-map xs (λ a. Some (f a)) in
        let at = labelled_at xs j (omega arith) in
        let q : get_or (map f xs) j 0 ≡ n = cc in
        c j h (omega arith) q

    clear_from : (i : ℕ) → Clear None (map (λ a. Some (f a)) xs) (Some n) i → Clear 0 (map f xs) n i
    clear_from i c j h l e =
        let s = length-map xs f in
        let t = length-map xs (λ a. Some (f a)) in
        c j h (omega arith) (labelled_at xs j (omega arith) ∙ ap Some e)

    pub law_to : (r : Option ℕ) → Newest 0 (map f xs) n r → Newest None (map (λ a. Some (f a)) xs) (Some n) r
    law_to None w = clear_to 0 w
    law_to (Some i) w =
        let s = length-map xs f in
        let t = length-map xs (λ a. Some (f a)) in
        (omega (arith, w.0), labelled_at xs i (omega (arith, w.0)) ∙ ap Some w.1, clear_to (suc i) w.2)

    pub law_from : (r : Option ℕ) → Newest None (map (λ a. Some (f a)) xs) (Some n) r → Newest 0 (map f xs) n r
    law_from None w = clear_from 0 w
    law_from (Some i) w =
        let s = length-map xs f in
        let t = length-map xs (λ a. Some (f a)) in
        let at = labelled_at xs i (omega (arith, w.0)) in
        let e = w.1 in
        let q : get_or (map f xs) i 0 ≡ n = cc in
        (omega (arith, w.0), q, clear_from (suc i) w.2)

first_low : (b : Bool) (l k : ℕ) → cond b (Some 0) None ≡ Some k → k < suc l
first_low true l k e = let z : 0 ≡ k = cc in omega arith
first_low false l k e = cc

-- a place that is found is within
pub newest_low : (xs : List ℕ) (n k : ℕ) → newest_of xs n ≡ Some k → k < length xs
newest_low [] n k e = cc
newest_low (x ∷ xs) n k e =
    ⊎_elim
    (λ (a : newest_of xs n ≡ None). first_low (eqb x n) (length xs) k (sym (ap (λ o. later o (cond (eqb x n) (Some 0) None)) a) ∙ e))
    (λ (a : (j : ℕ) × (newest_of xs n ≡ Some j)).
    let r = newest_low xs n a.0 a.1 in
    let s = sym (ap (λ o. later o (cond (eqb x n) (Some 0) None)) a.1) ∙ e in
    let q : suc a.0 ≡ k = cc in
    omega arith)
    (known (newest_of xs n))

-- a search of what is left from s on, by the place that a search of all finds
low_first : (b : Bool) (i s : ℕ) → cond b (Some 0) None ≡ Some i → suc s ≤ i → ⊥
low_first true i s e h = let z : 0 ≡ i = cc in omega arith
low_first false i s e h = cc

part_some : (xs : List ℕ) (k s i : ℕ) → newest_of xs k ≡ Some i → s ≤ i → newest_of (drop s xs) k ≡ Some (i - s)
part_some xs k zero i e h = let z : i ≡ i - 0 = omega arith in e ∙ ap Some z
part_some [] k (suc s) i e h = cc
part_some (x ∷ xs) k (suc s) i e h =
    ⊎_elim
    (λ (a : newest_of xs k ≡ None). absurd (low_first (eqb x k) i s (sym (ap (λ o. later o (cond (eqb x k) (Some 0) None)) a) ∙ e) h))
    (λ (a : (j : ℕ) × (newest_of xs k ≡ Some j)).
    let r = sym (ap (λ o. later o (cond (eqb x k) (Some 0) None)) a.1) ∙ e in
    let q : suc a.0 ≡ i = cc in
    let z : a.0 - s ≡ i - suc s = omega arith in
    part_some xs k s a.0 a.1 (omega arith) ∙ ap Some z)
    (known (newest_of xs k))

-- what is found in a rest is found in the whole, so much later
raised_name : (xs : List ℕ) (s k i : ℕ) → newest_of (drop s xs) k ≡ Some i → newest_of xs k ≡ Some (s + i)
raised_name xs s k i e = newest_raised (map Some xs) s k i (ap (λ os. newest_labelled os k) (drop-map Some s xs) ∙ e)

part_none : (xs : List ℕ) (k s : ℕ) → ((i : ℕ) → newest_of xs k ≡ Some i → s ≤ i → ⊥) → newest_of (drop s xs) k ≡ None
part_none xs k s h =
    ⊎_elim
    (λ (a : newest_of (drop s xs) k ≡ None). a)
    (λ (a : (j : ℕ) × (newest_of (drop s xs) k ≡ Some j)). absurd (h (s + a.0) (raised_name xs s k a.0 a.1) (omega arith)))
    (known (newest_of (drop s xs) k))

pub part_is : (xs : List ℕ) (k s : ℕ) (ss : List ℕ) → is_some (newest_of (drop s xs) k) ≡ on_top (s ∷ ss) (newest_of xs k)
part_is xs k s ss =
    ⊎_elim
    (λ (a : newest_of xs k ≡ None).
    ap is_some (part_none xs k s (λ i q l. cc)) ∙ sym (ap (on_top (s ∷ ss)) a))
    (λ (a : (i : ℕ) × (newest_of xs k ≡ Some i)).
    ⊎_elim
    (λ (h : a.0 < s). ap is_some (part_none xs k s (λ j q l. let e = sym q ∙ a.1 in let z : j ≡ a.0 = cc in omega arith)) ∙ sym (lt-leb s a.0 h))
    (λ (h : s ≤ a.0). ap is_some (part_some xs k s a.0 a.1 h) ∙ sym (le-leb s a.0 h))
    (cases_lt a.0 s)
    ∙ sym (ap (on_top (s ∷ ss)) a.1))
    (known (newest_of xs k))

-- a place of a list of names that is as the last place is to be is the place that the search finds
pub names_is : (xs : List ℕ) (n : ℕ) (r : Option ℕ) → Newest 0 xs n r → r ≡ newest_of xs n
names_is xs n r w =
    let P : List ℕ → Type 0 = λ ys. Newest 0 ys n r in
    newest_is (map Some xs) n r (law_to (λ x. x) xs n r (subst P (sym (map-id xs)) w))
