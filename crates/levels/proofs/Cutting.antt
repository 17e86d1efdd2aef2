-- The levels that are cut out of a list of entries.
use Rattle.std.proofs.Common.{◌≡◌, ℕ, suc, ◌+◌, ◌-◌, ◌<◌, ◌≤◌, min, true, List, [], ◌∷◌, ◌++◌, map, reverse, length, take, drop, set, is_some, sym, refl, ap, ◌∙◌, arith, eqb-true}
use Rattle.std.proofs.lemmas.List.{drop_all, length-take, length-drop, length-reverse, reverse-append, take-append-drop, take-take, take-set-le, take_more_set, drop-append-le, take-map, drop-map}
use Rattle.levels.specs.declared.entry.Entry.{Entry}
use Rattle.levels.specs.Store.{find, looked, stands, standing, or_else}
use Rattle.levels.specs.Search.{newest_of}
use Rattle.levels.specs.Entries.{pair, names}
use Rattle.levels.specs.Starts.{ordered}
use Rattle.levels.specs.Layout.{cut, on_top}
use Rattle.levels.proofs.Starting.{ordered_top, ordered_rest}
use Rattle.levels.proofs.Searching.{part_is}
use Rattle.levels.proofs.Finding.{find_append, find_is}

module _ {V : Type 0} where
  pub length_cut : (ss : List ℕ) (n : ℕ) (es : List (ℕ × V)) → length (cut ss n es) ≡ length ss
  length_cut [] n es = refl
  length_cut (s ∷ ss) n es = ap suc (length_cut ss s es)

  -- a level that starts at the count is empty
  pub cut_opened : (ss : List ℕ) (n : ℕ) (es : List (ℕ × V)) → cut (n ∷ ss) n es ≡ [] ∷ cut ss n es
  cut_opened ss n es =
      let h : length (take n es) ≤ n = simp length-take (omega arith) in
      ap (λ l. reverse l ∷ cut ss n es) (drop_all n (take n es) h)

  pub standing_cut : (ss : List ℕ) (n : ℕ) (es : List (ℕ × V)) → ordered ss n ≡ true → standing (cut ss n es) ≡ min n (length es)
  standing_cut [] n es ok = let z : n ≡ 0 = eqb-true n 0 ok in omega arith
  standing_cut (s ∷ ss) n es ok =
      let h = ordered_top s n ss ok in
      let r = standing_cut ss s es (ordered_rest s n ss ok) in
      let l : length (reverse (drop s (take n es))) ≡ min n (length es) - s = length-reverse _ ∙ length-drop s (take n es) ∙ ap (λ k. k - s) (length-take n es) in
      omega arith

  -- entries past the count do not matter
  cut_past : (ss : List ℕ) (n i : ℕ) (es : List (ℕ × V)) (x : ℕ × V) → ordered ss n ≡ true → n ≤ i → cut ss n (set es i x) ≡ cut ss n es
  cut_past [] n i es x ok h = refl
  cut_past (s ∷ ss) n i es x ok h =
      let k = ordered_top s n ss ok in
      let r = cut_past ss s i es x (ordered_rest s n ss ok) (omega arith) in
      ap (λ l. reverse (drop s l) ∷ cut ss s (set es i x)) (take-set-le n es i x h) ∙ ap (λ t. reverse (drop s (take n es)) ∷ t) r

  pub cut_claimed : (s : ℕ) (ss : List ℕ) (n : ℕ) (es : List (ℕ × V)) (x : ℕ × V) → ordered (s ∷ ss) n ≡ true → n < length es → cut (s ∷ ss) (n + 1) (set es n x) ≡ (x ∷ reverse (drop s (take n es))) ∷ cut ss s es
  cut_claimed s ss n es x ok h =
      let k = ordered_top s n ss ok in
      let w : s ≤ length (take n es) = simp length-take (omega arith) in
      let l : reverse (drop s (take (n + 1) (set es n x))) ≡ x ∷ reverse (drop s (take n es)) =
      ap (λ t. reverse (drop s t)) (take_more_set es n x h) ∙ ap reverse (drop-append-le s (take n es) (x ∷ []) w) ∙ reverse-append (drop s (take n es)) (x ∷ []) in
      ap (λ t. t ∷ cut ss s (set es n x)) l ∙ ap (λ t. (x ∷ reverse (drop s (take n es))) ∷ t) (cut_past ss s n es x (ordered_rest s n ss ok) k)

  -- a look through all levels is a search of all entries
  pub looked_cut : (ss : List ℕ) (n : ℕ) (es : List (ℕ × V)) (k : ℕ) → ordered ss n ≡ true → looked (cut ss n es) k ≡ find (reverse (take n es)) k
  looked_cut [] n es k ok = let z : n ≡ 0 = eqb-true n 0 ok in sym (ap (λ m. find (reverse (take m es)) k) z)
  looked_cut (s ∷ ss) n es k ok =
      let h = ordered_top s n ss ok in
      let parts : reverse (take n es) ≡ reverse (drop s (take n es)) ++ reverse (take s es) =
      sym (ap reverse (take-append-drop s (take n es))) ∙ reverse-append (take s (take n es)) (drop s (take n es))
      ∙ ap (λ t. reverse (drop s (take n es)) ++ reverse t) (take-take s n es h) in
      ap (or_else (find (reverse (drop s (take n es))) k)) (looked_cut ss s es k (ordered_rest s n ss ok))
      ∙ sym (find_append (reverse (drop s (take n es))) (reverse (take s es)) k)
      ∙ sym (ap (λ t. find t k) parts)

  -- the top level has a name whose newest place is on it
  pub stands_cut : (ss : List ℕ) (n : ℕ) (es : List (Entry V)) (k : ℕ) → stands (cut ss n (map pair es)) k ≡ on_top ss (newest_of (names (take n es)) k)
  stands_cut [] n es k = refl
  stands_cut (s ∷ ss) n es k =
      ap (λ l. is_some (find (reverse l) k)) (ap (drop s) (take-map pair n es) ∙ drop-map pair s (take n es))
      ∙ find_is (drop s (take n es)) k
      ∙ ap (λ l. is_some (newest_of l k)) (sym (drop-map (λ e. e.name) s (take n es)))
      ∙ part_is (names (take n es)) k s ss
