-- What the calls on a level table do to the store that its layout and the entries make.
use Rattle.std.proofs.Common.{◌≡◌, ℕ, ◌<◌, ◌≤◌, min, Bool, true, cond, ltb, List, [], ◌∷◌, map, reverse, length, take, Some, None, Option, Result, sym, refl, ap, ◌∙◌, ⊎_elim, arith, le-ltb}
use Rattle.std.proofs.lemmas.Bool.{cases_lt}
use Rattle.std.proofs.lemmas.List.{length-map, length-take, take-map}
use Rattle.levels.specs.declared.entry.Entry.{Entry}
use Rattle.levels.specs.declared.refusal.Refusal.{Refusal}
use Rattle.levels.specs.declared.refusal.Refusal.TheVariants.{TooDeep, Repeated, Full}
use Rattle.levels.specs.Refusals.{too_deep, no_place, unless, answer}
use Rattle.levels.specs.Store.{Store, enter_refused, declare_refused, entered, with_levels, looked, stands, find, table}
use Rattle.levels.specs.Search.{newest_of}
use Rattle.levels.specs.Entries.{pair, names, value_at}
use Rattle.levels.specs.Starts.{ordered}
use Rattle.levels.specs.Layout.{Layout, no_levels, opened, closed, without_top, top_of, on_top, cut, store_of}
use Rattle.levels.proofs.Refusing.{unless_through}
use Rattle.levels.proofs.Tabling.{looked_tables, stands_tables, standing_tables}
use Rattle.levels.proofs.Starting.{ordered_top}
use Rattle.levels.proofs.Reading.{value_nth_take}
use Rattle.levels.proofs.Searching.{newest_low}
use Rattle.levels.proofs.Finding.{find_newest}
use Rattle.levels.proofs.Cutting.{length_cut, cut_opened, standing_cut, looked_cut, stands_cut}

-- a store over the first entries of those that were lent, with no level yet
pub store_new : {V : Type 0} (y : Layout) (lent es : List (Entry V)) → y ≡ no_levels → es ≡ take 256 lent → store_of y es ≡ record { capacity = min 256 (length lent); levels = [] }
store_new y lent es e h =
    ap (λ y. store_of y es) e ∙ ap (λ n. record { capacity = n; levels = [] }) (ap length h ∙ length-take 256 lent)

-- a level less leaves the entries that stand, once no entry stands from its start on
pub count_closed : (y y' : Layout) (s : ℕ) → ordered y.starts y.count ≡ true → y' ≡ closed y → Some s ≡ top_of y.starts → y.count ≤ s → y'.count ≡ y.count
count_closed y y' s ok e t h = ap (λ y. y.count) e ∙ top y.starts y.count ok t h
  where
    top : (ss : List ℕ) (n : ℕ) → ordered ss n ≡ true → Some s ≡ top_of ss → n ≤ s → (without_top ss n).count ≡ n
    top [] n ok t h = refl
    top (r ∷ ss) n ok t h = let z : s ≡ r = cc in let l = ordered_top r n ss ok in omega arith

module _ {V : Type 0} (y : Layout) (es : List (Entry V)) where
  abbrev s : Store V
  s = store_of y es

  enter_refused_by : too_deep y.starts ≡ enter_refused s
  enter_refused_by = sym (ap (λ n. cond (ltb n 33) None (Some TooDeep)) (length-map (cut y.starts y.count (map pair es)) table ∙ length_cut y.starts y.count (map pair es)))

  entered_by : (y' : Layout) → y' ≡ opened y → store_of y' es ≡ entered s
  entered_by y' e =
      ap (λ z. store_of z es) e
      ∙ unless_through (λ z. store_of z es) (too_deep y.starts) (record { starts = y.count ∷ y.starts; count = y.count }) y
      ∙ ap (λ ls. unless (too_deep y.starts) (with_levels s (map table ls)) s) (cut_opened y.starts y.count (map pair es))
      ∙ ap (λ o. unless o (with_levels s ([] ∷ s.levels)) s) enter_refused_by

-- whether there is room does not depend on entries that do not stand
room_by : (n l : ℕ) → ltb n l ≡ ltb (min n l) l
room_by n l =
    ⊎_elim
    (λ (h : n < l). let e : min n l ≡ n = omega arith in ap (λ k. ltb k l) (sym e))
    (λ (h : l ≤ n). let e : min n l ≡ l = omega arith in le-ltb n l h ∙ sym (le-ltb l l (omega arith)) ∙ ap (λ k. ltb k l) (sym e))
    (cases_lt n l)

module _ {V : Type 0} (y : Layout) (es : List (Entry V)) (ok : ordered y.starts y.count ≡ true) (k : ℕ) where
  looked_by : value_at es (newest_of (names (take y.count es)) k) ≡ looked (store_of y es).levels k
  looked_by =
      sym (looked_tables (cut y.starts y.count (map pair es)) k
      ∙ looked_cut y.starts y.count (map pair es) k ok
      ∙ ap (λ l. find (reverse l) k) (take-map pair y.count es)
      ∙ find_newest (take y.count es) k
      ∙ part (newest_of (names (take y.count es)) k) (λ i h. let w = newest_low (names (take y.count es)) k i h in let l = length-map (take y.count es) (λ e. e.name) in omega arith))
    where
      part : (o : Option ℕ) → ((i : ℕ) → o ≡ Some i → i < length (take y.count es)) → value_at (take y.count es) o ≡ value_at es o
      part None h = refl
      part (Some i) h = value_nth_take y.count es i (h i refl)

  pub declare_refused_by : (b : Bool) (c : ℕ) → b ≡ stands (store_of y es).levels k → c ≡ length es → no_place y.starts b y.count c ≡ declare_refused (store_of y es) k
  declare_refused_by b c h q =
      ap (λ b. no_place y.starts b y.count c) h
      ∙ ap (λ c. no_place y.starts (stands (store_of y es).levels k) y.count c) q
      ∙ by_starts y.starts (stands (store_of y es).levels k) y.count
      ∙ sym (ap (λ n. no_place (store_of y es).levels (stands (store_of y es).levels k) n (length es)) (standing_tables (cut y.starts y.count (map pair es)) ∙ standing_cut y.starts y.count (map pair es) ok ∙ ap (min y.count) (length-map es pair)))
    where
      by_starts : (ss : List ℕ) (b : Bool) (n : ℕ) → no_place ss b n (length es) ≡ no_place (map table (cut ss n (map pair es))) b (min n (length es)) (length es)
      by_starts [] b n = refl
      by_starts (s ∷ ss) b n = ap (λ t. cond b (Some Repeated) (cond t None (Some Full))) (room_by n (length es))

-- a search of the entries that stand is one of their names
pub place_by : {V : Type 0} (es : List (Entry V)) (n c k : ℕ) (r : Option ℕ) → c ≡ n → r ≡ newest_of (map (λ e. e.name) (take c es)) k → r ≡ newest_of (names (take n es)) k
place_by es n c k r h e = e ∙ ap (λ n. newest_of (names (take n es)) k) h

-- what the calls of a store learn from the calls on its table and its search
module _ {V : Type 0} (ss : List ℕ) (n : ℕ) (es : List (Entry V)) (k : ℕ) (p : Option ℕ) (at : p ≡ newest_of (names (take n es)) k) where
  pub look_by : (r : Option V) → ordered ss n ≡ true → r ≡ value_at es p → r ≡ looked (map table (cut ss n (map pair es))) k
  look_by r ok e = e ∙ ap (value_at es) at ∙ looked_by (record { starts = ss; count = n }) es ok k

  pub here_by : (r : Bool) → r ≡ on_top ss p → r ≡ stands (map table (cut ss n (map pair es))) k
  here_by r e = e ∙ ap (on_top ss) at ∙ sym (stands_tables (cut ss n (map pair es)) k ∙ stands_cut ss n es k)

module _ {V : Type 0} (ss : List ℕ) (n : ℕ) (es : List (Entry V)) where
  pub enter_by : (r : Result (Unit {0}) Refusal) → r ≡ answer (too_deep ss) → r ≡ answer (too_deep (map table (cut ss n (map pair es))))
  enter_by r e = e ∙ ap answer (enter_refused_by (record { starts = ss; count = n }) es)

  pub enters_by : (ss' : List ℕ) (n' : ℕ) → ◌≡◌ {A = Layout} (record { starts = ss'; count = n' }) (opened (record { starts = ss; count = n }))
      → ◌≡◌ {A = Store V} (record { capacity = length es; levels = map table (cut ss' n' (map pair es)) }) (entered (record { capacity = length es; levels = map table (cut ss n (map pair es)) }))
  enters_by ss' n' e = entered_by (record { starts = ss; count = n }) es (record { starts = ss'; count = n' }) e

-- what `enter` of either store goes by
pub ruleset entering = (enter_by, enters_by)
