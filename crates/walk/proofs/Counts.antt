-- How many blocks are unfinished, how many levels and names stand.
use Rattle.std.proofs.Common.{◌≡◌, ℕ, suc, ◌-◌, ◌<◌, ◌≤◌, Bool as Truth, true, false, cond, ◌||◌, eqb, ltb, List, [], ◌∷◌, map, length, is_some, Some, Option, sym, refl, ap, ◌∙◌, arith}
use Rattle.syntax.specs.declared.stages.Unfinished.{Unfinished}
use Rattle.syntax.specs.declared.stages.Unfinished.TheVariants.{Block, Loop, Choice}
use Rattle.syntax.specs.Form.{finish}
use Rattle.levels.specs.Store.{standing, stands, added, below, find, placed}
use Rattle.levels.proofs.Tabling.{find_placed, length_placed}
use Rattle.rules.specs.Judge.{among}
use Rattle.rules.specs.Walk.{alone}
use Rattle.walk.specs.Judge.{Numbers}
use Rattle.walk.specs.Step.{kept}

-- ===== unfinished things =====
abbrev pub blocks : List Unfinished → ℕ
blocks [] = 0
blocks (Block ∷ u) = suc (blocks u)
blocks (Loop ∷ u) = blocks u
blocks (Choice n ∷ u) = blocks u

pub blocks_le : (u : List Unfinished) → blocks u ≤ length u
blocks_le [] = omega arith
blocks_le (Block ∷ u) = let k = blocks_le u in omega arith
blocks_le (Loop ∷ u) = let k = blocks_le u in omega arith
blocks_le (Choice n ∷ u) = let k = blocks_le u in omega arith

pub blocks_finish : (u : List Unfinished) → blocks (finish u) ≡ blocks u
blocks_finish [] = refl
blocks_finish (Block ∷ u) = refl
blocks_finish (Loop ∷ u) = blocks_finish u
blocks_finish (Choice n ∷ u) = go (ltb 1 n) (blocks_finish u)
  where
    go : (b : Truth) → blocks (finish u) ≡ blocks u → blocks (cond b (Choice (n - 1) ∷ u) (finish u)) ≡ blocks u
    go true h = refl
    go false h = h

-- ===== levels =====
pub length_added : (ls : List Numbers) (e : ℕ × ℕ) → length (added ls e) ≡ length ls
length_added [] e = refl
length_added (l ∷ ls) e = refl

pub standing_added : (ls : List Numbers) (e : ℕ × ℕ) → standing (added ls e) ≤ suc (standing ls)
standing_added [] e = omega arith
standing_added (l ∷ ls) e = let h = length_placed e l in omega arith

pub length_kept : (u : List Unfinished) (ls : List Numbers) (x t : ℕ) → length (kept u ls x t) ≡ length ls
length_kept u ls x t = go (alone u)
  where
    go : (b : Truth) → length (cond b ls (added ls (x, t))) ≡ length ls
    go true = refl
    go false = length_added ls (x, t)

pub standing_kept : (u : List Unfinished) (ls : List Numbers) (x t : ℕ) → standing (kept u ls x t) ≤ suc (standing ls)
standing_kept u ls x t = go (alone u)
  where
    go : (b : Truth) → standing (cond b ls (added ls (x, t))) ≤ suc (standing ls)
    go true = omega arith
    go false = standing_added ls (x, t)

pub length_below : (ls : List Numbers) (n : ℕ) → length ls ≡ suc n → length (below ls) ≡ n
length_below [] n h = absurd (omega arith)
length_below (l ∷ ls) n h = omega arith

pub standing_below : (ls : List Numbers) → standing (below ls) ≤ standing ls
standing_below [] = omega arith
standing_below (l ∷ ls) = omega arith

-- ===== the names of the top level =====
abbrev pub level_names : Numbers → List ℕ
level_names l = map (λ (e : ℕ × ℕ). e.0) l

abbrev pub top_names : List Numbers → List ℕ
top_names [] = []
top_names (l ∷ ls) = level_names l

pub stands_top : (ls : List Numbers) (x : ℕ) → stands ls x ≡ among (top_names ls) x
stands_top [] x = refl
stands_top (l ∷ ls) x = go l
  where
    by : (b c : Truth) (v : ℕ) (o : Option ℕ) → is_some o ≡ c → is_some (cond b (Some v) o) ≡ (b || c)
    by true c v o h = refl
    by false c v o h = h

    go : (l : Numbers) → is_some (find l x) ≡ among (level_names l) x
    go [] = refl
    go (e ∷ l) = by (eqb e.0 x) (among (level_names l) x) e.1 (find l x) (go l)

pub top_added : (ls : List Numbers) (e : ℕ × ℕ) (x : ℕ) → 0 < length ls → among (top_names (added ls e)) x ≡ among (e.0 ∷ top_names ls) x
top_added [] e x n = absurd (omega arith)
top_added (l ∷ ls) e x n =
    sym (stands_top (placed e l ∷ ls) x) ∙ ap is_some (find_placed e l x) ∙ by (eqb e.0 x) e.1 (find l x) ∙ ap (λ b. eqb e.0 x || b) (stands_top (l ∷ ls) x)
  where
    by : (b : Truth) (v : ℕ) (o : Option ℕ) → is_some (cond b (Some v) o) ≡ (b || is_some o)
    by true v o = refl
    by false v o = refl
