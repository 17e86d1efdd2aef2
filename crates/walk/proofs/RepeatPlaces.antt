-- Where the first parameter that repeats an earlier one stands.
use Rattle.std.proofs.Common.{◌≡◌, ℕ, suc, ◌+◌, ◌<◌, ◌≤◌, Bool as Truth, true, false, cond, ◌||◌, List, [], ◌∷◌, reverse, length, get_or, take, drop, is_some, Some, None, Option, sym, refl, ap, ◌∙◌, ap₂, add-one, arith}
use Rattle.std.proofs.lemmas.List.{take_more, drop_more, drop_all, map_push, reverse-append, length-map, length-drop, length-take-le}
use Rattle.syntax.specs.declared.frame.Frame.{Frame}
use Rattle.syntax.specs.Writing.{blank}
use Rattle.syntax.specs.Heads.{head}
use Rattle.syntax.specs.Form.{is_sheet}
use Rattle.syntax.proofs.Heads.{params_end}
use Rattle.levels.specs.Search.{newest_of}
use Rattle.rules.specs.Judge.{among}
use Rattle.walk.specs.Machines.{names_of}
use Rattle.walk.specs.Params.{param_frames, repeats, param_twice, first_repeat, repeated_param, Placed}
use Rattle.walk.proofs.Earlier.{among_reverse}

-- ===== the place =====
-- a place that is found is one of n from p on
abbrev pub Found : ℕ → ℕ → Option ℕ → Type 0
Found p n (Some q) = (p ≤ q) × (q < p + n)
Found p n None = Unit {0}

-- it is the first of them, or one of the others
found_next : (p n : ℕ) (b : Truth) (o : Option ℕ) → Found (suc p) n o → Found p (suc n) (cond b (Some p) o)
found_next p n true o h = (omega arith, omega arith)
found_next p n false (Some q) h = (omega (arith, h.0), omega (arith, h.1))
found_next p n false None h = tt

-- the first repeat has the place of one of the names
pub found_among : (p : ℕ) (seen xs : List ℕ) → Found p (length xs) (first_repeat p seen xs)
found_among p seen [] = tt
found_among p seen (x ∷ xs) = found_next p (length xs) (among seen x) (first_repeat (suc p) (x ∷ seen) xs) (found_among (suc p) (x ∷ seen) xs)

-- among the places of the frames after HEAD
pub found_placed : (fs : List Frame) (o : Option ℕ) (p n : ℕ) → 0 < p → p + n ≤ length fs → Found p n o → Placed fs o
found_placed fs (Some q) p n l m h = (omega (arith, h.0), omega (arith, h.1))
found_placed fs None p n l m h = tt

-- the search for the first repeat from the i-th parameter on, counted from 0
abbrev pub repeat_from : List Frame → ℕ → Option ℕ
repeat_from ps i = first_repeat (i + 1) (reverse (names_of (take i ps))) (names_of (drop i ps))

-- ===== the first repeat =====
module _ (ps : List Frame) (i : ℕ) where
  -- the name of the i-th parameter is that of an earlier one
  abbrev pub repeats_here : Truth
  repeats_here = is_some (newest_of (names_of (take i ps)) (get_or ps i blank).name)

  -- the parameter at a place repeats one before it, or the search goes on after it
  from_next : i < length ps → repeat_from ps i ≡ cond repeats_here (Some (i + 1)) (repeat_from ps (i + 1))
  from_next l =
      let x = get_or ps i blank in
      let seen : x.name ∷ reverse (names_of (take i ps)) ≡ reverse (names_of (take (i + 1) ps)) =
      sym (ap (λ l. reverse (names_of l)) (take_more ps i blank l) ∙ ap reverse (map_push (λ (f : Frame). f.name) (take i ps) x) ∙ reverse-append (names_of (take i ps)) (x.name ∷ [])) in
      ap (λ l. first_repeat (i + 1) (reverse (names_of (take i ps))) (names_of l)) (drop_more ps i blank l)
      ∙ ap₂ (λ b o. cond b (Some (i + 1)) o) (among_reverse (names_of (take i ps)) x.name)
      (ap₂ (λ p s. first_repeat p s (names_of (drop (i + 1) ps))) (sym (add-one (i + 1))) seen)

  -- it goes on where the parameter repeats none
  pub from_more : i < length ps → repeats_here ≡ false → repeat_from ps i ≡ repeat_from ps (i + 1)
  from_more l e = from_next l ∙ ap (λ b. cond b (Some (i + 1)) (repeat_from ps (i + 1))) e

  -- it stops at the parameter that repeats one
  pub from_stops : i < length ps → repeats_here ≡ true → repeat_from ps i ≡ Some (i + 1)
  from_stops l e = from_next l ∙ ap (λ b. cond b (Some (i + 1)) (repeat_from ps (i + 1))) e

  -- after the last it finds none
  pub from_none : length ps ≤ i → repeat_from ps i ≡ None
  from_none l = ap (λ l. first_repeat (i + 1) (reverse (names_of (take i ps))) (names_of l)) (drop_all i ps l)

-- ===== a sheet =====
-- a place that is found is that of a parameter
pub repeat_placed : (fs : List Frame) → is_sheet fs ≡ true → Placed fs (repeated_param fs)
repeat_placed fs h =
    let e = params_end fs h in
    let d = length-drop 1 fs in
    let n : length (param_frames fs) ≡ (head fs).load = length-take-le (head fs).load (drop 1 fs) (omega arith) in
    let m = length-map (param_frames fs) (λ (f : Frame). f.name) in
    found_placed fs (repeated_param fs) 1 (length (names_of (param_frames fs))) (omega arith) (omega arith) (found_among 1 [] (names_of (param_frames fs)))

-- one is found exactly where a parameter stands twice
repeat_some : (p : ℕ) (seen xs : List ℕ) → is_some (first_repeat p seen xs) ≡ repeats seen xs
repeat_some p seen [] = refl
repeat_some p seen (x ∷ xs) = either (among seen x) (first_repeat (suc p) (x ∷ seen) xs) (repeat_some (suc p) (x ∷ seen) xs)
  where
    either : (b : Truth) (o : Option ℕ) {c : Truth} → is_some o ≡ c → is_some (cond b (Some p) o) ≡ (b || c)
    either true o e = refl
    either false o e = e

pub twice_found : (fs : List Frame) → is_some (repeated_param fs) ≡ param_twice fs
twice_found fs = repeat_some 1 [] (names_of (param_frames fs))
