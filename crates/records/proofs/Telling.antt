-- What a formed sheet tells in the code is what the law has of its definition.
use Rattle.std.proofs.Common.{◌≡◌, ℕ, suc, ◌≤◌, true, cond, ◌||◌, eqb, leb, List, [], ◌∷◌, length, Some, refl, ap, ◌∙◌, ap₂, arith}
use Rattle.std.proofs.lemmas.List.{length-map}
use Rattle.std.proofs.lemmas.Bool.{and_from, eq-eqb, le-leb}
use Rattle.syntax.specs.declared.frame.«Type».{«Type» as Ty}
use Rattle.syntax.specs.Types.{type_of}
use Rattle.frames.specs.declared.formed.Formed.{Formed}
use Rattle.frames.specs.Sheets.{frames_of}
use Rattle.heads.specs.Heads.{parameters_of}
use Rattle.rules.specs.Judge.{among}
use Rattle.rules.specs.Heads.{Head, head}
use Rattle.walk.specs.Params as code
use Rattle.walk.specs.Params.{param_frames, repeated_param}
use Rattle.walk.specs.Examined.{sheet_packed}
use Rattle.walk.proofs.Recording.{names_params, head_packed}
use Rattle.history.specs.Words.{any_of}
use Rattle.cpp.specs.Sheet.{Sheet}
use Rattle.cpp.specs.Heads.{head_code, head_from, head_number, first_repeat, repeated_in}
use Rattle.cpp.proofs.Heads.{head_stands, few_parameters}
use Rattle.records.specs.Records.{is_head}
use Rattle.records.specs.Sheets.{sheet_from}

-- ## the head

-- the packed head is the number of the definition's head
pub packed_number : (x : Formed) → sheet_packed (frames_of x) ≡ head_number (sheet_from x)
unfolding head_number
packed_number x = head_packed (frames_of x) x.formed

-- the parameter types of a head
params_of : Head → List Ty
params_of (head ts r) = ts

-- a sheet's number stands for a head
pub number_is_head : (s : Sheet) → is_head (head_number s) ≡ true
unfolding is_head head_number head_from params_of
number_is_head s =
    let n = head_number s in
    let stands = head_stands s in
    let few : length (parameters_of n) ≤ 16 = omega (arith, length-map (parameters_of n) type_of, ap length (ap params_of stands), few_parameters s) in
    and_from (eqb (head_code (head_from n)) n) (leb (length (parameters_of n)) 16) (eq-eqb (head_code (head_from n)) n (ap head_code stands)) (le-leb (length (parameters_of n)) 16 few)

-- ## the first parameter that stands twice

-- a name stands among those seen
among_any : (seen : List ℕ) (x : ℕ) → among seen x ≡ any_of (λ y. eqb y x) seen
unfolding any_of
among_any [] x = refl
among_any (y ∷ ys) x = ap (λ b. eqb y x || b) (among_any ys x)

-- both words for it say the same
repeats_same : (p : ℕ) (seen xs : List ℕ) → code.first_repeat p seen xs ≡ first_repeat p seen xs
unfolding first_repeat
repeats_same p seen [] = refl
repeats_same p seen (x ∷ xs) = ap₂ (λ b o. cond b (Some p) o) (among_any seen x) (repeats_same (suc p) (x ∷ seen) xs)

pub repeated_told : (x : Formed) → repeated_param (frames_of x) ≡ repeated_in (sheet_from x)
unfolding repeated_in
repeated_told x = repeats_same 1 [] _ ∙ ap (first_repeat 1 []) (names_params (param_frames (frames_of x)))
