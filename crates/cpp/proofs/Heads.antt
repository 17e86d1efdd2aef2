-- The number of a sheet's head stands for that head.
use Rattle.std.proofs.Common.{◌≡◌, ◌≤◌, true, ◌&&◌, ltb, List, [], ◌∷◌, map, length, Some, sym, refl, ap, ◌∙◌, ap₂, arith}
use Rattle.std.proofs.lemmas.List.{length-map}
use Rattle.std.proofs.lemmas.Bool.{and_from, lt-ltb}
use Rattle.syntax.specs.declared.frame.«Type».{«Type» as Ty}
use Rattle.syntax.specs.declared.frame.«Type».TheVariants.{Bool, Int, Double, String, Void}
use Rattle.syntax.specs.declared.frame.Parameter.{Parameter}
use Rattle.syntax.specs.Writing.{type_code}
use Rattle.syntax.specs.Types.{type_of}
use Rattle.heads.specs.Heads.{low, fits, packed}
use Rattle.heads.specs.Heads as packing
use Rattle.heads.proofs.Packing.{parameters_back, packed_return}
use Rattle.rules.specs.Heads.{head}
use Rattle.rules.specs.Programs.{param_types}
use Rattle.rules.specs.Walk.{returned}
use Rattle.rules.specs.Books.{sheet_params, sheet_head}
use Rattle.rules.proofs.Results.{type_back}
use Rattle.rules.proofs.Books.{params_written}
use Rattle.cpp.specs.Sheet.{Sheet}
use Rattle.cpp.specs.Heads.{head_code, head_from, head_number}
use Rattle.cpp.proofs.Sheets.{definition_of}

-- the code of a type can be packed
code_low : (t : Ty) → ltb (type_code t) 8 ≡ true
code_low Bool = refl
code_low Int = refl
code_low Double = refl
code_low String = refl
code_low Void = refl

-- and so can those of many
codes_low : (ts : List Ty) → low (map type_code ts) ≡ true
codes_low [] = refl
codes_low (t ∷ ts) = and_from (ltb (type_code t) 8) (low (map type_code ts)) (code_low t) (codes_low ts)

-- the codes of at most 16 types and one more can be packed
codes_fit : (ts : List Ty) (r : Ty) → length ts ≤ 16 → fits (map type_code ts) (type_code r) ≡ true
codes_fit ts r few =
    and_from (ltb (length (map type_code ts)) 17) (low (map type_code ts) && ltb (type_code r) 8) (lt-ltb (length (map type_code ts)) 17 (omega (arith, length-map ts type_code)))
    (and_from (low (map type_code ts)) (ltb (type_code r) 8) (codes_low ts) (code_low r))

-- types are known by their codes
types_back : (ts : List Ty) → map type_of (map type_code ts) ≡ ts
types_back [] = refl
types_back (t ∷ ts) = ap₂ (λ u us. u ∷ us) (type_back t) (types_back ts)

-- a head of at most 16 parameters is the one that its number stands for
head_back : (ts : List Ty) (r : Ty) → length ts ≤ 16 → head_from (head_code (head ts r)) ≡ head ts r
unfolding head_from
head_back ts r few =
    let cs = map type_code ts in
    let f = codes_fit ts r few in
    ap₂ (λ ps q. head (map type_of ps) (type_of q)) (parameters_back cs (type_code r) f) (packed_return cs (type_code r) f)
    ∙ ap₂ head (types_back ts) (type_back r)

-- a sheet has no more
pub few_parameters : (s : Sheet) → length (param_types (sheet_params s.frames)) ≤ 16
few_parameters s =
    let w = definition_of s in
    let e : sheet_params s.frames ≡ w.0.params = ap sheet_params (sym w.2) ∙ params_written w.0 in
    omega (arith, length-map (sheet_params s.frames) (λ (p : Parameter). p.t), ap (length {A = Parameter}) e, w.1.params)

-- so the number of its head stands for it
pub head_stands : (s : Sheet) → head_from (head_number s) ≡ sheet_head s.frames
unfolding head_number
head_stands s = head_back (param_types (sheet_params s.frames)) (returned s.frames) (few_parameters s)

-- and is what packing gives
pub head_packed : (s : Sheet) → packing.head_of (map type_code (param_types (sheet_params s.frames))) (type_code (returned s.frames)) ≡ Some (head_number s)
unfolding head_number
head_packed s =
    let ts = param_types (sheet_params s.frames) in
    let r = returned s.frames in
    rw (codes_fit ts r (few_parameters s)) refl
