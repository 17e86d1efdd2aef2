-- Operators and calls on types and on their codes.
use Rattle.std.proofs.Common.{◌≡◌, ℕ, ◌≤◌, Bool as Truth, true, false, cond, eqb, ltb, List, [], ◌∷◌, map, reverse, length, take, Some, None, Ok, Err, Option, sym, refl, ap, ◌∙◌, ap₂, arith}
use Rattle.std.proofs.lemmas.List.{length-map, length-reverse, take-map}
use Rattle.std.proofs.lemmas.Bool.{lt-ltb, and_from}
use Rattle.syntax.specs.declared.frame.«Type».{«Type» as Ty}
use Rattle.syntax.specs.declared.frame.«Type».TheVariants.{Bool, Int, Double, String, Void}
use Rattle.syntax.specs.Trees.{Operator, plus, minus, times, divide, less, less_equal, equal, not_equal, greater_equal, greater, logical_and, logical_or}
use Rattle.syntax.specs.Writing.{type_code, operator_kind}
use Rattle.heads.specs.Heads.{low, fits, packed, parameters_of, return_of}
use Rattle.heads.proofs.Packing.{parameters_back, packed_return}
use Rattle.rules.specs.declared.violation.Violation.TheVariants.{NoFunction, OtherOperands, OtherCount, OtherArgument}
use Rattle.rules.specs.Heads.{Head, head}
use Rattle.rules.specs.Faults.{◌>>=◌, need, require}
use Rattle.rules.specs.Judge.{row as row_of, same, same_all, judge_arguments, judge_binary}
use Rattle.walk.specs.Judge.{equal_all, row, operated, called}
use Rattle.walk.specs.Tied.{Carries}
use Rattle.walk.proofs.Coding.{coded_option, coded_answer, need_coded, newest_coded, equal_coded}

-- ===== operators =====
row_coded : (o : Operator) (t : Ty) → row (operator_kind o) (type_code t) ≡ coded_option (row_of o t)
row_coded plus Bool = refl
row_coded plus Int = refl
row_coded plus Double = refl
row_coded plus String = refl
row_coded plus Void = refl
row_coded minus Bool = refl
row_coded minus Int = refl
row_coded minus Double = refl
row_coded minus String = refl
row_coded minus Void = refl
row_coded times Bool = refl
row_coded times Int = refl
row_coded times Double = refl
row_coded times String = refl
row_coded times Void = refl
row_coded divide Bool = refl
row_coded divide Int = refl
row_coded divide Double = refl
row_coded divide String = refl
row_coded divide Void = refl
row_coded less Bool = refl
row_coded less Int = refl
row_coded less Double = refl
row_coded less String = refl
row_coded less Void = refl
row_coded less_equal Bool = refl
row_coded less_equal Int = refl
row_coded less_equal Double = refl
row_coded less_equal String = refl
row_coded less_equal Void = refl
row_coded equal Bool = refl
row_coded equal Int = refl
row_coded equal Double = refl
row_coded equal String = refl
row_coded equal Void = refl
row_coded not_equal Bool = refl
row_coded not_equal Int = refl
row_coded not_equal Double = refl
row_coded not_equal String = refl
row_coded not_equal Void = refl
row_coded greater_equal Bool = refl
row_coded greater_equal Int = refl
row_coded greater_equal Double = refl
row_coded greater_equal String = refl
row_coded greater_equal Void = refl
row_coded greater Bool = refl
row_coded greater Int = refl
row_coded greater Double = refl
row_coded greater String = refl
row_coded greater Void = refl
row_coded logical_and Bool = refl
row_coded logical_and Int = refl
row_coded logical_and Double = refl
row_coded logical_and String = refl
row_coded logical_and Void = refl
row_coded logical_or Bool = refl
row_coded logical_or Int = refl
row_coded logical_or Double = refl
row_coded logical_or String = refl
row_coded logical_or Void = refl

pub binary_coded : (o : Operator) (t u : Ty) → operated (operator_kind o) (type_code t) (type_code u) ≡ coded_answer (judge_binary o t u)
binary_coded o t u = ap (λ q. cond (same t u) (need OtherOperands q) (Err OtherOperands)) (row_coded o t) ∙ go (same t u)
  where
    go : (b : Truth) → cond b (need OtherOperands (coded_option (row_of o t))) (Err OtherOperands) ≡ coded_answer (require OtherOperands b >>= λ _. need OtherOperands (row_of o t))
    go true = need_coded OtherOperands (row_of o t)
    go false = refl

-- ===== calls =====
pub code_low : (t : Ty) → ltb (type_code t) 8 ≡ true
code_low Bool = refl
code_low Int = refl
code_low Double = refl
code_low String = refl
code_low Void = refl

low_codes : (us : List Ty) → low (map type_code us) ≡ true
low_codes [] = refl
low_codes (u ∷ us) = and_from (ltb (type_code u) 8) (low (map type_code us)) (code_low u) (low_codes us)

-- few enough parameters can be packed
pub codes_fit : (us : List Ty) (r : Ty) → length us ≤ 16 → fits (map type_code us) (type_code r) ≡ true
codes_fit us r h =
    let l = length-map us type_code in
    and_from (ltb (length (map type_code us)) 17) _ (lt-ltb (length (map type_code us)) 17 (omega arith)) (and_from (low (map type_code us)) _ (low_codes us) (code_low r))

argued : (a b : Truth) (r : Ty) → cond a (cond b (Ok (type_code r)) (Err OtherArgument)) (Err OtherCount) ≡ coded_answer (require OtherCount a >>= (λ _. require OtherArgument b) >>= λ _. Ok r)
argued true true r = refl
argued true false r = refl
argued false b r = refl

length_newest : (n : ℕ) (os : List Ty) → length (take n (map type_code os)) ≡ length (reverse (take n os))
length_newest n os = ap length (take-map type_code n os) ∙ length-map (take n os) type_code ∙ sym (length-reverse (take n os))

pub call_coded : (h : Option Head) (o : Option ℕ) (n : ℕ) (os : List Ty) → Carries h o → called o n (map type_code os) ≡ coded_answer (need NoFunction h >>= judge_arguments (reverse (take n os)))
call_coded None o n os c = ap (λ o. called o n (map type_code os)) c
call_coded (Some (head us r)) o n os c =
    let ps = map type_code us in
    let f = codes_fit us r c.0 in
    let q : parameters_of (packed ps (type_code r)) ≡ ps = parameters_back ps (type_code r) f in
    let t : return_of (packed ps (type_code r)) ≡ type_code r = packed_return ps (type_code r) f in
    ap (λ o. called o n (map type_code os)) c.1
    ∙ ap₂ (λ cs k. cond (eqb (length (take n (map type_code os))) (length cs)) (cond (equal_all (reverse (take n (map type_code os))) cs) (Ok k) (Err OtherArgument)) (Err OtherCount)) q t
    ∙ ap₂ (λ a b. cond a (cond b (Ok (type_code r)) (Err OtherArgument)) (Err OtherCount))
    (ap₂ eqb (length_newest n os) (length-map us type_code))
    (ap (λ l. equal_all l ps) (newest_coded n os) ∙ equal_coded (reverse (take n os)) us)
    ∙ argued (eqb (length (reverse (take n os))) (length us)) (same_all (reverse (take n os)) us) r
