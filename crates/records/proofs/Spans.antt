-- A sheet's part as the range of an area that code reads and writes.
use Rattle.std.proofs.Common.{◌≡◌, ℕ, suc, ◌+◌, ◌-◌, ◌*◌, ◌<◌, List, ◌++◌, length, take, drop, ap, ◌∙◌, ap₂, arith}
use borrow.Rule.Slice.PartMut.{put_mid}
use Rattle.std.proofs.lemmas.List.{drop-drop, length-take, length-drop}
use Rattle.history.specs.Areas.{part, with_part}

-- the first places of a sheet's part
pub front_of_part : {X : Type 0} (xs : List X) (s e from to : ℕ) → from ≡ 256 * s → to ≡ 256 * s + 256 → e < 256 → take (e + 1) (take (to - from) (drop from xs)) ≡ take (suc e) (part s xs)
unfolding part
front_of_part xs s e from to i j l =
    let n : to - from ≡ 256 = omega arith in
    let m : e + 1 ≡ suc e = omega arith in
    ap (λ k. take (e + 1) (take k (drop from xs))) n ∙ ap₂ (λ k q. take k (take 256 (drop q xs))) m i

-- the range of a sheet's part is 256 places long
pub part_long : {X : Type 0} (xs : List X) (s from to : ℕ) → s < 32 → from ≡ 256 * s → to ≡ 256 * s + 256 → length xs ≡ 8192 → length (take (to - from) (drop from xs)) ≡ 256
part_long xs s from to l i j e = simp (length-take, length-drop) (omega arith)

-- the range of a sheet's part written anew is the area with that part
pub part_written : {X : Type 0} (xs b now : List X) (s from to : ℕ) → from ≡ 256 * s → to ≡ 256 * s + 256 → now ≡ b → put_mid from (to - from) xs now ≡ with_part s b xs
unfolding with_part
part_written xs b now s from to i j e =
    let n : to - from ≡ 256 = omega arith in
    let m : 256 * s + 256 ≡ 256 + 256 * s = omega arith in
    ap₂ (λ q m. take q xs ++ (now ++ drop m (drop q xs))) i n ∙ ap₂ (λ q w. take (256 * s) xs ++ (q ++ w)) e (drop-drop 256 (256 * s) xs)
