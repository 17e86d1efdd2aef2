use Rattle.std.proofs.Common.{◌≡◌, ℕ, ◌+◌, ◌/◌, ◌%◌, ◌<◌, List, [], ◌∷◌, ◌++◌, length, drop, set, append_assoc, refl, arith}
use Rattle.std.proofs.lemmas.Grind.{drop-set_at}
use Rattle.codec.specs.Text.{digit, hexes}
use Rattle.codec.proofs.Hex.{hexes_step}
use Rattle.codec.proofs.text.put_hex.Goals as goal

-- one digit more is written
more : (ds : List ℕ) (k j left b : ℕ) (all : List ℕ) → k ≡ j + 1 → j < length ds → hexes k left ++ drop k ds ≡ all → b ≡ digit (left % 16) →
    hexes j (left / 16) ++ drop j (set ds j b) ≡ all
more ds k j left b all e lt is by =
    let s = hexes_step j left in
    let d = drop-set_at ds j j b refl lt in
    let o = append_assoc (hexes j (left / 16)) (digit (left % 16) ∷ []) (drop k ds) in
    cc

done : (ds all : List ℕ) (k left : ℕ) → k ≡ 0 → hexes k left ++ drop k ds ≡ all → ds ≡ all
unfolding hexes
done ds all k left e is = let z : hexes 0 left ++ drop 0 ds ≡ ds = refl in cc

pub loop-k-preserved : goal.loop-k-preserved
loop-k-preserved c = more _ _ _ _ _ _ (omega arith) (omega arith) c.loop-k.invariant c.digit_byte.ensures

pub returns : goal.returns
returns c = done _ _ c.loop-k.k c.loop-k.left (omega arith) c.loop-k.invariant
