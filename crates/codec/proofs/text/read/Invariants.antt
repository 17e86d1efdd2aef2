use Rattle.std.proofs.Common.{◌≡◌}
use Rattle.std.specs.Iterator.Adapters.{enumerate_source, enumerate_count}
use Rattle.std.specs.Slice.Iter.{chunks_rest, chunks_size}
use Rattle.codec.specs.Codec.{Begun}
use Rattle.codec.proofs.text.read.Given as goal

-- as many lines as were counted were read, and their rest is still to come
abbrev pub invariant-loop-n : goal.invariant-loop-n
invariant-loop-n l =
    goal.iterator-loop-n.can_next l.n-iterator
    × goal.iterator-loop-n.is_finite l.n-iterator
    × (chunks_size (enumerate_source l.n-iterator) ≡ 17)
    × Begun l.text l.initial.frames l.frames (enumerate_count l.n-iterator) (chunks_rest (enumerate_source l.n-iterator))
