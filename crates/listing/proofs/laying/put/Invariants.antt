use Rattle.std.proofs.Common.{◌≡◌}
use Rattle.std.specs.Slice.Iter.{chunks_exact_rest, chunks_exact_size}
use Rattle.std.specs.Iterator.Adapters.{enumerate_source, enumerate_count}
use Rattle.listing.proofs.Bytes.{Puts}
use Rattle.listing.proofs.laying.put.Given as goal

abbrev pub invariant-loop-k : goal.invariant-loop-k
invariant-loop-k l =
    (chunks_exact_size (enumerate_source l.k-iterator) ≡ 2)
    × Puts l.initial.memory l.at l.digits l.memory (enumerate_count l.k-iterator) (chunks_exact_rest (enumerate_source l.k-iterator))
