use Rattle.std.proofs.Common.{length}
use Rattle.common.proofs.Writing.{Writing, Ahead}
use Rattle.service.specs.Pairs.{distance_in, paired_length, listed_by}
use Rattle.service.proofs.within.write_list.Given as goal

abbrev pub invariant-loop-p : goal.invariant-loop-p
invariant-loop-p l =
    Writing (paired_length l.fn.lengths) (length l.fn.lengths) l.fn.lengths l.lengths l.p
    × (Ahead l.fn.lengths l.lengths l.p
    × Writing (λ p. listed_by l.d (distance_in l.fn.lengths p)) (length l.fn.lengths) l.fn.list l.list l.p)
