-- `values::few::Few::of`: the first places hold the first items, the others what they held.
-- Assumes nothing.
use Rattle.std.proofs.Common.{◌≡◌, length, take, drop}
use Rattle.values.proofs.few.Few.of.Given as goal

abbrev pub invariant-loop-k : goal.invariant-loop-k
invariant-loop-k g l =
    record {
      all : length l.slots ≡ length l.initial.slots;
      front : take l.k l.slots ≡ take l.k l.items;
      rest : drop l.k l.slots ≡ drop l.k l.initial.slots;
    }
