-- The laws that callers go by, each from its own file. Assumes nothing.
use mathlib.Core.Logic.{inl, inr}
use Prim.Native.Nat.{ℕ, ◌<◌}
use native.Mathlib.Omega.{arith}
use Rattle.graph.specs.Graph.{In, Lawful}
use Rattle.sweep.specs.declared.edges.Successors.{Successors}
use Rattle.sweep.specs.declared.edges.Successors.TheVariants.{Invalid, Stop, One, Two}
use Rattle.sweep.specs.Steps.{list_of, graph_by, Below}
use Rattle.sweep.specs.Laws.{Laws}
use Rattle.sweep.proofs.Steps.{forward, serving}
use Rattle.sweep.proofs.Entries.{entries_stay, entries_length, entry_is, entry_next, entry_target, entry_stop, entry_invalid, entry_both, carries}
use Rattle.sweep.proofs.Held.{held_of}

inside : (n : ℕ) (s : Successors) → Below n s → (q : ℕ) → In q (list_of s) → q < n
inside n Invalid b q i = absurd i
inside n Stop b q i = absurd i
inside n (One a) b q (inl e) = omega arith
inside n (One a) b q (inr i) = absurd i
inside n (Two a c) b q (inl e) = omega arith
inside n (Two a c) b q (inr (inl e)) = omega arith
inside n (Two a c) b q (inr (inr i)) = absurd i

lawful : (n : ℕ) (steps : ℕ → Successors) → ((p : ℕ) → Below n (steps p)) → Lawful (graph_by n steps)
lawful n steps b = record { inside = λ p. inside n (steps p) (b p); forward = λ p q i. forward p q }

pub laws : Laws
laws =
    record {
      serving = serving;
      forward = forward;
      inside = inside;
      lawful = lawful;
      kinds = λ e p. record { invalid = entry_invalid e p; returns = entry_stop e p; next = entry_next e p; target = entry_target e p; both = entry_both e p };
      entry_is = entry_is;
      as_long = entries_length;
      kept = entries_stay;
      carries = carries;
      held = held_of;
    }
