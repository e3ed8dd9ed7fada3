-- What the words read: none past the end that is found. Assumes nothing.
use mathlib.Core.Path.{◌≡◌, sym, ap, ◌∙◌}
use mathlib.Core.Logic.{⊎_elim}
use mathlib.Core.Bool.{false, false≢true}
use mathlib.Core.List.{List}
use Prim.Native.Nat.{ℕ, zero, suc, ◌≤◌, ◌<◌}
use native.Mathlib.Nat.{not-suc-le-zero}
use native.Mathlib.Omega.{arith}
use borrow.Author.Tests.{le-ltb}
use lib.ListN.{length}
use Rattle.common.proofs.Order.{split, same_or_not, past}
use Rattle.graph.specs.Longest.{most}
use Rattle.graph.specs.Assignment.{ReadsBounded}
use Rattle.sweep.specs.declared.edges.Successors.TheVariants.{Invalid}
use Rattle.sweep.specs.Steps.{unless, is_invalid}
use Rattle.steps.specs.lua54.Successors.{successors_of}
use Rattle.locations.specs.declared.answer.Touches.{Touches}
use Rattle.locations.specs.Canonical.{add_all}
use Rattle.locations.specs.Lists.{gather, ranges_of}
use Rattle.touches.specs.Touches.{touches_by, touches_of}
use Rattle.fields.specs.declared.version.Version.TheVariants.{Lua54}
use Rattle.locations.specs.Form.{ranges_in}
use Rattle.touches.proofs.Laws.{laws}
use Rattle.blocks.specs.Uses.{in_ranges, reads_by, reads_end, registers_of, usage_of}
use Rattle.blocks.proofs.Within.{in-ranges, before_end}

outside : (ws : List ℕ) (p : ℕ) → length ws ≤ p → successors_of ws p ≡ Invalid
unfolding successors_of unless
outside ws p h = rw (le-ltb p (length ws) h)

-- past the words nothing is read
reads_nothing : (ws : List ℕ) (p r : ℕ) → length ws ≤ p → reads_by (touches_of ws p) r ≡ false
unfolding touches_by gather add_all ranges_of in_ranges
reads_nothing ws p r h = ap (λ (t : Touches). reads_by t r) ((laws.meaning Lua54).bad ws p (ap is_invalid (outside ws p h)))

most_above : (f : ℕ → ℕ) (n p : ℕ) → p < n → f p ≤ most f n
unfolding most
most_above f zero p h = absurd (not-suc-le-zero h)
most_above f (suc n) p h =
    ⊎_elim
    (λ e. let d : f p ≡ f n = ap f e in omega arith)
    (λ d. omega (arith, most_above f n p (past (omega arith) (λ z. d (sym z)))))
    (same_or_not p n)

pub bounded : (ws : List ℕ) → ReadsBounded (usage_of ws)
unfolding registers_of
bounded ws p r e =
    ⊎_elim
    (λ h. absurd (false≢true (sym (reads_nothing ws p r h) ∙ e)))
    (λ h. omega (
      arith,
      before_end r (ranges_in (touches_of ws p).reads)
          ((in-ranges r (ranges_in (touches_of ws p).reads)).0 e),
      most_above (reads_end ws) (length ws) p h,
    ))
    (split (length ws) p)
