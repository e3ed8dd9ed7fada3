-- A script that is searched, and its runs by two tables of weights. Assumes nothing.
use mathlib.Core.Path.{sym, ◌≡◌, refl, ap, subst, ◌∙◌}
use mathlib.Core.List.{List, ◌++◌}
use Prim.Native.Nat.{ℕ}
use lib.Dec.{eqb}
use lib.ListN.{length, drop, replicate}
use Rattle.common.specs.Lowest.{lowest_from, found}
use Rattle.common.proofs.Lowest.{is_found, not_found}
use Rattle.graph.specs.Graph.{Graph}
use Rattle.graph.specs.Longest.{longest, first, most}
use Rattle.fields.specs.declared.version.Version.{Version}
use Rattle.std.specs.Prelude.{Option, Some, None, Err}
use Rattle.common.specs.declared.refusal.Refusal.TheVariants.{ReachesInvalid}
use Rattle.runs.specs.Script.{Script, script_of, graph_of, weight_of, slot_mask}
use Rattle.runs.specs.Run.{lowest_invalid}
use Rattle.sweep.specs.Entries.{entries, graph_in}
use Rattle.sweep.specs.SearchInvariants.{Marked}
use Rattle.sweep.specs.PassInvariants.{weight_by, Fills, at}
use Rattle.twice.specs.TwiceInvariants.{Twice}
use Rattle.runs.specs.Outcome.{Searched, Decided}
use Rattle.ranges.specs.Outcome.{DecidedBoth}
use Rattle.ranges.specs.Range.{accepted_range}
use Rattle.sweep.proofs.Laws as sweep
use Rattle.runs.proofs.Masks.{masked, filled-by}
use Rattle.runs.proofs.Outcome.{decided_invalid, decided_accepted}
use Rattle.runs.proofs.Searched.{measured_invalid, measured_accepted}
use Rattle.ranges.proofs.BothTables.{decided_both}

module _ (version : Version) (words : List ℕ) {m l : List ℕ} (s : Searched (script_of version words) m l)
    (low high : List ℕ) {mask : ℕ} (mask_is : mask ≡ slot_mask version) where
  abbrev ws : Script
  ws = script_of version words

  graph_is : graph_in (entries l) ≡ graph_of ws
  graph_is = (sweep.laws).carries.graph ws.size ws.steps (entries l) s.settled

  low_is : weight_by mask words low ≡ weight_of ws low
  low_is = ap (λ (x : ℕ). weight_by x words low) mask_is ∙ masked version words low

  -- both passes
  module _ {i : Option ℕ} {v a : ℕ} (m' l' : List ℕ)
      (t : Twice (weight_by mask words low) (weight_by mask words high) l i v a m' l')
      (m-kept : length m' ≡ length m) (l-kept : length l' ≡ length l) where
    fills : Fills (weight_of ws high) l l' i
    fills = filled-by version words high mask_is (record { lengths = t.lengths; lowest-invalid = t.lowest-invalid })

    again : Searched ws m' l
    again =
        let k = s.lent in
        record {
          lent = record { some = k.some; few = k.few; m_same = m-kept ∙ k.m_same; l_same = k.l_same };
          settled = s.settled;
          marked = subst (λ (g : Graph). Marked g m') graph_is t.marked;
        }

    lowest : i ≡ found ws.size (lowest_invalid ws)
    unfolding lowest_invalid
    lowest =
        t.lowest-invalid
        ∙ ap (found (length (entries l))) ((sweep.laws).carries.lowest-invalid ws.size ws.steps (entries l) s.settled)
        ∙ ap (λ (n : ℕ). found n (lowest_invalid ws)) s.settled.same

    pub twice_length : length l' ≡ ws.size
    twice_length = l-kept ∙ s.lent.l_same

    pub twice_invalid : {p : ℕ} {c : List ℕ} → i ≡ Some p → c ≡ replicate ws.size 0 ++ drop ws.size l'
        → DecidedBoth ws low high (Err (ReachesInvalid p)) m' c
    twice_invalid {p} {c} h e =
        let q = is_found (sym h ∙ lowest) in
        let d : Decided ws high (Err (ReachesInvalid p)) m' c = measured_invalid version words again high fills l-kept h e in
        let b : Decided ws low (Err (ReachesInvalid p)) m' c = decided_invalid ws low d.marks q.0 q.1 d.lengths in
        decided_both b d refl

    low-longest : v ≡ longest (graph_of ws) (weight_of ws low)
    low-longest = t.longest_is ∙ ap (λ (g : Graph). longest g (weight_by mask words low)) graph_is ∙ ap (longest (graph_of ws)) low_is

    low_first : a ≡ first (graph_of ws) (weight_of ws low)
    low_first = t.first_is ∙ ap (λ (g : Graph). first g (weight_by mask words low)) graph_is ∙ ap (first (graph_of ws)) low_is

    pub twice_accepted : {x y : ℕ} → i ≡ None → x ≡ most (at l') ws.size → y ≡ lowest_from (λ p. eqb (at l' p) x) 0 ws.size
        → DecidedBoth ws low high (accepted_range v a x y) m' l'
    twice_accepted {x} {y} h e d =
        let b = measured_accepted version words again high fills l-kept h e d in
        decided_both (decided_accepted ws low b.marks (not_found (sym h ∙ lowest)) low-longest low_first refl) b refl
