-- A script that is searched, and its lengths by a table of weights. Assumes nothing.
use mathlib.Core.Path.{◌≡◌, refl, sym, ap, subst, ◌∙◌}
use mathlib.Core.List.{List, ◌++◌, append-nil}
use Prim.Native.Nat.{ℕ}
use lib.Dec.{eqb}
use lib.ListN.{length, drop, replicate}
use lib.Seq.{drop-length}
use Rattle.common.specs.Lists.{tabulate}
use Rattle.common.specs.Lowest.{lowest_from, found}
use Rattle.common.proofs.Lowest.{is_found, not_found}
use Rattle.common.proofs.Over.{over_laws}
use Rattle.graph.specs.Graph.{Graph, Lawful}
use Rattle.graph.specs.Marks.{mark_of}
use Rattle.graph.specs.Longest.{length_of, most}
use Rattle.graph.specs.Laws.{Passing}
use Rattle.graph.proofs.Laws.{laws}
use Rattle.fields.specs.declared.version.Version.{Version}
use Rattle.std.specs.Prelude.{Option, Some, None, Err}
use Rattle.common.specs.declared.refusal.Refusal.TheVariants.{ReachesInvalid}
use Rattle.runs.specs.Script.{Script, script_of, graph_of, weight_of}
use Rattle.runs.specs.Run.{accepted_run, lowest_invalid}
use Rattle.sweep.specs.Entries.{entries, graph_in, Settled}
use Rattle.sweep.specs.SearchInvariants.{Lent, Held, Marked, Marks}
use Rattle.sweep.specs.PassInvariants.{Lengths, FillAsks, Fills, at}
use Rattle.runs.specs.Outcome.{Searched, Decided}
use Rattle.sweep.proofs.Laws as sweep
use Rattle.runs.proofs.Lawful.{lawful, sound}
use Rattle.runs.proofs.Outcome.{decided_invalid, decided_accepted}

-- a script of either version: its steps serve by the rule that the search of entries goes by
module _ (version : Version) (words : List ℕ) where
  abbrev ws : Script
  ws = script_of version words

  law : Lawful (graph_of ws)
  law = lawful ws (sound version words)

  module _ (l : List ℕ) (s : Settled ws.size ws.steps (entries l)) where
    graph_is : graph_in (entries l) ≡ graph_of ws
    graph_is = (sweep.laws).carries.graph ws.size ws.steps (entries l) s

    module _ {m l₀ : List ℕ} (k : Lent ws.size m l₀) (same : length l ≡ length l₀) where
      -- what the search asks
      pub held_settled : Held m l
      held_settled = (sweep.laws).held ws.size ws.steps m l₀ l law k s same

      -- what it leaves
      pub searched : {m' l' : List ℕ} → Marks l m' l' → length m' ≡ length m → length l' ≡ length l → Searched ws m' l'
      searched {m'} {l'} e n n' =
          record {
            lent = record { some = k.some; few = k.few; m_same = n ∙ k.m_same; l_same = n' ∙ same ∙ k.l_same };
            settled = subst (λ (es : List ℕ). Settled ws.size ws.steps es) (sym e.kept) s;
            marked = subst (λ (g : Graph). Marked g m') graph_is e.marked;
          }

  module _ {m l : List ℕ} (s : Searched ws m l) where
    -- what the pass over the lengths asks
    pub fill_asks : FillAsks m l
    fill_asks =
        record {
          held = held_settled l s.settled s.lent refl;
          marked = subst (λ (g : Graph). Marked g m) (sym (graph_is l s.settled)) s.marked;
        }

    marks_are : m ≡ tabulate (mark_of (graph_of ws)) 0 ws.size
    marks_are = over_laws.whole (mark_of (graph_of ws)) ws.size m s.lent.m_same s.marked

    -- and what it leaves, by a table of weights
    module _ (weights : List ℕ) {l' : List ℕ} {i : Option ℕ} (f : Fills (weight_of ws weights) l l' i) (same : length l' ≡ length l) where
      abbrev w : ℕ → ℕ
      w = weight_of ws weights

      pub filled_length : length l' ≡ ws.size
      filled_length = same ∙ s.lent.l_same

      each : Lengths (graph_of ws) w l'
      each = subst (λ (g : Graph). Lengths g w l') (graph_is l s.settled) f.lengths

      lowest : i ≡ found ws.size (lowest_invalid ws)
      unfolding lowest_invalid
      lowest =
          f.lowest-invalid
          ∙ ap (found (length (entries l))) ((sweep.laws).carries.lowest-invalid ws.size ws.steps (entries l) s.settled)
          ∙ ap (λ (n : ℕ). found n (lowest_invalid ws)) s.settled.same

      passing : Passing (graph_of ws) w
      passing = laws.passing (graph_of ws) law w

      -- lengths that are cleared
      cleared : {c : List ℕ} → c ≡ replicate ws.size 0 ++ drop ws.size l' → c ≡ tabulate (λ p. 0) 0 ws.size
      cleared {c} e =
          let d : drop ws.size l' ≡ drop (length l') l' = ap (λ (n : ℕ). drop n l') (sym filled_length) in
          e ∙ ap (λ (x : List ℕ). replicate ws.size 0 ++ x) (d ∙ drop-length l') ∙ append-nil (replicate ws.size 0) ∙ over_laws.zeros 0 ws.size

      pub measured_invalid : {p : ℕ} {c : List ℕ} → i ≡ Some p → c ≡ replicate ws.size 0 ++ drop ws.size l'
          → Decided ws weights (Err (ReachesInvalid p)) m c
      measured_invalid h e = let q = is_found (sym h ∙ lowest) in decided_invalid ws weights marks_are q.0 q.1 (cleared e)

      pub measured_accepted : {v a : ℕ} → i ≡ None → v ≡ most (at l') ws.size → a ≡ lowest_from (λ p. eqb (at l' p) v) 0 ws.size
          → Decided ws weights (accepted_run v a) m l'
      measured_accepted {v} h e d =
          let found = e ∙ passing.longest_found (at l') each in
          decided_accepted ws weights marks_are (not_found (sym h ∙ lowest)) found
          (d ∙ ap (λ (x : ℕ). lowest_from (λ p. eqb (at l' p) x) 0 ws.size) found ∙ passing.first_found (at l') each)
          (over_laws.whole (length_of (graph_of ws) w) ws.size l' filled_length each)
