-- Demand 3, first half, of the definition that the contract of `longest_run` cites. Assumes nothing.
use mathlib.Core.Path.{◌≡◌, refl, sym, subst, ◌∙◌}
use mathlib.Core.Logic.{inl, inr, ⊎_elim}
use mathlib.Core.Bool.{Bool, true, false, ◌&&◌, true≢false, false≢true}
use mathlib.Core.List.{List}
use Prim.Native.Nat.{ℕ, ◌≤◌, ◌<◌}
use native.Mathlib.Nat.{pos_of_ne-zero}
use native.Mathlib.Omega.{arith}
use borrow.Author.Tests.{eqb-true, eq-eqb, lt-ltb, le-ltb}
use Rattle.common.specs.Limits.{most_words, heaviest_weight}
use Rattle.common.specs.Lowest.{lowest}
use Rattle.common.proofs.Order.{split, same_or_not}
use Rattle.common.proofs.Lowest.{lowest_laws}
use Rattle.graph.specs.Graph.{Graph, Reachable}
use Rattle.graph.specs.Marks.{mark_of}
use Rattle.graph.specs.Longest.{longest, first}
use Rattle.graph.specs.Meaning.{Meaning}
use Rattle.graph.proofs.Laws.{laws}
use Rattle.graph.proofs.Meaning.{meaning}
use Rattle.graph.proofs.Ceiling.{ceiling}
use Rattle.std.specs.Prelude.{Err}
use Rattle.common.specs.declared.refusal.Refusal.TheVariants.{NoWords, ReachesInvalid}
use Rattle.runs.specs.Script.{Script, Sound, graph_of, weight_of}
use Rattle.runs.specs.Run.{Run, accepted_run, reaches_invalid, lowest_invalid, run_of}
use Rattle.runs.specs.Weights.{Weighs}
use Rattle.runs.specs.Demand.{MeetsInvalidAt, MeetsInvalid, Passes, Demand}
use Rattle.runs.proofs.Weights.{weight_laws}
use Rattle.runs.proofs.Outcome.{run_none, run_words}
use Rattle.runs.proofs.Lawful.{lawful}

-- two tests that both hold
both : (t u : Bool) → t && u ≡ true → (t ≡ true) × (u ≡ true)
both true u e = (refl, e)
both false u e = absurd (false≢true e)

module _ (ws : Script) (sound : Sound ws) (weights : List ℕ) (weighs : Weighs weights) where
  abbrev graph : Graph
  graph = graph_of ws

  abbrev w : ℕ → ℕ
  w = weight_of ws weights

  pub means : Meaning graph w
  means = meaning graph (lawful ws sound) w ((weight_laws weights weighs.accepted).some ws sound)

  pub inside : {p : ℕ} → Reachable graph p → p < ws.size
  inside {p} r = (laws.reaching graph (lawful ws sound)).below p r

  -- the lowest reachable invalid word is met by a path, and none below it is
  met : lowest_invalid ws < ws.size → MeetsInvalidAt ws (lowest_invalid ws)
  unfolding lowest_invalid
  met h =
      let e = both _ _ ((lowest_laws.first (reaches_invalid ws) 0 ws.size).holds (omega arith)) in
      record { reachable = (means.mark_one (lowest (reaches_invalid ws) ws.size) h).0 (eqb-true _ _ e.0); invalid = e.1 }

  least_met : (p : ℕ) → MeetsInvalidAt ws p → lowest_invalid ws ≤ p
  unfolding lowest_invalid
  least_met p m =
      let y : reaches_invalid ws p ≡ true = simp (eq-eqb (mark_of graph p) 1 ((means.mark_one p (inside m.reachable)).1 m.reachable), m.invalid) in
      ⊎_elim (λ d. d)
      (λ d. absurd (true≢false (sym y ∙ (lowest_laws.first (reaches_invalid ws) 0 ws.size).not_before p (omega arith) d)))
      (split (lowest (reaches_invalid ws) ws.size) p)

  unmet : ws.size ≤ lowest_invalid ws → MeetsInvalid ws → ⊥
  unmet h m = omega (arith, least_met m.word m.met, inside m.met.reachable)

  passes_most : {p k : ℕ} → Passes ws weights p k → k ≤ longest graph w
  passes_most {p} s = omega (arith, s.weight, means.longest_most p s.rest s.segment)

  passes_first : 0 < ws.size → Passes ws weights (first graph w) (longest graph w)
  passes_first z = let a = means.first_some z in record { rest = a.0; segment = a.1; weight = a.2 }

  -- a segment starts at a word
  pub starts : {p k : ℕ} → Passes ws weights p k → p < ws.size
  starts {p} s = inside ((laws.reaching graph (lawful ws sound)).segment p s.rest s.segment)

  -- Each number in turn.

  none : ws.size ≡ 0 → Demand ws weights (Err NoWords)
  none z =
      let unmet-here : MeetsInvalid ws → ⊥ = λ m. omega (arith, inside m.met.reachable) in
      record {
        refused = (λ k. inl z, λ k. omega arith);
        seven = (λ e. z, λ e. refl);
        eight = (λ e. absurd (omega arith), λ m. absurd (unmet-here m));
        place = λ e. absurd (omega arith);
        place_lowest = λ e. absurd (omega arith);
        no_place = λ n. refl;
        bounded = λ e. absurd (omega arith);
        reached = λ e. absurd (omega arith);
        first_lowest = λ e. absurd (omega arith);
        ceiling = omega arith;
      }

  invalid : lowest_invalid ws < ws.size → Demand ws weights (Err (ReachesInvalid (lowest_invalid ws)))
  invalid h =
      let m : MeetsInvalid ws = record { word = lowest_invalid ws; met = met h } in
      record {
        refused = (λ k. inr m, λ k. omega arith);
        seven = (λ e. absurd (omega arith), λ z. absurd (omega arith));
        eight = (λ e. m, λ e. refl);
        place = λ e. met h;
        place_lowest = λ e. least_met;
        no_place = λ n. absurd (n refl);
        bounded = λ z. absurd (omega arith);
        reached = λ z. absurd (omega arith);
        first_lowest = λ z. absurd (omega arith);
        ceiling = omega arith;
      }

  accepted : 0 < ws.size → ws.size ≤ lowest_invalid ws → Demand ws weights (accepted_run (longest graph w) (first graph w))
  accepted some valid =
      record {
        refused = (λ k. absurd (omega arith), ⊎_elim (λ z. omega arith) (λ m. absurd (unmet valid m)));
        seven = (λ e. absurd (omega arith), λ z. absurd (omega arith));
        eight = (λ e. absurd (omega arith), λ m. absurd (unmet valid m));
        place = λ e. absurd (omega arith);
        place_lowest = λ e. absurd (omega arith);
        no_place = λ n. refl;
        bounded = λ z p k s. passes_most s;
        reached = λ z. passes_first some;
        first_lowest = λ z p s. means.first_lowest p s.rest s.segment s.weight;
        ceiling = ceiling.longest-run graph (lawful ws sound) w heaviest_weight (λ p. weighs.bytes (ws.slot p));
      }

  module _ (a b : ℕ) (few : ws.size ≤ most_words) (h : ws.size ≤ a) (k : ws.size ≤ b) where
    of_run : {r : Run} → Demand ws weights r → run_of ws weights a b ≡ r → Demand ws weights (run_of ws weights a b)
    of_run d e = subst (λ (r : Run). Demand ws weights r) (sym e) d

    pub demand : Demand ws weights (run_of ws weights a b)
    demand =
        ⊎_elim
        (λ z. of_run (none z) (run_none ws weights a b few h k weighs.accepted z))
        (λ n. let some = pos_of_ne-zero n in let r = run_words ws weights a b few h k weighs.accepted some in
        ⊎_elim
        (λ valid. of_run (accepted some valid) (r ∙ simp (le-ltb (lowest_invalid ws) ws.size valid)))
        (λ l. of_run (invalid l) (r ∙ simp (lt-ltb (lowest_invalid ws) ws.size l)))
        (split ws.size (lowest_invalid ws)))
        (same_or_not ws.size 0)
