-- Request C-13: number 9 is never given, and words that count 1 each are no more than there are. Assumes nothing.
use mathlib.Core.Path.{◌≡◌, refl, ap, ◌∙◌}
use mathlib.Core.Bool.{Bool, true, false, cond, ◌||◌}
use mathlib.Core.List.{List, [], ◌∷◌}
use Prim.Native.Nat.{ℕ, ◌≤◌, zero-le}
use native.Mathlib.Omega.{arith}
use lib.Dec.{ltb, eqb}
use lib.ListN.{length}
use Rattle.common.specs.Limits.{most_words}
use Rattle.graph.specs.Graph.{weigh}
use Rattle.graph.specs.Longest.{longest, first}
use Rattle.graph.proofs.Ceiling.{ceiling}
use Rattle.std.specs.Prelude.{Err}
use Rattle.common.specs.declared.refusal.Refusal.TheVariants.{TooManyWords, ShortSlice, NoWords, ReachesInvalid, WeightsRefused}
use Rattle.sweep.specs.Steps.{unit_weight}
use Rattle.runs.specs.Script.{Script, Sound, graph_of, weight_of}
use Rattle.runs.specs.Weights.{refuses_weights, weights_place}
use Rattle.runs.specs.Run.{Run, accepted_run, number_of, longest_of, lowest_invalid, run_of}
use Rattle.runs.specs.Counted.{ones}
use Rattle.runs.proofs.Lawful.{lawful}
use Rattle.runs.proofs.Counted.{ones_weigh}

-- the chain of the run's checks, by its tests
abbrev pub chain : Bool → Bool → Bool → Bool → Bool → ℕ → ℕ → ℕ → ℕ → Run
chain a b c d e p q l f =
    cond a (Err TooManyWords) (cond b (Err ShortSlice) (cond c (Err (WeightsRefused p)) (cond d (Err NoWords) (cond e (Err (ReachesInvalid q)) (accepted_run l f)))))

module _ (P : Run → Type 0) (p q l f : ℕ) (one : P (Err TooManyWords)) (six : P (Err ShortSlice))
    (eighteen : P (Err (WeightsRefused p))) (seven : P (Err NoWords)) (eight : P (Err (ReachesInvalid q)))
    (accepted : P (accepted_run l f)) where
  each : (a b c d e : Bool) → P (chain a b c d e p q l f)
  each true b c d e = one
  each false true c d e = six
  each false false true d e = eighteen
  each false false false true e = seven
  each false false false false true = eight
  each false false false false false = accepted

module _ (ws : Script) (weights : List ℕ) (marks lengths : ℕ) where
  pub never_given : number_of (run_of ws weights marks lengths) ≡ 9 → ⊥
  unfolding run_of
  never_given =
      each (λ r. number_of r ≡ 9 → ⊥) (weights_place weights) (lowest_invalid ws)
      (longest (graph_of ws) (weight_of ws weights)) (first (graph_of ws) (weight_of ws weights))
      (λ h. omega (arith, h)) (λ h. omega (arith, h)) (λ h. omega (arith, h)) (λ h. omega (arith, h)) (λ h. omega (arith, h)) (λ h. omega (arith, h))
      (ltb most_words ws.size) (ltb marks ws.size || ltb lengths ws.size) (refuses_weights weights)
      (eqb ws.size 0) (ltb (lowest_invalid ws) ws.size)

module _ (ws : Script) (sound : Sound ws) where
  unit_small : longest (graph_of ws) unit_weight ≤ ws.size
  unit_small = omega (arith, ceiling.longest-run (graph_of ws) (lawful ws sound) unit_weight 1 (λ p. omega arith))

  ones_small : longest (graph_of ws) (weight_of ws ones) ≤ ws.size
  ones_small = rw (ones_weigh ws sound) unit_small

  pub within_words : (marks lengths : ℕ) → longest_of (run_of ws ones marks lengths) ≤ ws.size
  unfolding run_of
  within_words marks lengths =
      each (λ r. longest_of r ≤ ws.size) (weights_place ones) (lowest_invalid ws)
      (longest (graph_of ws) (weight_of ws ones)) (first (graph_of ws) (weight_of ws ones))
      zero-le zero-le zero-le zero-le zero-le ones_small
      (ltb most_words ws.size) (ltb marks ws.size || ltb lengths ws.size) (refuses_weights ones) (eqb ws.size 0) (ltb (lowest_invalid ws) ws.size)

  counts : (ps : List ℕ) → weigh unit_weight ps ≡ length ps
  counts [] = refl
  counts (p ∷ ps) = let t = counts ps in omega (arith, t)

  pub counted : (ps : List ℕ) → weigh (weight_of ws ones) ps ≡ length ps
  counted ps = ap (λ (w : ℕ → ℕ). weigh w ps) (ones_weigh ws sound) ∙ counts ps
