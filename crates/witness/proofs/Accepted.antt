-- An accepted run: its answer, its lengths, and where it begins. Assumes nothing.
use mathlib.Core.Path.{◌≡◌, refl, sym, ap, ◌∙◌}
use mathlib.Core.Bool.{Bool, true, false, ◌||◌, false≢true}
use mathlib.Core.List.{List}
use Prim.Native.Nat.{ℕ, ◌<◌}
use native.Mathlib.Omega.{arith}
use lib.Dec.{ltb, eqb}
use lib.ListN.{get_or}
use borrow.Author.Tests.{eqb-false}
use Rattle.std.specs.Prelude.{Ok, Err}
use Rattle.common.specs.declared.refusal.Refusal.TheVariants.{TooManyWords, ShortSlice, NoWords, ReachesInvalid, WeightsRefused}
use Rattle.common.specs.Limits.{most_words}
use Rattle.common.specs.Numbers.{«ACCEPTED»}
use Rattle.common.specs.Chain.{refuse_if}
use Rattle.common.specs.Lists.{over}
use Rattle.common.proofs.Over.{over_laws}
use Rattle.sweep.specs.PassInvariants.{at}
use Rattle.graph.specs.Graph.{Reachable}
use Rattle.graph.specs.Longest.{length_of, longest, first}
use Rattle.graph.specs.Meaning.{Meaning}
use Rattle.graph.proofs.Meaning.{meaning}
use Rattle.graph.proofs.Laws as graph
use Rattle.runs.specs.Script.{Script, Sound, graph_of, weight_of}
use Rattle.runs.specs.Weights.{refuses_weights, weights_place}
use Rattle.runs.specs.Run.{Run, accepted_run, run_of, number_of, longest_of, first_of, number_is, lowest_invalid, lengths_after}
use Rattle.runs.proofs.Laws.{laws}
use Rattle.witness.specs.Following.{follow}
use Rattle.witness.specs.Witness.{path_of}
use Rattle.witness.specs.Walking.{walked_by}
use Rattle.witness.proofs.Following.{follow_same}

abbrev pub is_accepted : Run → Bool
is_accepted (Ok r) = true
is_accepted (Err k) = false

module _ (ws : Script) (sound : Sound ws) (weights : List ℕ) (a b l f : ℕ) (e : run_of ws weights a b ≡ accepted_run l f) where
  abbrev L : Run
  L = accepted_run (longest (graph_of ws) (weight_of ws weights)) (first (graph_of ws) (weight_of ws weights))

  -- no check refused
  answer : (eqb ws.size 0 ≡ false) × (L ≡ accepted_run l f)
  unfolding run_of
  answer =
      go (ltb most_words ws.size) (ltb a ws.size || ltb b ws.size) (refuses_weights weights)
      (eqb ws.size 0) (ltb (lowest_invalid ws) ws.size) refl e
    where
      go : (s t u v x : Bool) → eqb ws.size 0 ≡ v
          → refuse_if s (Err TooManyWords) (refuse_if t (Err ShortSlice)
          (refuse_if u (Err (WeightsRefused (weights_place weights)))
          (refuse_if v (Err NoWords)
          (refuse_if x (Err (ReachesInvalid (lowest_invalid ws))) L))))
          ≡ accepted_run l f
          → (eqb ws.size 0 ≡ false) × (L ≡ accepted_run l f)
      go true t u v x h d = absurd (false≢true (ap is_accepted d))
      go false true u v x h d = absurd (false≢true (ap is_accepted d))
      go false false true v x h d = absurd (false≢true (ap is_accepted d))
      go false false false true x h d = absurd (false≢true (ap is_accepted d))
      go false false false false true h d = absurd (false≢true (ap is_accepted d))
      go false false false false false h d = (h, d)

  pub longest_is : l ≡ longest (graph_of ws) (weight_of ws weights)
  longest_is = sym (ap longest_of answer.1)

  pub first_is : f ≡ first (graph_of ws) (weight_of ws weights)
  first_is = sym (ap first_of answer.1)

  some : 0 < ws.size
  some = let n = eqb-false ws.size 0 answer.0 in omega arith

  means : Meaning (graph_of ws) (weight_of ws weights)
  means =
      meaning (graph_of ws) (laws.lawful ws sound) (weight_of ws weights)
      ((laws.weights weights (laws.enough ws weights a b (ap number_of e)).weighed).some ws sound)

  reached : Reachable (graph_of ws) (first (graph_of ws) (weight_of ws weights))
  reached =
      let s = means.first_some some in
      ((graph.laws).reaching (graph_of ws) (laws.lawful ws sound)).segment
      (first (graph_of ws) (weight_of ws weights)) s.0 s.1

  pub first_reached : Reachable (graph_of ws) f
  first_reached = rw first_is reached

  pub first_inside : f < ws.size
  first_inside = ((graph.laws).reaching (graph_of ws) (laws.lawful ws sound)).below f first_reached

  -- L is the length of the first word
  pub first_length : length_of (graph_of ws) (weight_of ws weights) f ≡ l
  first_length =
      let w = weight_of ws weights in
      let x = first (graph_of ws) w in
      let s = means.first_some some in
      let up = means.length_most x s.0 s.1 in
      let t = means.length_some x reached in
      let down = means.longest_most x t.0 t.1 in
      ap (length_of (graph_of ws) w) first_is ∙ omega (arith, s.2, t.2, longest_is)

-- the lengths that an accepted run leaves
module _ (ws : Script) (sound : Sound ws) (weights m l : List ℕ) (accepted : number_is ws weights m l ≡ «ACCEPTED») where
  accepted_lengths : lengths_after ws weights m l ≡ over (length_of (graph_of ws) (weight_of ws weights)) ws.size l
  unfolding lengths_after
  accepted_lengths = rw accepted

  -- the words that are followed in them
  pub walked_is : {l' : List ℕ} {f : ℕ} → l' ≡ lengths_after ws weights m l → f ≡ first (graph_of ws) (weight_of ws weights) → walked_by ws l' f ≡ path_of ws weights
  unfolding path_of
  walked_is {l'} {f} e k =
      follow_same (graph_of ws) (laws.lawful ws sound) (at l') (length_of (graph_of ws) (weight_of ws weights))
      (λ q h. ap (λ (x : List ℕ). get_or x q 0) (e ∙ accepted_lengths)
      ∙ over_laws.at (length_of (graph_of ws) (weight_of ws weights)) ws.size l q h)
      ws.size f
      ∙ ap (follow (graph_of ws) (length_of (graph_of ws) (weight_of ws weights)) ws.size) k
