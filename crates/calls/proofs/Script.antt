-- The bound for the words of a script, from that over any graphs. Assumes nothing.
use mathlib.Core.Path.{◌≡◌, refl, sym, ap, ap₂, subst, ◌∙◌}
use mathlib.Core.Logic.{inl, inr, ⊎_elim}
use mathlib.Core.Bool.{true}
use mathlib.Core.List.{List, [], ◌∷◌, ◌++◌, append_assoc, append-nil}
use Prim.Native.Nat.{ℕ, ◌*◌, ◌≤◌, ◌<◌, max}
use native.Mathlib.Nat.{le_antisymm}
use native.Mathlib.Omega.{arith}
use borrow.Author.Tests.{eq-eqb, lt-ltb}
use Rattle.common.specs.Numbers.{«ACCEPTED»}
use Rattle.common.specs.Lowest.{lowest_from}
use Rattle.common.proofs.Order.{split}
use Rattle.fields.specs.lua54.Table.{class_of, companion_of}
use Rattle.graph.specs.Graph.{Graph, In, Along, Path}
use Rattle.graph.specs.Marks.{leads, mark_of}
use Rattle.graph.specs.Longest.{within, heaviest, length_of, most, longest, first}
use Rattle.graph.specs.Meaning.{Meaning}
use Rattle.graph.proofs.Laws as graph
use Rattle.graph.proofs.Meaning.{meaning}
use Rattle.sweep.specs.Steps.{unless, one, ordered, two, serves_of}
use Rattle.steps.specs.lua54.Successors.{opcode_at, is_between, companion_present, successors_of}
use Rattle.fields.specs.declared.version.Version.{Version}
use Rattle.runs.specs.Script.{Script, script_of, graph_of, weight_of, Sound}
use Rattle.runs.specs.Weights.{lowest_zero, refuses_weights, Weighs}
use Rattle.runs.specs.Counted.{ones}
use Rattle.runs.specs.Demand.{Demand}
use Rattle.runs.specs.Run.{lowest_invalid, run_of, number_of, longest_of, first_of}
use Rattle.runs.specs.Laws.{Enough}
use Rattle.runs.proofs.Laws.{laws}
use Rattle.meter.specs.declared.step.Meter.{Meter}
use Rattle.meter.specs.Feed.{scale_of}
use Rattle.meter.specs.Model.{Model, empty_model, last_from, last_or0, writes, fed, model_after, weight_since}
use Rattle.meter.specs.Calls.{FollowsModel}
use Rattle.meter.specs.Bound.{feeds, Bound}
use Rattle.meter.specs.Demand3.{Demand3}
use Rattle.meter.proofs.Laws as meter
use Rattle.calls.specs.Control.{GraphFunction, Activation, Control, idle, Move, call, step, leave, Run, control_after}
use Rattle.calls.specs.Bound.{Fit, longest_run, largest_run, Bounded}
use Rattle.calls.specs.Script.{function_of, functions_from, run_answer_of, largest_answer, AcceptedScript}
use Rattle.calls.specs.Script.{Shows, Metered, ScriptBounded, ScriptsBounded, version_scripts}
use Rattle.calls.specs.Script.{EitherVersion, recursive, RecursionCase}
use Rattle.calls.proofs.Bound.{calls_bounded}

-- A path fed word by word is written down whole.

module _ (g : Graph) where
  word_written : (b : Model) (q : ℕ) → writes g b.path q ≡ true → (fed g b q).path ≡ b.path ++ (q ∷ [])
  word_written b q h = rw h

  written : (x : ℕ) (xs : List ℕ) (b : Model) (qs : List ℕ) → b.path ≡ x ∷ xs → Along g (last_from x xs) qs → (model_after g b (feeds qs)).path ≡ x ∷ (xs ++ qs)
  written x xs b [] e a = e ∙ ap (λ (l : List ℕ). x ∷ l) (sym (append-nil xs))
  written x xs b (q ∷ qs) e a =
      let h : writes g b.path q ≡ true = rw e (((graph.laws).member_in q (g.successors (last_from x xs))).1 a.1) in
      written x (xs ++ (q ∷ [])) (fed g b q) qs (word_written b q h ∙ ap (λ (l : List ℕ). l ++ (q ∷ [])) e) (rw ((meter.laws).last_more x xs q) a.2)
      ∙ ap (λ (l : List ℕ). x ∷ l) (append_assoc xs (q ∷ []) qs)

  path_written : (words : List ℕ) → Path g words → (model_after g empty_model (feeds words)).path ≡ words
  path_written [] path = absurd path
  path_written (p ∷ ps) path =
      let h : writes g [] p ≡ true = rw (eq-eqb p 0 path.0, lt-ltb 0 g.size (omega (arith, (graph.laws).along_inside g p ps path.1))) in
      written p [] (fed g empty_model p) ps (word_written empty_model p h) path.1

-- An accepted function.

module _ (weights : List ℕ) (weighs : Weighs weights) (ws : Script) (sound : Sound ws) (accepted : number_of (run_answer_of weights ws) ≡ «ACCEPTED») where
  enough : Enough ws.size weights ws.size ws.size
  enough = laws.enough ws weights ws.size ws.size accepted

  demand : Demand ws weights (run_answer_of weights ws)
  demand = laws.demand ws sound weights ws.size ws.size enough weighs.bytes

  some_words : 0 < ws.size
  some_words = ⊎_elim (λ none. absurd (omega (arith, accepted, demand.seven.1 (omega arith)))) (λ some. some) (split ws.size 0)

  means : Meaning (graph_of ws) (weight_of ws weights)
  means = meaning (graph_of ws) (laws.lawful ws sound) (weight_of ws weights) ((laws.weights weights weighs.accepted).some ws sound)

  is_longest : longest (graph_of ws) (weight_of ws weights) ≡ longest_of (run_answer_of weights ws)
  is_longest =
      let most = means.longest_some some_words in
      let some = demand.reached accepted in
      le_antisymm
      (demand.bounded accepted most.0 (longest (graph_of ws) (weight_of ws weights)) (record { rest = most.1; segment = most.2; weight = most.3 }))
      (omega (arith, means.longest_most (first_of (run_answer_of weights ws)) some.rest some.segment, some.weight))

  -- its meter, on a path
  pub shows : (m : Meter) → m.services < 4294967296 → (a : Activation) → (rest : Script → ℕ → ℕ) → a.function ≡ function_of weights rest ws
      → Path (graph_of ws) a.words → Shows (scale_of ws weights) m a (longest_of (run_answer_of weights ws))
  shows m fits a rest same path =
      let d : Demand3 ws weights = (meter.laws).demand3 ws sound weights weighs enough.few in
      let f : FollowsModel (scale_of ws weights) m (feeds a.words) = d.meter m fits (feeds a.words) in
      let b : Bound (scale_of ws weights) m (longest_of (run_answer_of weights ws)) = d.bound ws.size ws.size accepted m fits in
      let written : (model_after (graph_of ws) empty_model (feeds a.words)).path ≡ a.words = path_written (graph_of ws) a.words path in
      record {
        taken = b.taken a.words path;
        last = f.last ∙ ap last_or0 written;
        count =
            f.count ∙ ap (weight_since (graph_of ws) (weight_of ws weights)) written
            ∙ sym (ap (λ (h : GraphFunction). weight_since h.graph h.weight a.words) same);
        never = b.never (feeds a.words);
      }

-- The functions of a script.

module _ (weights : List ℕ) (rest : Script → ℕ → ℕ) where
  abbrev functions : List Script → List GraphFunction
  functions script = functions_from weights rest script

  abbrev pub Named : List Script → GraphFunction → Type 0
  Named script f = (ws : Script) × In ws script × (f ≡ function_of weights rest ws)

  pub named : (script : List Script) (f : GraphFunction) → In f (functions script) → Named script f
  named [] f i = absurd i
  named (ws ∷ script) f (inl e) = (ws, inl refl, e)
  named (ws ∷ script) f (inr i) = let n = named script f i in (n.0, inr n.1, n.2)

  largest_is : (script : List Script) → ((ws : Script) → In ws script → longest_run (function_of weights rest ws) ≡ longest_of (run_answer_of weights ws))
      → largest_run (functions script) ≡ largest_answer weights script
  largest_is [] h = refl
  largest_is (ws ∷ script) h = ap₂ max (h ws (inl refl)) (largest_is script (λ vs i. h vs (inr i)))

  module _ (script : List Script) (ok : AcceptedScript weights rest script) where
    pub fit_of : (f : GraphFunction) → Named script f → Fit f
    fit_of f n =
        subst (λ (h : GraphFunction). Fit h) (sym n.2)
        (record {
          law = laws.lawful n.0 (ok.sound n.0 n.1);
          some = some_words weights ok.weighs n.0 (ok.sound n.0 n.1) (ok.accepted n.0 n.1);
          part = ok.part n.0;
        })

    answers : (ws : Script) → In ws script → longest_run (function_of weights rest ws) ≡ longest_of (run_answer_of weights ws)
    answers ws i = is_longest weights ok.weighs ws (ok.sound ws i) (ok.accepted ws i)

    metered : (a : Activation) → Named script a.function → Path a.function.graph a.words → Metered weights rest script a
    metered a n path =
        record {
          words = n.0;
          known = n.1;
          same = n.2;
          shows = λ m fits.
              shows weights ok.weighs n.0 (ok.sound n.0 n.1) (ok.accepted n.0 n.1) m fits
              a rest n.2 (subst (λ (h : GraphFunction). Path h.graph a.words) n.2 path);
        }

    bounded_by : (moves : List Move) (c : Control) → Bounded (functions script) moves c → ScriptBounded weights rest script moves c
    bounded_by moves c b =
        record {
          answers = answers;
          deep = λ d n. subst (λ (x : ℕ). c.since ≤ d * x) (largest_is script answers) (b.deep d n);
          bounded = b;
          meters = λ a i. metered a (named script a.function (b.known a i)) (b.paths a i);
        }

    bounded : (moves : List Move) → Run (functions script) idle moves → ScriptBounded weights rest script moves (control_after idle moves)
    bounded moves r =
        bounded_by moves (control_after idle moves) (calls_bounded (functions script) (λ f i. fit_of f (named script f i)) moves r)

pub scripts_bounded : ScriptsBounded
scripts_bounded = bounded

-- Words of either version.

of_version : (P : Script → Type 0) (version : Version) → ((ws : List ℕ) → P (script_of version ws))
    → (script : List (List ℕ)) (f : Script) → In f (version_scripts version script) → P f
of_version P version h [] f i = absurd i
of_version P version h (ws ∷ script) f (inl e) = subst P (sym e) (h ws)
of_version P version h (ws ∷ script) f (inr i) = of_version P version h script f i

each_accepted : (weights : List ℕ) (version : Version) (script : List (List ℕ))
    → ((ws : List ℕ) → In ws script → number_of (run_answer_of weights (script_of version ws)) ≡ «ACCEPTED»)
    → (f : Script) → In f (version_scripts version script) → number_of (run_answer_of weights f) ≡ «ACCEPTED»
each_accepted weights version [] h f i = absurd i
each_accepted weights version (ws ∷ script) h f (inl e) = subst (λ (g : Script). number_of (run_answer_of weights g) ≡ «ACCEPTED») (sym e) (h ws (inl refl))
each_accepted weights version (ws ∷ script) h f (inr i) = each_accepted weights version script (λ vs j. h vs (inr j)) f i

pub either_version : EitherVersion
either_version version weights weighs rest part script accepted moves run =
    bounded weights rest (version_scripts version script)
    (record {
      weighs = weighs;
      part = part;
      sound = of_version Sound version (laws.sound version) script;
      accepted = each_accepted weights version script accepted;
    })
    moves run

pub case : RecursionCase
unfolding unless one ordered two opcode_at is_between companion_present successors_of serves_of class_of companion_of
    leads mark_of within heaviest length_of most lowest_from longest first lowest_zero refuses_weights
    lowest_invalid run_of
case =
    let f : GraphFunction = function_of ones (λ ws p. 0) recursive in
    record {
      alone = refl;
      twice = record {
        moves = call f ∷ step 1 ∷ call f ∷ step 1 ∷ step 2 ∷ leave ∷ step 2 ∷ [];
        run = (inl refl, (inl refl, (inl refl, (inl refl, (inl refl, (tt, (inl refl, tt)))))));
        nested = (omega arith, (omega arith, (omega arith, (omega arith, (omega arith, (omega arith, (omega arith, omega arith)))))));
        returning = (refl, tt);
        since = refl;
      };
    }
