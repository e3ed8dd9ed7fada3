-- The path is a stretch from the first word on that weighs L. Assumes nothing.
use mathlib.Core.Path.{◌≡◌, refl, sym, ap, ◌∙◌}
use mathlib.Core.Logic.{⊎_elim}
use mathlib.Core.Bool.{Bool, true, false}
use mathlib.Core.List.{List, [], ◌∷◌}
use Prim.Native.Nat.{ℕ, suc, ◌-◌, ◌≤◌, ◌<◌}
use native.Mathlib.Omega.{arith}
use lib.Dec.{ltb}
use lib.ListN.{length, take, drop}
use lib.Seq.{take_at, drop_at}
use borrow.Author.Tests.{lt-ltb, le-ltb}
use Rattle.std.specs.Prelude.{Err}
use Rattle.common.specs.declared.refusal.Refusal.{Refusal}
use Rattle.common.specs.Limits.{most_words}
use Rattle.common.specs.Chain.{refuse_if}
use Rattle.common.proofs.Order.{split}
use Rattle.graph.specs.Graph.{Lawful}
use Rattle.graph.specs.Longest.{length_of, first}
use Rattle.sweep.specs.declared.edges.Successors.{Successors}
use Rattle.sweep.specs.declared.edges.Successors.TheVariants.{Invalid, Stop, One, Two}
use Rattle.sweep.specs.Steps.{list_of, Below}
use Rattle.runs.specs.Script.{Script, Sound, script_of, graph_of, weight_of}
use Rattle.runs.specs.Run.{Run, accepted_run, run_of, number_of, marks_after, lengths_after}
use Rattle.runs.proofs.Laws.{laws}
use Rattle.witness.specs.Following.{follow}
use Rattle.witness.specs.Witness.{path_of, path_answer_by, path_run_of, marks_witnessed, lengths_witnessed, path_witnessed}
use Rattle.witness.specs.Stretch.{FollowsLengths, LongestStretch, Witnessed, LongestPath, Paths}
use Rattle.witness.proofs.Following.{Ascending, follow_few, rest_of, follows, segment_of, weighs}
use Rattle.witness.proofs.Accepted.{first_is, first_reached, first_inside, first_length}
use Rattle.witness.proofs.Outcome.{run_many, path_many, path_short, path_refused, path_accepted}

-- steps are given lower first
ascending : (n : ℕ) (s : Successors) → Below n s → Ascending (list_of s)
ascending n Invalid b = tt
ascending n Stop b = tt
ascending n (One a) b = (λ r i. absurd i, tt)
ascending n (Two a c) b = (λ r i. ⊎_elim (λ e. above r e) (λ j. absurd j) i, (λ r i. absurd i, tt))
  where
    above : (r : ℕ) → r ≡ c → a < r
    above r e = omega (arith, b.0)

module _ (ws : Script) (sound : Sound ws) (weights : List ℕ) (a b l f : ℕ) (e : run_of ws weights a b ≡ accepted_run l f) where
  abbrev lengths : ℕ → ℕ
  lengths = length_of (graph_of ws) (weight_of ws weights)

  law : Lawful (graph_of ws)
  law = laws.lawful ws sound

  lower_first : (p : ℕ) → Ascending (list_of (ws.steps p))
  lower_first p = ascending ws.size (ws.steps p) (sound.below p)

  abbrev rest : List ℕ
  rest =
      rest_of (graph_of ws) law lengths lower_first (ws.size - 1) f

  followed : FollowsLengths (graph_of ws) lengths f rest
  followed =
      follows (graph_of ws) law lengths lower_first (ws.size - 1) f (omega arith)

  starts_with : path_of ws weights ≡ f ∷ rest
  unfolding path_of follow
  starts_with =
      let z : ws.size ≡ suc (ws.size - 1) = omega (arith, first_inside ws sound weights a b l f e) in
      ap (λ (x : ℕ). follow (graph_of ws) lengths ws.size x) (sym (first_is ws sound weights a b l f e))
      ∙ ap (λ (k : ℕ). follow (graph_of ws) lengths k f) z

  few-words : length (path_of ws weights) ≤ ws.size
  unfolding path_of
  few-words =
      follow_few (graph_of ws) law lengths ws.size (first (graph_of ws) (weight_of ws weights))

  longest_stretch : LongestStretch ws weights l f (path_of ws weights)
  longest_stretch =
      let r = first_reached ws sound weights a b l f e in
      record {
        rest = rest;
        starts = starts_with;
        stretch = segment_of (graph_of ws) law lengths f rest r followed;
        weight = weighs (graph_of ws) law (weight_of ws weights) f rest r followed ∙ first_length ws sound weights a b l f e;
        chosen = followed;
        few = few-words;
      }

module _ (ws : Script) (sound : Sound ws) (weights m l path : List ℕ) where
  marks_run : ws.size ≤ length path → marks_witnessed ws weights m l path ≡ marks_after ws weights m l
  unfolding marks_witnessed
  marks_run h = rw (le-ltb (length path) ws.size h)

  lengths_run : ws.size ≤ length path → lengths_witnessed ws weights m l path ≡ lengths_after ws weights m l
  unfolding lengths_witnessed
  lengths_run h = rw (le-ltb (length path) ws.size h)

  -- too many words or not
  by_count : {X : Type 0} → (most_words < ws.size → X) → (ws.size ≤ most_words → X) → X
  by_count many few = ⊎_elim few many (split ws.size most_words)

  witnessed : ws.size ≤ length path → (x f : ℕ) → run_of ws weights (length m) (length l) ≡ accepted_run x f → Witnessed ws weights m l path x f
  witnessed long x f e =
      let few = (laws.enough ws weights (length m) (length l) (ap number_of e)).few in
      let o = path_accepted ws weights m l path few long refl e refl refl refl refl in
      let p = path_of ws weights in
      record {
        answered = sym o.0;
        words = longest_stretch ws sound weights (length m) (length l) x f e;
        written = ap (take (length p)) (sym o.1.1.1) ∙ take_at p (drop (length p) path) (length p) refl;
        past = ap (drop (length p)) (sym o.1.1.1) ∙ drop_at p (drop (length p) path) (length p) refl;
      }

  untouched : (n : Refusal) → run_of ws weights (length m) (length l) ≡ Err n → path_witnessed ws weights m l path ≡ path
  unfolding path_witnessed
  untouched n e = rw e (either (ltb (length path) ws.size))
    where
      either : (t : Bool) → refuse_if t path path ≡ path
      either true = refl
      either false = refl

  as_run : (n : Refusal) → run_of ws weights (length m) (length l) ≡ Err n → most_words < ws.size
      → path_run_of ws weights (length m) (length l) (length path) ≡ Err n
  as_run n e h =
      sym (path_many ws weights m l path h).0
      ∙ ap (λ (r : Run). path_answer_by r []) (sym (run_many ws weights (length m) (length l) h) ∙ e)

  short_kept : length path < ws.size
      → (path_witnessed ws weights m l path ≡ path) × (marks_witnessed ws weights m l path ≡ m)
      × (lengths_witnessed ws weights m l path ≡ l)
  unfolding path_witnessed marks_witnessed lengths_witnessed
  short_kept h = let s = lt-ltb (length path) ws.size h in (rw s, rw s, rw s)

  path_is : LongestPath ws weights m l path
  path_is =
      record {
        accepted = witnessed;
        refused = λ long n e. by_count (λ h. as_run n e h) (λ few. sym (path_refused ws weights m l path few long refl e refl refl).0);
        many = λ h. sym (path_many ws weights m l path h).0;
        short = λ few h. sym (path_short ws weights m l path few h).0;
        marks_as_run = marks_run;
        lengths_as_run = lengths_run;
        path_untouched = untouched;
        short_untouched = short_kept;
      }

pub paths : Paths
paths =
    record {
      any = path_is;
      paths_of = λ version ws. path_is (script_of version ws) (laws.sound version ws);
    }
