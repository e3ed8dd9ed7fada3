-- Inner: no promise and no law between crates rests on what stands here.
-- What the private functions of the list ask and leave: a word's distance and its length, every word counting
-- 1, in one element, where its entry was. No exported contract cites it. No word is read here.
-- Assumes nothing.
use Rattle.std.specs.Prelude.{◌≡◌, cond, Result, Ok, Err, ⊤, List, ℕ, ◌+◌, ◌*◌, ◌/◌, ◌%◌, ◌≤◌, ◌<◌}
use Rattle.std.specs.Prelude.{Option, Some, ltb, leb, eqb, length, get_or}
use Rattle.common.specs.Limits.{most_words}
use Rattle.common.specs.Lists.{tabulate, over}
use Rattle.common.specs.Lowest.{found}
use Rattle.common.specs.declared.refusal.Refusal.{Refusal}
use Rattle.common.specs.declared.refusal.Refusal.TheVariants.{ReachesInvalid}
use Rattle.graph.specs.Graph.{Graph, In}
use Rattle.graph.specs.Marks.{mark_of}
use Rattle.graph.specs.Longest.{best, length_of}
use Rattle.graph.specs.Distance.{ends_by, least_of, distance_of}
use Rattle.sweep.specs.Steps.{list_of, is_invalid, unit_weight}
use Rattle.sweep.specs.Entries.{entries, entry_steps, graph_in, lowest_by}
use Rattle.sweep.specs.PassInvariants.{steps_in}
use Rattle.service.specs.Questions.{listed_at}

-- a pair is a distance times this, and a length: each is 32,768 at most
abbrev pub «LENGTHS» : ℕ
«LENGTHS» = 65536

-- the distance and the length at word p
abbrev pub distance_in : List ℕ → ℕ → ℕ
distance_in l p = get_or l p 0 / «LENGTHS»

abbrev pub paired_length : List ℕ → ℕ → ℕ
paired_length l p = get_or l p 0 % «LENGTHS»

-- the pair of word p of a graph: 0 if it is unreachable
abbrev pub pair_at : Graph → ℕ → ℕ
pair_at g p = cond (eqb (mark_of g p) 1) (distance_of g p * «LENGTHS» + length_of g unit_weight p) 0

-- the pair of a reachable word p, whose steps are qs, from those above it. Which steps serve does not hang on
-- the entries es
abbrev pub pair_by : List ℕ → List ℕ → ℕ → List ℕ → ℕ
pair_by es l p qs = (1 + cond (ends_by (graph_in es) p qs) 0 (least_of (distance_in l) qs)) * «LENGTHS»
    + (1 + best (graph_in es) p (paired_length l) qs)

-- what pairing word p asks: the words above it have their pairs, none too large, and a is that of the next
pub record Pairing (m l : List ℕ) (p a : ℕ) : Type 0 where
  pub in_m : p < length m
  pub in_l : p < length l
  pub steps : (q : ℕ) → In q (list_of (steps_in l p)) → q < length l
  pub next : a ≡ get_or l (p + 1) 0
  pub near : (q : ℕ) → p < q → distance_in l q ≤ most_words
  pub low : (q : ℕ) → p < q → paired_length l q ≤ most_words

-- the lowest reachable invalid word from word p on, where i is the lowest above it
abbrev pub invalid_from : List ℕ → List ℕ → ℕ → Option ℕ → Option ℕ
invalid_from m l p i = cond (eqb (get_or m p 0) 0) i (cond (is_invalid (steps_in l p)) (Some p) i)

-- and what it finds: the word's pair, and the lowest invalid word from it on
pub record Paired (m l : List ℕ) (p : ℕ) (i : Option ℕ) (v : ℕ) (i' : Option ℕ) : Type 0 where
  pub pair_is : (es : List ℕ) → v ≡ cond (eqb (get_or m p 0) 0) 0 (pair_by es l p (list_of (steps_in l p)))
  pub invalid_is : i' ≡ invalid_from m l p i

-- what the pass leaves: the pairs where the entries stood. Its answer is the lowest reachable invalid word
pub record Pairs (l l' : List ℕ) (r : Option ℕ) : Type 0 where
  pub each : (p : ℕ) → p < length l → get_or l' p 0 ≡ pair_at (graph_in (entries l)) p
  pub lowest-invalid :
      r ≡ found (length (entries l)) (lowest_by (length (entries l)) (entry_steps (entries l)))

-- what is listed by a pair's distance x: an unreachable word has 0
abbrev pub listed_by : ℕ → ℕ → ℕ
listed_by d x = cond (eqb x 0) 0 (cond (leb x d) 1 0)

-- the answer, the lengths and the list after entries es: refused where a reachable word is bad, with the list
-- as it was
abbrev pub by_lowest : {A : Type 0} → List ℕ → A → A → A
by_lowest es refused accepted = cond
    (ltb (lowest_by (length es) (entry_steps es)) (length es)) refused accepted

abbrev pub answer_in : List ℕ → Result ⊤ Refusal
answer_in es =
    by_lowest es (Err (ReachesInvalid (lowest_by (length es) (entry_steps es)))) (Ok tt)

abbrev pub lengths_in : List ℕ → List ℕ
lengths_in es = by_lowest es (tabulate (λ p. 0) 0 (length es))
    (tabulate (length_of (graph_in es) unit_weight) 0 (length es))

abbrev pub list_in : ℕ → List ℕ → List ℕ → List ℕ
list_in d es list = by_lowest es list (over (listed_at (graph_in es) d) (length es) list)
