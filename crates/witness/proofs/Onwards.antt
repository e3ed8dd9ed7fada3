-- Where a stretch goes on from a word, by the word's steps, and the loop that writes it. Assumes nothing.
use mathlib.Core.Path.{◌≡◌, refl, sym, ap, subst, ◌∙◌}
use mathlib.Core.Bool.{Bool}
use mathlib.Core.List.{List, [], ◌∷◌, ◌++◌, append_assoc}
use Prim.Native.Nat.{ℕ, suc, ◌+◌, ◌-◌, ◌≤◌, ◌<◌}
use native.Mathlib.Omega.{arith}
use lib.ListN.{length, drop, set, length-set, length-append}
use Rattle.std.specs.Prelude.{Option, None, Some}
use Rattle.common.specs.Lists.{put}
use Rattle.common.proofs.Put.{put_laws}
use Rattle.sweep.specs.PassInvariants.{at}
use Rattle.sweep.specs.declared.edges.Successors.{Successors}
use Rattle.sweep.specs.Steps.{list_of, serves_of}
use Rattle.runs.specs.Script.{Script, Sound, graph_of}
use Rattle.runs.proofs.Laws.{laws}
use Rattle.witness.specs.Following.{onwards, going_on, follow}
use Rattle.witness.specs.Walking.{Walks, walked_by, Walked}
use Rattle.witness.proofs.Following.{found_in}

-- the loop: so many words are written, and p is the next
pub record Midway (ws : Script) (l : List ℕ) (first : ℕ) (path₀ path : List ℕ) (count p : ℕ) : Type 0 where
  pub upto : count ≤ ws.size
  pub inside : p < ws.size
  pub same : length path ≡ length path₀
  pub long : ws.size ≤ length path₀
  pub words : List ℕ
  pub counted : length words ≡ count
  pub stands : path ≡ put path₀ 0 words
  pub whole : walked_by ws l first ≡ words ++ follow (graph_of ws) (at l) (ws.size - count) p

nothing_after : (xs : List ℕ) → xs ++ [] ≡ xs
nothing_after [] = refl
nothing_after (x ∷ xs) = ap (λ (ys : List ℕ). x ∷ ys) (nothing_after xs)

module _ (ws : Script) (sound : Sound ws) (l : List ℕ) (first : ℕ) (path₀ : List ℕ) where
  pub midway_none : {n : ℕ} → Walks ws n l first path₀ → Midway ws l first path₀ path₀ 0 first
  midway_none w =
      let z : ws.size ≡ ws.size - 0 = omega arith in
      record {
        upto = omega arith;
        inside = w.inside;
        same = refl;
        long = w.path_long;
        words = [];
        counted = refl;
        stands = put_laws.none path₀ 0;
        whole = ap (λ (k : ℕ). follow (graph_of ws) (at l) k first) z;
      }

  finish : {path : List ℕ} {r : ℕ} (xs : List ℕ) → walked_by ws l first ≡ xs → length xs ≡ r → path ≡ put path₀ 0 xs → Walked ws l first path₀ path r
  finish {path} {r} xs e k s =
      record { count = sym (ap length e ∙ k); written = s ∙ put_laws.start path₀ xs ∙ ap (λ (ys : List ℕ). ys ++ drop (length ys) path₀) (sym e) }

  module _ {path : List ℕ} {count p : ℕ} (m : Midway ws l first path₀ path count p) where
    one_set : count < ws.size → set path count p ≡ put path₀ 0 (m.words ++ (p ∷ []))
    one_set h =
        let z : 0 + count ≡ count = omega arith in
        subst (λ (k : ℕ). set path k p ≡ put path₀ 0 (m.words ++ (p ∷ []))) z
        (put_laws.then_one path₀ path 0 count m.words p m.stands m.counted (omega (arith, m.long)))

    one_counted : length (m.words ++ (p ∷ [])) ≡ count + 1
    one_counted = length-append m.words (p ∷ []) ∙ ap (λ (k : ℕ). k + 1) m.counted

    turn : count < ws.size → follow (graph_of ws) (at l) (ws.size - count) p
        ≡ p ∷ going_on (λ q. follow (graph_of ws) (at l) (ws.size - (count + 1)) q) (onwards (graph_of ws).serves (at l) p ((graph_of ws).successors p))
    unfolding follow
    turn h = let z : ws.size - count ≡ suc (ws.size - (count + 1)) = omega arith in ap (λ (k : ℕ). follow (graph_of ws) (at l) k p) z

    turned : count < ws.size → {o t : Option ℕ} → o ≡ onwards (graph_of ws).serves (at l) p ((graph_of ws).successors p) → o ≡ t
        → walked_by ws l first ≡ m.words ++ (p ∷ going_on (λ q. follow (graph_of ws) (at l) (ws.size - (count + 1)) q) t)
    turned h {o} {t} k e =
        m.whole ∙ ap (λ (xs : List ℕ). m.words ++ xs) (turn h)
        ∙ ap (λ (x : Option ℕ). m.words ++ (p ∷ going_on (λ q. follow (graph_of ws) (at l) (ws.size - (count + 1)) q) x)) (sym k ∙ e)

    -- o is where word p goes on by its steps
    by_own : {o : Option ℕ} {s : Successors} → ws.serves ≡ serves_of → o ≡ onwards serves_of (at l) p (list_of s) → s ≡ ws.steps p
        → o ≡ onwards (graph_of ws).serves (at l) p ((graph_of ws).successors p)
    by_own v e h =
        e ∙ ap (λ (x : Successors). onwards serves_of (at l) p (list_of x)) h
        ∙ ap (λ (x : ℕ → ℕ → Bool). onwards x (at l) p (list_of (ws.steps p))) (sym v)

    pub midway_more :
        count < ws.size → ws.serves ≡ serves_of → {o : Option ℕ} {s : Successors} {q : ℕ} → o ≡ onwards serves_of (at l) p (list_of s) → s ≡ ws.steps p → o ≡ Some q
        → Midway ws l first path₀ (set path count p) (count + 1) q
    midway_more h v {o} {s} {q} a b e =
        let k = by_own v a b in
        record {
          upto = omega arith;
          inside = (laws.lawful ws sound).inside p q (found_in (graph_of ws) (at l) p ((graph_of ws).successors p) q (sym k ∙ e));
          same = simp length-set m.same;
          long = m.long;
          words = m.words ++ (p ∷ []);
          counted = one_counted;
          stands = one_set h;
          whole = turned h k e ∙ sym (append_assoc m.words (p ∷ []) (follow (graph_of ws) (at l) (ws.size - (count + 1)) q));
        }

    pub midway_ends :
        count < ws.size → ws.serves ≡ serves_of → {o : Option ℕ} {s : Successors} → o ≡ onwards serves_of (at l) p (list_of s) → s ≡ ws.steps p → o ≡ None
        → Walked ws l first path₀ (set path count p) (count + 1)
    midway_ends h v a b e = finish (m.words ++ (p ∷ [])) (turned h (by_own v a b) e) one_counted (one_set h)

    pub midway_done : {n : ℕ} → ws.size ≡ n → n ≤ count → Walked ws l first path₀ path n
    unfolding follow
    midway_done {n} e h =
        let z : ws.size - count ≡ 0 = omega arith in
        let c : count ≡ n = omega (arith, m.upto) in
        finish m.words (m.whole ∙ ap (λ (k : ℕ). m.words ++ follow (graph_of ws) (at l) k p) z ∙ nothing_after m.words) (m.counted ∙ c) m.stands
