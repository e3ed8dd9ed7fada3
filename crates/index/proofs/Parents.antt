-- Which function each stands in, of functions one after another. Assumes nothing.
use mathlib.Core.Path.{◌≡◌, refl, sym, ap, ◌∙◌}
use mathlib.Core.Bool.{cond}
use mathlib.Core.List.{List, [], ◌∷◌, ◌++◌}
use Prim.Native.Nat.{ℕ, suc, ◌+◌, ◌-◌, ◌≤◌, ◌<◌}
use native.Mathlib.Omega.{arith}
use lib.Dec.{ltb}
use lib.ListN.{length}
use borrow.Author.Tests.{lt-ltb, le-ltb}
use Rattle.lundump.specs.Lundump.{Function}
use Rattle.lundump.specs.Chunk.{values_of}
use Rattle.lundump.specs.Stands.{StandBetween}
use Rattle.index.specs.Listing.{places_of, stands_in, parents_from}

-- a number for each
pub places_both : (fs gs : List Function) → places_of (fs ++ gs) ≡ places_of fs ++ places_of gs
unfolding values_of
places_both [] gs = refl
places_both (f ∷ fs) gs = ap (λ (l : List ℕ). f.first_at ∷ l) (places_both fs gs)

pub places_count : (fs : List Function) → length (places_of fs) ≡ length fs
unfolding values_of
places_count [] = refl
places_count (f ∷ fs) = ap suc (places_count fs)

pub parents_count : (outer : ℕ) (seen : List (ℕ × ℕ)) (i : ℕ) (fs : List Function) → length (parents_from outer seen i fs) ≡ length fs
unfolding parents_from
parents_count outer seen i [] = refl
parents_count outer seen i (f ∷ fs) = ap suc (parents_count outer ((f.end_at, i) ∷ seen) (i + 1) fs)

module _ (size : ℕ) where
  pub ends : (lo hi : ℕ) (fs : List Function) → StandBetween size lo fs hi → lo + length fs ≤ hi
  ends lo hi [] b = omega (arith, b)
  ends lo hi (f ∷ fs) b = omega (arith, b.0, ends (f.first_at + 1) hi fs b.1.1.1)

  -- each has a first byte of its own
  pub fewer : (lo hi : ℕ) (fs : List Function) → StandBetween size lo fs hi → length fs ≤ size - lo
  fewer lo hi [] b = omega arith
  fewer lo hi (f ∷ fs) b = omega (arith, b.0, b.1.0, fewer (f.first_at + 1) hi fs b.1.1.1)

  -- those that stand in the function whose bytes go on up to `end`: to it the outermost of them fall
  stands_own : (outer k end : ℕ) (seen : List (ℕ × ℕ)) (at : ℕ) → at < end → stands_in k seen at ≡ stands_in outer (seen ++ ((end, k) ∷ [])) at
  unfolding stands_in
  stands_own outer k end [] at h = rw (lt-ltb at end h)
  stands_own outer k end (s ∷ seen) at h = ap (λ (x : ℕ). cond (ltb at s.0) s.1 x) (stands_own outer k end seen at h)

  pub parents_own :
      (outer k end lo hi : ℕ) (seen : List (ℕ × ℕ)) (i : ℕ) (fs : List Function) → StandBetween size lo fs hi → hi ≤ end
      → parents_from k seen i fs ≡ parents_from outer (seen ++ ((end, k) ∷ [])) i fs
  unfolding parents_from
  parents_own outer k end lo hi seen i [] b h = refl
  parents_own outer k end lo hi seen i (f ∷ fs) b h =
      let l = ends (f.first_at + 1) hi fs b.1.1.1 in
      ap (λ (x : ℕ). x ∷ parents_from k ((f.end_at, i) ∷ seen) (i + 1) fs) (stands_own outer k end seen f.first_at (omega arith))
      ∙ ap (λ (xs : List ℕ). stands_in outer (seen ++ ((end, k) ∷ [])) f.first_at ∷ xs)
      (parents_own outer k end (f.first_at + 1) hi ((f.end_at, i) ∷ seen) (i + 1) fs b.1.1.1 h)

  -- those that stand behind others stand in none of them
  abbrev Over : ℕ → List (ℕ × ℕ) → Type 0
  Over lo [] = Unit
  Over lo (s ∷ seen) = (s.0 ≤ lo) × Over lo seen

  over_later : (lo lo₁ : ℕ) (seen : List (ℕ × ℕ)) → lo ≤ lo₁ → Over lo seen → Over lo₁ seen
  over_later lo lo₁ [] h o = tt
  over_later lo lo₁ (s ∷ seen) h o = (omega (arith, h, o.0), over_later lo lo₁ seen h o.1)

  stands_none : (outer lo : ℕ) (seen : List (ℕ × ℕ)) (at : ℕ) → Over lo seen → lo ≤ at → stands_in outer seen at ≡ outer
  unfolding stands_in
  stands_none outer lo [] at o h = refl
  stands_none outer lo (s ∷ seen) at o h = rw (le-ltb at s.0 (omega (arith, h, o.0))) (stands_none outer lo seen at o.1 h)

  stands_past : (outer lo : ℕ) (mine seen : List (ℕ × ℕ)) (at : ℕ) → Over lo seen → lo ≤ at → stands_in outer (mine ++ seen) at ≡ stands_in outer mine at
  unfolding stands_in
  stands_past outer lo [] seen at o h = stands_none outer lo seen at o h
  stands_past outer lo (s ∷ mine) seen at o h = ap (λ (x : ℕ). cond (ltb at s.0) s.1 x) (stands_past outer lo mine seen at o h)

  parents_past :
      (outer lo hi : ℕ) (mine seen : List (ℕ × ℕ)) (i : ℕ) (fs : List Function) → Over lo seen → StandBetween size lo fs hi
      → parents_from outer (mine ++ seen) i fs ≡ parents_from outer mine i fs
  unfolding parents_from
  parents_past outer lo hi mine seen i [] o b = refl
  parents_past outer lo hi mine seen i (f ∷ fs) o b =
      let later : lo ≤ f.first_at + 1 = omega (arith, b.0) in
      ap (λ (x : ℕ). x ∷ parents_from outer ((f.end_at, i) ∷ (mine ++ seen)) (i + 1) fs) (stands_past outer lo mine seen f.first_at o b.0)
      ∙ ap (λ (xs : List ℕ). stands_in outer mine f.first_at ∷ xs)
      (parents_past outer (f.first_at + 1) hi ((f.end_at, i) ∷ mine) seen (i + 1) fs (over_later lo (f.first_at + 1) seen later o) b.1.1.1)

  -- what is seen after functions
  seen_after : List (ℕ × ℕ) → ℕ → List Function → List (ℕ × ℕ)
  seen_after seen i [] = seen
  seen_after seen i (f ∷ fs) = seen_after ((f.end_at, i) ∷ seen) (i + 1) fs

  over_after : (lo hi : ℕ) (seen : List (ℕ × ℕ)) (i : ℕ) (fs : List Function) → StandBetween size lo fs hi → Over hi seen → Over hi (seen_after seen i fs)
  unfolding seen_after
  over_after lo hi seen i [] b o = o
  over_after lo hi seen i (f ∷ fs) b o = over_after (f.first_at + 1) hi ((f.end_at, i) ∷ seen) (i + 1) fs b.1.1.1 (b.1.1.0, o)

  parents_split :
      (outer : ℕ) (seen : List (ℕ × ℕ)) (i : ℕ) (fs gs : List Function)
      → parents_from outer seen i (fs ++ gs) ≡ parents_from outer seen i fs ++ parents_from outer (seen_after seen i fs) (i + length fs) gs
  unfolding parents_from seen_after
  parents_split outer seen i [] gs = let z : i ≡ i + 0 = omega arith in ap (λ (k : ℕ). parents_from outer seen k gs) z
  parents_split outer seen i (f ∷ fs) gs =
      let z : i + 1 + length fs ≡ i + length (f ∷ fs) = omega arith in
      ap (λ (xs : List ℕ). stands_in outer seen f.first_at ∷ xs)
      (parents_split outer ((f.end_at, i) ∷ seen) (i + 1) fs gs
      ∙ ap (λ (k : ℕ). parents_from outer ((f.end_at, i) ∷ seen) (i + 1) fs ++ parents_from outer (seen_after ((f.end_at, i) ∷ seen) (i + 1) fs) k gs) z)

  pub parents_both :
      (outer lo mid hi i : ℕ) (fs gs : List Function) → StandBetween size lo fs mid → StandBetween size mid gs hi
      → parents_from outer [] i (fs ++ gs) ≡ parents_from outer [] i fs ++ parents_from outer [] (i + length fs) gs
  parents_both outer lo mid hi i fs gs b c =
      parents_split outer [] i fs gs
      ∙ ap (λ (xs : List ℕ). parents_from outer [] i fs ++ xs)
      (parents_past outer mid hi [] (seen_after [] i fs) (i + length fs) gs (over_after lo mid [] i fs b tt) c)

  -- a function and those within it
  pub parents_function :
      (outer lo hi i : ℕ) (f : Function) (fs : List Function) → StandBetween size lo fs hi → hi ≤ f.end_at
      → parents_from outer [] i (f ∷ fs) ≡ outer ∷ parents_from i [] (i + 1) fs
  unfolding parents_from stands_in
  parents_function outer lo hi i f fs b h = ap (λ (xs : List ℕ). outer ∷ xs) (sym (parents_own outer i f.end_at lo hi [] (i + 1) fs b h))
