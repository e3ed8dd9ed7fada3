-- All functions of a chunk, by number and by place. Assumes nothing.
use mathlib.Core.Path.{◌≡◌, refl, sym, ap, subst, ◌∙◌}
use mathlib.Core.Logic.{◌⊎◌, inl, inr, ⊎_elim}
use mathlib.Core.Bool.{Bool, true, false, cond, true≢false}
use mathlib.Core.List.{List, [], ◌∷◌}
use Prim.Native.Nat.{ℕ, zero, suc, ◌+◌, ◌≤◌, ◌<◌}
use native.Mathlib.Omega.{arith}
use native.Mathlib.Numerals.{add-one}
use lib.Dec.{ltb, leb}
use lib.ListN.{length, get_or, drop}
use lib.Seq.{drop-cons}
use borrow.Author.Tests.{ltb-true, ltb-false, leb-true, le-leb}
use Rattle.common.proofs.Order.{split}
use Rattle.common.specs.Limits.{most_bytes, levels_below}
use Rattle.common.specs.declared.refusal.Refusal.{Refusal}
use Rattle.common.specs.declared.refusal.Refusal.TheVariants.{MalformedChunk, ShortSlice}
use Rattle.std.proofs.Common.{Ok, Err}
use Rattle.loaders.specs.Reading.{Outcome, bind, only}
use Rattle.loaders.specs.Loaders.{load_byte}
use Rattle.lundump.specs.Lundump.{Function, load_protos, load_function, check_header, undump}
use Rattle.lundump.specs.Chunk.{pick, chosen, values_of, counts_of, fits, room_for, filled, after}
use Rattle.lundump.specs.declared.functions.Rooms.{Rooms}
use Rattle.lundump.specs.Stands.{Stands, OneRead, StandBetween, ReadBetween}
use Rattle.chunk.proofs.Laws as chunk
use Rattle.lines.specs.declared.choosing.Choice.TheVariants.{Number, Place}
use Rattle.lines.specs.Choices.{function_at, filled_by}
use Rattle.lines.specs.Heads.{head_of, head_from}
use Rattle.index.specs.Listing.{functions_of, places_of, stands_in, parents_from, parents_of, no_function}
use Rattle.index.specs.Laws.{AtItsPlace, Inner, Listing, Laws}
use Rattle.index.proofs.Levels.{levels_grow}
use Rattle.index.proofs.Parents.{places_count, parents_count, ends}
use Rattle.index.proofs.Notes.{main_first}

-- ---- by its place
module _ (bytes : List ℕ) (short : length bytes ≤ most_bytes) (k : ℕ) (f : Function) (at : ℕ) (e : chosen k bytes ≡ Ok (f, at)) where
  stood : (X : Outcome Function) → X ≡ Ok (f, at) → OneRead bytes X → Stands bytes f
  stood X d o = rw d at o

  same : function_at f.first_at bytes ≡ Ok (f, f.end_at)
  unfolding function_at pick
  same =
      let s = stood (chosen k bytes) e ((chunk.laws).stands k bytes) in
      rw (le-leb (length bytes) most_bytes short, levels_grow bytes s.level levels_below s.few_levels f.first_at (f ∷ s.within) f.end_at s.whole)

  module _ (rooms : Rooms) where
    at_place : filled_by (Place f.first_at) bytes rooms ≡ cond (fits f rooms) (Ok (f, f.end_at)) (Err ShortSlice)
    unfolding filled_by
    at_place = ap (λ (X : Outcome Function). bind X (room_for rooms)) same

    at_number : filled_by (Number k) bytes rooms ≡ cond (fits f rooms) (Ok (f, at)) (Err ShortSlice)
    unfolding filled_by
    at_number = ap (λ (X : Outcome Function). bind X (room_for rooms)) e

    counts : counts_of (filled_by (Place f.first_at) bytes rooms) ≡ counts_of (filled_by (Number k) bytes rooms)
    unfolding counts_of
    counts = rw (at_place, at_number) (go (fits f rooms))
      where
        go : (b : Bool) → counts_of (cond b (Ok (f, f.end_at)) (Err ShortSlice)) ≡ counts_of (cond b (Ok (f, at)) (Err ShortSlice))
        go true = refl
        go false = refl

    slices : (part : Function → List ℕ) (out : List ℕ)
        → after part (filled_by (Place f.first_at) bytes rooms) out
        ≡ after part (filled_by (Number k) bytes rooms) out
    unfolding after
    slices part out = rw (at_place, at_number) (go (fits f rooms))
      where
        go : (b : Bool) → after part (cond b (Ok (f, f.end_at)) (Err ShortSlice)) out ≡ after part (cond b (Ok (f, at)) (Err ShortSlice)) out
        go true = refl
        go false = refl

  head : head_of (Place f.first_at) bytes ≡ head_of (Number k) bytes
  unfolding head_of
  head = rw (same, e)

  head_alone : head_from f.first_at bytes ≡ head_of (Number k) bytes
  unfolding head_of head_from
  head_alone = rw (le-leb (length bytes) most_bytes short, e)

  at_its_place : AtItsPlace k bytes f
  at_its_place = record { same = same; counts = counts; slices = slices; head = head; head_alone = head_alone }

-- ---- which function it stands in
place_of : (fs : List Function) (k : ℕ) (d : Function) → k < length fs → get_or (places_of fs) k 0 ≡ (get_or fs k d).first_at
unfolding values_of
place_of [] k d h = absurd (omega arith)
place_of (f ∷ fs) zero d h = refl
place_of (f ∷ fs) (suc k) d h = place_of fs k d (omega arith)

module _ (d : Function) (fs : List Function) where
  -- what is seen before function k
  seen_of : ℕ → List (ℕ × ℕ)
  seen_of zero = []
  seen_of (suc k) = ((get_or fs k d).end_at, k) ∷ seen_of k

  parent_at : (outer k i : ℕ) → i + k < length fs
      → get_or (parents_from outer (seen_of i) i (drop i fs)) k 0
      ≡ stands_in outer (seen_of (i + k)) (get_or fs (i + k) d).first_at
  unfolding parents_from seen_of
  parent_at outer zero i h =
      let z : i ≡ i + 0 = omega arith in
      ap (λ (gs : List Function). get_or (parents_from outer (seen_of i) i gs) 0 0) (drop-cons fs i d (omega arith))
      ∙ ap (λ (j : ℕ). stands_in outer (seen_of j) (get_or fs j d).first_at) z
  parent_at outer (suc k) i h =
      let z : suc i + k ≡ i + suc k = omega arith in
      ap (λ (gs : List Function). get_or (parents_from outer (seen_of i) i gs) (suc k) 0) (drop-cons fs i d (omega arith))
      ∙ ap (λ (j : ℕ). get_or (parents_from outer (((get_or fs i d).end_at, i) ∷ seen_of i) j (drop (suc i) fs)) k 0) (add-one i)
      ∙ parent_at outer k (suc i) (omega arith)
      ∙ ap (λ (j : ℕ). stands_in outer (seen_of j) (get_or fs j d).first_at) z

  -- the last one before n whose bytes go on past a position, or none
  record Nearest (n at j : ℕ) : Type 0 where
    pub before : j < n
    pub goes-on : at < (get_or fs j d).end_at
    pub nearest : (i : ℕ) → j < i → i < n → (get_or fs i d).end_at ≤ at

  abbrev None : ℕ → ℕ → Type 0
  None n at = (i : ℕ) → i < n → (get_or fs i d).end_at ≤ at

  -- the one of the first n that a position stands in
  abbrev innermost : ℕ → ℕ → ℕ → ℕ
  innermost outer n at = stands_in outer (seen_of n) at

  stands-in : (outer at n : ℕ) → Nearest n at (innermost outer n at) ⊎ None n at
  unfolding stands_in seen_of
  stands-in outer at zero = inr (λ i h. absurd (omega arith))
  stands-in outer at (suc n) = go (ltb at (get_or fs n d).end_at) refl (stands-in outer at n)
    where
      later : (get_or fs n d).end_at ≤ at → Nearest n at (innermost outer n at) ⊎ None n at
          → Nearest (suc n) at (innermost outer n at) ⊎ None (suc n) at
      later l (inl x) =
          inl (record {
            before = omega (arith, x.before);
            goes-on = x.goes-on;
            nearest = λ i a b. ⊎_elim (λ c. last i c) (λ c. x.nearest i a c) (end i b);
          })
        where
          last : (i : ℕ) → i ≡ n → (get_or fs i d).end_at ≤ at
          last i c = rw c l

          end : (i : ℕ) → i < suc n → (i ≡ n) ⊎ (i < n)
          end i b = ⊎_elim (λ c. inl (omega arith)) (λ c. inr c) (split n i)
      later l (inr x) = inr (λ i b. ⊎_elim (λ c. last i c) (λ c. x i c) (end i b))
        where
          last : (i : ℕ) → i ≡ n → (get_or fs i d).end_at ≤ at
          last i c = rw c l

          end : (i : ℕ) → i < suc n → (i ≡ n) ⊎ (i < n)
          end i b = ⊎_elim (λ c. inl (omega arith)) (λ c. inr c) (split n i)

      go : (b : Bool) → ltb at (get_or fs n d).end_at ≡ b → Nearest n at (innermost outer n at) ⊎ None n at
          → Nearest (suc n) at (cond b n (innermost outer n at)) ⊎ None (suc n) at
      go true h x = inl (record { before = omega arith; goes-on = ltb-true at (get_or fs n d).end_at h; nearest = λ i a b. absurd (omega (arith, a, b)) })
      go false h x = later (ltb-false at (get_or fs n d).end_at h) x

below : (size lo hi : ℕ) (fs : List Function) (k : ℕ) (d : Function) → StandBetween size lo fs hi → k < length fs → (get_or fs k d).first_at < hi
below size lo hi [] k d b h = absurd (omega arith)
below size lo hi (f ∷ fs) zero d b h = omega (arith, ends size (f.first_at + 1) hi fs b.1.1.1)
below size lo hi (f ∷ fs) (suc k) d b h = below size (f.first_at + 1) hi fs k d b.1.1.1 (omega arith)

-- ---- the whole chunk is a function
record FromFirst (bytes : List ℕ) (fs : List Function) (at : ℕ) : Type 0 where
  pub first : ℕ
  pub whole : load_function levels_below bytes first ≡ Ok (fs, at)

module _ (bytes : List ℕ) (fs : List Function) (at : ℕ) where
  from_byte : (X : Outcome ℕ) → bind X (λ _ p. load_function 31 bytes p) ≡ Ok (fs, at) → FromFirst bytes fs at
  from_byte (Ok (b, p)) e = record { first = p; whole = e }
  from_byte (Err x) e = absurd (true≢false (cc))

  from_header : (X : Outcome (Unit {0})) → bind X (λ _ p. bind (load_byte bytes p) (λ _ q. load_function 31 bytes q)) ≡ Ok (fs, at) → FromFirst bytes fs at
  from_header (Ok (u, p)) e = from_byte (load_byte bytes p) e
  from_header (Err x) e = absurd (true≢false (cc))

  from_first : undump bytes 0 ≡ Ok (fs, at) → FromFirst bytes fs at
  unfolding undump
  from_first e = from_header (check_header bytes 0) e

  record Both : Type 0 where
    pub short : length bytes ≤ most_bytes
    pub all : undump bytes 0 ≡ Ok (fs, at)

  both : functions_of bytes ≡ Ok (fs, at) → Both
  unfolding functions_of
  both e = go (leb (length bytes) most_bytes) refl e
    where
      go : (b : Bool) → leb (length bytes) most_bytes ≡ b → only b (undump bytes 0) ≡ Ok (fs, at) → Both
      go true h d = record { short = leb-true (length bytes) most_bytes h; all = d }
      go false h d = absurd (true≢false (cc))

  module _ (e : functions_of bytes ≡ Ok (fs, at)) where
    -- every byte of the functions is the main one's
    main_encloses : (k : ℕ) (d : Function) → k < length fs → (get_or fs k d).first_at < (get_or fs 0 d).end_at
    main_encloses k d h =
        let w = from_first (both e).all in
        let f = main_first (load_protos levels_below) bytes w.first fs at w.whole in
        let b : StandBetween (length bytes) w.first fs at = subst
        (λ (X : Outcome (List Function)). ReadBetween (length bytes) w.first X) w.whole
        ((chunk.laws).all_between levels_below bytes w.first) in
        let z : (get_or fs 0 d).end_at ≡ at = ap (λ (gs : List Function). (get_or gs 0 d).end_at) f.is ∙ f.last in
        omega (arith, z, below (length bytes) w.first at fs k d b h)

    listed : (d : Function) (k : ℕ) → k < length fs → get_or (parents_of fs) k 0 ≡ stands_in no_function (seen_of d fs (0 + k)) (get_or fs (0 + k) d).first_at
    unfolding seen_of
    listed d k l = parent_at d fs no_function k 0 (omega arith)

    parent_is : (d : Function) (k : ℕ) → 0 < k → k < length fs → Nearest d fs k (get_or fs k d).first_at (get_or (parents_of fs) k 0)
    parent_is d k h l =
        let z : 0 + k ≡ k = omega arith in
        let p : get_or (parents_of fs) k 0 ≡ stands_in no_function (seen_of d fs k) (get_or fs k d).first_at =
        listed d k l ∙ ap (λ (j : ℕ). stands_in no_function (seen_of d fs j) (get_or fs j d).first_at) z in
        subst (λ (j : ℕ). Nearest d fs k (get_or fs k d).first_at j) (sym p)
        (⊎_elim (λ x. x) (λ x. absurd (omega (arith, x 0 h, main_encloses k d l))) (stands-in d fs no_function (get_or fs k d).first_at k))

    inner : (k : ℕ) → 0 < k → k < length fs → Inner fs (get_or (parents_of fs) k 0) k
    inner k h l =
        record {
          before = (parent_is (some_function fs l) k h l).before;
          encloses = λ d. (parent_is d k h l).goes-on;
          nearest = λ i d a b. (parent_is d k h l).nearest i a b;
        }
      where
        some_function : (gs : List Function) → k < length gs → Function
        some_function [] q = absurd (omega arith)
        some_function (g ∷ gs) q = g

    main_none : 0 < length fs → get_or (parents_of fs) 0 0 ≡ no_function
    unfolding parents_from stands_in
    main_none h = go fs h
      where
        go : (gs : List Function) → 0 < length gs → get_or (parents_from no_function [] 0 gs) 0 0 ≡ no_function
        go [] q = absurd (omega arith)
        go (g ∷ gs) q = refl

listing : (bytes : List ℕ) (fs : List Function) (at : ℕ) → functions_of bytes ≡ Ok (fs, at) → Listing bytes fs at
listing bytes fs at e =
    let b = both bytes fs at e in
    let n = (chunk.laws).numbered bytes fs at b.short b.all in
    record {
      chosen_each = n.counted;
      chosen_none = n.none;
      some = n.main;
      few = n.few;
      places_count = places_count fs;
      parents_count = parents_count no_function [] 0 fs;
      place = λ k d h. place_of fs k d h;
      at_place = λ k d h. at_its_place bytes b.short k (get_or fs k d) at (n.counted k d h);
      main = main_none bytes fs at e n.main;
      parent = inner bytes fs at e;
    }

refusing : (bytes : List ℕ) (e : Refusal) (k : ℕ) → functions_of bytes ≡ Err e → chosen k bytes ≡ Err e
unfolding functions_of chosen
refusing bytes e k h = go (leb (length bytes) most_bytes) (undump bytes 0) h
  where
    go : (b : Bool) (X : Outcome (List Function)) → only b X ≡ Err e → only b (bind X (pick k)) ≡ Err e
    go true (Ok (fs, at)) d = absurd (true≢false (cc))
    go true (Err x) d = let y : x ≡ e = cc in ap (λ (z : Refusal). Err z) y
    go false X d = let y = d in again y
      where
        again : only {A = List Function} false X ≡ Err e → only {A = Function} false (bind X (pick k)) ≡ Err e
        again q = let w : MalformedChunk ≡ e = cc in ap (λ (z : Refusal). Err z) w

by_number : (k : ℕ) (bytes : List ℕ) (rooms : Rooms) → filled_by (Number k) bytes rooms ≡ filled k bytes rooms
unfolding filled_by filled
by_number k bytes rooms = refl

pub laws : Laws
laws = record { listing = listing; refusing = refusing; by_number = by_number }
