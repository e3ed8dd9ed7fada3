-- A chosen function: what is told of it, and what is filled. Assumes nothing.
use mathlib.Core.Path.{◌≡◌, refl, ◌∙◌, ap}
use mathlib.Core.Bool.{Bool, true, false, cond, ◌&&◌, true≢false}
use mathlib.Core.List.{List, [], ◌∷◌, ◌++◌}
use Prim.Native.Nat.{ℕ, ◌≤◌}
use native.Mathlib.Omega.{arith}
use lib.Dec.{leb}
use lib.ListN.{length, drop}
use borrow.Author.Tests.{leb-true}
use Rattle.common.specs.Limits.{most_bytes, levels_below, most_words}
use Rattle.common.specs.declared.refusal.Refusal.{Refusal}
use Rattle.common.specs.declared.refusal.Refusal.TheVariants.{ShortSlice}
use Rattle.lundump.specs.declared.functions.Layout.{Layout}
use Rattle.lundump.specs.declared.functions.Rooms.{Rooms}
use Rattle.std.proofs.Common.{Ok, Err}
use Rattle.loaders.specs.Reading.{Outcome, bind, only}
use Rattle.loaders.specs.Lent.{BytesBounded}
use Rattle.lundump.specs.Lundump.{Function, load_code, load_function, undump}
use Rattle.lundump.specs.Chunk.{pick, chosen, values_of, words_of, counts_of, fits, room_for, after}
use Rattle.lundump.specs.Stands.{Stands, AllStand, AllRead, OneRead}
use Rattle.lundump.specs.Search.{layout_of, located_of, reported, roomy, roomed}
use Rattle.chunk.specs.Filling.{same, Read, values_after}
use Rattle.chunk.proofs.Laws.{laws}
use Rattle.lines.specs.declared.choosing.Choice.{Choice}
use Rattle.lines.specs.declared.choosing.Choice.TheVariants.{Number, Place}
use Rattle.lines.specs.Choices.{function_at, chosen_by, filled_by}
use Rattle.lines.specs.Ldebug.{lines_of}
use Rattle.lines.specs.Lines.{line_info_at, lines_in}
use Rattle.lines.proofs.Ldebug as ldebug

-- the numbers of words are the words
same_values : (ws : List ℕ) → values_of same ws ≡ ws
unfolding values_of
same_values [] = refl
same_values (w ∷ ws) = ap (λ (l : List ℕ). w ∷ l) (same_values ws)

module _ (bytes : List ℕ) where
  -- ---- what is chosen stands where its positions say
  first_stands : (fs : List Function) (at : ℕ) → AllStand bytes fs → OneRead bytes (pick 0 fs at)
  unfolding pick
  first_stands [] at h = tt
  first_stands (f ∷ fs) at h = h.0

  one_stands : (X : Outcome (List Function)) → AllRead bytes X → OneRead bytes (bind X (pick 0))
  one_stands (Ok (fs, at)) h = first_stands fs at h
  one_stands (Err e) h = tt

  place_stands : (p : ℕ) → OneRead bytes (function_at p bytes)
  unfolding function_at
  place_stands p = go (leb (length bytes) most_bytes)
    where
      go : (b : Bool) → OneRead bytes (only b (bind (load_function levels_below bytes p) (pick 0)))
      go true = one_stands (load_function levels_below bytes p) (laws.all_stand levels_below (omega arith) bytes p)
      go false = tt

  pub chosen_stands : (c : Choice) → OneRead bytes (chosen_by c bytes)
  chosen_stands (Number k) = laws.stands k bytes
  chosen_stands (Place p) = place_stands p

  -- ---- the room
  either : (f : Function) (at : ℕ) (b : Bool) → cond b (Ok (layout_of f)) (Err ShortSlice) ≡ located_of (cond b (Ok (f, at)) (Err ShortSlice))
  either f at true = refl
  either f at false = refl

  roomy-by : (X : Outcome Function) (rooms : Rooms) → OneRead bytes X → roomed rooms (located_of X) ≡ located_of (bind X (room_for rooms))
  unfolding roomed fits
  roomy-by (Ok (f, at)) rooms s = rw s.one_each (either f at (roomy (layout_of f) rooms))
  roomy-by (Err e) rooms s = refl

  pub filled_is : (k : Choice) (rooms : Rooms) → roomed rooms (located_of (chosen_by k bytes)) ≡ located_of (filled_by k bytes rooms)
  unfolding filled_by
  filled_is k rooms = roomy-by (chosen_by k bytes) rooms (chosen_stands k)

  -- ---- the answer for what is filled, and for what is not
  filled_counted : (X : Outcome Function) (rooms : Rooms) → OneRead bytes X
      → reported (located_of (bind X (room_for rooms))) ≡ counts_of (bind X (room_for rooms))
  unfolding counts_of
  filled_counted (Ok (f, at)) rooms s = by_room (fits f rooms)
    where
      by_room : (b : Bool) → reported (located_of (cond b (Ok (f, at)) (Err ShortSlice))) ≡ counts_of (cond b (Ok (f, at)) (Err ShortSlice))
      by_room true = rw s.one_each
      by_room false = refl
  filled_counted (Err e) rooms s = refl

  pub answer_is : (k : Choice) (rooms : Rooms) → reported (located_of (filled_by k bytes rooms)) ≡ counts_of (filled_by k bytes rooms)
  unfolding filled_by
  answer_is k rooms = filled_counted (chosen_by k bytes) rooms (chosen_stands k)

  -- ---- what is known of a function that is filled
  pub record Filled (k : Choice) (rooms : Rooms) (l : Layout) : Type 0 where
    pub function : Function
    pub next : ℕ
    pub is : filled_by k bytes rooms ≡ Ok (function, next)
    pub layout : l ≡ layout_of function
    pub stands : Stands bytes function
    pub words : length function.words ≤ rooms.words

  within : (f : Function) (at : ℕ) (b : Bool) (X : Outcome Function) → leb (length bytes) most_bytes ≡ b → only b X ≡ Ok (f, at) → BytesBounded bytes
  within f at true X e h = leb-true _ _ e
  within f at false X e h = absurd (true≢false (cc))

  pub short_enough : (c : Choice) (f : Function) (at : ℕ) → chosen_by c bytes ≡ Ok (f, at) → BytesBounded bytes
  unfolding chosen function_at
  short_enough (Number k) f at h = within f at (leb (length bytes) most_bytes) (bind (undump bytes 0) (pick k)) refl h
  short_enough (Place p) f at h = within f at (leb (length bytes) most_bytes) (bind (load_function levels_below bytes p) (pick 0)) refl h

  and_first : (a b : Bool) → a && b ≡ true → a ≡ true
  and_first true b h = refl
  and_first false b h = absurd (true≢false (cc))

  fit : (f : Function) (rooms : Rooms) → fits f rooms ≡ true → length f.words ≤ rooms.words
  unfolding fits
  fit f rooms h = leb-true _ _ (and_first (leb (length f.words) rooms.words) _ h)

  module _ (k : Choice) (rooms : Rooms) where
    module _ (l : Layout) where
      with_room : (f : Function) (at : ℕ) (b : Bool) → fits f rooms ≡ b
          → filled_by k bytes rooms ≡ cond b (Ok (f, at)) (Err ShortSlice) → Stands bytes f
          → located_of (cond b (Ok (f, at)) (Err ShortSlice)) ≡ Ok l → Filled k rooms l
      with_room f at true b e s h =
          record {
            function = f;
            next = at;
            is = e;
            layout = (let p : l ≡ layout_of f = cc in p);
            stands = s;
            words = fit f rooms b;
          }
      with_room f at false b e s h = absurd (true≢false (cc))

      located : (X : Outcome Function) → filled_by k bytes rooms ≡ bind X (room_for rooms) → OneRead bytes X
          → located_of (bind X (room_for rooms)) ≡ Ok l → Filled k rooms l
      located (Ok (f, at)) e s h = with_room f at (fits f rooms) refl e s h
      located (Err x) e s h = absurd (true≢false (cc))

      pub is_filled : located_of (filled_by k bytes rooms) ≡ Ok l → Filled k rooms l
      unfolding filled_by
      is_filled h = located (chosen_by k bytes) refl (chosen_stands k) h

    -- ---- a refusal
    pub unaltered : (e : Refusal) (part : Function → List ℕ) (out : List ℕ) → located_of (filled_by k bytes rooms) ≡ Err e
        → out ≡ after part (filled_by k bytes rooms) out
    unfolding after
    unaltered e part out h = go (filled_by k bytes rooms) h
      where
        go : (X : Outcome Function) → located_of X ≡ Err e → out ≡ after part X out
        go (Ok (f, at)) d = absurd (true≢false (cc))
        go (Err x) d = refl

    -- ---- the parts, read again
    module _ (l : Layout) (f : Filled k rooms l) where
      code_there : load_code bytes l.code_at ≡ Ok (f.function.words, f.stands.code_next)
      code_there = ap (λ (x : Layout). load_code bytes x.code_at) f.layout ∙ f.stands.code

      pub code_again : Read (load_code bytes l.code_at) rooms.words
      code_again = rw code_there f.words

      pub words_filled : (out now : List ℕ) → now ≡ values_after same (load_code bytes l.code_at) out → now ≡ after words_of (filled_by k bytes rooms) out
      unfolding after values_after
      words_filled out now e = rw f.is (rw (same_values f.function.words) at (rw code_there at e))

      words_are : l.words ≡ length f.function.words
      words_are = ap (λ (x : Layout). x.words) f.layout

      pub lines_few : l.words ≤ most_words
      lines_few = omega (arith, words_are, f.stands.few-words)

      pub lines_room : l.words ≤ rooms.words
      lines_room = omega (arith, words_are, f.words)

      pub lines_filled :
          (out now : List ℕ) → now ≡ lines_of (line_info_at bytes l.first_at l.lines_at) l.words ++ drop l.words out
          → now ≡ after (lines_in bytes) (filled_by k bytes rooms) out
      unfolding after
      lines_filled out now e =
          rw (f.is, (ldebug.lines).count (line_info_at bytes f.function.first_at f.function.lines_at) (length f.function.words))
          (e ∙ ap (λ (x : Layout). lines_of (line_info_at bytes x.first_at x.lines_at) x.words ++ drop x.words out) f.layout)
