-- The header byte by byte, and the chosen function. Assumes nothing.
use Rattle.std.proofs.Common.{◌≡◌, ℕ, zero, suc, ◌+◌, ◌≤◌, ◌<◌, Bool, true, false, List, [], ◌∷◌, length, drop, get_or, ltb, Result, Ok, Err, refl, sym, ap, ◌∙◌, add-one, drop-cons, drop_of_length-le}
use borrow.Author.Tests.{le-leb, lt-leb, eq-eqb, ne_eqb}
use Rattle.common.specs.declared.refusal.Refusal.{Refusal}
use Rattle.common.specs.declared.refusal.Refusal.TheVariants.{HeaderDiffers, MalformedChunk}
use Rattle.common.specs.Limits.{most_bytes, levels_below}
use Rattle.lundump.specs.declared.functions.Layout.{Layout}
use Rattle.loaders.specs.Reading.{Outcome, bind, only, read_as, past_of}
use Rattle.loaders.specs.Loaders.{load_byte}
use Rattle.loaders.proofs.Same.{Ended, ended, end_refused, same_past}
use Rattle.lundump.specs.Lundump.{Function, load_function, check_bytes, check_header, undump}
use Rattle.lundump.specs.Search.{search, located_of, located_by, found_of}
use Rattle.lundump.specs.Chunk.{pick, chosen}

module _ (hs bytes : List ℕ) (i : ℕ) where
  pub all_same : length hs ≤ i → check_bytes (drop i hs) bytes i ≡ Ok (tt, i)
  unfolding check_bytes
  all_same h = rw (drop_of_length-le hs h)

  byte_past : (b past : ℕ) → load_byte bytes i ≡ Ok (b, past) → past ≡ i + 1
  unfolding load_byte
  byte_past b past h = go (ltb i (length bytes)) h
    where
      go : (t : Bool) → only t (Ok (get_or bytes i 0, i + 1)) ≡ Ok (b, past) → past ≡ i + 1
      go true h = same_past b (get_or bytes i 0) past (i + 1) (sym h)
      go false h = absurd (cc)

  module _ (l : i < length hs) where
    pub ends : (e : Refusal) → load_byte bytes i ≡ Err e → check_bytes (drop i hs) bytes i ≡ Err e
    unfolding check_bytes
    ends e h = rw (drop-cons hs i 0 l, h)

    module _ (b past : ℕ) (h : load_byte bytes i ≡ Ok (b, past)) where
      pub differs : (b ≡ get_or hs i 0 → ⊥) → check_bytes (drop i hs) bytes i ≡ Err HeaderDiffers
      unfolding check_bytes
      differs ne = rw (drop-cons hs i 0 l, h, ne_eqb _ _ ne)

      pub agrees : b ≡ get_or hs i 0 → check_bytes (drop i hs) bytes i ≡ check_bytes (drop (i + 1) hs) bytes (i + 1)
      unfolding check_bytes
      agrees e = rw (drop-cons hs i 0 l, h, eq-eqb _ _ e, byte_past b past h, add-one)

-- ---- the chosen function
picked : (k at : ℕ) (fs : List Function) → found_of (search (Err k) fs) ≡ located_of (pick k fs at)
unfolding search pick
picked zero at [] = refl
picked (suc k) at [] = refl
picked zero at (f ∷ fs) = refl
picked (suc k) at (f ∷ fs) = picked k at fs

walked : (k : ℕ) (X : Outcome (List Function)) → located_by (read_as (search (Err k)) X) ≡ located_of (bind X (pick k))
walked k (Ok (fs, at)) = picked k at fs
walked k (Err e) = refl

module _ (k : ℕ) (bytes : List ℕ) where
  pub too_long : most_bytes < length bytes → located_of (chosen k bytes) ≡ Err MalformedChunk
  unfolding chosen
  too_long h = rw (lt-leb (length bytes) most_bytes h)

  module _ (few : length bytes ≤ most_bytes) where
    pub no_header : (e : Refusal) → past_of (check_header bytes 0) ≡ Err e → located_of (chosen k bytes) ≡ Err e
    unfolding chosen undump
    no_header e h = rw (le-leb (length bytes) most_bytes few, end_refused (check_header bytes 0) e h)

    module _ (at : ℕ) (h : past_of (check_header bytes 0) ≡ Ok at) where
      pub no_main : (e : Refusal) → load_byte bytes at ≡ Err e → located_of (chosen k bytes) ≡ Err e
      unfolding chosen undump
      no_main e b = rw (le-leb (length bytes) most_bytes few, (ended (check_header bytes 0) at h).is, b)

      pub from_main : (b main : ℕ) → load_byte bytes at ≡ Ok (b, main)
          → located_of (chosen k bytes) ≡ located_by (read_as (search (Err k)) (load_function levels_below bytes main))
      unfolding chosen undump
      from_main b main e =
          rw (le-leb (length bytes) most_bytes few, (ended (check_header bytes 0) at h).is, e)
          (sym (walked k (load_function levels_below bytes main)))

pub ruleset same = (all_same, ends, differs, agrees)

pub ruleset chosen_by = (too_long, no_header, no_main, from_main)
