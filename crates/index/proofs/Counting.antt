-- All functions of a chunk: how many there are, and what is told and stored of them. Assumes nothing.
use Rattle.std.proofs.Common.{◌≡◌, ℕ, zero, suc, ◌-◌, ◌≤◌, ◌<◌, min, Bool, true, false, cond, ◌&&◌, List, [], ◌∷◌, length, leb}
use Rattle.std.proofs.Common.{Result, Ok, Err, refl, sym, ap, subst, ◌∙◌, arith}
use borrow.Author.Tests.{leb-true, le-leb, lt-leb}
use Rattle.common.proofs.Put.{put_laws}
use Rattle.common.specs.Limits.{most_bytes, levels_below}
use Rattle.common.specs.declared.refusal.Refusal.{Refusal}
use Rattle.common.specs.declared.refusal.Refusal.TheVariants.{MalformedChunk, ShortSlice}
use Rattle.lundump.specs.declared.functions.Layout.{Layout}
use Rattle.loaders.specs.Reading.{Outcome, bind, only, read_as, past_of}
use Rattle.loaders.specs.Loaders.{load_byte}
use Rattle.loaders.proofs.Same.{ended, end_refused, same_value}
use Rattle.lundump.specs.Lundump.{Function, load_function, check_header, undump}
use Rattle.lundump.specs.Search.{search}
use Rattle.lundump.specs.Stands.{ReadBetween}
use Rattle.chunk.proofs.Laws.{laws}
use Rattle.index.specs.Listing.{functions_of, places_of, parents_of, no_function, listed_of, room_for_all, listed_in, after_all}
use Rattle.index.specs.Noting.{main_from, tallied, told, Wrote, WroteAt}
use Rattle.index.proofs.Parents.{fewer}

-- ---- where the main function stands
module _ (bytes : List ℕ) where
  pub too_long : most_bytes < length bytes → main_from bytes ≡ Err MalformedChunk
  unfolding main_from
  too_long l = rw (lt-leb (length bytes) most_bytes l)

  module _ (few : length bytes ≤ most_bytes) where
    pub no_header : (e : Refusal) → past_of (check_header bytes 0) ≡ Err e → main_from bytes ≡ Err e
    unfolding main_from
    no_header e h = rw (le-leb (length bytes) most_bytes few, end_refused (check_header bytes 0) e h)

    module _ (at : ℕ) (h : past_of (check_header bytes 0) ≡ Ok at) where
      pub no_byte : (e : Refusal) → load_byte bytes at ≡ Err e → main_from bytes ≡ Err e
      unfolding main_from
      no_byte e k = rw (le-leb (length bytes) most_bytes few, (ended (check_header bytes 0) at h).is, k)

      pub main_there : (b main : ℕ) → load_byte bytes at ≡ Ok (b, main) → main_from bytes ≡ Ok main
      unfolding main_from
      main_there b main k = rw (le-leb (length bytes) most_bytes few, (ended (check_header bytes 0) at h).is, k)

  -- so that all functions are read from there on
  functions_none : (e : Refusal) → main_from bytes ≡ Err e → functions_of bytes ≡ Err e
  unfolding main_from functions_of undump
  functions_none e h = go (leb (length bytes) most_bytes) (check_header bytes 0) h
    where
      go : (t : Bool) (X : Outcome (Unit {0})) → past_of (only t (bind X (λ _ at. load_byte bytes at))) ≡ Err e
          → only t (bind X (λ _ at. bind (load_byte bytes at) (λ _ at₁. load_function levels_below bytes at₁))) ≡ Err e
      go true (Ok (u, at)) k = byte (load_byte bytes at) k
        where
          byte : (Y : Outcome ℕ) → past_of Y ≡ Err e → bind Y (λ _ at₁. load_function levels_below bytes at₁) ≡ Err e
          byte (Ok (b, p)) d = absurd (cc)
          byte (Err x) d = let y : x ≡ e = cc in ap (λ (z : Refusal). Err z) y
      go true (Err x) k = let y : x ≡ e = cc in ap (λ (z : Refusal). Err z) y
      go false X k = let y : MalformedChunk ≡ e = cc in ap (λ (z : Refusal). Err z) y

  functions_some : (main : ℕ) → main_from bytes ≡ Ok main → functions_of bytes ≡ load_function levels_below bytes main
  unfolding main_from functions_of undump
  functions_some main h = go (leb (length bytes) most_bytes) (check_header bytes 0) h
    where
      go : (t : Bool) (X : Outcome (Unit {0})) → past_of (only t (bind X (λ _ at. load_byte bytes at))) ≡ Ok main
          → only t (bind X (λ _ at. bind (load_byte bytes at) (λ _ at₁. load_function levels_below bytes at₁)))
          ≡ load_function levels_below bytes main
      go true (Ok (u, at)) k = byte (load_byte bytes at) k
        where
          byte : (Y : Outcome ℕ) → past_of Y ≡ Ok main
              → bind Y (λ _ at₁. load_function levels_below bytes at₁) ≡ load_function levels_below bytes main
          byte (Ok (b, p)) d = let y : p ≡ main = cc in ap (λ (z : ℕ). load_function levels_below bytes z) y
          byte (Err x) d = absurd (cc)
      go true (Err x) k = absurd (cc)
      go false X k = absurd (cc)

  pub no_main : (e : Refusal) → main_from bytes ≡ Err e → tallied (functions_of bytes) ≡ Err e
  no_main e h = ap tallied (functions_none e h)

  pub from_main : (main : ℕ) → main_from bytes ≡ Ok main → tallied (functions_of bytes) ≡ tallied (load_function 31 bytes main)
  from_main main h = ap tallied (functions_some main h)

-- ---- a search for more functions than there are says how many are missing
search_left : (k : ℕ) (fs : List Function) → length fs ≤ k → search (Err k) fs ≡ Err (k - length fs)
unfolding search
search_left k [] h = let z : k - 0 ≡ k = omega arith in rw z
search_left zero (f ∷ fs) h = absurd (omega arith)
search_left (suc k) (f ∷ fs) h = let z : k - length fs ≡ suc k - length (f ∷ fs) = omega arith in search_left k fs (omega arith) ∙ ap (λ (n : ℕ). Err n) z

module _ (bytes : List ℕ) (at : ℕ) (few : length bytes ≤ most_bytes) where
  record Left (n : ℕ) : Type 0 where
    pub low : n ≤ most_bytes
    pub is : tallied (load_function 31 bytes at) ≡ Ok (most_bytes - n)

  left_by : (X : Outcome (List Function)) → ReadBetween (length bytes) at X → (s : Result Layout ℕ) (past : ℕ)
      → read_as (search (Err most_bytes)) X ≡ Ok (s, past)
      → (n : ℕ) × ((s ≡ Err n) × ((n ≤ most_bytes) × (tallied X ≡ Ok (most_bytes - n))))
  left_by (Ok (fs, end)) b s past h =
      let f : length fs ≤ most_bytes = omega (arith, fewer (length bytes) at end fs b) in
      let e : s ≡ Err (most_bytes - length fs) = sym (same_value (search (Err most_bytes) fs) s end past h) ∙ search_left most_bytes fs f in
      let z : length fs ≡ most_bytes - (most_bytes - length fs) = omega arith in
      (most_bytes - length fs, (e, (omega arith, ap (λ (n : ℕ). Ok n) z)))
  left_by (Err x) b s past h = absurd (cc)

  pub left_few : (n past : ℕ) → read_as (search (Err most_bytes)) (load_function 31 bytes at) ≡ Ok (Err n, past) → n ≤ most_bytes
  left_few n past h =
      let l = left_by (load_function 31 bytes at) (laws.all_between 31 bytes at) (Err n) past h in
      let e : n ≡ l.0 = same_error n l.0 l.1.0 in
      omega (arith, l.1.1.0)
    where
      same_error : (a b : ℕ) → ◌≡◌ {A = Result Layout ℕ} (Err a) (Err b) → a ≡ b
      same_error a b e = cc

  pub left_all : (n past : ℕ) → read_as (search (Err most_bytes)) (load_function 31 bytes at) ≡ Ok (Err n, past)
      → tallied (load_function 31 bytes at) ≡ Ok (most_bytes - n)
  left_all n past h =
      let l = left_by (load_function 31 bytes at) (laws.all_between 31 bytes at) (Err n) past h in
      let e : l.0 ≡ n = same_error l.0 n (sym l.1.0) in
      l.1.1.1 ∙ ap (λ (m : ℕ). Ok (most_bytes - m)) e
    where
      same_error : (a b : ℕ) → ◌≡◌ {A = Result Layout ℕ} (Err a) (Err b) → a ≡ b
      same_error a b e = cc

  pub none_found : (a : Layout) (past : ℕ) → read_as (search (Err most_bytes)) (load_function 31 bytes at) ≡ Ok (Ok a, past)
      → tallied (load_function 31 bytes at) ≡ Err MalformedChunk
  none_found a past h =
      let l = left_by (load_function 31 bytes at) (laws.all_between 31 bytes at) (Ok a) past h in
      absurd (not_both a l.0 l.1.0)
    where
      not_both : (a : Layout) (n : ℕ) → ◌≡◌ {A = Result Layout ℕ} (Ok a) (Err n) → ⊥
      not_both a n e = cc

  pub was_stopped : (e : Refusal) → read_as (search (Err most_bytes)) (load_function 31 bytes at) ≡ Err e
      → tallied (load_function 31 bytes at) ≡ Err e
  was_stopped e h = go (load_function 31 bytes at) h
    where
      go : (X : Outcome (List Function)) → read_as (search (Err most_bytes)) X ≡ Err e → tallied X ≡ Err e
      go (Ok (fs, past)) d = absurd (cc)
      go (Err x) d = let y : x ≡ e = cc in ap (λ (z : Refusal). Err z) y

-- ---- what is told
pub told_is : (X : Outcome (List Function)) → told (tallied X) ≡ listed_of X
told_is (Ok (fs, at)) = refl
told_is (Err e) = refl

-- ---- what is stored
-- a refusal is told, and nothing is altered
pub record Nothing (bytes : List ℕ) (pl pa : List ℕ) (e : Refusal) : Type 0 where
  pub value : tallied (listed_in bytes (length pl) (length pa)) ≡ Err e
  pub places : after_all places_of (listed_in bytes (length pl) (length pa)) pl ≡ pl
  pub parents : after_all parents_of (listed_in bytes (length pl) (length pa)) pa ≡ pa

module _ (bytes pl pa : List ℕ) where
  nothing : (e : Refusal) → listed_in bytes (length pl) (length pa) ≡ Err e → Nothing bytes pl pa e
  unfolding after_all
  nothing e h = record { value = rw h; places = rw h; parents = rw h }

  pub nothing_read : (e : Refusal) → main_from bytes ≡ Err e → Nothing bytes pl pa e
  unfolding listed_in
  nothing_read e h = nothing e (rw (functions_none bytes e h))

  module _ (main : ℕ) (h : main_from bytes ≡ Ok main) where
    pub nothing_counted : (e : Refusal) → tallied (load_function 31 bytes main) ≡ Err e → Nothing bytes pl pa e
    unfolding listed_in
    nothing_counted e k = nothing e (rw (functions_some bytes main h) (go (load_function 31 bytes main) k))
      where
        go : (X : Outcome (List Function)) → tallied X ≡ Err e → bind X (room_for_all (length pl) (length pa)) ≡ Err e
        go (Ok (fs, at)) d = absurd (cc)
        go (Err x) d = let y : x ≡ e = cc in ap (λ (z : Refusal). Err z) y

    -- all of them, so many
    record All (n : ℕ) : Type 0 where
      pub functions : List Function
      pub past : ℕ
      pub is : load_function 31 bytes main ≡ Ok (functions, past)
      pub count : length functions ≡ n

    all_of : (n : ℕ) (X : Outcome (List Function)) → load_function 31 bytes main ≡ X → tallied X ≡ Ok n → All n
    all_of n (Ok (fs, at)) e d = record { functions = fs; past = at; is = e; count = (let y : length fs ≡ n = cc in y) }
    all_of n (Err x) e d = absurd (cc)

    module _ (n : ℕ) (k : tallied (load_function 31 bytes main) ≡ Ok n) where
      a : All n
      a = all_of n (load_function 31 bytes main) refl k

      listed_by : listed_in bytes (length pl) (length pa)
          ≡ cond (leb (length a.functions) (length pl) && leb (length a.functions) (length pa)) (Ok (a.functions, a.past)) (Err ShortSlice)
      unfolding listed_in
      listed_by = rw (functions_some bytes main h, a.is)

      pub no_room : min (length pl) (length pa) < n → Nothing bytes pl pa ShortSlice
      no_room l = nothing ShortSlice (listed_by ∙ go (leb (length a.functions) (length pl)) (leb (length a.functions) (length pa)) refl refl)
        where
          go : (x y : Bool) → leb (length a.functions) (length pl) ≡ x → leb (length a.functions) (length pa) ≡ y
              → cond {A = Outcome (List Function)} (x && y) (Ok (a.functions, a.past)) (Err ShortSlice) ≡ Err ShortSlice
          go true true p q = absurd (omega (arith, leb-true _ _ p, leb-true _ _ q, a.count))
          go true false p q = refl
          go false y p q = refl

      pub record Stored (pl' pa' : List ℕ) : Type 0 where
        pub value : tallied (listed_in bytes (length pl) (length pa)) ≡ Ok n
        pub places : after_all places_of (listed_in bytes (length pl) (length pa)) pl ≡ pl'
        pub parents : after_all parents_of (listed_in bytes (length pl) (length pa)) pa ≡ pa'

      pub all_stored : n ≤ length pl → n ≤ length pa → (pl' pa' : List ℕ)
          → WroteAt (load_function levels_below) bytes main no_function 0 pl pa pl' pa' → Stored pl' pa'
      unfolding after_all
      all_stored l m pl' pa' w =
          let e : listed_in bytes (length pl) (length pa) ≡ Ok (a.functions, a.past) =
          listed_by ∙ rw (le-leb (length a.functions) (length pl) (omega (arith, a.count)), le-leb (length a.functions) (length pa) (omega (arith, a.count))) in
          let v = subst (λ (X : Outcome (List Function)). Wrote X no_function 0 pl pa pl' pa') a.is w.written
          (omega (arith, a.count)) (omega (arith, a.count)) in
          record {
            value = rw e (ap (λ (k : ℕ). Ok k) a.count);
            places = rw e (sym (v.0 ∙ put_laws.start pl (places_of a.functions)));
            parents = rw e (sym (v.1 ∙ put_laws.start pa (parents_of a.functions)));
          }
