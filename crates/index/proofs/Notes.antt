-- What is stored of the functions that are read. Assumes nothing.
use mathlib.Core.Path.{◌≡◌, refl, sym, ap, subst, ◌∙◌}
use mathlib.Core.List.{List, [], ◌∷◌, ◌++◌}
use Prim.Native.Nat.{ℕ, zero, suc, ◌+◌, ◌-◌, ◌≤◌, ◌<◌}
use native.Mathlib.Omega.{arith}
use lib.ListN.{length, length-append}
use Rattle.common.specs.Lists.{put}
use Rattle.common.proofs.Put.{put_laws}
use Rattle.common.specs.declared.refusal.Refusal.{Refusal}
use Rattle.common.specs.declared.refusal.Refusal.TheVariants.{TooDeep}
use Rattle.std.proofs.Common.{Ok, Err}
use Rattle.loaders.specs.Reading.{Outcome, Reader, bind, read_as, past_of}
use Rattle.loaders.specs.Loaders.{Text, load_int}
use Rattle.loaders.specs.declared.constants.Constant.{Constant}
use Rattle.loaders.proofs.Same.{Was, was, was_refused, Ended, ended, end_refused, same_value, same_past}
use Rattle.lundump.specs.Lundump.{Function, load_head, load_code, load_constants}
use Rattle.lundump.specs.Lundump.{load_upvalues, load_lines, load_names, function_with, several, none_of, load_protos}
use Rattle.lundump.specs.Lundump.{load_function}
use Rattle.lundump.specs.Chunk.{values_of}
use Rattle.lundump.specs.Stands.{StandBetween, ReadBetween}
use Rattle.chunk.proofs.Laws.{laws}
use Rattle.index.specs.Listing.{places_of, parents_from}
use Rattle.index.specs.Noting.{Noted, Wrote, WroteAt}
use Rattle.index.proofs.Thens.{own, then1, then2, then3, then4, then5, then6, then7}
use Rattle.index.proofs.Parents.{places_both, places_count, parents_count, ends, fewer, parents_both, parents_function}

-- what the code gives, and what it leaves
pub record Gave (r : Reader (List Function)) (bytes : List ℕ) (at outer i : ℕ) (pl pa pl' pa' : List ℕ) (count : Outcome ℕ) : Type 0 where
  pub value : count ≡ read_as length (r bytes at)
  pub wrote_at : WroteAt r bytes at outer i pl pa pl' pa'

module _ (r : Reader (List Function)) (bytes : List ℕ) (at outer i : ℕ) (pl pa pl' pa' : List ℕ)
    (sp : length pl' ≡ length pl) (sq : length pa' ≡ length pa) where
  pub gave_refused : (e : Refusal) → r bytes at ≡ Err e → Gave r bytes at outer i pl pa pl' pa' (Err e)
  gave_refused e h =
      record {
        value = rw h;
        wrote_at = record {
          places_same = sp;
          parents_same = sq;
          written = subst (λ (X : Outcome (List Function)). Wrote X outer i pl pa pl' pa') (sym h) tt;
        };
      }

  pub gave : (X : Outcome (List Function)) → r bytes at ≡ X → (count : Outcome ℕ) → count ≡ read_as length X
      → Wrote X outer i pl pa pl' pa' → Gave r bytes at outer i pl pa pl' pa' count
  gave X h count e v =
      record {
        value = rw h e;
        wrote_at = record {
          places_same = sp;
          parents_same = sq;
          written = subst (λ (Y : Outcome (List Function)). Wrote Y outer i pl pa pl' pa') (sym h) v;
        };
      }

-- ---- one function: its parts in order, up to the first that is refused
pub record FunctionRead (P : Reader (List Function)) (bytes : List ℕ) (at from behind count past : ℕ) : Type 0 where
  pub main : Function
  pub inner : List Function
  pub is : function_with P bytes at ≡ Ok (main ∷ inner, past)
  pub first : main.first_at ≡ at
  pub last : main.end_at ≡ past
  pub within : P bytes from ≡ Ok (inner, behind)
  pub counted : length inner ≡ count

-- by what each part was read to
module _ (bytes : List ℕ) (P : Reader (List Function)) (at₀ : ℕ)
    (stack at₁ : ℕ) (h : load_head bytes at₀ ≡ Ok (stack, at₁))
    (code : List ℕ) (at₂ : ℕ) (k : load_code bytes at₁ ≡ Ok (code, at₂))
    (ks : List Constant) (at₃ : ℕ) (q : load_constants bytes at₂ ≡ Ok (ks, at₃))
    (n at₄ : ℕ) (u : load_upvalues bytes at₃ ≡ Ok (n, at₄))
    (gs : List Function) (at₅ : ℕ) (w : P bytes at₄ ≡ Ok (gs, at₅)) (inner : ℕ) (ei : length gs ≡ inner)
    (locals : List ℕ) (at₆ : ℕ) (l : load_lines bytes at₅ ≡ Ok (locals, at₆))
    (names : List Text) (at₇ : ℕ) (m : load_names n bytes at₆ ≡ Ok (names, at₇)) where
  read_by : FunctionRead P bytes at₀ at₄ at₅ inner at₇
  unfolding function_with
  read_by =
      record {
        main = own at₀ at₁ code at₂ ks n at₅ at₆ names at₇;
        inner = gs;
        is = rw (h, k, q, u, w, l, m);
        first = refl;
        last = refl;
        within = w;
        counted = ei;
      }

module _ (bytes : List ℕ) (P : Reader (List Function)) (at₀ : ℕ) where
  abbrev whole-of : Outcome (List Function)
  whole-of = function_with P bytes at₀

  pub no_head : (e : Refusal) → load_head bytes at₀ ≡ Err e → whole-of ≡ Err e
  unfolding function_with
  no_head e h = rw h

  module _ (stack at₁ : ℕ) (h : load_head bytes at₀ ≡ Ok (stack, at₁)) where
    pub no_code : (e : Refusal) → read_as length (load_code bytes at₁) ≡ Err e → whole-of ≡ Err e
    unfolding function_with
    no_code e k = rw (h, was_refused length (load_code bytes at₁) e k)

    module _ (words at₂ : ℕ) (k : read_as length (load_code bytes at₁) ≡ Ok (words, at₂)) where
      abbrev code : Was length (load_code bytes at₁) words at₂
      code = was length (load_code bytes at₁) words at₂ k

      pub no_constants : (e : Refusal) → read_as length (load_constants bytes at₂) ≡ Err e → whole-of ≡ Err e
      unfolding function_with
      no_constants e q = rw (h, code.is, was_refused length (load_constants bytes at₂) e q)

      module _ (constants at₃ : ℕ) (q : read_as length (load_constants bytes at₂) ≡ Ok (constants, at₃)) where
        abbrev ks : Was length (load_constants bytes at₂) constants at₃
        ks = was length (load_constants bytes at₂) constants at₃ q

        pub no_upvalues : (e : Refusal) → load_upvalues bytes at₃ ≡ Err e → whole-of ≡ Err e
        unfolding function_with
        no_upvalues e u = rw (h, code.is, ks.is, u)

        module _ (n at₄ : ℕ) (u : load_upvalues bytes at₃ ≡ Ok (n, at₄)) where
          pub no_protos : (e : Refusal) → read_as length (P bytes at₄) ≡ Err e → whole-of ≡ Err e
          unfolding function_with
          no_protos e w = rw (h, code.is, ks.is, u, was_refused length (P bytes at₄) e w)

          module _ (inner at₅ : ℕ) (w : read_as length (P bytes at₄) ≡ Ok (inner, at₅)) where
            abbrev within : Was length (P bytes at₄) inner at₅
            within = was length (P bytes at₄) inner at₅ w

            pub no_lines : (e : Refusal) → past_of (load_lines bytes at₅) ≡ Err e → whole-of ≡ Err e
            unfolding function_with
            no_lines e l = rw (h, code.is, ks.is, u, within.is, end_refused (load_lines bytes at₅) e l)

            module _ (at₆ : ℕ) (l : past_of (load_lines bytes at₅) ≡ Ok at₆) where
              abbrev locals : Ended (load_lines bytes at₅) at₆
              locals = ended (load_lines bytes at₅) at₆ l

              pub no_names : (e : Refusal) → past_of (load_names n bytes at₆) ≡ Err e → whole-of ≡ Err e
              unfolding function_with
              no_names e m = rw (h, code.is, ks.is, u, within.is, locals.is, end_refused (load_names n bytes at₆) e m)

              pub function_read : (at₇ : ℕ) → past_of (load_names n bytes at₆) ≡ Ok at₇ → FunctionRead P bytes at₀ at₄ at₅ inner at₇
              function_read at₇ m =
                  let names = ended (load_names n bytes at₆) at₇ m in
                  read_by bytes P at₀ stack at₁ h code.value at₂ code.is ks.value at₃ ks.is n at₄ u within.value at₅ within.is inner within.gives
                  locals.value at₆ locals.is names.value at₇ names.is

-- ---- a function that was read is the first of those that were
pub record MainFirst (at : ℕ) (fs : List Function) (past : ℕ) : Type 0 where
  pub main : Function
  pub inner : List Function
  pub is : fs ≡ main ∷ inner
  pub first : main.first_at ≡ at
  pub last : main.end_at ≡ past

module _ (P : Reader (List Function)) (bytes : List ℕ) (at₀ : ℕ) (gs : List Function) (past : ℕ) where
  abbrev Is : Outcome (List Function) → Type 0
  Is X = X ≡ Ok (gs, past)

  i7 : (at₁ : ℕ) (code : List ℕ) (at₂ : ℕ) (ks : List Constant) (n : ℕ) (inner : List Function) (at₅ at₆ : ℕ) (X : Outcome (List Text))
      → Is (bind X (then7 bytes P at₀ at₁ code at₂ ks n inner at₅ at₆)) → MainFirst at₀ gs past
  i7 at₁ code at₂ ks n inner at₅ at₆ (Ok (names, at₇)) e =
      let m = own at₀ at₁ code at₂ ks n at₅ at₆ names at₇ in
      record { main = m; inner = inner; is = sym (same_value (m ∷ inner) gs at₇ past e); first = refl; last = same_past (m ∷ inner) gs at₇ past e }
  i7 at₁ code at₂ ks n inner at₅ at₆ (Err x) e = absurd (cc)

  i6 : (at₁ : ℕ) (code : List ℕ) (at₂ : ℕ) (ks : List Constant) (n : ℕ) (inner : List Function) (at₅ : ℕ) (X : Outcome (List ℕ))
      → Is (bind X (then6 bytes P at₀ at₁ code at₂ ks n inner at₅)) → MainFirst at₀ gs past
  i6 at₁ code at₂ ks n inner at₅ (Ok (z, at₆)) e = i7 at₁ code at₂ ks n inner at₅ at₆ (load_names n bytes at₆) e
  i6 at₁ code at₂ ks n inner at₅ (Err x) e = absurd (cc)

  i5 : (at₁ : ℕ) (code : List ℕ) (at₂ : ℕ) (ks : List Constant) (n : ℕ) (X : Outcome (List Function))
      → Is (bind X (then5 bytes P at₀ at₁ code at₂ ks n)) → MainFirst at₀ gs past
  i5 at₁ code at₂ ks n (Ok (inner, at₅)) e = i6 at₁ code at₂ ks n inner at₅ (load_lines bytes at₅) e
  i5 at₁ code at₂ ks n (Err x) e = absurd (cc)

  i4 : (at₁ : ℕ) (code : List ℕ) (at₂ : ℕ) (ks : List Constant) (X : Outcome ℕ)
      → Is (bind X (then4 bytes P at₀ at₁ code at₂ ks)) → MainFirst at₀ gs past
  i4 at₁ code at₂ ks (Ok (n, at₄)) e = i5 at₁ code at₂ ks n (P bytes at₄) e
  i4 at₁ code at₂ ks (Err x) e = absurd (cc)

  i3 : (at₁ : ℕ) (code : List ℕ) (at₂ : ℕ) (X : Outcome (List Constant))
      → Is (bind X (then3 bytes P at₀ at₁ code at₂)) → MainFirst at₀ gs past
  i3 at₁ code at₂ (Ok (ks, at₃)) e = i4 at₁ code at₂ ks (load_upvalues bytes at₃) e
  i3 at₁ code at₂ (Err x) e = absurd (cc)

  i2 : (at₁ : ℕ) (X : Outcome (List ℕ)) → Is (bind X (then2 bytes P at₀ at₁)) → MainFirst at₀ gs past
  i2 at₁ (Ok (code, at₂)) e = i3 at₁ code at₂ (load_constants bytes at₂) e
  i2 at₁ (Err x) e = absurd (cc)

  i1 : (X : Outcome ℕ) → Is (bind X (then1 bytes P at₀)) → MainFirst at₀ gs past
  i1 (Ok (a, at₁)) e = i2 at₁ (load_code bytes at₁) e
  i1 (Err x) e = absurd (cc)

  pub main_first : function_with P bytes at₀ ≡ Ok (gs, past) → MainFirst at₀ gs past
  unfolding function_with
  main_first e = i1 (load_head bytes at₀) e

-- ---- what is stored of it
renumbered : (X : Outcome (List Function)) (outer i j : ℕ) (pl pa pl' pa' : List ℕ) → (i ≤ length pl → j ≡ i)
    → Wrote X outer j pl pa pl' pa' → Wrote X outer i pl pa pl' pa'
renumbered (Ok (fs, at)) outer i j pl pa pl' pa' e w = λ a b. subst (λ (k : ℕ). Wrote (Ok (fs, at)) outer k pl pa pl' pa') (e (omega arith)) w a b
renumbered (Err x) outer i j pl pa pl' pa' e w = tt

module _ (level : ℕ) (bytes : List ℕ) (outer i : ℕ) (pl pa pl₁ pa₁ pl₂ pa₂ : List ℕ) where
  one_more :
      (at past from behind : ℕ) (main : Function) (inner : List Function) → main.first_at ≡ at → main.end_at ≡ past
      → StandBetween (length bytes) at (main ∷ inner) past → Noted i at outer pl pa pl₁ pa₁
      → Wrote (Ok (inner, behind)) i (i + 1) pl₁ pa₁ pl₂ pa₂ → Wrote (Ok (main ∷ inner, past)) outer i pl pa pl₂ pa₂
  unfolding values_of
  one_more at past from behind main inner ea ep b o w x y =
      let z : i + 1 + length inner ≡ i + length (main ∷ inner) = omega arith in
      let n = o.written (omega arith) (omega arith) in
      let p₁ : i + 1 + length inner ≤ length pl₁ = omega (arith, x, o.places_same) in
      let p₂ : i + 1 + length inner ≤ length pa₁ = omega (arith, y, o.parents_same) in
      let q = w p₁ p₂ in (
        put_laws.and_then pl pl₁ pl₂ i 1 (at ∷ []) (places_of inner) (n.0 ∙ put_laws.one pl i at (omega arith)) refl
            (omega (arith, x, places_count inner)) q.0
            ∙ ap (λ (k : ℕ). put pl i (k ∷ places_of inner)) (sym ea),
        put_laws.and_then pa pa₁ pa₂ i 1 (outer ∷ []) (parents_from i [] (i + 1) inner) (n.1 ∙ put_laws.one pa i outer (omega arith)) refl
            (omega (arith, y, parents_count i [] (i + 1) inner)) q.1
            ∙ ap (put pa i) (sym (parents_function (length bytes) outer (main.first_at + 1) past i main inner b.1.1.1 (omega (arith, ep)))),
      )

  pub function_gave : (at from behind count past next : ℕ) → FunctionRead (load_protos level) bytes at from behind count past
      → Noted i at outer pl pa pl₁ pa₁ → (i + 1 ≤ length pl₁ → next ≡ i + 1)
      → WroteAt (load_protos level) bytes from i next pl₁ pa₁ pl₂ pa₂
      → Gave (load_function level) bytes at outer i pl pa pl₂ pa₂ (Ok (count + 1, past))
  function_gave at from behind count past next f o e v =
      let w : Wrote (Ok (f.inner, behind)) i (i + 1) pl₁ pa₁ pl₂ pa₂ =
      renumbered (Ok (f.inner, behind)) i (i + 1) next pl₁ pa₁ pl₂ pa₂ e
      (subst (λ (X : Outcome (List Function)). Wrote X i next pl₁ pa₁ pl₂ pa₂) f.within v.written) in
      let b : StandBetween (length bytes) at (f.main ∷ f.inner) past =
      subst (λ (X : Outcome (List Function)). ReadBetween (length bytes) at X) f.is (laws.all_between level bytes at) in
      let c : count + 1 ≡ length (f.main ∷ f.inner) = omega (arith, f.counted) in
      gave (load_function level) bytes at outer i pl pa pl₂ pa₂ (v.places_same ∙ o.places_same) (v.parents_same ∙ o.parents_same)
      (Ok (f.main ∷ f.inner, past)) f.is (Ok (count + 1, past)) (ap (λ (n : ℕ). Ok (n, past)) c)
      (one_more at past from behind f.main f.inner f.first f.last b o w)

-- those within are fewer than the bytes
pub count_few : (level : ℕ) (bytes : List ℕ) (at n past : ℕ) → read_as length (load_protos level bytes at) ≡ Ok (n, past) → n ≤ length bytes
count_few level bytes at n past h = go (load_protos level bytes at) (laws.within_between level bytes at) h
  where
    go : (X : Outcome (List Function)) → ReadBetween (length bytes) at X → read_as length X ≡ Ok (n, past) → n ≤ length bytes
    go (Ok (fs, p)) b d = let f = fewer (length bytes) at p fs b in let e : length fs ≡ n = same_value (length fs) n p past d in omega arith
    go (Err e) b d = absurd (cc)

-- ---- several functions
abbrev pub totalled : ℕ → Outcome (List Function) → Outcome ℕ
totalled total (Ok (fs, at)) = Ok (total + length fs, at)
totalled total (Err e) = Err e

totalled_none : (X : Outcome (List Function)) → totalled 0 X ≡ read_as length X
totalled_none (Ok (fs, at)) = let z : 0 + length fs ≡ length fs = omega arith in ap (λ (n : ℕ). Ok (n, at)) z
totalled_none (Err e) = refl

module _ (level : ℕ) (bytes : List ℕ) where
  abbrev R : Reader (List Function)
  R = load_function level

  totalled_more : (m total at₁ : ℕ) (fs : List Function) (X : Outcome (List Function))
      → totalled total (bind X (λ more at₂. Ok (fs ++ more, at₂))) ≡ totalled (total + length fs) X
  totalled_more m total at₁ fs (Ok (more, at₂)) =
      let z : total + length (fs ++ more) ≡ total + length fs + length more = omega (arith, length-append fs more) in
      ap (λ (n : ℕ). Ok (n, at₂)) z
  totalled_more m total at₁ fs (Err e) = refl

  one_totalled : (m total at : ℕ) (fs : List Function) (at₁ : ℕ) → R bytes at ≡ Ok (fs, at₁)
      → totalled total (several R (suc m) bytes at) ≡ totalled (total + length fs) (several R m bytes at₁)
  unfolding several
  one_totalled m total at fs at₁ e = rw e (totalled_more m total at₁ fs (several R m bytes at₁))

  one_refused : (m at : ℕ) (x : Refusal) → R bytes at ≡ Err x → several R (suc m) bytes at ≡ Err x
  unfolding several
  one_refused m at x e = rw e

  module _ (outer i : ℕ) (pl pa pl₁ pa₁ pl₂ pa₂ : List ℕ) (samePl : length pl₁ ≡ length pl) (samePa : length pa₁ ≡ length pa) where
    both_wrote :
        (lo mid hi : ℕ) (fs more : List Function) → StandBetween (length bytes) lo fs mid → StandBetween (length bytes) mid more hi
        → Wrote (Ok (fs, mid)) outer i pl pa pl₁ pa₁ → Wrote (Ok (more, hi)) outer (i + length fs) pl₁ pa₁ pl₂ pa₂
        → Wrote (Ok (fs ++ more, hi)) outer i pl pa pl₂ pa₂
    both_wrote lo mid hi fs more b c w v x y =
        let n = length-append fs more in
        let q = w (omega (arith, x, n)) (omega (arith, y, n)) in
        let r = v (omega (arith, x, n, samePl)) (omega (arith, y, n, samePa)) in (
          put_laws.and_then pl pl₁ pl₂ i (length fs) (places_of fs) (places_of more) q.0 (places_count fs)
              (omega (arith, x, n, places_count more)) r.0
              ∙ ap (put pl i) (sym (places_both fs more)),
          put_laws.and_then pa pa₁ pa₂ i (length fs) (parents_from outer [] i fs)
              (parents_from outer [] (i + length fs) more) q.1 (parents_count outer [] i fs)
              (omega (arith, y, n, parents_count outer [] (i + length fs) more)) r.1
              ∙ ap (put pa i) (sym (parents_both (length bytes) outer lo mid hi i fs more b c)),
        )

    then_wrote :
        (lo mid : ℕ) (fs : List Function) (X : Outcome (List Function)) → StandBetween (length bytes) lo fs mid → ReadBetween (length bytes) mid X
        → Wrote (Ok (fs, mid)) outer i pl pa pl₁ pa₁ → Wrote X outer (i + length fs) pl₁ pa₁ pl₂ pa₂
        → Wrote (bind X (λ more at₂. Ok (fs ++ more, at₂))) outer i pl pa pl₂ pa₂
    then_wrote lo mid fs (Ok (more, hi)) b c w v = both_wrote lo mid hi fs more b c w v
    then_wrote lo mid fs (Err e) b c w v = tt

    one_wrote :
        (m at : ℕ) (fs : List Function) (at₁ : ℕ) → R bytes at ≡ Ok (fs, at₁) → Wrote (Ok (fs, at₁)) outer i pl pa pl₁ pa₁
        → Wrote (several R m bytes at₁) outer (i + length fs) pl₁ pa₁ pl₂ pa₂ → Wrote (several R (suc m) bytes at) outer i pl pa pl₂ pa₂
    unfolding several
    one_wrote m at fs at₁ e w v =
        rw e
        (then_wrote at at₁ fs (several R m bytes at₁)
        (subst (λ (X : Outcome (List Function)). ReadBetween (length bytes) at X) e
        (laws.all_between level bytes at))
        (laws.several_between level m bytes at₁) w v)

-- so many of n are read
pub record Midway (level : ℕ) (bytes : List ℕ) (start n outer first : ℕ) (pl₀ pa₀ pl pa : List ℕ) (at total i : ℕ) : Type 0 where
  pub upto : i ≤ n
  pub low : total ≤ at
  pub places_same : length pl ≡ length pl₀
  pub parents_same : length pa ≡ length pa₀
  pub counted : totalled 0 (several (load_function level) n bytes start) ≡ totalled total (several (load_function level) (n - i) bytes at)
  pub rest :
      (pl' pa' : List ℕ) → Wrote (several (load_function level) (n - i) bytes at) outer (first + total) pl pa pl' pa'
      → Wrote (several (load_function level) n bytes start) outer first pl₀ pa₀ pl' pa'

module _ (level : ℕ) (bytes : List ℕ) (start n outer first : ℕ) (pl₀ pa₀ : List ℕ) where
  -- all of them
  abbrev whole : Outcome (List Function)
  whole = several (load_function level) n bytes start

  pub midway_none : Midway level bytes start n outer first pl₀ pa₀ pl₀ pa₀ start 0 0
  midway_none =
      let z : n ≡ n - 0 = omega arith in
      let y : first + 0 ≡ first = omega arith in
      record {
        upto = omega arith;
        low = omega arith;
        places_same = refl;
        parents_same = refl;
        counted = ap (λ (m : ℕ). totalled 0 (several (load_function level) m bytes start)) z;
        rest =
            λ pl' pa' w.
            subst (λ (m : ℕ). Wrote (several (load_function level) m bytes start) outer first pl₀ pa₀ pl' pa') (sym z)
            (subst (λ (k : ℕ). Wrote (several (load_function level) (n - 0) bytes start) outer k pl₀ pa₀ pl' pa') y w);
      }

  module _ {pl pa : List ℕ} {at total i : ℕ} (m : Midway level bytes start n outer first pl₀ pa₀ pl pa at total i) where
    -- one more
    module _ (h : i < n) where
      abbrev Still : Type 0
      Still = n - i ≡ suc (n - (i + 1))

      still : Still
      still = omega arith

      module _ (j : ℕ) (ej : first + total ≤ length pl → j ≡ first + total) (pl₁ pa₁ : List ℕ)
          (w : WroteAt (load_function level) bytes at outer j pl pa pl₁ pa₁) where
        more_by : (fs : List Function) (behind : ℕ) → load_function level bytes at ≡ Ok (fs, behind)
            → Midway level bytes start n outer first pl₀ pa₀ pl₁ pa₁ behind (total + length fs) (i + 1)
        more_by fs behind e =
            let b : StandBetween (length bytes) at fs behind = subst
            (λ (X : Outcome (List Function)). ReadBetween (length bytes) at X) e
            (laws.all_between level bytes at) in
            let l = ends (length bytes) at behind fs b in
            record {
              upto = omega arith;
              low = omega (arith, m.low, l);
              places_same = w.places_same ∙ m.places_same;
              parents_same = w.parents_same ∙ m.parents_same;
              counted =
                  m.counted ∙ ap (λ (k : ℕ). totalled total (several (load_function level) k bytes at)) still
                  ∙ one_totalled level bytes (n - (i + 1)) total at fs behind e;
              rest =
                  λ pl' pa' v.
                  let y : first + (total + length fs) ≡ first + total + length fs = omega arith in
                  m.rest pl' pa'
                  (subst (λ (k : ℕ). Wrote (several (load_function level) k bytes at) outer (first + total) pl pa pl' pa') (sym still)
                  (one_wrote level bytes outer (first + total) pl pa pl₁ pa₁ pl' pa' w.places_same w.parents_same (n - (i + 1)) at fs behind e
                  (renumbered (Ok (fs, behind)) outer (first + total) j pl pa pl₁ pa₁ ej
                  (subst (λ (X : Outcome (List Function)). Wrote X outer j pl pa pl₁ pa₁) e w.written))
                  (subst (λ (k : ℕ). Wrote (several (load_function level) (n - (i + 1)) bytes behind) outer k pl₁ pa₁ pl' pa') y v)));
            }

        pub midway_more : (more behind : ℕ) → read_as length (load_function level bytes at) ≡ Ok (more, behind)
            → (total + more ≤ behind) × Midway level bytes start n outer first pl₀ pa₀ pl₁ pa₁ behind (total + more) (i + 1)
        midway_more more behind e =
            let f = was length (load_function level bytes at) more behind e in
            let r = more_by f.value behind f.is in (
              omega (arith, r.low, f.gives),
              subst (λ (t : ℕ). Midway level bytes start n outer first pl₀ pa₀ pl₁ pa₁ behind (total + t) (i + 1)) f.gives r,
            )

      -- or a refusal
      pub midway_refused : (e : Refusal) → read_as length (load_function level bytes at) ≡ Err e → whole ≡ Err e
      midway_refused e k =
          let s : several (load_function level) (n - i) bytes at ≡ Err e =
          ap (λ (k : ℕ). several (load_function level) k bytes at) still
          ∙ one_refused level bytes (n - (i + 1)) at e (was_refused length (load_function level bytes at) e k) in
          refusal-of whole (m.counted ∙ ap (totalled total) s)
        where
          refusal-of : (X : Outcome (List Function)) → totalled 0 X ≡ Err e → X ≡ Err e
          refusal-of (Ok (fs, past)) r = absurd (cc)
          refusal-of (Err z) r = let v : z ≡ e = cc in ap (λ (y : Refusal). Err y) v

    pub midway_done : n ≤ i
        → (◌≡◌ {A = Outcome ℕ} (Ok (total, at)) (read_as length whole)) × Wrote whole outer first pl₀ pa₀ pl pa
    unfolding several values_of parents_from
    midway_done h =
        let z : n - i ≡ 0 = omega arith in
        let y : total + 0 ≡ total = omega arith in (
          ap (λ (t : ℕ). Ok (t, at)) (sym y) ∙ ap (λ (k : ℕ). totalled total (several (load_function level) k bytes at)) (sym z) ∙ sym m.counted
              ∙ totalled_none whole,
          m.rest pl pa
              (subst (λ (k : ℕ). Wrote (several (load_function level) k bytes at) outer (first + total) pl pa pl pa) (sym z)
              (λ a b. (put_laws.none pl (first + total), put_laws.none pa (first + total)))),
        )

-- ---- loadProtos
module _ (bytes : List ℕ) (level at : ℕ) where
  pub no_count : (e : Refusal) → load_int bytes at ≡ Err e → load_protos level bytes at ≡ Err e
  unfolding load_protos
  no_count e h = go level
    where
      go : (l : ℕ) → load_protos l bytes at ≡ Err e
      go zero = rw h
      go (suc l) = rw h

  module _ (n start : ℕ) (h : load_int bytes at ≡ Ok (n, start)) where
    none_within : level ≡ 0 → n ≡ 0 → load_protos level bytes at ≡ Ok ([], start)
    unfolding load_protos none_of
    none_within z y = rw (z, h, y)

    pub gave_none : (outer first : ℕ) (pl pa : List ℕ) → level ≡ 0 → n ≡ 0
        → Gave (load_protos level) bytes at outer first pl pa pl pa (Ok (0, start))
    unfolding values_of parents_from
    gave_none outer first pl pa z y =
        gave (load_protos level) bytes at outer first pl pa pl pa refl refl (Ok ([], start)) (none_within z y) (Ok (0, start)) refl
        (λ a b. (put_laws.none pl first, put_laws.none pa first))

    pub too_deep : level ≡ 0 → (n ≡ 0 → ⊥) → load_protos level bytes at ≡ Err TooDeep
    unfolding load_protos none_of
    too_deep z y = let e : n ≡ suc (n - 1) = omega arith in rw (z, h, e)

    pub deeper : (level ≡ 0 → ⊥) → load_protos level bytes at ≡ several (load_function (level - 1)) n bytes start
    unfolding load_protos
    deeper z = let e : level ≡ suc (level - 1) = omega arith in below level (level - 1) e
      where
        below : (m l : ℕ) → m ≡ suc l → load_protos m bytes at ≡ several (load_function l) n bytes start
        below m l e = rw (e, h)
