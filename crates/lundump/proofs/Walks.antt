-- Functions within functions, as the walk over them sees them. Assumes nothing.
use Rattle.std.proofs.Common.{◌≡◌, ℕ, zero, suc, ◌-◌, ◌+◌, ◌<◌, List, [], ◌∷◌, ◌++◌, length, Result, Ok, Err, refl, sym, ap, ◌∙◌, arith}
use Rattle.common.specs.declared.refusal.Refusal.{Refusal}
use Rattle.common.specs.declared.refusal.Refusal.TheVariants.{TooDeep}
use Rattle.lundump.specs.declared.functions.Layout.{Layout}
use Rattle.loaders.specs.Reading.{Outcome, Reader, bind, read_as, past_of}
use Rattle.loaders.specs.declared.constants.Constant.{Constant}
use Rattle.loaders.specs.Loaders.{Text, load_int}
use Rattle.loaders.proofs.Same.{Was, was, was_refused, Ended, ended, end_refused}
use Rattle.lundump.specs.Lundump.{Function, load_head, load_code, load_constants, load_upvalues, load_lines, load_names, function_with, several, none_of, load_protos, load_function}
use Rattle.lundump.specs.Search.{layout_of, search, passed, settled}

-- ---- searches
found_stays : (l : Layout) (fs : List Function) → search (Ok l) fs ≡ Ok l
unfolding search
found_stays l [] = refl
found_stays l (f ∷ fs) = refl

over_none : (s : Result Layout ℕ) → search s [] ≡ s
unfolding search
over_none (Ok l) = refl
over_none (Err zero) = refl
over_none (Err (suc n)) = refl

over_both : (s : Result Layout ℕ) (fs gs : List Function) → search s (fs ++ gs) ≡ search (search s fs) gs
unfolding search
over_both (Ok l) fs gs = found_stays l (fs ++ gs) ∙ sym (rw found_stays (found_stays l gs))
over_both (Err n) [] gs = rw (over_none (Err n))
over_both (Err zero) (f ∷ fs) gs = sym (found_stays (layout_of f) gs)
over_both (Err (suc n)) (f ∷ fs) gs = over_both (Err n) fs gs

-- a function and those within it
over_own : (s : Result Layout ℕ) (f : Function) (inner : List Function) → settled s (layout_of f) (search (passed s) inner) ≡ search s (f ∷ inner)
unfolding search
over_own (Ok l) f inner = found_stays l inner
over_own (Err zero) f inner = refl
over_own (Err (suc n)) f inner = refl

-- ---- one function, by what each part was read to
module _ (bytes : List ℕ) (P : Reader (List Function)) (at₀ : ℕ) (s : Result Layout ℕ)
    (stack at₁ : ℕ) (h : load_head bytes at₀ ≡ Ok (stack, at₁))
    (code : List ℕ) (at₂ : ℕ) (k : load_code bytes at₁ ≡ Ok (code, at₂)) (words : ℕ) (ew : length code ≡ words)
    (ks : List Constant) (at₃ : ℕ) (q : load_constants bytes at₂ ≡ Ok (ks, at₃)) (constants : ℕ) (ec : length ks ≡ constants)
    (n at₄ : ℕ) (u : load_upvalues bytes at₃ ≡ Ok (n, at₄))
    (fs : List Function) (at₅ : ℕ) (w : P bytes at₄ ≡ Ok (fs, at₅)) (inner : Result Layout ℕ) (ei : search (passed s) fs ≡ inner)
    (locals : List ℕ) (at₆ : ℕ) (l : load_lines bytes at₅ ≡ Ok (locals, at₆))
    (names : List Text) (at₇ : ℕ) (m : load_names n bytes at₆ ≡ Ok (names, at₇)) where
  read_by : read_as (search s) (function_with P bytes at₀)
      ≡ Ok (
        settled s
            (record {
              first_at = at₀;
              code_at = at₁;
              words = words;
              constants_at = at₂;
              constants = constants;
              lines_at = at₅;
              names_at = at₆;
              names = n;
            })
            inner,
        at₇,
      )
  unfolding function_with
  read_by = rw (h, k, q, u, w, l, m, ← ew, ← ec, ← ei) (ap (λ (x : Result Layout ℕ). Ok (x, at₇)) (sym (over_own s _ fs)))

-- ---- one function: its parts in order, up to the first that is refused
module _ (bytes : List ℕ) (P : Reader (List Function)) (at₀ : ℕ) (s : Result Layout ℕ) where
  abbrev whole : Outcome (Result Layout ℕ)
  whole = read_as (search s) (function_with P bytes at₀)

  pub no_head : (e : Refusal) → load_head bytes at₀ ≡ Err e → whole ≡ Err e
  unfolding function_with
  no_head e h = rw h

  module _ (stack at₁ : ℕ) (h : load_head bytes at₀ ≡ Ok (stack, at₁)) where
    pub no_code : (e : Refusal) → read_as length (load_code bytes at₁) ≡ Err e → whole ≡ Err e
    unfolding function_with
    no_code e k = rw (h, was_refused length (load_code bytes at₁) e k)

    module _ (words at₂ : ℕ) (k : read_as length (load_code bytes at₁) ≡ Ok (words, at₂)) where
      abbrev code : Was length (load_code bytes at₁) words at₂
      code = was length (load_code bytes at₁) words at₂ k

      pub no_constants : (e : Refusal) → read_as length (load_constants bytes at₂) ≡ Err e → whole ≡ Err e
      unfolding function_with
      no_constants e q = rw (h, code.is, was_refused length (load_constants bytes at₂) e q)

      module _ (constants at₃ : ℕ) (q : read_as length (load_constants bytes at₂) ≡ Ok (constants, at₃)) where
        abbrev ks : Was length (load_constants bytes at₂) constants at₃
        ks = was length (load_constants bytes at₂) constants at₃ q

        pub no_upvalues : (e : Refusal) → load_upvalues bytes at₃ ≡ Err e → whole ≡ Err e
        unfolding function_with
        no_upvalues e u = rw (h, code.is, ks.is, u)

        module _ (n at₄ : ℕ) (u : load_upvalues bytes at₃ ≡ Ok (n, at₄)) where
          pub no_protos : (e : Refusal) → read_as (search (passed s)) (P bytes at₄) ≡ Err e → whole ≡ Err e
          unfolding function_with
          no_protos e w = rw (h, code.is, ks.is, u, was_refused (search (passed s)) (P bytes at₄) e w)

          module _ (inner : Result Layout ℕ) (at₅ : ℕ) (w : read_as (search (passed s)) (P bytes at₄) ≡ Ok (inner, at₅)) where
            abbrev walked : Was (search (passed s)) (P bytes at₄) inner at₅
            walked = was (search (passed s)) (P bytes at₄) inner at₅ w

            pub no_lines : (e : Refusal) → past_of (load_lines bytes at₅) ≡ Err e → whole ≡ Err e
            unfolding function_with
            no_lines e l = rw (h, code.is, ks.is, u, walked.is, end_refused (load_lines bytes at₅) e l)

            module _ (at₆ : ℕ) (l : past_of (load_lines bytes at₅) ≡ Ok at₆) where
              abbrev locals : Ended (load_lines bytes at₅) at₆
              locals = ended (load_lines bytes at₅) at₆ l

              pub no_names : (e : Refusal) → past_of (load_names n bytes at₆) ≡ Err e → whole ≡ Err e
              unfolding function_with
              no_names e m = rw (h, code.is, ks.is, u, walked.is, locals.is, end_refused (load_names n bytes at₆) e m)

              pub read : (at₇ : ℕ) → past_of (load_names n bytes at₆) ≡ Ok at₇
                  → whole
                  ≡ Ok (
                    settled s
                        (record {
                          first_at = at₀;
                          code_at = at₁;
                          words = words;
                          constants_at = at₂;
                          constants = constants;
                          lines_at = at₅;
                          names_at = at₆;
                          names = n;
                        })
                        inner,
                    at₇,
                  )
              read at₇ m =
                  let names = ended (load_names n bytes at₆) at₇ m in
                  read_by bytes P at₀ s stack at₁ h code.value at₂ code.is words code.gives ks.value at₃ ks.is constants ks.gives n at₄ u walked.value at₅ walked.is inner walked.gives
                  locals.value at₆ locals.is names.value at₇ names.is

-- ---- several functions
module _ (r : Reader (List Function)) (bytes : List ℕ) where
  appended : (s : Result Layout ℕ) (fs : List Function) (X : Outcome (List Function))
      → read_as (search s) (bind X (λ more at. Ok (fs ++ more, at))) ≡ read_as (search (search s fs)) X
  appended s fs (Ok (more, at)) = ap (λ (x : Result Layout ℕ). Ok (x, at)) (over_both s fs more)
  appended s fs (Err e) = refl

  pub none_left : (n : ℕ) (s : Result Layout ℕ) (at : ℕ) → n ≡ 0 → read_as (search s) (several r n bytes at) ≡ Ok (s, at)
  unfolding several
  none_left n s at z = rw z (ap (λ (x : Result Layout ℕ). Ok (x, at)) (over_none s))

  on_by : (n i : ℕ) (s : Result Layout ℕ) (at : ℕ) (next : Result Layout ℕ) (past : ℕ) (fs : List Function) → i < n
      → r bytes at ≡ Ok (fs, past) → search s fs ≡ next
      → read_as (search s) (several r (n - i) bytes at) ≡ read_as (search next) (several r (n - (i + 1)) bytes past)
  unfolding several
  on_by n i s at next past fs l h g =
      let e : n - i ≡ suc (n - (i + 1)) = omega arith in
      rw (e, h, ← g) (appended s fs (several r (n - (i + 1)) bytes past))

  pub one_on : (n i : ℕ) (s : Result Layout ℕ) (at : ℕ) (next : Result Layout ℕ) (past : ℕ) → i < n
      → read_as (search s) (r bytes at) ≡ Ok (next, past)
      → read_as (search s) (several r (n - i) bytes at) ≡ read_as (search next) (several r (n - (i + 1)) bytes past)
  one_on n i s at next past l h =
      let w = was (search s) (r bytes at) next past h in
      on_by n i s at next past w.value l w.is w.gives

  pub one_stops : (n i : ℕ) (s : Result Layout ℕ) (at : ℕ) (e : Refusal) → i < n
      → read_as (search s) (r bytes at) ≡ Err e → read_as (search s) (several r (n - i) bytes at) ≡ Err e
  unfolding several
  one_stops n i s at e l h =
      let p : n - i ≡ suc (n - (i + 1)) = omega arith in
      rw (p, was_refused (search s) (r bytes at) e h)

-- ---- the count of the functions within
module _ (bytes : List ℕ) (level at : ℕ) (s : Result Layout ℕ) where
  pub no_count : (e : Refusal) → load_int bytes at ≡ Err e → read_as (search s) (load_protos level bytes at) ≡ Err e
  unfolding load_protos
  no_count e h = go level
    where
      go : (l : ℕ) → read_as (search s) (load_protos l bytes at) ≡ Err e
      go zero = rw h
      go (suc l) = rw h

  module _ (n start : ℕ) (h : load_int bytes at ≡ Ok (n, start)) where
    -- no level is left, and none is needed
    pub flat : level ≡ 0 → n ≡ 0 → read_as (search s) (load_protos level bytes at) ≡ Ok (s, start)
    unfolding load_protos none_of
    flat z y = rw (z, h, y) (ap (λ (x : Result Layout ℕ). Ok (x, start)) (over_none s))

    -- no level is left, and one is needed
    pub too_deep : level ≡ 0 → (n ≡ 0 → ⊥) → read_as (search s) (load_protos level bytes at) ≡ Err TooDeep
    unfolding load_protos none_of
    too_deep z y = let e : n ≡ suc (n - 1) = omega arith in rw (z, h, e)

    -- a level is left
    pub deeper : (level ≡ 0 → ⊥) → load_protos level bytes at ≡ several (load_function (level - 1)) n bytes start
    unfolding load_protos
    deeper z = let e : level ≡ suc (level - 1) = omega arith in below level (level - 1) e
      where
        below : (m l : ℕ) → m ≡ suc l → load_protos m bytes at ≡ several (load_function l) n bytes start
        below m l e = rw (e, h)
