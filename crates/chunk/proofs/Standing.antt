-- Every function that is read stands where its positions say.
-- Assumes nothing.
use mathlib.Core.Path.{◌≡◌, refl}
use mathlib.Core.Bool.{Bool, true, false}
use mathlib.Core.List.{List, [], ◌∷◌, ◌++◌}
use Prim.Native.Nat.{ℕ, zero, suc, ◌≤◌}
use native.Mathlib.Omega.{arith}
use lib.Dec.{leb}
use lib.ListN.{length}
use Rattle.common.specs.Limits.{most_constants, most_names, levels_below}
use Rattle.std.proofs.Common.{Ok, Err}
use Rattle.loaders.specs.Reading.{Outcome, Reader, bind, only}
use Rattle.loaders.specs.declared.constants.Constant.{Constant}
use Rattle.loaders.specs.Loaders.{load_byte, Text, load_int}
use Rattle.lundump.specs.Lundump.{Function, load_head, load_code}
use Rattle.loaders.specs.Loaders.{load_constant}
use Rattle.lundump.specs.Lundump.{load_constants, load_upvalues, load_lines, load_names}
use Rattle.lundump.specs.Lundump.{function_with, several, none_of, load_protos, load_function, check_header}
use Rattle.lundump.specs.Lundump.{undump}
use Rattle.lundump.specs.Chunk.{pick, chosen}
use Rattle.lundump.specs.Stands.{AllStand, AllRead, OneRead}
use Rattle.lundump.proofs.Bounds.{names_length, few-words, few_upvalues, few_items}
use Rattle.lundump.proofs.Thens.{then1, then2, then3, then4, then5, then6, then7}

module _ (bytes : List ℕ) where
  both : (fs gs : List Function) → AllStand bytes fs → AllStand bytes gs → AllStand bytes (fs ++ gs)
  both [] gs h k = k
  both (f ∷ fs) gs h k = (h.0, both fs gs h.1 k)

  -- at₀ is the function's first byte; `read` says what is left to read of it
  module _ (level : ℕ) (low : level ≤ levels_below) (within : (at : ℕ) → AllRead bytes (load_protos level bytes at)) where
    abbrev P : Reader (List Function)
    P = load_protos level

    abbrev Reads : ℕ → Outcome (List Function) → Type 0
    Reads at₀ X = load_function level bytes at₀ ≡ X

    module _ (at₀ at₁ m : ℕ) (hd : load_head bytes at₀ ≡ Ok (m, at₁)) where
      s7 : (code : List ℕ) (at₂ : ℕ) (ks : List Constant) (at₃ n : ℕ) (inner : List Function) (at₅ : ℕ) (ls : List ℕ) (at₆ : ℕ) (X : Outcome (List Text))
          → load_code bytes at₁ ≡ Ok (code, at₂) → load_constants bytes at₂ ≡ Ok (ks, at₃) → n ≤ most_names → AllStand bytes inner
          → load_lines bytes at₅ ≡ Ok (ls, at₆) → load_names n bytes at₆ ≡ X
          → Reads at₀ (bind X (then7 bytes P at₀ at₁ code at₂ ks n inner at₅ at₆)) → AllRead bytes (bind X (then7 bytes P at₀ at₁ code at₂ ks n inner at₅ at₆))
      s7 code at₂ ks at₃ n inner at₅ ls at₆ (Ok (names, at₇)) c k u i d q r =
          let e = names_length bytes n at₆ names at₇ q in (
            record {
              level = level;
              few_levels = low;
              within = inner;
              whole = r;
              stack = m;
              head = hd;
              code_next = at₂;
              code = c;
              constants_next = at₃;
              constants = k;
              locals = ls;
              lines = d;
              names_next = at₇;
              names = q;
              one_each = e;
              few-words = few-words bytes at₁ code at₂ c;
              few_constants = few_items bytes most_constants load_constant at₂ ks at₃ k;
              few_names = omega arith;
            },
            i,
          )
      s7 code at₂ ks at₃ n inner at₅ ls at₆ (Err e) c k u i d q r = tt

      s6 : (code : List ℕ) (at₂ : ℕ) (ks : List Constant) (at₃ n : ℕ) (inner : List Function) (at₅ : ℕ) (X : Outcome (List ℕ))
          → load_code bytes at₁ ≡ Ok (code, at₂) → load_constants bytes at₂ ≡ Ok (ks, at₃) → n ≤ most_names → AllStand bytes inner → load_lines bytes at₅ ≡ X
          → Reads at₀ (bind X (then6 bytes P at₀ at₁ code at₂ ks n inner at₅)) → AllRead bytes (bind X (then6 bytes P at₀ at₁ code at₂ ks n inner at₅))
      s6 code at₂ ks at₃ n inner at₅ (Ok (z, at₆)) c k u i d r = s7 code at₂ ks at₃ n inner at₅ z at₆ (load_names n bytes at₆) c k u i d refl r
      s6 code at₂ ks at₃ n inner at₅ (Err e) c k u i d r = tt

      s5 : (code : List ℕ) (at₂ : ℕ) (ks : List Constant) (at₃ n : ℕ) (X : Outcome (List Function))
          → load_code bytes at₁ ≡ Ok (code, at₂) → load_constants bytes at₂ ≡ Ok (ks, at₃) → n ≤ most_names → AllRead bytes X
          → Reads at₀ (bind X (then5 bytes P at₀ at₁ code at₂ ks n)) → AllRead bytes (bind X (then5 bytes P at₀ at₁ code at₂ ks n))
      s5 code at₂ ks at₃ n (Ok (inner, at₅)) c k u i r = s6 code at₂ ks at₃ n inner at₅ (load_lines bytes at₅) c k u i refl r
      s5 code at₂ ks at₃ n (Err e) c k u i r = tt

      s4 : (code : List ℕ) (at₂ : ℕ) (ks : List Constant) (at₃ : ℕ) (X : Outcome ℕ)
          → load_code bytes at₁ ≡ Ok (code, at₂) → load_constants bytes at₂ ≡ Ok (ks, at₃) → load_upvalues bytes at₃ ≡ X
          → Reads at₀ (bind X (then4 bytes P at₀ at₁ code at₂ ks)) → AllRead bytes (bind X (then4 bytes P at₀ at₁ code at₂ ks))
      s4 code at₂ ks at₃ (Ok (n, at₄)) c k u r = s5 code at₂ ks at₃ n (P bytes at₄) c k (few_upvalues bytes at₃ n at₄ u) (within at₄) r
      s4 code at₂ ks at₃ (Err e) c k u r = tt

      s3 : (code : List ℕ) (at₂ : ℕ) (X : Outcome (List Constant)) → load_code bytes at₁ ≡ Ok (code, at₂) → load_constants bytes at₂ ≡ X
          → Reads at₀ (bind X (then3 bytes P at₀ at₁ code at₂)) → AllRead bytes (bind X (then3 bytes P at₀ at₁ code at₂))
      s3 code at₂ (Ok (ks, at₃)) c k r = s4 code at₂ ks at₃ (load_upvalues bytes at₃) c k refl r
      s3 code at₂ (Err e) c k r = tt

      s2 : (X : Outcome (List ℕ)) → load_code bytes at₁ ≡ X
          → Reads at₀ (bind X (then2 bytes P at₀ at₁)) → AllRead bytes (bind X (then2 bytes P at₀ at₁))
      s2 (Ok (code, at₂)) c r = s3 code at₂ (load_constants bytes at₂) c refl r
      s2 (Err e) c r = tt

    s1 : (at₀ : ℕ) (X : Outcome ℕ) → load_head bytes at₀ ≡ X → Reads at₀ (bind X (then1 bytes P at₀)) → AllRead bytes (bind X (then1 bytes P at₀))
    s1 at₀ (Ok (a, at₁)) h r = s2 at₀ at₁ a h (load_code bytes at₁) refl r
    s1 at₀ (Err e) h r = tt

    one_stands : (at : ℕ) → AllRead bytes (load_function level bytes at)
    unfolding function_with
    one_stands at = s1 at (load_head bytes at) refl refl

  module _ (r : Reader (List Function)) (each : (at : ℕ) → AllRead bytes (r bytes at)) where
    joins : (fs : List Function) (X : Outcome (List Function)) → AllStand bytes fs → AllRead bytes X → AllRead bytes (bind X (λ more at. Ok (fs ++ more, at)))
    joins fs (Ok (more, at)) h k = both fs more h k
    joins fs (Err e) h k = tt

    goes-on : (n : ℕ) → ((at : ℕ) → AllRead bytes (several r n bytes at)) → (X : Outcome (List Function)) → AllRead bytes X
        → AllRead bytes (bind X (λ fs at₁. bind (several r n bytes at₁) (λ more at₂. Ok (fs ++ more, at₂))))
    goes-on n later (Ok (fs, at)) h = joins fs (several r n bytes at) h (later at)
    goes-on n later (Err e) h = tt

    several_stand : (n at : ℕ) → AllRead bytes (several r n bytes at)
    unfolding several
    several_stand zero at = tt
    several_stand (suc n) at = goes-on n (several_stand n) (r bytes at) (each at)

  none_stand : (n at : ℕ) → AllRead bytes (none_of n bytes at)
  unfolding none_of
  none_stand zero at = tt
  none_stand (suc n) at = tt

  on : (X : Outcome ℕ) (k : ℕ → ℕ → Outcome (List Function)) → ((n at : ℕ) → AllRead bytes (k n at)) → AllRead bytes (bind X k)
  on (Ok (n, at)) k h = h n at
  on (Err e) k h = tt

  within_stand : (level : ℕ) → level ≤ levels_below → (at : ℕ) → AllRead bytes (load_protos level bytes at)
  unfolding load_protos
  within_stand zero low at = on (load_int bytes at) (λ n at₁. none_of n bytes at₁) none_stand
  within_stand (suc level) low at =
      on (load_int bytes at) (λ n at₁. several (function_with (load_protos level)) n bytes at₁)
      (let fewer : level ≤ levels_below = omega arith in several_stand (function_with (load_protos level)) (one_stands level fewer (within_stand level fewer)))

  pub all_stand : (level : ℕ) → level ≤ levels_below → (at : ℕ) → AllRead bytes (load_function level bytes at)
  all_stand level low = one_stands level low (within_stand level low)

  pub on_unit : {A : Type 0} (X : Outcome A) (k : ℕ → Outcome (List Function)) → ((at : ℕ) → AllRead bytes (k at)) → AllRead bytes (bind X (λ _ at. k at))
  on_unit (Ok (n, at)) k h = h at
  on_unit (Err e) k h = tt

  chunk_stands : AllRead bytes (undump bytes 0)
  unfolding undump
  chunk_stands = on_unit (check_header bytes 0) (λ at. bind (load_byte bytes at) (λ _ at₁. load_function 31 bytes at₁))
      (λ at. on_unit (load_byte bytes at) (λ at₁. load_function 31 bytes at₁) (all_stand 31 (omega arith)))

  pick_stands : (k : ℕ) (fs : List Function) (at : ℕ) → AllStand bytes fs → OneRead bytes (pick k fs at)
  unfolding pick
  pick_stands zero [] at h = tt
  pick_stands (suc k) [] at h = tt
  pick_stands zero (f ∷ fs) at h = h.0
  pick_stands (suc k) (f ∷ fs) at h = pick_stands k fs at h.1

  after : (k : ℕ) (X : Outcome (List Function)) → AllRead bytes X → OneRead bytes (bind X (pick k))
  after k (Ok (fs, at)) h = pick_stands k fs at h
  after k (Err e) h = tt

  -- the function that is chosen stands where its positions say
  pub chosen_stands : (k : ℕ) → OneRead bytes (chosen k bytes)
  unfolding chosen
  chosen_stands k = go (leb (length bytes) 4294967295)
    where
      go : (b : Bool) → OneRead bytes (only b (bind (undump bytes 0) (pick k)))
      go true = after k (undump bytes 0) chunk_stands
      go false = tt
