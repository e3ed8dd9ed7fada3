-- function_with, cut after each part: what is read on from there.
-- Assumes nothing.
use mathlib.Core.List.{List, ◌∷◌}
use Prim.Native.Nat.{ℕ}
use Rattle.std.proofs.Common.{Ok}
use Rattle.loaders.specs.Reading.{Outcome, Reader, bind}
use Rattle.loaders.specs.Loaders.{Text}
use Rattle.loaders.specs.declared.constants.Constant.{Constant}
use Rattle.lundump.specs.Lundump.{Function, load_code, load_constants, load_upvalues, load_lines, load_names}

abbrev pub own : ℕ → ℕ → List ℕ → ℕ → List Constant → ℕ → ℕ → ℕ → List Text → ℕ → Function
own at₀ at₁ code at₂ ks n at₅ at₆ names at₇ =
    record {
      first_at = at₀;
      code_at = at₁;
      words = code;
      constants_at = at₂;
      constants = ks;
      upvalues = n;
      lines_at = at₅;
      names_at = at₆;
      names = names;
      end_at = at₇;
    }

module _ (bytes : List ℕ) (P : Reader (List Function)) (at₀ : ℕ) where
  abbrev pub then7 : ℕ → List ℕ → ℕ → List Constant → ℕ → List Function → ℕ → ℕ → List Text → ℕ → Outcome (List Function)
  then7 at₁ code at₂ ks n inner at₅ at₆ names at₇ = Ok (own at₀ at₁ code at₂ ks n at₅ at₆ names at₇ ∷ inner, at₇)

  abbrev pub then6 : ℕ → List ℕ → ℕ → List Constant → ℕ → List Function → ℕ → List ℕ → ℕ → Outcome (List Function)
  then6 at₁ code at₂ ks n inner at₅ _ at₆ = bind (load_names n bytes at₆) (then7 at₁ code at₂ ks n inner at₅ at₆)

  abbrev pub then5 : ℕ → List ℕ → ℕ → List Constant → ℕ → List Function → ℕ → Outcome (List Function)
  then5 at₁ code at₂ ks n inner at₅ = bind (load_lines bytes at₅) (then6 at₁ code at₂ ks n inner at₅)

  abbrev pub then4 : ℕ → List ℕ → ℕ → List Constant → ℕ → ℕ → Outcome (List Function)
  then4 at₁ code at₂ ks n at₄ = bind (P bytes at₄) (then5 at₁ code at₂ ks n)

  abbrev pub then3 : ℕ → List ℕ → ℕ → List Constant → ℕ → Outcome (List Function)
  then3 at₁ code at₂ ks at₃ = bind (load_upvalues bytes at₃) (then4 at₁ code at₂ ks)

  abbrev pub then2 : ℕ → List ℕ → ℕ → Outcome (List Function)
  then2 at₁ code at₂ = bind (load_constants bytes at₂) (then3 at₁ code at₂)

  abbrev pub then1 : ℕ → ℕ → Outcome (List Function)
  then1 _ at₁ = bind (load_code bytes at₁) (then2 at₁)
