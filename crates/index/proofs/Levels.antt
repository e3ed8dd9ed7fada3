-- A function that is read with some levels left is read the same with more. Assumes nothing.
use mathlib.Core.Path.{◌≡◌, refl}
use mathlib.Core.Bool.{true≢false}
use mathlib.Core.List.{List}
use Prim.Native.Nat.{ℕ, zero, suc, ◌≤◌}
use native.Mathlib.Omega.{arith}
use Rattle.std.proofs.Common.{Ok, Err}
use Rattle.loaders.specs.Reading.{Outcome, Reader, bind}
use Rattle.loaders.specs.Loaders.{load_int}
use Rattle.lundump.specs.Lundump.{Function, load_head, load_code, load_constants, load_upvalues}
use Rattle.lundump.specs.Lundump.{function_with, several, none_of, load_protos, load_function}
use Rattle.index.proofs.Thens.{then1, then2, then3, then4, then5}

bind_same : {A B : Type 0} (X : Outcome A) (f g : A → ℕ → Outcome B) (b : B) (p : ℕ) → ((a : A) (at : ℕ) → f a at ≡ Ok (b, p) → g a at ≡ Ok (b, p))
    → bind X f ≡ Ok (b, p) → bind X g ≡ Ok (b, p)
bind_same (Ok (a, at)) f g b p h e = h a at e
bind_same (Err x) f g b p h e = e

bind_grows : {A B : Type 0} (X Y : Outcome A) (f g : A → ℕ → Outcome B) (b : B) (p : ℕ) → ((a : A) (at : ℕ) → X ≡ Ok (a, at) → Y ≡ Ok (a, at))
    → ((a : A) (at : ℕ) → f a at ≡ Ok (b, p) → g a at ≡ Ok (b, p)) → bind X f ≡ Ok (b, p) → bind Y g ≡ Ok (b, p)
bind_grows (Ok (a, at)) Y f g b p y h e = rw (y a at refl) (h a at e)
bind_grows (Err x) Y f g b p y h e = absurd (true≢false (cc))

module _ (bytes : List ℕ) where
  -- what one reader reads, the other does
  abbrev Grows : Reader (List Function) → Reader (List Function) → Type 0
  Grows r s = (at : ℕ) (fs : List Function) (p : ℕ) → r bytes at ≡ Ok (fs, p) → s bytes at ≡ Ok (fs, p)

  module _ (P Q : Reader (List Function)) (grow : Grows P Q) where
    function_grows : Grows (function_with P) (function_with Q)
    unfolding function_with
    function_grows at fs p =
        bind_same (load_head bytes at) (then1 bytes P at) (then1 bytes Q at) fs p (λ _ at₁.
        bind_same (load_code bytes at₁) (then2 bytes P at at₁) (then2 bytes Q at at₁) fs p (λ code at₂.
        bind_same (load_constants bytes at₂) (then3 bytes P at at₁ code at₂) (then3 bytes Q at at₁ code at₂) fs p (λ ks at₃.
        bind_same (load_upvalues bytes at₃) (then4 bytes P at at₁ code at₂ ks) (then4 bytes Q at at₁ code at₂ ks) fs p (λ n at₄.
        bind_grows (P bytes at₄) (Q bytes at₄) (then5 bytes P at at₁ code at₂ ks n) (then5 bytes Q at at₁ code at₂ ks n) fs p (grow at₄) (λ inner at₅ e. e)))))

  module _ (r s : Reader (List Function)) (grow : Grows r s) where
    several_grows : (n : ℕ) → Grows (several r n) (several s n)
    unfolding several
    several_grows zero at fs p e = e
    several_grows (suc n) at fs p e =
        bind_grows (r bytes at) (s bytes at) _ _ fs p (grow at) (λ gs at₁.
        bind_grows (several r n bytes at₁) (several s n bytes at₁) _ _ fs p (several_grows n at₁) (λ more at₂ k. k)) e

  none_grows : (s : Reader (List Function)) (n at : ℕ) (fs : List Function) (p : ℕ) → none_of n bytes at ≡ Ok (fs, p) → several s n bytes at ≡ Ok (fs, p)
  unfolding none_of several
  none_grows s zero at fs p e = e
  none_grows s (suc n) at fs p e = absurd (true≢false (cc))

  protos_grow : (level m : ℕ) → level ≤ m → Grows (load_protos level) (load_protos m)
  unfolding load_protos
  protos_grow zero zero h at fs p e = e
  protos_grow zero (suc m) h at fs p e = bind_same (load_int bytes at) _ _ fs p (λ n at₁. none_grows (load_function m) n at₁ fs p) e
  protos_grow (suc level) zero h at fs p e = absurd (omega arith)
  protos_grow (suc level) (suc m) h at fs p e =
      bind_same (load_int bytes at) _ _ fs p (λ n at₁.
      several_grows (load_function level) (load_function m) (function_grows (load_protos level) (load_protos m) (protos_grow level m (omega arith))) n at₁ fs p) e

  pub levels_grow : (level m : ℕ) → level ≤ m → Grows (load_function level) (load_function m)
  levels_grow level m h = function_grows (load_protos level) (load_protos m) (protos_grow level m h)
