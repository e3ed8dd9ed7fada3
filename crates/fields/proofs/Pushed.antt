-- The fallback column is lifter.rs's, and unknown opcodes have nothing: antt computes all 128.
-- Assumes nothing.
use Prim.Native.Nat.{ℕ, ◌≤◌, ◌<◌}
use mathlib.Core.Path.{◌≡◌, refl, subst}
use mathlib.Core.Bool.{Bool, true, false, cond}
use lib.Dec.{T, ltb}
use borrow.Author.Tests.{le-ltb}
use Rattle.fields.specs.lua54.Table.{
  OpMode54,
  no_mode,
  i_abc,
  i_abx,
  i_as_bx,
  i_ax,
  is_j,
  mode_of,
  Companion,
  alone,
  metamethod_after,
  arithmetic_before,
  jump_after,
  extra_after,
  extra_after_if_k,
  call_at_target,
  loop_after,
  companion_of,
  FallbackRule,
  fixed,
  by_c,
  no_fallback,
  fallback_of,
}
use Rattle.fields.specs.lua54.Pushed.{Fallbacks}
use Rattle.fields.specs.Laws.{all}
use Rattle.fields.proofs.Below.{all_at}

-- what an opcode has none of
abbrev is_no_mode : OpMode54 → Bool
is_no_mode no_mode = true
is_no_mode i_abc = false
is_no_mode i_abx = false
is_no_mode i_as_bx = false
is_no_mode i_ax = false
is_no_mode is_j = false

no-mode : (m : OpMode54) → T (is_no_mode m) → m ≡ no_mode
no-mode no_mode t = refl
no-mode i_abc t = absurd t
no-mode i_abx t = absurd t
no-mode i_as_bx t = absurd t
no-mode i_ax t = absurd t
no-mode is_j t = absurd t

abbrev is_alone : Companion → Bool
is_alone alone = true
is_alone metamethod_after = false
is_alone arithmetic_before = false
is_alone jump_after = false
is_alone extra_after = false
is_alone extra_after_if_k = false
is_alone call_at_target = false
is_alone loop_after = false

is-alone : (c : Companion) → T (is_alone c) → c ≡ alone
is-alone alone t = refl
is-alone metamethod_after t = absurd t
is-alone arithmetic_before t = absurd t
is-alone jump_after t = absurd t
is-alone extra_after t = absurd t
is-alone extra_after_if_k t = absurd t
is-alone call_at_target t = absurd t
is-alone loop_after t = absurd t

abbrev is_no_fallback : FallbackRule → Bool
is_no_fallback no_fallback = true
is_no_fallback by_c = false
is_no_fallback (fixed event) = false

no-fallback : (r : FallbackRule) → T (is_no_fallback r) → r ≡ no_fallback
no-fallback no_fallback t = refl
no-fallback by_c t = absurd t
no-fallback (fixed event) t = absurd t

-- a test of the opcodes from 83 on
abbrev from83 : (ℕ → Bool) → ℕ → Bool
from83 f o = cond (ltb o 83) true (f o)

each : (f : ℕ → Bool) → T (all (from83 f) 128) → (o : ℕ) → 83 ≤ o → o < 128 → T (f o)
each f t o from below =
    subst (λ (b : Bool). T (cond b true (f o))) (le-ltb o 83 from) (all_at (from83 f) 128 t o below)

no_modes : T (all (from83 (λ o. is_no_mode (mode_of o))) 128)
unfolding mode_of
no_modes = tt

all_alone : T (all (from83 (λ o. is_alone (companion_of o))) 128)
unfolding companion_of
all_alone = tt

no_fallbacks : T (all (from83 (λ o. is_no_fallback (fallback_of o))) 128)
unfolding fallback_of
no_fallbacks = tt

pub fallbacks : Fallbacks
unfolding fallback_of
fallbacks =
    record {
      known = refl;
      unknown = λ o from below. (
        no-mode (mode_of o) (each (λ o. is_no_mode (mode_of o)) no_modes o from below),
        is-alone (companion_of o) (each (λ o. is_alone (companion_of o)) all_alone o from below),
        no-fallback (fallback_of o) (each (λ o. is_no_fallback (fallback_of o)) no_fallbacks o from below),
      );
    }
