-- What the sizes refuse, and what they let through. Assumes nothing.
use mathlib.Core.Path.{◌≡◌, refl, sym, ap, ◌∙◌}
use mathlib.Core.Bool.{true}
use Prim.Native.Nat.{ℕ, ◌≤◌, ◌<◌, min}
use native.Mathlib.Omega.{arith}
use borrow.Author.Tests.{lt-ltb, le-ltb, eq-eqb}
use Rattle.std.specs.Prelude.{Ok, Err, ⊤}
use Rattle.common.specs.Limits.{most_words}
use Rattle.common.specs.declared.refusal.Refusal.{Refusal}
use Rattle.common.specs.declared.refusal.Refusal.TheVariants.{TooManyWords, ShortSlice, NoWords}
use Rattle.common.specs.Refusals.{refusal_number}
use Rattle.common.specs.Chain.{sizes_answer}
use Rattle.common.proofs.Refusing.{either_short, sizes_err, sizes_ok}
use Rattle.runs.specs.Script.{Script}
use Rattle.runs.specs.Run.{run_of, untouched}
use Rattle.runs.specs.Counted.{ones}
use Rattle.runs.proofs.Laws.{laws}
use Rattle.service.specs.Pass.{Fits}

module _ (ws : Script) (a b : ℕ) where
  -- the run that is refused
  pub run_many : most_words < ws.size → run_of ws ones a b ≡ Err TooManyWords
  unfolding run_of
  run_many h = rw (lt-ltb most_words ws.size h)

  module _ (few : ws.size ≤ most_words) where
    pub run_short : min a b < ws.size → run_of ws ones a b ≡ Err ShortSlice
    unfolding run_of
    run_short h = rw (le-ltb most_words ws.size few, ← either_short a b ws.size, lt-ltb (min a b) ws.size h)

    pub run_none : ws.size ≤ min a b → ws.size ≡ 0 → run_of ws ones a b ≡ Err NoWords
    unfolding run_of
    run_none h z = rw (le-ltb most_words ws.size few, ← either_short a b ws.size, le-ltb (min a b) ws.size h, laws.ones_accepted, eq-eqb ws.size 0 z)

  fit : (ws.size ≤ most_words) × (ws.size ≤ min a b) × (0 < ws.size) → Fits ws.size a b
  fit p = record { some = p.2; few = p.0; marks_long = omega (arith, p.1); lengths_long = omega (arith, p.1) }

  -- by the answer of their check, of so much room
  module _ {room : ℕ} (k : room ≡ min a b) where
    pub run_sizes : {e : Refusal} → Err e ≡ sizes_answer ws.size room
        → (untouched (refusal_number e) ≡ true) × (run_of ws ones a b ≡ Err e)
    run_sizes h =
        sizes_err ws.size (min a b) (λ (e : Refusal). (untouched (refusal_number e) ≡ true) × (run_of ws ones a b ≡ Err e))
        (λ h. (refl, run_many h)) (λ f h. (refl, run_short f h)) (λ f h z. (refl, run_none f h z))
        (ap (sizes_answer ws.size) (sym k) ∙ sym h)

    pub sizes_fit : {t : ⊤} → Ok t ≡ sizes_answer ws.size room → Fits ws.size a b
    sizes_fit h = let p = sizes_ok ws.size room (sym h) in fit (p.0, omega (arith, p.1), p.2)

    -- where the list is as long, too
    pub sizes_within : {list both : ℕ} {t : ⊤} → both ≡ min list room → Ok t ≡ sizes_answer ws.size both → Fits ws.size a b × (ws.size ≤ list)
    sizes_within {list} {both} e h =
        let p = sizes_ok ws.size both (sym h) in
        (fit (p.0, omega (arith, p.1), p.2), omega (arith, p.1))
