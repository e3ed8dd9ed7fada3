-- The checks of number 23, and acceptance.
-- Assumes nothing.
use mathlib.Core.Path.{◌≡◌, refl}
use mathlib.Core.Bool.{Bool, true, false, ◌||◌, true≢false}
use mathlib.Core.List.{List}
use Prim.Native.Nat.{ℕ, ◌≤◌, ◌<◌}
use native.Mathlib.Omega.{arith}
use borrow.Author.Tests.{ltb-false}
use lib.Dec.{ltb}
use Rattle.std.specs.Prelude.{Result, Err, ⊤}
use Rattle.common.specs.declared.refusal.Refusal.{Refusal}
use Rattle.common.specs.declared.refusal.Refusal.TheVariants.{OutOfRange}
use Rattle.rehearsal.specs.Rehearse.{any_above1, out_of_range, tried_of, acceptance, Rehearsal, rehearsed, report_of, report_if}
use Rattle.rehearsal.specs.Rehearse.{rehearse_of, marks_left, lengths_left}

pub in-range : (k q : ℕ) (cs : List ℕ) → out_of_range k q cs ≡ false → (0 < k) × (k ≤ 4) × (0 < q)
unfolding out_of_range
in-range k q cs e = go (ltb k 1) (ltb 4 k) (ltb q 1) refl refl refl e where
  go : (x y z : Bool) → ltb k 1 ≡ x → ltb 4 k ≡ y → ltb q 1 ≡ z → (x || y || z || ltb 1000 q || any_above1 cs) ≡ false
      → (0 < k) × (k ≤ 4) × (0 < q)
  go true y z a b c e = absurd (true≢false (cc))
  go false true z a b c e = absurd (true≢false (cc))
  go false false true a b c e = absurd (true≢false (cc))
  go false false false a b c e = (omega (arith, ltb-false k 1 a), ltb-false 4 k b, omega (arith, ltb-false q 1 c))

-- the whole outcome, by what the checks say
module _ (w0 w1 w2 w3 : List ℕ) (k q : ℕ) (choices : List ℕ) (limit : ℕ) (marks lengths : List ℕ) where
  pub record Whole (r : Rehearsal) (m l : List ℕ) : Type 0 where
    pub value : r ≡ rehearse_of w0 w1 w2 w3 k q choices limit marks lengths
    pub marks_after : m ≡ marks_left w0 w1 w2 w3 k q choices limit marks lengths
    pub lengths_after : l ≡ lengths_left w0 w1 w2 w3 k q choices limit marks lengths

  pub out : out_of_range k q choices ≡ true → Whole (Err OutOfRange) marks lengths
  unfolding rehearse_of marks_left lengths_left
  out e = record { value = rw e; marks_after = rw e; lengths_after = rw e }

  pub whole : out_of_range k q choices ≡ false → (o : Result ⊤ Refusal) (m l : List ℕ)
      → tried_of o m l ≡ acceptance w0 w1 w2 w3 k marks lengths
      → Whole (report_if o (report_of (rehearsed w0 w1 w2 w3 k q choices limit))) m l
  unfolding rehearse_of marks_left lengths_left
  whole inside o m l e = record { value = rw (inside, ← e); marks_after = rw (inside, ← e); lengths_after = rw (inside, ← e) }
