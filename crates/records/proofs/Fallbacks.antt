-- From the numbers in the opcode table's fallback column to the rules that they stand for.
-- Assumes nothing.
use Prim.Native.Nat.{ℕ, ◌<◌}
use mathlib.Core.Path.{◌≡◌, refl}
use mathlib.Core.Bool.{Bool, true, false, cond}
use mathlib.Core.List.{List, [], ◌∷◌}
use native.Mathlib.Omega.{arith}
use lib.Dec.{leb, lit<}
use Rattle.fields.specs.lua54.Opcodes.{OP_GETTABUP, OP_GETFIELD, OP_SETTABUP, OP_SETFIELD, OP_SELF}
use Rattle.fields.specs.lua54.Opcodes.{OP_MMBIN, OP_MMBINK, OP_UNM, OP_BNOT, OP_LEN, OP_CONCAT}
use Rattle.fields.specs.lua54.Opcodes.{OP_TBC, OP_CALL, OP_TAILCALL}
use Rattle.fields.specs.lua54.Events.{TM_INDEX, TM_NEWINDEX, TM_LEN, TM_UNM, TM_BNOT, TM_CONCAT, TM_CALL, TM_CLOSE}
use Rattle.fields.specs.Rows.{Row, row, lookup}
use Rattle.fields.specs.lua54.Table.{FallbackRule, fixed, by_c, no_fallback, fallback_number, fallback_of}
use Rattle.std.specs.Prelude.{Some, None}
use Rattle.builders.specs.Parts.{event_of}
use Rattle.records.specs.Lift.{fallback_by}

-- a rule whose event, if it has one, is below the numbers of the other rules
abbrev pub Small : FallbackRule → Type 0
Small (fixed event) = event < 26
Small by_c = Unit {0}
Small no_fallback = Unit {0}

abbrev AllSmall : List (Row FallbackRule) → Type 0
AllSmall [] = Unit {0}
AllSmall (row first last r ∷ rows) = Small r × AllSmall rows

small_pick : (b : Bool) (r s : FallbackRule) → Small r → Small s → Small (cond b r s)
small_pick true r s p q = p
small_pick false r s p q = q

small_lookup : (rows : List (Row FallbackRule)) (others : FallbackRule) (o : ℕ) → AllSmall rows → Small others → Small (lookup rows others o)
small_lookup [] others o p q = q
small_lookup (row first last r ∷ rows) others o p q =
    let rest = small_lookup rows others o p.1 q in
    small_pick (leb first o) (cond (leb o last) r (lookup rows others o)) (lookup rows others o)
    (small_pick (leb o last) r (lookup rows others o) p.0 rest) rest

-- the rows of `fallback_of`
abbrev rules : List (Row FallbackRule)
rules =
    row OP_GETTABUP OP_GETFIELD (fixed TM_INDEX)
    ∷ row OP_SETTABUP OP_SETFIELD (fixed TM_NEWINDEX)
    ∷ row OP_SELF OP_SELF (fixed TM_INDEX)
    ∷ row OP_MMBIN OP_MMBINK by_c
    ∷ row OP_UNM OP_UNM (fixed TM_UNM)
    ∷ row OP_BNOT OP_BNOT (fixed TM_BNOT)
    ∷ row OP_LEN OP_LEN (fixed TM_LEN)
    ∷ row OP_CONCAT OP_CONCAT (fixed TM_CONCAT)
    ∷ row OP_TBC OP_TBC (fixed TM_CLOSE)
    ∷ row OP_CALL OP_TAILCALL (fixed TM_CALL)
    ∷ []

all_small : AllSmall rules
all_small = (lit< tt, (lit< tt, (lit< tt, (tt, (lit< tt, (lit< tt, (lit< tt, (lit< tt, (lit< tt, (lit< tt, tt))))))))))

pub small : (o : ℕ) → Small (fallback_of o)
unfolding fallback_of
small o = small_lookup rules no_fallback o all_small tt

module _ (c : ℕ) where
  pub falls_nowhere : (r : FallbackRule) → Small r → fallback_number r ≡ 27 → None ≡ fallback_by r c
  falls_nowhere (fixed event) p e = absurd (omega arith)
  falls_nowhere by_c p e = absurd (omega arith)
  falls_nowhere no_fallback p e = refl

  pub falls_by_c : (r : FallbackRule) → Small r → fallback_number r ≡ 26 → Some (event_of c) ≡ fallback_by r c
  falls_by_c (fixed event) p e = absurd (omega arith)
  falls_by_c by_c p e = refl
  falls_by_c no_fallback p e = absurd (omega arith)

  pub falls_fixed : (r : FallbackRule) (n : ℕ) → n ≡ fallback_number r → (n ≡ 27 → ⊥) → (n ≡ 26 → ⊥) → Some n ≡ fallback_by r c
  falls_fixed (fixed event) n e f g = rw e
  falls_fixed by_c n e f g = absurd (g e)
  falls_fixed no_fallback n e f g = absurd (f e)
