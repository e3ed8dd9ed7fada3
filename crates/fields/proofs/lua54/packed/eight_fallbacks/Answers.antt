use Rattle.std.proofs.Common.{arith, refl, [], ◌∷◌}
use Rattle.fields.specs.lua54.Table.{fallback_of}
use Rattle.fields.specs.lua54.Packed.{rule_of}
use Rattle.fields.specs.Bits.{eight_of}
use Rattle.fields.proofs.Bytes.{at_block, at_others}
use Rattle.fields.proofs.lua54.packed.eight_fallbacks.Goals as goal

pub returns-in-1 : goal.returns-in-1
unfolding eight_of fallback_of
returns-in-1 c = at_block rule_of c.in-1.is refl

pub returns-in-2 : goal.returns-in-2
unfolding eight_of fallback_of
returns-in-2 c = at_block rule_of c.in-2.is refl

pub returns-in-5 : goal.returns-in-5
unfolding eight_of fallback_of
returns-in-5 c = at_block rule_of c.in-5.is refl

pub returns-in-6 : goal.returns-in-6
unfolding eight_of fallback_of
returns-in-6 c = at_block rule_of c.in-6.is refl

pub returns-in-8 : goal.returns-in-8
unfolding eight_of fallback_of
returns-in-8 c = at_block rule_of c.in-8.is refl

pub returns-in_default : goal.returns-in_default
unfolding eight_of fallback_of
returns-in_default c =
    at_others rule_of 16 (8 ∷ 6 ∷ 5 ∷ 2 ∷ 1 ∷ []) _ tt c.args.block c.requires
    (((((tt, λ e. omega (arith, e)), λ e. omega (arith, e)), λ e. omega (arith, e)), λ e. omega (arith, e)), λ e. omega (arith, e))
