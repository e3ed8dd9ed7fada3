use Rattle.std.proofs.Common.{arith, ◌≡◌, refl}
use Rattle.fields.specs.lua53.Table.{mode_of, mode_byte}
use Rattle.fields.specs.Bits.{eight_of}
use Rattle.fields.proofs.Bytes.{at_block}
use Rattle.fields.proofs.lua53.packed.eight_modes.Goals as goal

pub returns-in-0 : goal.returns-in-0
unfolding eight_of mode_of
returns-in-0 c = at_block mode_byte c.in-0.is refl

pub returns-in-1 : goal.returns-in-1
unfolding eight_of mode_of
returns-in-1 c = at_block mode_byte c.in-1.is refl

pub returns-in-2 : goal.returns-in-2
unfolding eight_of mode_of
returns-in-2 c = at_block mode_byte c.in-2.is refl

pub returns-in-3 : goal.returns-in-3
unfolding eight_of mode_of
returns-in-3 c = at_block mode_byte c.in-3.is refl

pub returns-in-4 : goal.returns-in-4
unfolding eight_of mode_of
returns-in-4 c = at_block mode_byte c.in-4.is refl

pub returns-in-5 : goal.returns-in-5
unfolding eight_of mode_of
returns-in-5 c = at_block mode_byte c.in-5.is refl

pub returns-in-6 : goal.returns-in-6
unfolding eight_of mode_of
returns-in-6 c = at_block mode_byte c.in-6.is refl

pub returns-in_default : goal.returns-in_default
unfolding eight_of mode_of
returns-in_default c = let e : c.args.block ≡ 7 = omega arith in at_block mode_byte e refl
