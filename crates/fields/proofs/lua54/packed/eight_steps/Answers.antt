use Rattle.std.proofs.Common.{arith, ◌≡◌, refl}
use Rattle.fields.specs.lua54.Table.{class_of, companion_of}
use Rattle.fields.specs.lua54.Packed.{companion_and_class}
use Rattle.fields.specs.Bits.{eight_of}
use Rattle.fields.proofs.Bytes.{at_block}
use Rattle.fields.proofs.lua54.packed.eight_steps.Goals as goal

pub returns-in-0 : goal.returns-in-0
unfolding eight_of class_of companion_of
returns-in-0 c = at_block companion_and_class c.in-0.is refl

pub returns-in-1 : goal.returns-in-1
unfolding eight_of class_of companion_of
returns-in-1 c = at_block companion_and_class c.in-1.is refl

pub returns-in-2 : goal.returns-in-2
unfolding eight_of class_of companion_of
returns-in-2 c = at_block companion_and_class c.in-2.is refl

pub returns-in-3 : goal.returns-in-3
unfolding eight_of class_of companion_of
returns-in-3 c = at_block companion_and_class c.in-3.is refl

pub returns-in-4 : goal.returns-in-4
unfolding eight_of class_of companion_of
returns-in-4 c = at_block companion_and_class c.in-4.is refl

pub returns-in-5 : goal.returns-in-5
unfolding eight_of class_of companion_of
returns-in-5 c = at_block companion_and_class c.in-5.is refl

pub returns-in-6 : goal.returns-in-6
unfolding eight_of class_of companion_of
returns-in-6 c = at_block companion_and_class c.in-6.is refl

pub returns-in-7 : goal.returns-in-7
unfolding eight_of class_of companion_of
returns-in-7 c = at_block companion_and_class c.in-7.is refl

pub returns-in-8 : goal.returns-in-8
unfolding eight_of class_of companion_of
returns-in-8 c = at_block companion_and_class c.in-8.is refl

pub returns-in-9 : goal.returns-in-9
unfolding eight_of class_of companion_of
returns-in-9 c = at_block companion_and_class c.in-9.is refl

pub returns-in-10 : goal.returns-in-10
unfolding eight_of class_of companion_of
returns-in-10 c = at_block companion_and_class c.in-10.is refl

pub returns-in-11 : goal.returns-in-11
unfolding eight_of class_of companion_of
returns-in-11 c = at_block companion_and_class c.in-11.is refl

pub returns-in-12 : goal.returns-in-12
unfolding eight_of class_of companion_of
returns-in-12 c = at_block companion_and_class c.in-12.is refl

pub returns-in-13 : goal.returns-in-13
unfolding eight_of class_of companion_of
returns-in-13 c = at_block companion_and_class c.in-13.is refl

pub returns-in-14 : goal.returns-in-14
unfolding eight_of class_of companion_of
returns-in-14 c = at_block companion_and_class c.in-14.is refl

pub returns-in_default : goal.returns-in_default
unfolding eight_of class_of companion_of
returns-in_default c = let e : c.args.block ≡ 15 = omega arith in at_block companion_and_class e refl
