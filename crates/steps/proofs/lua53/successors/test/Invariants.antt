use Rattle.std.proofs.Common.{◌+◌, nat_eq, get_or}
use Rattle.fields.specs.lua53.Word.{opcode_of}
use Rattle.fields.specs.lua53.Opcodes.{OP_JMP}
use Rattle.steps.proofs.lua53.successors.test.Given as goal

abbrev pub ghost-past_companion : goal.ghost-past_companion
ghost-past_companion a = nat_eq (opcode_of (get_or a.words.now (a.p + 1) 0)) OP_JMP
