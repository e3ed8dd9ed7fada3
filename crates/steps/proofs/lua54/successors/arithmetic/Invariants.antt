use Rattle.std.proofs.Common.{◌+◌, get_or}
use Rattle.fields.specs.lua54.Word.{opcode_of}
use Rattle.fields.specs.lua54.Opcodes.{OP_MMBIN, OP_MMBINK}
use Rattle.steps.specs.lua54.Successors.{is_between}
use Rattle.steps.proofs.lua54.successors.arithmetic.Given as goal

abbrev pub ghost-past_companion : goal.ghost-past_companion
ghost-past_companion a = is_between OP_MMBIN OP_MMBINK (opcode_of (get_or a.words.now (a.p + 1) 0))
