use Rattle.fields.specs.declared.version.Version.TheVariants.{Lua53, Lua54}
use Rattle.runs.specs.Script.{script_of}
use Rattle.witness.proofs.walking.walk.Given as goal

abbrev pub ghost-write_path : goal.ghost-write_path
ghost-write_path a = script_of Lua54 a.steps.0.now

abbrev pub ghost-write_path-2 : goal.ghost-write_path-2
ghost-write_path-2 a = script_of Lua53 a.steps.0.now
