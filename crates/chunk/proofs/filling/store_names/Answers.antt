use Rattle.std.proofs.Common.{◌∙◌, sym, arith}
use Rattle.loaders.specs.Lent.{name_number}
use Rattle.loaders.proofs.Same.{was, was_refused}
use Rattle.lundump.specs.Lundump.{load_name}
use Rattle.chunk.proofs.Stores.{begun, not_refused, stored_one, ended}
use Rattle.chunk.proofs.filling.store_names.Goals as goal

pub loop-i-init : goal.loop-i-init
loop-i-init c = begun name_number load_name _ _ _ _ c.requires.1

pub returns-in_default : goal.returns-in_default
returns-in_default c =
    absurd (not_refused name_number load_name _ _ _ _ _ _ _ c.loop-i.invariant c.loop-i-test.true _
    (was_refused name_number _ _ (sym c.name_at.ensures ∙ c.in_default.is)))

pub loop-i-preserved : goal.loop-i-preserved
loop-i-preserved c =
    let w = was name_number _ _ _ (sym c.in-Ok.ensures) in
    stored_one name_number load_name _ _ _ _ _ _ _ c.loop-i.invariant c.loop-i-test.true w.value _ _ w.is (sym w.gives)

pub returns : goal.returns
returns c = ended name_number load_name _ _ _ _ _ _ _ c.loop-i.invariant (omega arith)
