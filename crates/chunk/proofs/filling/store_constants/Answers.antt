use Rattle.std.proofs.Common.{◌∙◌, sym, ap, arith}
use Rattle.loaders.specs.declared.constants.Packed.{Packed}
use Rattle.loaders.specs.Loaders.{load_constant}
use Rattle.loaders.specs.Lent.{tag_of, payload_of, packed_of}
use Rattle.loaders.proofs.Same.{was, was_refused}
use Rattle.chunk.proofs.Stores.{begun, not_refused, stored_one, ended}
use Rattle.chunk.proofs.filling.store_constants.Goals as goal

pub loop-i-init : goal.loop-i-init
loop-i-init c = (begun tag_of load_constant _ _ _ _ c.requires.1.0, begun payload_of load_constant _ _ _ _ c.requires.1.1)

pub returns-in_default : goal.returns-in_default
returns-in_default c =
    absurd (not_refused tag_of load_constant _ _ _ _ _ _ _ c.loop-i.invariant.0 c.loop-i-test.true _
    (was_refused packed_of _ _ (sym c.packed_at.ensures ∙ c.in_default.is)))

pub loop-i-preserved : goal.loop-i-preserved
loop-i-preserved c =
    let l = c.loop-i in
    let w = was packed_of _ _ _ (sym c.in-Ok.ensures) in (
      stored_one tag_of load_constant _ _ _ _ _ _ _ l.invariant.0 c.loop-i-test.true w.value _ _ w.is (sym (ap (λ (p : Packed). p.tag) w.gives)),
      stored_one payload_of load_constant _ _ _ _ _ _ _ l.invariant.1 c.loop-i-test.true w.value _ _ w.is (sym (ap (λ (p : Packed). p.payload) w.gives)),
    )

pub returns : goal.returns
returns c =
    let l = c.loop-i in (
      ended tag_of load_constant _ _ _ _ _ _ _ l.invariant.0 (omega arith),
      ended payload_of load_constant _ _ _ _ _ _ _ l.invariant.1 (omega arith),
    )
