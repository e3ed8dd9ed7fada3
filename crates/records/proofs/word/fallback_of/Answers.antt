-- `records::word::fallback_of`: the number in the column stands for the rule.
-- Assumes nothing.
use Rattle.std.proofs.Common.{◌∙◌, sym}
use Rattle.fields.specs.lua54.Table.{fallback_of}
use Rattle.records.proofs.Fallbacks.{small, falls_nowhere, falls_by_c, falls_fixed}
use Rattle.records.proofs.word.fallback_of.Goals as goal

pub returns-in-27 : goal.returns-in-27
returns-in-27 c = falls_nowhere _ (fallback_of _) (small _) (sym c.fallback.ensures ∙ c.in-27.is)

pub returns-in-26 : goal.returns-in-26
returns-in-26 c =
    rw c.event_of.ensures (falls_by_c _ (fallback_of _) (small _) (sym c.fallback.ensures ∙ c.in-26.is))
