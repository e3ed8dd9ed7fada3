-- `lifted::lifted::numbers_of`: a record put over as many zeros is its numbers.
-- Assumes nothing.
use Rattle.std.proofs.Common.{◌≡◌, ◌∙◌, ℕ, ◌++◌, ap, drop, replicate, append-nil}
use Rattle.common.proofs.Put.{put_laws}
use Rattle.values.specs.declared.ir.SemanticInstruction.{SemanticInstruction}
use Rattle.common.specs.Lists.{put}
use Rattle.lifted.specs.Record.{numbers_of}
use Rattle.lifted.proofs.Counted.{length_numbers}
use Rattle.lifted.proofs.lifted.numbers_of.Goals as goal

over_zeros : (i : SemanticInstruction) → put (replicate 53 0) 0 (numbers_of i) ≡ numbers_of i
over_zeros i =
    put_laws.start (replicate 53 0) (numbers_of i)
    ∙ ap (λ (k : ℕ). numbers_of i ++ drop k (replicate 53 0)) (length_numbers i)
    ∙ append-nil (numbers_of i)

pub returns : goal.returns
returns c = c.put_record.ensures ∙ over_zeros c.args.i
