use Rattle.std.proofs.Common.{arith, sym}
use Rattle.runs.proofs.Masks.{mask_small, filled-by}
use Rattle.runs.proofs.Searched.{fill_asks, measured_invalid, measured_accepted}
use Rattle.runs.proofs.longest.measure_run.Goals as goal

pub fill_lengths-invalid-requires : goal.fill_lengths-invalid-requires
fill_lengths-invalid-requires c =
    (fill_asks _ _ c.requires.0, sym c.requires.0.lent.l_same, omega (arith, c.slot_mask.ensures, mask_small c.args.version))

pub returns-in-Some : goal.returns-in-Some
returns-in-Some c =
    measured_invalid _ _ c.requires.0 _ (filled-by c.args.version c.args.words.now c.args.weights.now c.slot_mask.ensures c.fill_lengths-invalid.ensures)
    c.fill_lengths-invalid.auto.lengths c.in-Some.is c.clear_lengths.ensures

pub returns : goal.returns
returns c =
    measured_accepted _ _ c.requires.0 _ (filled-by c.args.version c.args.words.now c.args.weights.now c.slot_mask.ensures c.fill_lengths-invalid.ensures)
    c.fill_lengths-invalid.auto.lengths c.in_default.is c.find_longest-longest.ensures c.find_first-first.ensures
