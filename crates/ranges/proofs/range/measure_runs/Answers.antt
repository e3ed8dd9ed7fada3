use Rattle.std.proofs.Common.{arith, sym}
use Rattle.runs.proofs.Masks.{mask_small}
use Rattle.runs.proofs.Searched.{fill_asks}
use Rattle.ranges.proofs.Together.{twice_invalid, twice_accepted}
use Rattle.ranges.proofs.range.measure_runs.Goals as goal

pub fill_twice-lows-requires : goal.fill_twice-lows-requires
fill_twice-lows-requires c = (
  fill_asks _ _ c.requires.0,
  sym c.requires.0.lent.l_same,
  (omega (arith, c.slot_mask.ensures, mask_small c.args.version), omega (arith, c.slot_mask.ensures, mask_small c.args.version)),
)

pub returns-in-Some : goal.returns-in-Some
returns-in-Some c =
    twice_invalid _ _ c.requires.0 _ _ c.slot_mask.ensures _ _ c.fill_twice-lows.ensures
    c.fill_twice-lows.auto.marks c.fill_twice-lows.auto.lengths c.in-Some.is c.clear_lengths.ensures

pub returns : goal.returns
returns c =
    twice_accepted _ _ c.requires.0 _ _ c.slot_mask.ensures _ _ c.fill_twice-lows.ensures
    c.fill_twice-lows.auto.marks c.fill_twice-lows.auto.lengths c.in_default.is c.find_longest-longest.ensures c.find_first-first.ensures
