-- The laws that callers go by, each from its own file. Assumes nothing.
use Rattle.runs.specs.Script.{script_of}
use Rattle.runs.proofs.Laws as runs
use Rattle.ranges.specs.Laws.{Laws}
use Rattle.ranges.proofs.Between.{ends, table_refused}
use Rattle.ranges.proofs.RangeOrder.{range_order, range_kept, range_left}

pub laws : Laws
laws =
    record {
      ends = ends;
      table_refused = table_refused;
      range_order = range_order;
      range_kept = range_kept;
      range_left = range_left;
      ends_of = λ version ws. ends (script_of version ws) ((runs.laws).sound version ws);
      table_refused_of = λ version ws. table_refused (script_of version ws);
      range_kept_of = λ version ws. range_kept (script_of version ws) ((runs.laws).sound version ws);
    }
