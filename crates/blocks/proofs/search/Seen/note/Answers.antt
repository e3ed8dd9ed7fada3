use Rattle.std.proofs.Common.{◌∙◌, ◌||◌, Bool, ap, sym, true≢false}
use Rattle.blocks.specs.Blocks.{HitsBy}
use Rattle.blocks.proofs.Sets.{Lowest, lowest_hit, lowest_none, notes_of}
use Rattle.blocks.proofs.search.Seen.note.Goals as goal
use Rattle.blocks.proofs.search.Seen.note.Goals.{then-hits, else-hits}

pub returns : goal.returns
returns c =
    let h = c.hits.ensures in
    let l : Lowest (HitsBy c.args.r c.args.t.now c.args.at) c.args.p c.args.self.least c.if-hits.least = elim c.if-hits.branch [
      | then-hits w ↦ lowest_hit (h.0 w.if-hits.true) (w.least-is ∙ w.min-least.ensures)
      | else-hits w ↦ lowest_none (λ k. true≢false (sym (h.1 k) ∙ w.if-hits.false)) w.least-is
    ] in
    notes_of c.args.r c.args.t.now c.args.s c.args.at c.args.p c.args.self _ c.next_in.result c.min.ensures
    (rw c.as_slice.ensures at c.next_in.ensures) (ap (λ (b : Bool). c.args.self.bad || b) c.is_invalid.ensures) l
