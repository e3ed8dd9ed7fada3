-- `values::few::Few::of`: what is past the items is the filler.
-- Assumes nothing.
use Rattle.std.proofs.Common.{◌≡◌, ◌-◌, ◌∙◌, ap, arith, take, drop, replicate}
use Rattle.std.proofs.lemmas.List.{drop-replicate}
use Rattle.values.proofs.Places.{few_made}
use Rattle.values.proofs.few.Few.of.Goals as goal

pub returns : goal.returns
returns g c =
    let l = c.loop-k in
    let n = c.min-count.result in
    let e : l.k ≡ n = omega arith in
    let front : take n l.slots ≡ take n c.args.items = rw e at l.invariant.front in
    let rest : drop n l.slots ≡ drop n (replicate g.row.N c.filler-slots.result) = rw e at l.invariant.rest in
    few_made g.row.N g.row.M n c.args.items l.slots g.T.Filler.filler (omega arith) c.min-count.ensures front
    (rest ∙ drop-replicate n g.row.N c.filler-slots.result ∙ ap (replicate (g.row.N - n)) c.filler-slots.ensures)
