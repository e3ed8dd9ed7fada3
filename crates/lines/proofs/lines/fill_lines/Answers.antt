use Rattle.std.proofs.Common.{◌≡◌, ap, ◌∙◌, arith}
use Rattle.std.specs.Result.{result_unwrap_or}
use Rattle.lines.specs.Lines.{defined_at}
use Rattle.lines.proofs.Infos.{defined_is, defined_low, lines_placed}
use Rattle.lines.proofs.lines.fill_lines.Goals as goal

pub store_lines-requires : goal.store_lines-requires
store_lines-requires c =
    let d : c.unwrap_or-defined.result.0 ≡ defined_at c.args.chunk.now c.args.first_at =
    defined_is _ _ c.unwrap_or-defined.result (c.unwrap_or-defined.ensures ∙ ap (λ x. result_unwrap_or x (0, 0)) c.read_defined.ensures) in
    (omega (arith, d, defined_low c.args.chunk.now c.args.first_at), c.requires)

pub returns : goal.returns
returns c =
    c.store_lines.ensures
    ∙ lines_placed c.args.chunk.now c.args.first_at c.args.lines_at _ _ c.places.result
    (defined_is _ _ c.unwrap_or-defined.result (c.unwrap_or-defined.ensures ∙ ap (λ x. result_unwrap_or x (0, 0)) c.read_defined.ensures))
    c.places.ensures
