use Rattle.std.proofs.Common.{◌*◌, ◌+◌, max, min, ⊎_elim, subst, arith, ℕ, Option}
use Rattle.common.proofs.Order.{split}
use Rattle.blocks.specs.Blocks.{Finds}
use Rattle.blocks.proofs.waiting.find_from.Goals as goal

pub loop-page-preserved : goal.loop-page-preserved
loop-page-preserved c =
    let l = c.loop-page in
    let f = c.find_in_page.ensures in
    let Here : Option ℕ → Type 0 = λ x. Finds c.args.waiting.now (max c.args.i (l.page * 128)) (min c.args.n ((l.page + 1) * 128)) x in
    let none = subst Here c.in_default.is f.finds in
    record {
      none = λ q a b w. ⊎_elim (λ d. none q (omega arith) b w) (λ d. l.invariant.none q a (omega arith) w) (split (l.page * 128) q);
      looks = f.looks;
    }
