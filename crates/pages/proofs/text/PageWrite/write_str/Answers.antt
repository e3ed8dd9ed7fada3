use Rattle.std.proofs.Common.{ℕ, List, Ok, refl, subst}
use Rattle.pages.specs.Text.{Puts}
use Rattle.pages.proofs.text.PageWrite.write_str.Goals as goal

pub returns : goal.returns
unfolding Puts
returns c = record {
  ok = λ w. subst (λ (t : List ℕ). Puts {E = Unit} c.args.self.now t c.put.new.self (Ok tt))
      c.as_bytes.ensures.value
      (λ h. ((c.put.ensures h).0, (c.put.ensures h).1, refl));
}
