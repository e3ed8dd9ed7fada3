use Rattle.std.proofs.Common.{ℕ, ◌-◌, List, ◌++◌, take, replicate, subst}
use Rattle.pages.specs.Text.{Puts}
use Rattle.pages.proofs.Puts.{puts_then, puts_stopped}
use Rattle.pages.proofs.page.Page.cell.Goals as goal

pub returns : goal.returns
returns c =
    let k = c.decimal-k.result in
    let text : List ℕ = take k c.decimal-k.new.out in
    record {
      text = text;
      decimal = record { count = k; fewest = c.decimal-k.ensures.len; is = c.decimal-k.ensures.digits };
      puts =
          subst (λ (m : ℕ). Puts c.args.self.now (replicate (6 - m) 32 ++ (text ++ c.args.after.now))
          c.put-2.new.self c.put-2.result)
          c.decimal-k.ensures.in_bounds.1
          (puts_then _ _ _ _ _ _ _ c.indent.ensures (puts_then _ _ _ _ _ _ _ c.put.ensures c.put-2.ensures));
    }

pub returns-in_err-indent : goal.returns-in_err-indent
returns-in_err-indent c =
    let k = c.decimal-k.result in
    let text : List ℕ = take k c.decimal-k.new.out in
    record {
      text = text;
      decimal = record { count = k; fewest = c.decimal-k.ensures.len; is = c.decimal-k.ensures.digits };
      puts =
          subst (λ (m : ℕ). Puts c.args.self.now (replicate (6 - m) 32 ++ (text ++ c.args.after.now))
          c.indent.new.self c.from_residual.result)
          c.decimal-k.ensures.in_bounds.1
          (puts_stopped _ _ _ _ _ _ _ c.in_err-indent.ensures);
    }

pub returns-in_err-put : goal.returns-in_err-put
returns-in_err-put c =
    let k = c.decimal-k.result in
    let text : List ℕ = take k c.decimal-k.new.out in
    record {
      text = text;
      decimal = record { count = k; fewest = c.decimal-k.ensures.len; is = c.decimal-k.ensures.digits };
      puts =
          subst (λ (m : ℕ). Puts c.args.self.now (replicate (6 - m) 32 ++ (text ++ c.args.after.now))
          c.put.new.self c.from_residual-in_err-put.result)
          c.decimal-k.ensures.in_bounds.1
          (puts_then _ _ _ _ _ _ _ c.indent.ensures (puts_stopped _ _ _ _ _ _ _ c.in_err-put.ensures));
    }
