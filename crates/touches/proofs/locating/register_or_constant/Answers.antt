use Rattle.std.proofs.Common.{ℕ, ◌≡◌, ◌/◌, ◌%◌, arith}
use Rattle.touches.proofs.Isk.{bit, clears}
use Rattle.touches.proofs.locating.register_or_constant.Goals as goal

pub returns-then-x-eq0 : goal.returns-then-x-eq0
returns-then-x-eq0 c = rw (bit c.args.x, c.if-x-eq0.true)

pub returns-else-x-eq0 : goal.returns-else-x-eq0
returns-else-x-eq0 c =
    let x : ℕ = c.args.x in
    let one : x / 256 % 2 ≡ 1 = omega arith in
    rw (bit x, clears x c.requires, one)
