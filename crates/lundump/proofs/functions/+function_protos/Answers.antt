use Rattle.std.proofs.Common.{◌-◌, ◌≡◌, sym, rules, arith}
use Rattle.lundump.specs.Lundump.{load_protos, load_function}
use Rattle.lundump.proofs.Walks.{no_head, no_code, no_constants, no_upvalues, no_protos, no_lines, no_names, read, none_left, one_on, one_stops, no_count, flat, too_deep, deeper}
use Rattle.lundump.proofs.functions.+function_protos.Goals as goal

pub function-returns-in_err-code_at : goal.function-returns-in_err-code_at
function-returns-in_err-code_at t c =
    let p = no_head c.args.chunk.now (load_protos c.args.level) c.args.at c.args.s _ (sym c.in_err-code_at.ensures) in search rules

pub function-returns-in_err-words : goal.function-returns-in_err-words
function-returns-in_err-words t c =
    let p = no_code c.args.chunk.now (load_protos c.args.level) c.args.at c.args.s _ _ (sym c.in_ok-code_at.ensures) _ (sym c.in_err-words.ensures) in search rules

pub function-returns-in_err-constants : goal.function-returns-in_err-constants
function-returns-in_err-constants t c =
    let p = no_constants c.args.chunk.now (load_protos c.args.level) c.args.at c.args.s _ _ (sym c.in_ok-code_at.ensures) _ _ (sym c.in_ok-words.ensures) _ (sym c.in_err-constants.ensures) in search rules

pub function-returns-in_err-upvalues : goal.function-returns-in_err-upvalues
function-returns-in_err-upvalues t c =
    let p = no_upvalues c.args.chunk.now (load_protos c.args.level) c.args.at c.args.s _ _ (sym c.in_ok-code_at.ensures) _ _ (sym c.in_ok-words.ensures) _ _ (sym c.in_ok-constants.ensures) _ (sym c.in_err-upvalues.ensures) in search rules

pub function-returns-in_err-inner : goal.function-returns-in_err-inner
function-returns-in_err-inner t c =
    let p = no_protos c.args.chunk.now (load_protos c.args.level) c.args.at c.args.s _ _ (sym c.in_ok-code_at.ensures) _ _ (sym c.in_ok-words.ensures) _ _ (sym c.in_ok-constants.ensures) _ _ (sym c.in_ok-upvalues.ensures) _ (rw c.pass.ensures at (sym c.in_err-inner.ensures)) in search rules

pub function-returns-in_err-names_at : goal.function-returns-in_err-names_at
function-returns-in_err-names_at t c =
    let p = no_lines c.args.chunk.now (load_protos c.args.level) c.args.at c.args.s _ _ (sym c.in_ok-code_at.ensures) _ _ (sym c.in_ok-words.ensures) _ _ (sym c.in_ok-constants.ensures) _ _ (sym c.in_ok-upvalues.ensures) _ _ (rw c.pass.ensures at (sym c.in_ok-inner.ensures)) _ (sym c.in_err-names_at.ensures) in search rules

pub function-returns-in_err-past : goal.function-returns-in_err-past
function-returns-in_err-past t c =
    let p = no_names c.args.chunk.now (load_protos c.args.level) c.args.at c.args.s _ _ (sym c.in_ok-code_at.ensures) _ _ (sym c.in_ok-words.ensures) _ _ (sym c.in_ok-constants.ensures) _ _ (sym c.in_ok-upvalues.ensures) _ _ (rw c.pass.ensures at (sym c.in_ok-inner.ensures)) _ (sym c.in_ok-names_at.ensures) _ (sym c.in_err-past.ensures) in search rules

pub function-returns : goal.function-returns
function-returns t c =
    let p = read c.args.chunk.now (load_protos c.args.level) c.args.at c.args.s _ _ (sym c.in_ok-code_at.ensures) _ _ (sym c.in_ok-words.ensures) _ _ (sym c.in_ok-constants.ensures) _ _ (sym c.in_ok-upvalues.ensures) _ _ (rw c.pass.ensures at (sym c.in_ok-inner.ensures)) _ (sym c.in_ok-names_at.ensures) _ (sym c.in_ok-past.ensures) in search rules

pub protos-returns-in_err-n : goal.protos-returns-in_err-n
protos-returns-in_err-n t c = let p = no_count c.args.chunk.now c.args.level c.args.at c.args.s _ (sym c.in_err-n.ensures) in search rules

pub protos-returns-in_err-next : goal.protos-returns-in_err-next
protos-returns-in_err-next t c =
    let d = deeper c.args.chunk.now c.args.level c.args.at c.args.s _ _ (sym c.in_ok-n.ensures) c.if-level-eq0.false in
    let p = one_stops (load_function (c.args.level - 1)) c.args.chunk.now c.in_ok-n.n c.loop-i._i c.loop-i.found c.loop-i.at _ (omega arith) (sym c.in_err-next.ensures) in
    search rules

pub protos-returns : goal.protos-returns
protos-returns t c =
    let d = deeper c.args.chunk.now c.args.level c.args.at c.args.s _ _ (sym c.in_ok-n.ensures) c.if-level-eq0.false in
    let p = none_left (load_function (c.args.level - 1)) c.args.chunk.now (c.in_ok-n.n - c.loop-i._i) c.loop-i.found c.loop-i.at (omega arith) in
    search rules

pub protos-returns-then-n-ne0 : goal.protos-returns-then-n-ne0
protos-returns-then-n-ne0 t c = let p = too_deep c.args.chunk.now c.args.level c.args.at c.args.s _ _ (sym c.in_ok-n.ensures) c.if-level-eq0.true c.if-n-ne0.true in search rules

pub protos-returns-then-level-eq0 : goal.protos-returns-then-level-eq0
protos-returns-then-level-eq0 t c = let p = flat c.args.chunk.now c.args.level c.args.at c.args.s _ _ (sym c.in_ok-n.ensures) c.if-level-eq0.true c.if-n-ne0.false in search rules

pub protos-loop-i-preserved : goal.protos-loop-i-preserved
protos-loop-i-preserved t c =
    let p = one_on (load_function (c.args.level - 1)) c.args.chunk.now c.in_ok-n.n c.loop-i._i c.loop-i.found c.loop-i.at _ _ (omega arith) (sym c.in_ok-next.ensures) in
    search rules
