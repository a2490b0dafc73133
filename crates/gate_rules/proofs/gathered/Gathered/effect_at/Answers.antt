use Rattle.std.proofs.Common.{◌≡◌, suc, ◌+◌, ◌<◌, ◌∷◌, length, drop, add-one, drop-cons, sym, ◌∙◌, ap, arith}
use Rattle.std.proofs.lemmas.Result.{err_from_is_err_and}
use Rattle.netperm_table.specs.declared.line.Line.{Line}
use Rattle.gate_rules.proofs.gathered.Gathered.effect_at.Goals as goal

pub returns-in_err-add_line-clause-fault : goal.returns-in_err-add_line-clause-fault
returns-in_err-add_line-clause-fault c =
    let p = err_from_is_err_and c.from_residual.result c.from_residual.ensures.1 in
    let at = c.loop-line.line-index in
    let within : at < length c.args.lines.now = omega arith in
    let next : drop at c.args.lines.now ≡ c.line-item.result ∷ drop (at + 1) c.args.lines.now =
    rw add-one (drop-cons c.args.lines.now at c.line-item.result within ∙ ap (λ (line : Line). line ∷ drop (suc at) c.args.lines.now) (sym c.line-item.is)) in
    rw (p.1, p.2, ← c.loop-line.invariant, next) (c.in_err-add_line.ensures.fault (drop (at + 1) c.args.lines.now))
