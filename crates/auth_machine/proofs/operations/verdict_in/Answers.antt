use Rattle.std.proofs.Common.{◌≡◌, true, sym, ◌∙◌, arith}
use Rattle.auth_machine.specs.Operations.{fits}
use Rattle.auth_machine.proofs.OperationsLemmas.{decided}
use Rattle.auth_machine.proofs.operations.verdict_in.Goals as goal

pub returns-then-fits : goal.returns-then-fits
returns-then-fits g c =
    let fit : fits c.args.user.now c.args.group.now c.args.service c.args.party.now c.args.moment c.line-item.result ≡ true = sym c.fits.ensures ∙ c.if-fits.true in
    decided (fits c.args.user.now c.args.group.now c.args.service c.args.party.now c.args.moment) c.args.lines.now c.loop-line.line-index c.line-item.result c.verdict_by.result
    (omega arith) c.line-item.is fit c.verdict_by.ensures c.loop-line.invariant
