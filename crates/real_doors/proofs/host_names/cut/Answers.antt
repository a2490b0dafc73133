use Rattle.std.proofs.Common.{◌+◌, arith}
use Rattle.std.proofs.lemmas.List.{take_rest}
use Rattle.real_doors.proofs.HostNameLemmas.{cut_at, cut_none}
use Rattle.real_doors.proofs.host_names.cut.Goals as goal

pub returns-in_err-at-clause-none : goal.returns-in_err-at-clause-none
returns-in_err-at-clause-none c =
    rw c.from_residual.ensures (cut_none c.args.text.now (λ k within. c.in_err-at.ensures k (omega arith) within))

pub returns-clause-some : goal.returns-clause-some
returns-clause-some c =
    let first = c.in_ok-at.ensures in
    rw (take_rest c.args.text.now (c.in_ok-at.at + 1)) (cut_at c.args.text.now c.in_ok-at.at (first.0.high) (λ k below. first.0.before k (omega arith) below) first.1)
