use Rattle.std.proofs.Common.{sym}
use Rattle.host_pattern.proofs.PatternLemmas.{body_is_read}
use Rattle.host_pattern.proofs.pattern.Pattern.with_body.Goals as goal

pub returns-in-Ok : goal.returns-in-Ok
returns-in-Ok c = rw c.copy_of.ensures (sym (body_is_read c.args.negated c.args.body.now (rw c.in-Ok.is at c.check_body.ensures.ok)))
