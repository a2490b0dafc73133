use Rattle.std.proofs.Common.{ap, sym, ◌∙◌}
use Rattle.std.specs.Option.{option_copied}
use Rattle.gate_rules.specs.Verdict.{options_at}
use Rattle.ftp_gate.proofs.SessionLemmas.{session_at}
use Rattle.ftp_gate.proofs.session.ftp_session.Goals as goal

pub returns-clause-session : goal.returns-clause-session
returns-clause-session g c =
    session_at c.in-Some.options.now (options_at c.args.rules.now c.args.line) c.args.peer.now c.args.line (ap option_copied (sym c.in-Some.is) ∙ c.options.ensures) c.session_over.ensures.session
