use Rattle.session_acts.proofs.StageLemmas.{hears_in, listens_telnet}
use Rattle.session_acts.proofs.link.heed_telnet.Goals as goal
use Rattle.session_acts.specs.declared.form.Form.TheVariants.{Telnet}

pub returns : goal.returns
returns g c = λ outlet. rw c.outcome_of.ensures (hears_in Telnet c.hear_line-heard.result _ _ _ _ outlet (listens_telnet _ _ _ _ _ c.hear_line-heard.ensures.listens) c.hear_line-heard.ensures.near)
