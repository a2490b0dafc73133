use Rattle.session_acts.proofs.ReplyPassLemmas.{hears_reply}
use Rattle.session_acts.proofs.replying.hear_reply.Goals as goal

pub returns : goal.returns
returns g c = λ outlet client. hears_reply c.args.how c.hear_so-heard.result c.caused_by.result _ _ _ _ c.caused_by.ensures (c.hear_so-heard.ensures outlet client)
