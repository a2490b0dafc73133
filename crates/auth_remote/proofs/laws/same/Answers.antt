use Rattle.auth_remote.proofs.HonestLemmas.{same_by}
use Rattle.auth_remote.proofs.laws.same.Goals as goal

pub returns : goal.returns
returns g c = λ p texts honest.
    same_by g.row.Origin.Denot c.inverse.ensures.one_reply c.asked_again.ensures c.each_reply_is_told.ensures c.the_client_is_told.ensures c.the_client_is_heard.ensures c.the_talk_is_entered.ensures.entered
    c.a_session_is_closed.ensures.one p texts honest
