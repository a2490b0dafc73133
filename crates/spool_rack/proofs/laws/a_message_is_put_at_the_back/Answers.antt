use Rattle.spool_rack.proofs.StoreLemmas.{put_grew}
use Rattle.spool_rack.proofs.laws.a_message_is_put_at_the_back.Goals as goal

pub returns : goal.returns
returns c = put_grew
