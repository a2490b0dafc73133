use Rattle.fwtk_serve.proofs.PassLemmas.{met_one}
use Rattle.fwtk_serve.proofs.meeting.meet_book.Goals as goal

pub returns-clause-met : goal.returns-clause-met
returns-clause-met g c = met_one c.args.turns.now c.args.pass.now c.args.other c.meet.new.pass c.meet.ensures.met_places c.meet.ensures.met
