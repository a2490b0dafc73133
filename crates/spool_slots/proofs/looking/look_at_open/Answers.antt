use Rattle.spool_slots.proofs.looking.look_at_open.Goals as goal

pub returns-in-Ok-clause-says : goal.returns-in-Ok-clause-says
returns-in-Ok-clause-says c = λ bytes f. c.look_at_head.ensures.says c.args.ended bytes f
