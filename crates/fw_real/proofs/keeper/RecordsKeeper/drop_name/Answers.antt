use Rattle.fw_real.proofs.keeper.RecordsKeeper.drop_name.Goals as goal

pub returns-in-Err-clause-not_done : goal.returns-in-Err-clause-not_done
returns-in-Err-clause-not_done c = rw (c.count.ensures.answer, c.count.ensures.is) c.in-Err.ensures.not_done

pub returns-in-Ok-clause-did : goal.returns-in-Ok-clause-did
returns-in-Ok-clause-did c = rw c.count_call.ensures.is c.in-Ok.ensures.did
