use Rattle.client_service.proofs.denying.try_words.Goals as goal

pub returns : goal.returns
returns g c = record { told = c.give.result; gives = c.give.ensures }
