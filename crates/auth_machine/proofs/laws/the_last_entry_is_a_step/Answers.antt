use Rattle.auth_machine.proofs.HistoryLemmas.{last_step}
use Rattle.auth_machine.proofs.PortLemmas.{fits_last}
use Rattle.auth_machine.proofs.laws.the_last_entry_is_a_step.Goals as goal

pub returns-clause-is_step : goal.returns-clause-is_step
returns-clause-is_step c = λ origin before entry legal. last_step origin before entry legal

pub returns-clause-fits : goal.returns-clause-fits
returns-clause-fits c = λ origin before entry legal. fits_last origin before entry legal
