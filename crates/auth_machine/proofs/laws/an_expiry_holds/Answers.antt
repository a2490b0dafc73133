use Rattle.auth_machine.proofs.ExpiryLemmas.{expiry_denies, expiry_stays}
use Rattle.auth_machine.proofs.laws.an_expiry_holds.Goals as goal

pub returns-clause-denied : goal.returns-clause-denied
returns-clause-denied c = expiry_denies

pub returns-clause-stays : goal.returns-clause-stays
returns-clause-stays c = expiry_stays
