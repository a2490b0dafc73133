use Rattle.auth_machine.proofs.LockLemmas.{lock_denies, lock_stays}
use Rattle.auth_machine.proofs.laws.a_lock_holds.Goals as goal

pub returns-clause-denied : goal.returns-clause-denied
returns-clause-denied c = lock_denies

pub returns-clause-stays : goal.returns-clause-stays
returns-clause-stays c = lock_stays
