use Rattle.auth_events.proofs.PortLemmas.{counted, limit_stays, own_places}
use Rattle.auth_events.proofs.laws.asking_goes_on.Goals as goal

pub returns-clause-places : goal.returns-clause-places
returns-clause-places g c = λ answer sid at request old new asks. own_places answer sid at request old new asks

pub returns-clause-counted : goal.returns-clause-counted
returns-clause-counted g c = λ answer sid at request old new asks. counted answer sid at request old new asks

pub returns-clause-limit : goal.returns-clause-limit
returns-clause-limit g c = λ answer sid at request old new asks. limit_stays answer sid at request old new asks
