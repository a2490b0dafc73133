use Rattle.rlogin_hello.proofs.FormLemmas.{none_exactly, prompt, stays, stays_none, whole_exactly}
use Rattle.rlogin_hello.proofs.laws.hellos.Goals as goal

pub returns-clause-whole : goal.returns-clause-whole
returns-clause-whole c = whole_exactly

pub returns-clause-none : goal.returns-clause-none
returns-clause-none c = none_exactly

pub returns-clause-stays : goal.returns-clause-stays
returns-clause-stays c = stays

pub returns-clause-stays_none : goal.returns-clause-stays_none
returns-clause-stays_none c = stays_none

pub returns-clause-prompt : goal.returns-clause-prompt
returns-clause-prompt c = prompt
