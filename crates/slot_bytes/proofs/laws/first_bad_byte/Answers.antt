use Rattle.slot_bytes.proofs.SlotLemmas.{bad_longest, bad_none, bad_some, one_place}
use Rattle.slot_bytes.proofs.laws.first_bad_byte.Goals as goal

pub returns-clause-longest : goal.returns-clause-longest
returns-clause-longest c = bad_longest

pub returns-clause-none : goal.returns-clause-none
returns-clause-none c = bad_none

pub returns-clause-some : goal.returns-clause-some
returns-clause-some c = bad_some

pub returns-clause-one : goal.returns-clause-one
returns-clause-one c = one_place
