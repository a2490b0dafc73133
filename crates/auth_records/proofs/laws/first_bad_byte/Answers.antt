use Rattle.auth_records.proofs.WholeLemmas.{decoded_longest, decoded_none, one_place}
use Rattle.auth_records.proofs.laws.first_bad_byte.Goals as goal

pub returns-clause-longest : goal.returns-clause-longest
returns-clause-longest c = decoded_longest

pub returns-clause-none : goal.returns-clause-none
returns-clause-none c = λ bytes at r fits e is same. decoded_none bytes at r e is same

pub returns-clause-one : goal.returns-clause-one
returns-clause-one c = one_place
