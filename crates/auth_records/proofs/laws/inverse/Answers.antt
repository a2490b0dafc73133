use Rattle.auth_records.proofs.WholeLemmas.{decoded_again, decoded_sound, one_record, no_longer}
use Rattle.auth_records.proofs.laws.inverse.Goals as goal

pub returns-clause-read_again : goal.returns-clause-read_again
returns-clause-read_again c = decoded_again

pub returns-clause-read_from : goal.returns-clause-read_from
returns-clause-read_from c = decoded_sound

pub returns-clause-one_record : goal.returns-clause-one_record
returns-clause-one_record c = one_record

pub returns-clause-no_longer : goal.returns-clause-no_longer
returns-clause-no_longer c = no_longer
