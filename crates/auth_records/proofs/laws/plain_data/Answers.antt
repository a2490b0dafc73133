use Rattle.auth_records.proofs.WholeLemmas.{same_record, has_record}
use Rattle.auth_records.proofs.laws.plain_data.Goals as goal

pub returns-clause-same : goal.returns-clause-same
returns-clause-same c = same_record

pub returns-clause-some : goal.returns-clause-some
returns-clause-some c = has_record
