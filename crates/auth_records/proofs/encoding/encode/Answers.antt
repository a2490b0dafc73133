use Rattle.std.proofs.Common.{rules, ◌≡◌}
use Rattle.auth_records.specs.Spelling.{IsRecord, record_bytes, spelling}
use Rattle.auth_records.proofs.WholeLemmas.{decoded_written}
use Rattle.auth_records.proofs.encoding.encode.Goals as goal

pub returns-clause-decodes : goal.returns-clause-decodes
unfolding spelling
returns-clause-decodes c =
    let is : IsRecord c.args.rec.now = search rules in
    let bytes : c.of.result ≡ record_bytes c.args.rec.now = search rules in
    decoded_written c.of.result c.args.rec.now is bytes
