use Rattle.std.proofs.Common.{rules, arith}
use Rattle.byte_reader.specs.Reading.{IsReadAs, counted_at}
use Rattle.auth_records.specs.Reading.{long_at}
use Rattle.auth_records.proofs.TextLemmas.{text_form, IsLongName, reads_long}
use Rattle.auth_records.proofs.fields.long_text_of.Goals as goal

pub returns-clause-form : goal.returns-clause-form
unfolding counted_at
returns-clause-form c =
    let given : IsReadAs (λ x. (x.0.now, x.1.now)) c.text_of.result (long_at c.args.bytes.now) = search rules in
    text_form long_at IsLongName reads_long c.args.bytes.now c.text_of.result (λ i. omega (arith, c.type_inv.bytes i)) given
