use Rattle.std.proofs.Common.{rules, arith}
use Rattle.byte_reader.specs.Reading.{IsReadAs, counted_at}
use Rattle.auth_records.specs.Reading.{name_byte}
use Rattle.auth_records.proofs.TextLemmas.{name_form}
use Rattle.auth_records.proofs.fields.name_text_of.Goals as goal

pub returns-clause-form : goal.returns-clause-form
unfolding counted_at
returns-clause-form c =
    let given : IsReadAs (λ x. (x.0.now, x.1.now)) c.text_of.result (counted_at c.args.least 32 name_byte c.args.bytes.now) = search rules in
    name_form c.args.least c.requires c.args.bytes.now c.text_of.result (λ i. omega (arith, c.type_inv.bytes i)) given
