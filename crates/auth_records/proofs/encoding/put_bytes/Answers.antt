use Rattle.std.proofs.Common.{arith}
use Rattle.byte_reader.proofs.NumberLemmas.{all_bytes}
use Rattle.auth_records.proofs.OptionLemmas.{on_ok}
use Rattle.auth_records.proofs.encoding.put_bytes.Goals as goal

pub returns-clause-form : goal.returns-clause-form
returns-clause-form c = on_ok c.extend_from_slice.result (all_bytes c.args.bytes.now (λ i. omega (arith, c.type_inv.bytes i)))
