use Rattle.std.proofs.Common.{◌≡◌, Ok, Err, Result, ap, arith}
use Rattle.byte_reader.proofs.NumberLemmas.{all_bytes}
use Rattle.auth_records.specs.Spelling.{fields}
use Rattle.auth_records.specs.Reading.{whole}
use Rattle.auth_records.specs.declared.record.Record.{Record}
use Rattle.auth_records.specs.declared.fault.RecordFault.{RecordFault}
use Rattle.auth_records.proofs.WholeLemmas.{whole_sound, whole_stops, longest_beginning, only_record, no_record}
use Rattle.auth_records.proofs.decoding.decode.Goals as goal

pub overflow_sub-result : goal.overflow_sub-result
overflow_sub-result c =
    let read : whole c.args.bytes.now ≡ Err c.in-Err.stop.left = c.in-Err.ensures in
    let fits = all_bytes c.args.bytes.now (λ i. omega (arith, c.type_inv.bytes i)) in
    (longest_beginning c.args.bytes.now c.in-Err.stop.left (whole_stops c.args.bytes.now c.in-Err.stop.left fits read)).0

pub returns-in-Ok-clause-found : goal.returns-in-Ok-clause-found
returns-in-Ok-clause-found c =
    let read : whole c.args.bytes.now ≡ Ok (fields c.in-Ok.record) = c.in-Ok.ensures in
    whole_sound c.args.bytes.now c.in-Ok.record (all_bytes c.args.bytes.now (λ i. omega (arith, c.type_inv.bytes i))) read

pub returns-in-Ok-clause-only : goal.returns-in-Ok-clause-only
returns-in-Ok-clause-only c = λ r is e.
    let read : whole c.args.bytes.now ≡ Ok (fields c.in-Ok.record) = c.in-Ok.ensures in
    ap (λ (s : Record). let answer : Result Record RecordFault = Ok s in answer) (only_record c.args.bytes.now c.in-Ok.record r read is e)

pub returns-in-Err-clause-only : goal.returns-in-Err-clause-only
returns-in-Err-clause-only c = λ r is e.
    let read : whole c.args.bytes.now ≡ Err c.in-Err.stop.left = c.in-Err.ensures in
    absurd (no_record c.args.bytes.now c.in-Err.stop.left r read is e)

pub returns-in-Err-clause-none : goal.returns-in-Err-clause-none
returns-in-Err-clause-none c = λ r is e.
    let read : whole c.args.bytes.now ≡ Err c.in-Err.stop.left = c.in-Err.ensures in
    no_record c.args.bytes.now c.in-Err.stop.left r read is e

pub returns-in-Err-clause-at : goal.returns-in-Err-clause-at
returns-in-Err-clause-at c =
    let read : whole c.args.bytes.now ≡ Err c.in-Err.stop.left = c.in-Err.ensures in
    let fits = all_bytes c.args.bytes.now (λ i. omega (arith, c.type_inv.bytes i)) in
    (longest_beginning c.args.bytes.now c.in-Err.stop.left (whole_stops c.args.bytes.now c.in-Err.stop.left fits read)).1
