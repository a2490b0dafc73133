use Rattle.std.proofs.Common.{◌≤◌, length, rules}
use Rattle.std.proofs.lemmas.List.Sorted.{IsPartitionPoint-from_clause}
use Rattle.fw_types.specs.Name.{is_before}
use Rattle.auth_machine.specs.State.{record_name}
use Rattle.auth_machine.proofs.SearchLemmas.{parted, place_is}
use Rattle.auth_machine.proofs.search.count_before.Goals as goal

pub returns-clause-count : goal.returns-clause-count
returns-clause-count c =
    let name = c.args.name.now in
    let point = IsPartitionPoint-from_clause (λ f. is_before f.name name) c.args.records.now c.partition_point.result c.partition_point.ensures.partitioned (parted record_name name c.args.records.now c.requires) (λ a r q k. search rules) in
    place_is record_name name c.args.records.now c.partition_point.result c.partition_point.ensures.bound point
