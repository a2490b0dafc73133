use Rattle.std.proofs.Common.{IsTrue, rules}
use Rattle.fw_types.specs.HostName.{is_host_name}
use Rattle.fw_types.proofs.HostNameLemmas.{lower_is_host_name, lower_twice}
use Rattle.fw_types.proofs.host_name.HostName.read.Goals as goal

pub invariant_of-result : goal.invariant_of-result
invariant_of-result c =
    let is : IsTrue (is_host_name c.args.text.now) = search rules in
    rw c.lower_copy_of.ensures (lower_is_host_name c.args.text.now is, lower_twice c.args.text.now)
