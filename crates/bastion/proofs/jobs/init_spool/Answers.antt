use Rattle.bastion.proofs.FormatLemmas.{inits_whole}
use Rattle.bastion.proofs.jobs.init_spool.Goals as goal

pub returns-in-Ok : goal.returns-in-Ok
returns-in-Ok g c =
    let did = c.in-Ok.ensures in
    inits_whole c.disk_count-count.result c.print_formatted.result c.args.world.now c.format_all.new.world c.print_formatted.new.world c.disk_count-count.ensures did.formats did.inputs did.output did.logs did.files c.print_formatted.ensures
