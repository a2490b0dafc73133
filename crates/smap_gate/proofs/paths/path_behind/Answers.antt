use Rattle.smap_gate.proofs.PathLemmas.{behind_fits}
use Rattle.smap_gate.proofs.paths.path_behind.Goals as goal

pub returns-in-Some-clause-fits : goal.returns-in-Some-clause-fits
returns-in-Some-clause-fits c = behind_fits c.args.may_be_empty c.in-Some.text.now c.read_path.result c.read_path.ensures
