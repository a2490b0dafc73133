use Rattle.smap_lines.proofs.RunLemmas.{front_given, whole_given}
use Rattle.smap_lines.proofs.laws.whole_bodies.Goals as goal

pub returns-clause-front : goal.returns-clause-front
returns-clause-front c = front_given

pub returns-clause-whole : goal.returns-clause-whole
returns-clause-whole c = whole_given
