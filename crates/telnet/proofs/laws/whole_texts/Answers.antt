use Rattle.telnet.proofs.RunLemmas.{whole}
use Rattle.telnet.proofs.laws.whole_texts.Goals as goal

pub returns : goal.returns
returns c = whole
