use Rattle.telnet.proofs.LawLemmas.{doubling}
use Rattle.telnet.proofs.laws.doubled_bytes.Goals as goal

pub returns : goal.returns
returns c = doubling
