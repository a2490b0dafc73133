use Rattle.host_pattern.proofs.PartyLaws.{addresses}
use Rattle.host_pattern.proofs.laws.addresses_need_an_address.Goals as goal

pub returns : goal.returns
returns c = addresses
