-- The log's line of a verdict.
use Rattle.std.specs.Prelude.{ℕ, List, ◌++◌, codes}
use Rattle.std.specs.Fmt.{decimal}
use Rattle.fw_types.specs.Peer.{peer_text}
use Rattle.fw_types.specs.declared.peer.Peer.{Peer}
use Rattle.gate_rules.specs.Service.{service_text}
use Rattle.gate_rules.specs.declared.service.Service.{Service}
use Rattle.gate_rules.specs.declared.verdict.Verdict.{Verdict}
use Rattle.gate_rules.specs.declared.verdict.Verdict.TheVariants.{Permit, Deny}

-- `permit` or `deny`, and the number of a verdict's line
abbrev pub verdict_word : Verdict → List ℕ
verdict_word (Permit line) = codes "permit"
verdict_word (Deny line) = codes "deny"

abbrev pub verdict_line : Verdict → ℕ
verdict_line (Permit line) = line
verdict_line (Deny line) = line

-- the log's line of a verdict: `permit SERVICE PEER line N`
abbrev pub decision_text : Verdict → Service → Peer → List ℕ
decision_text verdict service peer = verdict_word verdict ++ codes " " ++ service_text service ++ codes " " ++ peer_text peer ++ codes " line " ++ decimal (verdict_line verdict) ++ codes "\n"
