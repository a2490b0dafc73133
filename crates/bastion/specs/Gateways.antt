-- What tells one gateway from another: its service, and the words by which it denies a client. What holds of its sessions is a
-- definition of its own (`Headline.OfGateKind`).
use Rattle.std.specs.Prelude.{ℕ, List}
use Rattle.client_service.specs.Endings.{refusal_reply}
use Rattle.gate_rules.specs.declared.service.Service.{Service}
use Rattle.gate_rules.specs.declared.service.Service.TheVariants as services
use Rattle.tn_gate.specs.Texts.{refusal}
use Rattle.bastion.specs.declared.words.GatewayKind.{GatewayKind}
use Rattle.bastion.specs.declared.words.GatewayKind.TheVariants as kinds

abbrev pub gateway_service : GatewayKind → Service
gateway_service kinds.Telnet = services.TnGw
gateway_service kinds.Ftp = services.FtpGw

-- those that a line which denies gives
abbrev pub denial_words : GatewayKind → ℕ → List ℕ
denial_words kinds.Telnet line = refusal line
denial_words kinds.Ftp line = refusal_reply line
