-- What a client of `tn-gw` or of `ftp-gw` came to, by its ending: counts, bytes and the status.
use Rattle.std.proofs.Common.{◌≡◌, ◌∙◌, ℕ, sym, ap, subst, refl, inl, inr, ◌⊎◌, ◌==◌, Bool, true, false}
use Rattle.auth_events.specs.Port.{Port}
use Rattle.client_service.proofs.ConnLemmas.{conn_spent}
use Rattle.client_service.specs.Conn.{Causes, NotedIf, TakesBy, Treats}
use Rattle.client_service.specs.Endings.{ending_line, refusal_reply}
use Rattle.client_service.specs.Kind.{kind_of}
use Rattle.client_service.specs.Kind.Kind.{Gated as ByGate, Replied}
use Rattle.fw_outside.specs.SinkView.{SinkView}
use Rattle.fw_types.specs.declared.ending.Ending.{Ending}
use Rattle.fw_types.specs.declared.ending.Ending.TheVariants.{Done, Denied, ClientFault, ServerFault, LogFault, AuthFault, Idle, NoRoute, Spent, NoMemory}
use Rattle.fw_types.specs.declared.peer.Peer.{Peer}
use Rattle.gate_rules.specs.Verdict.{verdict_of}
use Rattle.gate_rules.specs.declared.service.Service.TheVariants as services
use Rattle.gate_rules.specs.declared.verdict.Verdict.{Verdict}
use Rattle.gate_rules.specs.declared.verdict.Verdict.TheVariants.{Permit, Deny}
use Rattle.session_acts.specs.World.{Devices, most_taken}
use Rattle.tn_gate.specs.Texts.{refusal}
use Rattle.bastion.specs.Answering.{port_at_first, port_of}
use Rattle.bastion.specs.Basis.{Course}
use Rattle.bastion.specs.FtpGateway.{serving_row, serving_rows}
use Rattle.bastion.specs.Gateway.{telnet_row, telnet_rows}
use Rattle.bastion.specs.Gating.{Gated, devices_over}
use Rattle.bastion.specs.Inputs.{Inputs}
use Rattle.bastion.specs.Outcome.{RoseFor, status_of}
use Rattle.bastion.specs.Status.{IsPassed, TakesFor, TakesIn, TakesOver}
use Rattle.bastion.specs.WorldView.{WorldView}
use Rattle.bastion.specs.declared.outcome.Outcome.{Outcome}
use Rattle.bastion.specs.declared.outcome.Outcome.TheVariants.{Ended}
use Rattle.bastion.specs.declared.words.Authorities.{Authorities}
use Rattle.bastion.specs.declared.words.Command.TheVariants.{Gateway}
use Rattle.bastion.specs.declared.words.GatewayKind.{GatewayKind}
use Rattle.bastion.specs.declared.words.GatewayKind.TheVariants as kinds
use Rattle.bastion.specs.Gateways.{gateway_service}
use Rattle.bastion.proofs.AnsweringLemmas.{over_comes}
use Rattle.bastion.proofs.GatedLemmas.{OfCaller, begun_for, caller_course, caller_rose, caller_status, ended_for}
use Rattle.bastion.proofs.LinkingLemmas.{spent_alone, spent_status}

-- ---- a client of Telnet

telnet_treats : {Origin : Type 0} (verdict : Verdict) (inputs : Inputs) (peer : Peer) (old new : Devices Origin) (logs : SinkView) (ending : Ending) → Treats verdict services.TnGw inputs.rules peer ending old (record new { logs = logs })
    → NotedIf (ending_line services.TnGw peer ending) logs new.logs → OfCaller true services.TnGw refusal (telnet_rows inputs peer) (telnet_row inputs peer) verdict inputs.rules peer old new ending
telnet_treats (Permit line) inputs peer old new logs ending h noted = inl (record { line = line; permitted = refl; logs = logs; held = h.held; noted = noted })
telnet_treats (Deny line) inputs peer old new logs ending h noted = inr (record { outside = refl; line = line; denied = refl; logs = logs; told = h.told; session = h.session; ends = h.ends; noted = noted })

pub telnet_so : (authorities : Authorities) (peer : Peer) (inputs : Inputs) (out : Outcome) (old new : WorldView) (h : Gated authorities services.TnGw peer inputs out old new)
    → OfCaller true services.TnGw refusal (telnet_rows inputs peer) (telnet_row inputs peer) (verdict_of inputs.rules peer) inputs.rules peer (begun_for authorities inputs h.before old) (ended_for authorities h.view new) h.ending
telnet_so authorities peer inputs out old new h = telnet_treats (verdict_of inputs.rules peer) inputs peer (begun_for authorities inputs h.before old) (ended_for authorities h.view new) h.serves.logs h.ending h.serves.treats h.serves.noted

telnet_takes_so : {Origin : Type 0} (verdict : Verdict) (ending : Ending) (refused : Bool) (old new : WorldView) (first last : Port Origin) → TakesBy (kind_of services.TnGw verdict) ending (devices_over old first) (devices_over new last) → TakesOver (status_of (Ended ending refused)) old.inputs.input new.inputs.input
telnet_takes_so (Permit line) ending refused old new first last takes = record { took = takes.took; all = λ long. spent_status ending refused (takes.all long) }
telnet_takes_so (Deny line) ending refused old new first last takes = record { took = takes.took; all = λ long. inl (spent_alone ending refused (takes.all ∙ ap (λ (n : ℕ). n == most_taken) long)) }

module _ (authorities : Authorities) (peer : Peer) (inputs : Inputs) (out : Outcome) (old new : WorldView) (h : Gated authorities services.TnGw peer inputs out old new) where
  -- what its session did, and how it ended
  abbrev pub telnet_course : Course
  telnet_course =
      caller_course true services.TnGw refusal (telnet_rows inputs peer) (telnet_row inputs peer) (verdict_of inputs.rules peer) inputs.rules peer (begun_for authorities inputs h.before old) (ended_for authorities h.view new) h.ending (telnet_so authorities peer inputs out old new h)

  pub telnet_rose : RoseFor (Gateway kinds.Telnet authorities peer) telnet_course.deeds out old new
  telnet_rose =
      subst (λ (o : Outcome). RoseFor (Gateway kinds.Telnet authorities peer) telnet_course.deeds o old new) (sym (over_comes inputs h.ending out old new authorities h.before h.view h.over))
      (caller_rose authorities true services.TnGw refusal (telnet_rows inputs peer) (telnet_row inputs peer) peer inputs out old new h (λ line causes. causes) (telnet_so authorities peer inputs out old new h))

  pub telnet_takes : TakesOver (status_of out) old.inputs.input new.inputs.input
  telnet_takes =
      subst (λ (o : Outcome). TakesOver (status_of o) old.inputs.input new.inputs.input) (sym (over_comes inputs h.ending out old new authorities h.before h.view h.over))
      (telnet_takes_so (verdict_of inputs.rules peer) h.ending (port_of authorities h.view).refused old new (port_at_first authorities inputs h.before) (port_of authorities h.view)
      (conn_spent services.TnGw inputs.rules peer (begun_for authorities inputs h.before old) (ended_for authorities h.view new) h.ending h.serves))

  pub telnet_status : ((status_of out ≡ 4) ⊎ (status_of out ≡ 5)) ⊎ IsPassed authorities (verdict_of inputs.rules peer) telnet_course.deeds (status_of out) old.inputs new.inputs
  telnet_status = caller_status authorities true services.TnGw refusal (telnet_rows inputs peer) (telnet_row inputs peer) peer inputs out old new h (λ line causes. causes) (telnet_so authorities peer inputs out old new h)

-- ---- a client of FTP

ftp_treats : {Origin : Type 0} (verdict : Verdict) (inputs : Inputs) (peer : Peer) (old new : Devices Origin) (logs : SinkView) (ending : Ending) → Treats verdict services.FtpGw inputs.rules peer ending old (record new { logs = logs })
    → NotedIf (ending_line services.FtpGw peer ending) logs new.logs → OfCaller false services.FtpGw refusal_reply (serving_rows inputs peer) (serving_row inputs peer) verdict inputs.rules peer old new ending
ftp_treats (Permit line) inputs peer old new logs ending h noted = inl (record { line = line; permitted = refl; logs = logs; held = h.held; noted = noted })
ftp_treats (Deny line) inputs peer old new logs ending h noted = inr (record { outside = refl; line = line; denied = refl; logs = logs; told = h.told; session = h.session; ends = h.ends; noted = noted })

pub ftp_so : (authorities : Authorities) (peer : Peer) (inputs : Inputs) (out : Outcome) (old new : WorldView) (h : Gated authorities services.FtpGw peer inputs out old new)
    → OfCaller false services.FtpGw refusal_reply (serving_rows inputs peer) (serving_row inputs peer) (verdict_of inputs.rules peer) inputs.rules peer (begun_for authorities inputs h.before old) (ended_for authorities h.view new) h.ending
ftp_so authorities peer inputs out old new h = ftp_treats (verdict_of inputs.rules peer) inputs peer (begun_for authorities inputs h.before old) (ended_for authorities h.view new) h.serves.logs h.ending h.serves.treats h.serves.noted

-- its causes are those of the other gateway
replied_gated : {Origin : Type 0} (line : ℕ) (ending : Ending) (old new : Devices Origin) → Causes Replied (Permit line) ending old new → Causes ByGate (Permit line) ending old new
replied_gated line Done old new h = h
replied_gated line (Denied other) old new h = h
replied_gated line ClientFault old new h = h
replied_gated line ServerFault old new h = h
replied_gated line LogFault old new h = h
replied_gated line AuthFault old new h = h
replied_gated line Idle old new h = h
replied_gated line NoRoute old new h = h
replied_gated line Spent old new h = h
replied_gated line NoMemory old new h = h

ftp_takes_so : {Origin : Type 0} (verdict : Verdict) (ending : Ending) (refused : Bool) (old new : WorldView) (first last : Port Origin) → TakesBy (kind_of services.FtpGw verdict) ending (devices_over old first) (devices_over new last) → TakesIn (status_of (Ended ending refused)) old.inputs.input new.inputs.input
ftp_takes_so (Permit line) ending refused old new first last takes = record { took = takes.took; all = λ long. spent_alone ending refused (takes.all long) }
ftp_takes_so (Deny line) ending refused old new first last takes = record { took = takes.took; all = λ long. spent_alone ending refused (takes.all ∙ ap (λ (n : ℕ). n == most_taken) long) }

module _ (authorities : Authorities) (peer : Peer) (inputs : Inputs) (out : Outcome) (old new : WorldView) (h : Gated authorities services.FtpGw peer inputs out old new) where
  gates : (line : ℕ) → Causes Replied (Permit line) h.ending (begun_for authorities inputs h.before old) (ended_for authorities h.view new) → Causes ByGate (Permit line) h.ending (begun_for authorities inputs h.before old) (ended_for authorities h.view new)
  gates line causes = replied_gated line h.ending (begun_for authorities inputs h.before old) (ended_for authorities h.view new) causes

  abbrev pub ftp_course : Course
  ftp_course =
      caller_course false services.FtpGw refusal_reply (serving_rows inputs peer) (serving_row inputs peer) (verdict_of inputs.rules peer) inputs.rules peer (begun_for authorities inputs h.before old) (ended_for authorities h.view new) h.ending (ftp_so authorities peer inputs out old new h)

  pub ftp_rose : RoseFor (Gateway kinds.Ftp authorities peer) ftp_course.deeds out old new
  ftp_rose =
      subst (λ (o : Outcome). RoseFor (Gateway kinds.Ftp authorities peer) ftp_course.deeds o old new) (sym (over_comes inputs h.ending out old new authorities h.before h.view h.over))
      (caller_rose authorities false services.FtpGw refusal_reply (serving_rows inputs peer) (serving_row inputs peer) peer inputs out old new h gates (ftp_so authorities peer inputs out old new h))

  pub ftp_takes : TakesIn (status_of out) old.inputs.input new.inputs.input
  ftp_takes =
      subst (λ (o : Outcome). TakesIn (status_of o) old.inputs.input new.inputs.input) (sym (over_comes inputs h.ending out old new authorities h.before h.view h.over))
      (ftp_takes_so (verdict_of inputs.rules peer) h.ending (port_of authorities h.view).refused old new (port_at_first authorities inputs h.before) (port_of authorities h.view)
      (conn_spent services.FtpGw inputs.rules peer (begun_for authorities inputs h.before old) (ended_for authorities h.view new) h.ending h.serves))

  pub ftp_status : ((status_of out ≡ 4) ⊎ (status_of out ≡ 5)) ⊎ IsPassed authorities (verdict_of inputs.rules peer) ftp_course.deeds (status_of out) old.inputs new.inputs
  ftp_status = caller_status authorities false services.FtpGw refusal_reply (serving_rows inputs peer) (serving_row inputs peer) peer inputs out old new h gates (ftp_so authorities peer inputs out old new h)

-- ---- a client of either

abbrev pub gateway_course : (kind : GatewayKind) (authorities : Authorities) (peer : Peer) (inputs : Inputs) (out : Outcome) (old new : WorldView) → Gated authorities (gateway_service kind) peer inputs out old new → Course
gateway_course kinds.Telnet authorities peer inputs out old new h = telnet_course authorities peer inputs out old new h
gateway_course kinds.Ftp authorities peer inputs out old new h = ftp_course authorities peer inputs out old new h

pub gateway_rose : (kind : GatewayKind) (authorities : Authorities) (peer : Peer) (inputs : Inputs) (out : Outcome) (old new : WorldView) (h : Gated authorities (gateway_service kind) peer inputs out old new)
    → RoseFor (Gateway kind authorities peer) (gateway_course kind authorities peer inputs out old new h).deeds out old new
gateway_rose kinds.Telnet authorities peer inputs out old new h = telnet_rose authorities peer inputs out old new h
gateway_rose kinds.Ftp authorities peer inputs out old new h = ftp_rose authorities peer inputs out old new h

pub gateway_takes : (kind : GatewayKind) (authorities : Authorities) (peer : Peer) (inputs : Inputs) (out : Outcome) (old new : WorldView) → Gated authorities (gateway_service kind) peer inputs out old new → TakesFor (Gateway kind authorities peer) (status_of out) old.inputs.input new.inputs.input
gateway_takes kinds.Telnet authorities peer inputs out old new h = telnet_takes authorities peer inputs out old new h
gateway_takes kinds.Ftp authorities peer inputs out old new h = ftp_takes authorities peer inputs out old new h

pub gateway_status : (kind : GatewayKind) (authorities : Authorities) (peer : Peer) (inputs : Inputs) (out : Outcome) (old new : WorldView) (h : Gated authorities (gateway_service kind) peer inputs out old new)
    → ((status_of out ≡ 4) ⊎ (status_of out ≡ 5)) ⊎ IsPassed authorities (verdict_of inputs.rules peer) (gateway_course kind authorities peer inputs out old new h).deeds (status_of out) old.inputs new.inputs
gateway_status kinds.Telnet authorities peer inputs out old new h = telnet_status authorities peer inputs out old new h
gateway_status kinds.Ftp authorities peer inputs out old new h = ftp_status authorities peer inputs out old new h
