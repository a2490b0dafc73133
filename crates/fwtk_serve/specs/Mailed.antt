-- What a session came to in the mail store.
use Rattle.std.specs.Prelude.{ℕ, ◌⊎◌, List, [], length}
use mathlib.Core.Logic.{inl, inr}
use Rattle.client_service.specs.Conn.{Mails}
use Rattle.client_service.specs.MailService.{MailsBehind}
use Rattle.fw_types.specs.declared.ending.Ending.{Ending}
use Rattle.fw_types.specs.declared.peer.Peer.{Peer}
use Rattle.gate_rules.specs.Reading.{RuleBook}
use Rattle.gate_rules.specs.declared.service.Service.{Service}
use Rattle.gate_rules.specs.declared.service.Service.TheVariants.{Netacl, TnGw, FtpGw, PlugGw, Smap, Authsrv}
use Rattle.gate_rules.specs.declared.verdict.Verdict.{Verdict}
use Rattle.gate_rules.specs.declared.verdict.Verdict.TheVariants.{Permit, Deny}
use Rattle.session_acts.specs.Client.{LogFails}
use Rattle.session_acts.specs.Deeds.{gives}
use Rattle.session_acts.specs.Session.{deeds_of}
use Rattle.session_acts.specs.Stored as counts
use Rattle.session_acts.specs.World.{Devices}
use Rattle.smap_gate.specs.Gate.{Gate}
use Rattle.spool_slots.specs.States.{FullView}

-- the slots that it put full, in order, with the messages that it kept; for how many messages no slot was free; and at how many
-- the disk of a slot failed, and that was told
pub record Mailed : Type 0 where
  pub put : List FullView
  pub unslotted : ℕ
  pub faulted : ℕ

abbrev pub nothing_mailed : Mailed
nothing_mailed = record { put = []; unslotted = 0; faulted = 0 }

-- of a session of the mail gateway, by its deeds
abbrev pub mailed_behind : {line : List ℕ} {gate : Gate} {ending : Ending} {old new : Devices (Unit {0})} → MailsBehind line gate ending old new → Mailed
mailed_behind mails = record {
  put = mails.stores.slots;
  unslotted = length (gives counts.unslotted (deeds_of mails.session.held));
  faulted = length (gives counts.faulted (deeds_of mails.session.held));
}

-- where the log failed within the line of the permission there is no session
abbrev pub mailed_or_none : {line : List ℕ} {gate : Gate} {ending : Ending} {old new : Devices (Unit {0})} → LogFails line old new ending ⊎ MailsBehind line gate ending old new → Mailed
mailed_or_none (inl fails) = nothing_mailed
mailed_or_none (inr mails) = mailed_behind mails

-- a session of any other service, or of a client who is denied, comes to nothing there
abbrev pub mailed_by : {Origin : Type 0} (service : Service) (verdict : Verdict) (rules : RuleBook) (peer : Peer) (ending : Ending) (old new : Devices Origin)
    → Mails service verdict rules peer ending old new → Mailed
mailed_by Smap (Permit line) rules peer ending old new mails = mailed_or_none mails.so
mailed_by Smap (Deny line) rules peer ending old new mails = nothing_mailed
mailed_by (Netacl label) verdict rules peer ending old new mails = nothing_mailed
mailed_by TnGw verdict rules peer ending old new mails = nothing_mailed
mailed_by FtpGw verdict rules peer ending old new mails = nothing_mailed
mailed_by (PlugGw port) verdict rules peer ending old new mails = nothing_mailed
mailed_by Authsrv verdict rules peer ending old new mails = nothing_mailed
