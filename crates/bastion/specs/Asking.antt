-- A client of `plug-gw`: for which destination the dialer is asked, and what goes over the link.
use Rattle.std.specs.Prelude.{◌≡◌, ◌≢◌, ℕ, ◌⊎◌, true, List, [], ◌∷◌, ◌++◌, Some}
use Rattle.client_service.specs.Conn.{NotedIf}
use Rattle.client_service.specs.Decision.{decision_text}
use Rattle.client_service.specs.Endings.{ending_line}
use Rattle.fw_outside.specs.Counts.{Rose}
use Rattle.fw_outside.specs.ToldList.{grown}
use Rattle.fw_outside.specs.declared.ask.Ask.TheVariants.{Main}
use Rattle.fw_types.specs.declared.dest.Dest.{Dest}
use Rattle.fw_types.specs.declared.ending.Ending.{Ending}
use Rattle.gate_rules.specs.declared.service.Service.TheVariants as services
use Rattle.gate_rules.specs.declared.verdict.Verdict.TheVariants.{Permit, Deny}
use Rattle.plug_gate.specs.Dialogue.{connect_text}
use Rattle.plug_gate.specs.Laws.{GivesFronts}
use Rattle.session_acts.specs.Laws.{Adds}
use Rattle.client_service.specs.PlugService.{target_of}
use Rattle.bastion.specs.Inputs.{Inputs}
use Rattle.bastion.specs.Linking.{linked_devices}
use Rattle.bastion.specs.Outcome.{ending_status, fault_line_of, is_stopped, status_of}
use Rattle.bastion.specs.Run.{verdict_for}
use Rattle.bastion.specs.Works.{with_given}
use Rattle.bastion.specs.WorldView.{WorldView}
use Rattle.bastion.specs.declared.outcome.Outcome.{Outcome}
use Rattle.bastion.specs.declared.words.Caller.{Caller}
use Rattle.bastion.specs.declared.words.Command.TheVariants.{PlugGw}

-- the two lines before a destination is asked for: that of the permission, and then the connect line
abbrev pub linking_text : Caller → ℕ → Dest → List ℕ
linking_text caller line dest = decision_text (Permit line) (services.PlugGw caller.port) caller.peer ++ connect_text caller.port caller.peer dest line

-- the log failed within these bytes, which it counted: it was given a front of them, not all, and nothing else
pub record FailsWithin (text : List ℕ) (old new : WorldView) : Type 0 where
  pub part : List ℕ
  pub rest : List ℕ
  pub cut : text ≡ part ++ rest
  pub short : rest ≢ []
  pub logs : new.logs.given ≡ grown old.logs.given part
  pub rose : Rose old.logs.faults new.logs.faults

-- the rules permit the peer, and the log failed before it had both lines whole
pub record FailsAtLog (caller : Caller) (inputs : Inputs) (old new : WorldView) : Type 0 where
  pub line : ℕ
  pub permitted : verdict_for (PlugGw caller) inputs ≡ Permit line
  pub dest : Dest
  pub target : target_of inputs.rules line ≡ Some dest
  pub within : FailsWithin (linking_text caller line dest) old new

-- The rules deny the peer, or the log failed. No destination was asked for, and the client was told nothing.
pub record IsUnasked (caller : Caller) (inputs : Inputs) (old new : WorldView) : Type 0 where
  pub why : ((line : ℕ) × (verdict_for (PlugGw caller) inputs ≡ Deny line)) ⊎ FailsAtLog caller inputs old new
  pub dialer : new.inputs.dialer ≡ record (old.inputs.dialer) { waits = new.inputs.dialer.waits }
  pub output : new.output ≡ old.output

-- The first line that fits permits the peer, and names the target. Both lines stand whole in the log, and behind them at most
-- the ending's. The dialer was asked for the target, once, and for nothing else. What the server was given is a front of what was taken of
-- the client, and what the client was given a front of what was taken of the server.
pub record IsAsked (caller : Caller) (inputs : Inputs) (ending : Ending) (status : ℕ) (old new : WorldView) : Type 0 where
  pub line : ℕ
  pub permitted : verdict_for (PlugGw caller) inputs ≡ Permit line
  pub dest : Dest
  pub target : target_of inputs.rules line ≡ Some dest
  pub noted : NotedIf (ending_line (services.PlugGw caller.port) caller.peer ending) (with_given old.logs (linking_text caller line dest)) new.logs
  pub asked : Adds (Main dest ∷ []) old.inputs.dialer.asked new.inputs.dialer.asked
  pub relayed : GivesFronts (linked_devices old) (linked_devices new) ending
  pub status_is : status ≡ ending_status ending

-- What the command needs couldn't be had, and the log was told so, and nothing else. No destination was asked for, and the
-- client was told nothing.
pub record IsUndecided (status : ℕ) (old new : WorldView) : Type 0 where
  pub outcome : Outcome
  pub stopped : is_stopped outcome ≡ true
  pub noted : NotedIf (fault_line_of outcome) old.logs new.logs
  pub dialer : new.inputs.dialer ≡ old.inputs.dialer
  pub output : new.output ≡ old.output
  pub status_is : status ≡ status_of outcome

-- not asked, or asked in a session with this ending
abbrev pub AsksAtMost : Caller → Inputs → Ending → ℕ → WorldView → WorldView → Type 0
AsksAtMost caller inputs ending status old new = IsUnasked caller inputs old new ⊎ IsAsked caller inputs ending status old new
