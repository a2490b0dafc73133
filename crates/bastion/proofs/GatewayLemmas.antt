-- From what a client of `tn-gw` did to the headline, and to a run in which no count rose.
use Rattle.std.proofs.Common.{◌≡◌, ◌∙◌, ℕ, List, [], length, refl, sym, ap, subst, inl, inr, ◌⊎◌, true, Bool}
use Rattle.std.specs.Prelude.{Ok, Err}
use Rattle.auth_events.specs.Port.{Port, places}
use Rattle.fw_types.specs.declared.ending.Ending.{Ending}
use Rattle.fw_types.specs.declared.ending.Ending.TheVariants as endings
use Rattle.fw_types.specs.declared.peer.Peer.{Peer}
use Rattle.gate_rules.specs.declared.service.Service.TheVariants as services
use Rattle.gate_rules.specs.declared.verdict.Verdict.TheVariants.{Permit}
use Rattle.session_acts.proofs.DeedLemmas.{all_gain, held_deeds}
use Rattle.session_acts.proofs.LastStopLemmas.{stops_last}
use Rattle.session_acts.proofs.LinkedLemmas.{linked_gains}
use Rattle.session_acts.proofs.RefusalLemmas.{refused_gains}
use Rattle.session_acts.proofs.RelayFrontsLemmas.{session_fronts}
use Rattle.session_acts.proofs.SaidLemmas.{held_says}
use Rattle.session_acts.proofs.TalkLemmas.{entered_gains}
use Rattle.session_acts.specs.Deeds.{Deed, gives}
use Rattle.session_acts.specs.RelayLast.{StopsBefore}
use Rattle.session_acts.specs.Relayed.{relayed, then_relay}
use Rattle.session_acts.specs.Session.{Held, deeds_of}
use Rattle.session_acts.specs.Talk.{asked}
use Rattle.session_acts.specs.World.{Devices, World, at_first}
use Rattle.tn_gate.proofs.AskingLawLemmas.{held_due_asked, held_ended, held_ends}
use Rattle.tn_gate.proofs.CourseLemmas.{held_once}
use Rattle.tn_gate.proofs.DueLawLemmas.{held_dialed, held_due, held_logged}
use Rattle.tn_gate.proofs.LawLemmas.{held_asks, held_cleared}
use Rattle.tn_gate.proofs.LoginLemmas.{whole_login}
use Rattle.tn_gate.proofs.OwnLemmas.{held_lines}
use Rattle.tn_gate.proofs.QuietLemmas.{tn_keeps_quiet}
use Rattle.tn_gate.specs.Dialogue.{tn_row, tn_rows}
use Rattle.tn_gate.specs.Gate.{Gate, gate_at}
use Rattle.tn_gate.specs.Laws.{AsksExactly}
use Rattle.tn_gate.specs.Login.{LoginStandsIn, number_opened}
use Rattle.tn_gate.specs.Texts.{refusal}
use Rattle.bastion.specs.Basis.{Course}
use Rattle.bastion.specs.Answering.{OriginOf, port_at_first, port_of}
use Rattle.bastion.specs.AtGateway.{Comes, OfGateway, begins_at, ends_at}
use Rattle.bastion.specs.Complete.{IsPassedWhole, IsServedAtGate}
use Rattle.bastion.specs.Gateway.{IsGuarded, OfTelnet, telnet_row, telnet_rows}
use Rattle.bastion.specs.Gating.{Gated}
use Rattle.bastion.specs.Headline.{LogsDenial}
use Rattle.bastion.specs.Inputs.{Inputs}
use Rattle.bastion.specs.Outcome.{fault_line_of, status_of}
use Rattle.bastion.specs.Run.{ReadsOnly, TellsIf, verdict_for}
use Rattle.bastion.specs.Status.{IsPassed}
use Rattle.bastion.specs.WorldView.{WorldView}
use Rattle.bastion.specs.declared.outcome.Outcome.{Outcome}
use Rattle.bastion.specs.declared.words.Authorities.{Authorities}
use Rattle.bastion.specs.declared.words.Command.TheVariants.{Gateway}
use Rattle.bastion.specs.declared.words.GatewayKind.TheVariants as kinds
use Rattle.bastion.proofs.AnsweringLemmas.{all_own, first_mine}
use Rattle.bastion.proofs.AtGatewayLemmas.{caller_headline, caller_whole, passed_whole}
use Rattle.bastion.proofs.DenialLemmas.{done_only}
use Rattle.bastion.proofs.GateStatusLemmas.{telnet_course, telnet_so, telnet_status}
use Rattle.bastion.proofs.QuietLemmas.{Quiet}

-- a session that is done has asked for all destinations
all_asked : {Origin : Type 0} (gate : Gate) (old new : World Origin) (ending : Ending) (held : Held (relayed (tn_rows gate)) (then_relay (tn_row gate)) old new ending) (asks : AsksExactly gate held) → ending ≡ endings.Done → asks.rest ≡ []
all_asked gate old new ending held asks is = by asks.whole
  where
    by : (asks.rest ≡ []) ⊎ StopsBefore (tn_rows gate) (tn_row gate) held → asks.rest ≡ []
    by (inl none) = none
    by (inr stops) =
        let went : held.dialogue ≡ Ok tt = done_only held.dialogue held.mid.office.opened held.answer (sym is ∙ held.ends) in
        let clash : Ok tt ≡ Err stops.cause = sym went ∙ stops.is in absurd (cc)

-- by the laws of the gateway
module _ (authorities : Authorities) (peer : Peer) (inputs : Inputs) (course : Course) (status : ℕ) (old new : WorldView) (at : OfGateway authorities true (Gateway kinds.Telnet authorities peer) services.TnGw peer (telnet_rows inputs peer) (telnet_row inputs peer) inputs course status old new) where
  abbrev gate : Gate
  gate = gate_at inputs.rules at.line peer

  abbrev deeds : List Deed
  deeds = deeds_of at.session.held

  abbrev begun : World (OriginOf authorities)
  begun = at_first (begins_at services.TnGw inputs peer at.line (port_at_first authorities inputs at.before) old) at.session.names

  abbrev last : World (OriginOf authorities)
  last = at.session.last

  port_is : last.office.port ≡ port_of authorities at.view
  port_is = ap (λ (d : Devices (OriginOf authorities)). d.port) at.session.leaves

  none : begun.office.port.mine ≡ []
  none = first_mine authorities inputs at.before

  own : last.office.port.mine ≡ places (length last.office.port.seen)
  own = subst (λ (p : Port (OriginOf authorities)). p.mine ≡ places (length p.seen)) (sym port_is) (all_own authorities at.view)

  guarded : IsGuarded gate (port_of authorities at.view).seen at.session.held
  guarded = record {
    lines = held_says (telnet_rows inputs peer at.line) (telnet_row inputs peer at.line) begun last course.ending at.session.held refl;
    heard = held_lines gate begun last course.ending at.session.held;
    exactly = held_asks gate begun last course.ending at.session.held;
    all = λ is. all_asked gate begun last course.ending at.session.held (held_asks gate begun last course.ending at.session.held) is;
    cleared = held_cleared gate begun last course.ending at.session.held;
    logins =
        λ asks before after deed dest is calls.
        subst (λ (p : Port (OriginOf authorities)). LoginStandsIn (number_opened (gives asked deeds)) (gives asked before) p.seen) port_is (whole_login gate begun last course.ending at.session.held refl none own asks before after deed dest is calls);
    dialed = held_dialed gate begun last course.ending at.session.held;
    due = held_due gate begun last course.ending at.session.held;
    denials = held_logged gate begun last course.ending at.session.held;
    opened = held_once gate begun last course.ending at.session.held refl;
    requests = held_due_asked gate begun last course.ending at.session.held;
    ends = held_ends gate begun last course.ending at.session.held;
    ended = λ finish. held_ended gate begun last course.ending at.session.held finish;
    links = all_gain linked_gains deeds begun last (held_deeds at.session.held);
    refusals = all_gain refused_gains deeds begun last (held_deeds at.session.held);
    entered = all_gain entered_gains deeds begun last (held_deeds at.session.held);
    stops = λ cause is. stops_last cause at.session.held is;
  }

  of_telnet : OfTelnet authorities peer inputs course status old new
  of_telnet = record {
    at = at;
    guarded = guarded;
    fronts = session_fronts (tn_rows gate) (tn_row gate) (begins_at services.TnGw inputs peer at.line (port_at_first authorities inputs at.before) old) (ends_at (port_of authorities at.view) at.logs new) course.ending at.session (tn_keeps_quiet gate);
  }

-- ---- the headline

module _ (authorities : Authorities) (peer : Peer) (inputs : Inputs) (out : Outcome) (old mid new : WorldView) (h : Gated authorities services.TnGw peer inputs out old mid) (tells : TellsIf (fault_line_of out) mid new) where
  pub telnet_headline : Comes authorities (Gateway kinds.Telnet authorities peer) services.TnGw peer refusal (OfTelnet authorities peer) inputs (telnet_course authorities peer inputs out old mid h) (status_of out) old new
      × LogsDenial (Gateway kinds.Telnet authorities peer) services.TnGw peer inputs (status_of out) old new
  telnet_headline =
      caller_headline authorities true (Gateway kinds.Telnet authorities peer) services.TnGw refusal inputs (telnet_rows inputs peer) (telnet_row inputs peer) out old mid new h tells (OfTelnet authorities peer)
      (λ course at. of_telnet authorities peer inputs course (status_of out) old new at) refl (λ line one other same. same) (telnet_so authorities peer inputs out old mid h) (telnet_status authorities peer inputs out old mid h)

-- ---- a run in which no count rose

module _ (name : List ℕ) (records : Bool) (authorities : Authorities) (peer : Peer) (inputs : Inputs) (out : Outcome) (old middle mid new : WorldView) (q : Quiet old new) (only : ReadsOnly name records old middle) (h : Gated authorities services.TnGw peer inputs out middle mid)
    (tells : TellsIf (fault_line_of out) mid new) where
  abbrev course : Course
  course = telnet_course authorities peer inputs out middle mid h

  abbrev Session : Type 0
  Session = OfTelnet authorities peer inputs course (status_of out) middle new

  held_whole : (line : ℕ) → verdict_for (Gateway kinds.Telnet authorities peer) inputs ≡ Permit line → IsPassed authorities (Permit line) course.deeds (status_of out) old.inputs new.inputs → Session
      → IsPassedWhole authorities services.TnGw peer line Session course (status_of out) old new
  held_whole line permitted passed x =
      passed_whole authorities true (Gateway kinds.Telnet authorities peer) services.TnGw peer (telnet_rows inputs peer) (telnet_row inputs peer) name records inputs course (status_of out) old middle new q only Session x x.at line (sym permitted ∙ x.at.permitted) passed

  pub telnet_whole : IsPassed authorities (verdict_for (Gateway kinds.Telnet authorities peer) inputs) course.deeds (status_of out) old.inputs new.inputs
      → Comes authorities (Gateway kinds.Telnet authorities peer) services.TnGw peer refusal (OfTelnet authorities peer) inputs course (status_of out) middle new
      → IsServedAtGate authorities (verdict_for (Gateway kinds.Telnet authorities peer) inputs) services.TnGw refusal peer Session course (status_of out) old new
  telnet_whole passed comes =
      caller_whole authorities true (Gateway kinds.Telnet authorities peer) services.TnGw refusal inputs (telnet_rows inputs peer) (telnet_row inputs peer) name records out old middle mid new q only h tells (OfTelnet authorities peer) course held_whole
      (verdict_for (Gateway kinds.Telnet authorities peer) inputs) refl passed comes (telnet_so authorities peer inputs out middle mid h)
