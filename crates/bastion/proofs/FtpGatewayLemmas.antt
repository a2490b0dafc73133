-- From what a client of `ftp-gw` did to the headline, and to a run in which no count rose.
use Rattle.std.proofs.Common.{◌≡◌, ◌∙◌, ℕ, List, [], length, refl, sym, ap, subst, false, Bool}
use Rattle.std.specs.Prelude.{Result}
use Rattle.auth_events.specs.Port.{Port, places}
use Rattle.client_service.specs.Endings.{refusal_reply}
use Rattle.ftp_gate.proofs.BreakLemmas.{held_breaks, held_carries}
use Rattle.ftp_gate.proofs.CopiedLemmas.{held_marked}
use Rattle.ftp_gate.proofs.KnownLemmas.{login_known}
use Rattle.ftp_gate.proofs.CourseLemmas.{held_once}
use Rattle.ftp_gate.proofs.DueLemmas.{held_due}
use Rattle.ftp_gate.proofs.EndLemmas.{held_ended, held_there}
use Rattle.ftp_gate.proofs.ReadyLemmas.{held_joined}
use Rattle.ftp_gate.proofs.RefusalLemmas.{held_told}
use Rattle.ftp_gate.proofs.LawLemmas.{held_asked, held_asks, held_caused, held_cleared, held_copies, held_doors, held_gives, held_logged, held_own, held_right, held_unblocked}
use Rattle.ftp_gate.proofs.OwnLemmas.{whole_login}
use Rattle.ftp_gate.specs.Gate.{Gate, gate_at}
use Rattle.ftp_gate.specs.Laws.{IsDone}
use Rattle.fw_types.specs.declared.ending.Ending.TheVariants as endings
use Rattle.fw_types.specs.declared.peer.Peer.{Peer}
use Rattle.gate_rules.specs.declared.service.Service.TheVariants as services
use Rattle.gate_rules.specs.declared.verdict.Verdict.TheVariants.{Permit}
use Rattle.session_acts.proofs.BrokenLemmas.{broken_gains}
use Rattle.session_acts.proofs.DeedLemmas.{all_gain, held_deeds}
use Rattle.session_acts.proofs.HearingLemmas.{held_heard}
use Rattle.session_acts.proofs.LastStopLemmas.{stops_last}
use Rattle.session_acts.proofs.LinkedLemmas.{linked_gains}
use Rattle.session_acts.proofs.OwedLemmas.{held_unlinked}
use Rattle.session_acts.proofs.PairLemmas.{held_unpaired}
use Rattle.session_acts.proofs.PassingLemmas.{servers_given}
use Rattle.session_acts.proofs.RefusalLemmas.{refused_gains}
use Rattle.session_acts.proofs.ServersHeardLemmas.{servers_heard}
use Rattle.session_acts.proofs.TalkLemmas.{entered_gains}
use Rattle.session_acts.specs.Deeds.{Deed, gives}
use Rattle.session_acts.specs.OwnLogin.{LoginStandsIn, number_opened}
use Rattle.session_acts.specs.Session.{deeds_of}
use Rattle.session_acts.specs.Talk.{asked}
use Rattle.session_acts.specs.World.{Devices, IsUnlinked, World, at_first}
use Rattle.session_acts.specs.declared.cause.Cause.{Cause}
use Rattle.bastion.specs.Basis.{Course}
use Rattle.bastion.specs.Answering.{OriginOf, port_at_first, port_of}
use Rattle.bastion.specs.AtGateway.{Comes, OfGateway, begins_at}
use Rattle.bastion.specs.Complete.{IsPassedWhole, IsServedAtGate}
use Rattle.bastion.specs.FtpGateway.{IsUpheld, OfFtp, serving_row, serving_rows}
use Rattle.bastion.specs.Gating.{Gated}
use Rattle.bastion.specs.Headline.{LogsDenial}
use Rattle.bastion.specs.Inputs.{Inputs}
use Rattle.bastion.specs.Outcome.{fault_line_of, status_of}
use Rattle.bastion.specs.Run.{ReadsOnly, TellsIf, verdict_for}
use Rattle.bastion.specs.Status.{IsPassed}
use Rattle.bastion.specs.WorldView.{WorldView}
use Rattle.bastion.specs.declared.outcome.Outcome.{Outcome}
use Rattle.bastion.specs.declared.words.Authorities.{Authorities}
use Rattle.bastion.specs.declared.words.Command.TheVariants.{Gateway}
use Rattle.bastion.specs.declared.words.GatewayKind.TheVariants as kinds
use Rattle.bastion.proofs.AnsweringLemmas.{all_own, first_mine}
use Rattle.bastion.proofs.AtGatewayLemmas.{caller_headline, caller_whole, passed_whole}
use Rattle.bastion.proofs.DenialLemmas.{done_only}
use Rattle.bastion.proofs.GateStatusLemmas.{ftp_course, ftp_so, ftp_status}
use Rattle.bastion.proofs.QuietLemmas.{Quiet}

-- by the laws of the gateway and of all sessions
module _ (authorities : Authorities) (peer : Peer) (inputs : Inputs) (course : Course) (status : ℕ) (old new : WorldView) (at : OfGateway authorities false (Gateway kinds.Ftp authorities peer) services.FtpGw peer (serving_rows inputs peer) (serving_row inputs peer) inputs course status old new) where
  abbrev gate : Gate
  gate = gate_at inputs.rules at.line peer

  abbrev deeds : List Deed
  deeds = deeds_of at.session.held

  abbrev begun : World (OriginOf authorities)
  begun = at_first (begins_at services.FtpGw inputs peer at.line (port_at_first authorities inputs at.before) old) at.session.names

  abbrev last : World (OriginOf authorities)
  last = at.session.last

  port_is : last.office.port ≡ port_of authorities at.view
  port_is = ap (λ (d : Devices (OriginOf authorities)). d.port) at.session.leaves

  none : begun.office.port.mine ≡ []
  none = first_mine authorities inputs at.before

  own : last.office.port.mine ≡ places (length last.office.port.seen)
  own = subst (λ (p : Port (OriginOf authorities)). p.mine ≡ places (length p.seen)) (sym port_is) (all_own authorities at.view)

  unlinked : IsUnlinked begun.server
  unlinked = record { main = refl; side = refl }

  -- a session that is done came to the end of its dialogue
  went : course.ending ≡ endings.Done → IsDone at.session.held.dialogue
  went is =
      let held = at.session.held in
      subst (λ (d : Result (Unit {0}) Cause). IsDone d) (sym (done_only held.dialogue held.mid.office.opened held.answer (sym is ∙ held.ends))) tt

  upheld : IsUpheld gate (port_of authorities at.view).seen at.session.held
  upheld = record {
    lines = held_heard (serving_rows inputs peer at.line) (serving_row inputs peer at.line) begun last course.ending at.session.held refl;
    exactly = held_asks gate begun last course.ending at.session.held;
    all = λ is. (held_asks gate begun last course.ending at.session.held).whole (went is);
    cleared = held_cleared gate begun last course.ending at.session.held;
    passage = held_gives gate begun last course.ending at.session.held;
    passed = λ is. (held_gives gate begun last course.ending at.session.held).whole (went is);
    unblocked = held_unblocked gate begun last course.ending at.session.held;
    joins = held_own gate begun last course.ending at.session.held;
    asked_for = held_joined gate begun last course.ending at.session.held;
    denials = held_logged gate begun last course.ending at.session.held;
    requests = held_asked gate begun last course.ending at.session.held;
    logins =
        λ before after deed is outward needs.
        subst (λ (p : Port (OriginOf authorities)). LoginStandsIn (number_opened (gives asked deeds)) (gives asked before) p.seen) port_is (whole_login gate begun last course.ending at.session.held refl none own before after deed is outward needs);
    known_by = λ some. login_known gate some;
    doors = held_doors gate begun last course.ending at.session.held;
    copies = held_copies gate begun last course.ending at.session.held;
    carries = held_carries gate begun last course.ending at.session.held;
    between = held_marked gate begun last course.ending at.session.held unlinked;
    due = held_due gate begun last course.ending at.session.held;
    causes = held_caused gate begun last course.ending at.session.held;
    acts = held_right gate begun last course.ending at.session.held;
    opened = held_once gate begun last course.ending at.session.held refl;
    ends = held_there gate begun last course.ending at.session.held;
    ended = λ finish. held_ended gate begun last course.ending at.session.held finish;
    entered = all_gain entered_gains deeds begun last (held_deeds at.session.held);
    given = servers_given (serving_rows inputs peer at.line) (serving_row inputs peer at.line) begun last course.ending at.session.held unlinked;
    replies = servers_heard (serving_rows inputs peer at.line) (serving_row inputs peer at.line) begun last course.ending at.session.held unlinked;
    links = all_gain linked_gains deeds begun last (held_deeds at.session.held);
    over = (
      held_unlinked (serving_rows inputs peer at.line) (serving_row inputs peer at.line) begun last course.ending at.session.held,
      held_unpaired (serving_rows inputs peer at.line) (serving_row inputs peer at.line) begun last course.ending at.session.held unlinked,
    );
    refusals = all_gain refused_gains deeds begun last (held_deeds at.session.held);
    refusals_told = held_told gate begun last course.ending at.session.held;
    broken = all_gain broken_gains deeds begun last (held_deeds at.session.held);
    breaks_told = held_breaks gate begun last course.ending at.session.held;
    stops = λ cause is. stops_last cause at.session.held is;
  }

  of_ftp : OfFtp authorities peer inputs course status old new
  of_ftp = record { at = at; upheld = upheld }

-- ---- the headline

module _ (authorities : Authorities) (peer : Peer) (inputs : Inputs) (out : Outcome) (old mid new : WorldView) (h : Gated authorities services.FtpGw peer inputs out old mid) (tells : TellsIf (fault_line_of out) mid new) where
  pub ftp_headline : Comes authorities (Gateway kinds.Ftp authorities peer) services.FtpGw peer refusal_reply (OfFtp authorities peer) inputs (ftp_course authorities peer inputs out old mid h) (status_of out) old new
      × LogsDenial (Gateway kinds.Ftp authorities peer) services.FtpGw peer inputs (status_of out) old new
  ftp_headline =
      caller_headline authorities false (Gateway kinds.Ftp authorities peer) services.FtpGw refusal_reply inputs (serving_rows inputs peer) (serving_row inputs peer) out old mid new h tells (OfFtp authorities peer)
      (λ course at. of_ftp authorities peer inputs course (status_of out) old new at) refl (λ line one other same. same) (ftp_so authorities peer inputs out old mid h) (ftp_status authorities peer inputs out old mid h)

-- ---- a run in which no count rose

module _ (name : List ℕ) (records : Bool) (authorities : Authorities) (peer : Peer) (inputs : Inputs) (out : Outcome) (old middle mid new : WorldView) (q : Quiet old new) (only : ReadsOnly name records old middle) (h : Gated authorities services.FtpGw peer inputs out middle mid)
    (tells : TellsIf (fault_line_of out) mid new) where
  abbrev course : Course
  course = ftp_course authorities peer inputs out middle mid h

  abbrev Session : Type 0
  Session = OfFtp authorities peer inputs course (status_of out) middle new

  held_whole : (line : ℕ) → verdict_for (Gateway kinds.Ftp authorities peer) inputs ≡ Permit line → IsPassed authorities (Permit line) course.deeds (status_of out) old.inputs new.inputs → Session
      → IsPassedWhole authorities services.FtpGw peer line Session course (status_of out) old new
  held_whole line permitted passed x =
      passed_whole authorities false (Gateway kinds.Ftp authorities peer) services.FtpGw peer (serving_rows inputs peer) (serving_row inputs peer) name records inputs course (status_of out) old middle new q only Session x x.at line (sym permitted ∙ x.at.permitted) passed

  pub ftp_whole : IsPassed authorities (verdict_for (Gateway kinds.Ftp authorities peer) inputs) course.deeds (status_of out) old.inputs new.inputs
      → Comes authorities (Gateway kinds.Ftp authorities peer) services.FtpGw peer refusal_reply (OfFtp authorities peer) inputs course (status_of out) middle new
      → IsServedAtGate authorities (verdict_for (Gateway kinds.Ftp authorities peer) inputs) services.FtpGw refusal_reply peer Session course (status_of out) old new
  ftp_whole passed comes =
      caller_whole authorities false (Gateway kinds.Ftp authorities peer) services.FtpGw refusal_reply inputs (serving_rows inputs peer) (serving_row inputs peer) name records out old middle mid new q only h tells (OfFtp authorities peer) course held_whole
      (verdict_for (Gateway kinds.Ftp authorities peer) inputs) refl passed comes (ftp_so authorities peer inputs out middle mid h)
