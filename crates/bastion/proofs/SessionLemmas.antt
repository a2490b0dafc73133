-- A client of the authentication server: a session was held, or it was denied.
use Rattle.std.proofs.Common.{◌≡◌, ℕ, refl, subst, inl, inr, ◌⊎◌, Bool, true, false, length}
use Rattle.auth_machine.specs.Book.{BookView}
use Rattle.auth_machine.specs.Port.{BookOrigin}
use Rattle.authsrv_gate.specs.Dialogue.{rows}
use Rattle.client_service.specs.Conn.{NotedIf, Treats}
use Rattle.client_service.specs.Endings.{denied_text, ending_line}
use Rattle.client_service.specs.Meeting.{mailless}
use Rattle.fw_outside.specs.ClockView.{ClockView}
use Rattle.fw_outside.specs.DialerView.{DialerView}
use Rattle.fw_outside.specs.KeeperView.{KeeperView}
use Rattle.fw_outside.specs.SinkView.{SinkView}
use Rattle.fw_types.specs.declared.ending.Ending.{Ending}
use Rattle.fw_types.specs.declared.peer.Peer.{Peer}
use Rattle.gate_rules.specs.Reading.{RuleBook}
use Rattle.gate_rules.specs.Verdict.{verdict_of}
use Rattle.gate_rules.specs.declared.service.Service.TheVariants as services
use Rattle.gate_rules.specs.declared.verdict.Verdict.{Verdict}
use Rattle.gate_rules.specs.declared.verdict.Verdict.TheVariants.{Permit, Deny}
use Rattle.session_acts.specs.Dummies.{nowhere}
use Rattle.session_acts.specs.Session.{Session}
use Rattle.session_acts.specs.World.{Devices}
use Rattle.bastion.specs.Headline.{begins, lent_to}
use Rattle.bastion.specs.Inputs.{Inputs}
use Rattle.bastion.specs.Serving.{OverBook, Serves, book_at_first, devices_at, most_entries, origin_of}
use Rattle.bastion.specs.WorldView.{WorldView}
use Rattle.bastion.specs.declared.outcome.Outcome.{Outcome}
use Rattle.bastion.specs.declared.words.Authorities.TheVariants.{Records}
use Rattle.bastion.proofs.DenialLemmas.{OfDenial, denial_refuses}
use Rattle.bastion.proofs.TalkLemmas.{TakesMore, takes_more}

-- a session was held
pub record OfSession (console : Bool) (verdict : Verdict) (rules : RuleBook) (peer : Peer) (old new : Devices BookOrigin) (ending : Ending) : Type 0 where
  pub line : ℕ
  pub admitted : console ≡ false → verdict ≡ Permit line
  pub logs : SinkView
  pub session : Session rows (begins console peer line) (lent_to console rules (mailless old)) (mailless (record new { logs = logs })) ending
  pub noted : NotedIf (ending_line services.Authsrv peer ending) logs new.logs

-- or it was denied
abbrev pub OfClient : Bool → Verdict → RuleBook → Peer → Devices BookOrigin → Devices BookOrigin → Ending → Type 0
OfClient console verdict rules peer old new ending = OfSession console verdict rules peer old new ending ⊎ OfDenial services.Authsrv denied_text console verdict peer old new ending

treats_so : (verdict : Verdict) (rules : RuleBook) (peer : Peer) (old new : Devices BookOrigin) (logs : SinkView) (ending : Ending) → Treats verdict services.Authsrv rules peer ending old (record new { logs = logs })
    → NotedIf (ending_line services.Authsrv peer ending) logs new.logs → OfClient false verdict rules peer old new ending
treats_so (Permit line) rules peer old new logs ending h noted = inl (record { line = line; admitted = λ outside. refl; logs = logs; session = h.session; noted = noted })
treats_so (Deny line) rules peer old new logs ending h noted = inr (record { outside = refl; line = line; denied = refl; logs = logs; told = h.told; session = h.session; ends = h.ends; noted = noted })

pub serves_so : (console : Bool) (rules : RuleBook) (peer : Peer) (old new : Devices BookOrigin) (ending : Ending) → Serves console rules peer old new ending → OfClient console (verdict_of rules peer) rules peer old new ending
serves_so true rules peer old new ending h = inl (record { line = 0; admitted = λ outside. absurd (cc); logs = h.logs; session = h.session; noted = h.noted })
serves_so false rules peer old new ending h = treats_so (verdict_of rules peer) rules peer old new h.logs ending h.treats h.noted

pub lent_port : (console : Bool) (rules : RuleBook) (devices : Devices BookOrigin) → (lent_to console rules devices).port ≡ devices.port
lent_port true rules devices = refl
lent_port false rules devices = refl

pub lent_outlet : (console : Bool) (rules : RuleBook) (devices : Devices BookOrigin) → (lent_to console rules devices).outlet ≡ devices.outlet
lent_outlet true rules devices = refl
lent_outlet false rules devices = refl

lent_clock : (console : Bool) (rules : RuleBook) (devices : Devices BookOrigin) → (lent_to console rules devices).clock ≡ devices.clock
lent_clock true rules devices = refl
lent_clock false rules devices = refl

-- ---- more requests than fit

module _ (console : Bool) (inputs : Inputs) (peer : Peer) (before : KeeperView) (old new : WorldView) (book : BookView) (dialer : DialerView) (ending : Ending) (out : Outcome) (over : OverBook inputs before book ending out old new) where
  abbrev first : Devices BookOrigin
  first = devices_at old (book_at_first (origin_of inputs) most_entries before) nowhere

  never : (b : Bool) → b ≡ false → b ≡ true → ⊥
  never true is was = absurd (cc)
  never false is was = absurd (cc)

  takes_by : OfClient console (verdict_of inputs.rules peer) inputs.rules peer first (devices_at new book dialer) ending → book.refused ≡ true → TakesMore (length book.history) old.inputs.clock new.inputs.clock
  takes_by (inl s) refused =
      let takes = takes_more Records rows (begins console peer s.line) (lent_to console inputs.rules first) (record (devices_at new book dialer) { logs = s.logs }) ending s.session inputs before book (lent_port console inputs.rules first) refl refused in
      subst (λ (c : ClockView). TakesMore (length book.history) c new.inputs.clock) (lent_clock console inputs.rules first) takes
  takes_by (inr d) refused = absurd (never book.refused (denial_refuses services.Authsrv denied_text console (verdict_of inputs.rules peer) peer first (devices_at new book dialer) ending d) refused)

  pub serves_takes : Serves console inputs.rules peer first (devices_at new book dialer) ending → book.refused ≡ true → TakesMore (length book.history) old.inputs.clock new.inputs.clock
  serves_takes h refused = takes_by (serves_so console inputs.rules peer first (devices_at new book dialer) ending h) refused
