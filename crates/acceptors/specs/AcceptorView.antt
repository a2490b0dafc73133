-- Who waits for the clients of a server: what that means, and what its calls do to that.
use Rattle.std.specs.Prelude.{◌≡◌, ℕ, ◌+◌, ◌-◌, ◌<◌, Bool, true, List, [], ◌∷◌, Option, IfSome}
use Rattle.std.specs.Option.{option_map}
use Rattle.fw_outside.specs.ClockView.{ClockView}
use Rattle.fw_outside.specs.Counts.{Grew, Rose}
use Rattle.fw_outside.specs.DiceView.{DiceView}
use Rattle.fw_outside.specs.DialerView.{DialerView, IsNewSink}
use Rattle.fw_outside.specs.SinkView.{SinkView}
use Rattle.fw_outside.specs.SourceView.{SourceView, fresh}
use Rattle.fw_outside.specs.ToldList.{IsOver, grown}
use Rattle.fw_outside.specs.declared.mark.Mark.TheVariants.{Own}
use Rattle.gate_rules.specs.declared.service.Service.{Service}
use Rattle.gate_rules.specs.declared.service.Service.TheVariants as services
use Rattle.acceptors.specs.declared.caller.Guest.{Guest}

-- ---- a client

-- a client with what its devices mean
pub record Visit : Type 0 where
  pub guest : Guest
  pub from : SourceView
  pub to : SinkView
  pub logs : SinkView
  pub dialer : DialerView
  pub clock : ClockView
  pub dice : DiceView

-- any service but the access wrapper, which has no session
abbrev pub HasSessions : Service → Type 0
HasSessions (services.Netacl label) = ⊥
HasSessions services.TnGw = Unit {0}
HasSessions services.FtpGw = Unit {0}
HasSessions (services.PlugGw port) = Unit {0}
HasSessions services.Smap = Unit {0}
HasSessions services.Authsrv = Unit {0}

-- a new dialer: nothing was asked or hung up, no link came up, nothing is counted, and links wait an hour
pub record IsNewDialer (dialer : DialerView) : Type 0 where
  pub unasked : IsOver dialer.asked
  pub none_ended : IsOver dialer.ended
  pub none_came : dialer.came ≡ 0
  pub refusals : dialer.refusals ≡ 0
  pub link_faults : dialer.link_faults ≡ 0
  pub link_idles : dialer.link_idles ≡ 0
  pub data_faults : dialer.data_faults ≡ 0
  pub data_idles : dialer.data_idles ≡ 0
  pub waits : dialer.waits ≡ 3600

-- a client as it comes: of a service with sessions, and all its devices are new and of no dialer's link
pub record IsFresh (visit : Visit) : Type 0 where
  pub served : HasSessions visit.guest.service
  pub left : Option (List ℕ)
  pub from : visit.from ≡ fresh left
  pub to : IsNewSink Own visit.to
  pub logs : IsNewSink Own visit.logs
  pub dialer : IsNewDialer visit.dialer
  pub clock : IsOver visit.clock.told
  pub dice : IsOver visit.dice.told

-- ---- who waits for clients

-- the clients as they came, and as they were taken back, where it tells; how many came and were taken back, as counts of 64
-- bits; how many of those that came weren't taken back yet, where it tells; whether it answered that no more come, or that
-- waiting failed, and how often it did; and how often waiting failed
pub record AcceptorView : Type 0 where
  pub handed : Option (List Visit)
  pub took : Option (List Visit)
  pub came : ℕ
  pub returned : ℕ
  pub out : Option ℕ
  pub over : Bool
  pub ends : ℕ
  pub faults : ℕ

-- a client came
pub record Comes (visit : Visit) (old new : AcceptorView) : Type 0 where
  pub new_one : IsFresh visit
  pub count : ℕ
  pub grew : Grew 1 old.came count
  pub is : new ≡ record old { handed = grown old.handed (visit ∷ []); came = count; out = option_map (λ n. n + 1) old.out }

-- it was answered that no more come
pub record Ends (old new : AcceptorView) : Type 0 where
  pub count : ℕ
  pub grew : Grew 1 old.ends count
  pub is : new ≡ record old { over = true; ends = count }

-- it was answered that waiting failed, which is counted
pub record Fails (old new : AcceptorView) : Type 0 where
  pub count : ℕ
  pub grew : Grew 1 old.ends count
  pub fault_count : ℕ
  pub rose : Rose old.faults fault_count
  pub is : new ≡ record old { over = true; ends = count; faults = fault_count }

-- a client that came isn't taken back yet
abbrev pub HasOut : AcceptorView → Type 0
HasOut door = IfSome door.out (λ n. 0 < n)

-- a client was taken back
pub record TakesBack (visit : Visit) (old new : AcceptorView) : Type 0 where
  pub count : ℕ
  pub grew : Grew 1 old.returned count
  pub is : new ≡ record old { took = grown old.took (visit ∷ []); returned = count; out = option_map (λ n. n - 1) old.out }
