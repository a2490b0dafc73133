-- Unless there is a relay, the client's sink isn't told the end.
use Rattle.std.proofs.Common.{◌≡◌, refl, sym, ap, ◌∙◌, ℕ, false, List, Result, Ok, Err}
use mathlib.Core.Bool.{true≢false}
use Rattle.fw_outside.specs.SinkView.{SinkView}
use Rattle.session_acts.specs.Acts.{Act, Front, Outcome}
use Rattle.session_acts.specs.Acts.Act.{Hear, Say, Try, Log, Note, Ask, Renew, Dial, Reach, Take, Pass, HangUp, Relay, Deposit, Allot, TakeReply, OpenDoor, Join, Copy, Part}
use Rattle.session_acts.specs.Deeds.{Lasts}
use Rattle.session_acts.specs.Met.{AtClient, IsTold, May}
use Rattle.session_acts.specs.World.{Names, Speaker, World}
use Rattle.session_acts.proofs.StaysLemmas.{gets_keeps}
use Rattle.session_acts.proofs.ToldLemmas.{hears_outlet}
use Rattle.session_acts.proofs.DepositLemmas.{HoldsThen, deposit_by, draws_outlet}
use Rattle.session_acts.proofs.ReplyLemmas.{reply_by}

pub record Unshut {Origin : Type 0} (old new : World Origin) : Type 0 where
  pub names : new.names ≡ old.names
  pub shut : old.names.relays ≡ false → new.client.outlet.shut ≡ old.client.outlet.shut

told_unshut : (text : List ℕ) (outcome : Result (Unit {0}) (Front text)) (old new : Speaker) → IsTold text outcome old new → new.outlet.shut ≡ old.outlet.shut
told_unshut text outcome old new h = ap (λ (s : Speaker). s.outlet.shut) h.is ∙ (gets_keeps text outcome old.outlet h.outlet h.gets).shut

same_unshut : (old new : Speaker) → new ≡ old → new.outlet.shut ≡ old.outlet.shut
same_unshut old new is = ap (λ (s : Speaker). s.outlet.shut) is

deposit_unshut : (words : List ℕ) (old : Speaker) → HoldsThen (λ (s : Speaker). s.outlet.shut ≡ old.outlet.shut) words old
deposit_unshut words old = record {
  stays = refl;
  cut = λ front new h. told_unshut words (Err front) old new h;
  draws = λ stop data_heard new h. ap (λ (s : SinkView). s.shut) (draws_outlet stop data_heard h.middle new h.draws) ∙ told_unshut words (Ok tt) old h.middle h.told;
}

client_unshut : (act : Act) (outcome : Outcome act) (names : Names) (old new : Speaker) → AtClient act outcome old new → May act names → names.relays ≡ false → new.outlet.shut ≡ old.outlet.shut
client_unshut (Hear form) outcome names old new h may none = ap (λ (s : SinkView). s.shut) (hears_outlet form outcome old new h)
client_unshut (Say text) outcome names old new h may none = told_unshut text outcome old new h
client_unshut (Try text) (Ok tried) names old new h may none = told_unshut text tried old new h
client_unshut (Try text) (Err never) names old new h may none = absurd never
client_unshut (Log text) outcome names old new h may none = same_unshut old new h
client_unshut (Note text) outcome names old new h may none = same_unshut old new h
client_unshut (Ask request) outcome names old new h may none = same_unshut old new h
client_unshut (Renew name hash) outcome names old new h may none = same_unshut old new h
client_unshut (Dial dest) outcome names old new h may none = same_unshut old new h
client_unshut (Reach dest) outcome names old new h may none = same_unshut old new h
client_unshut Take outcome names old new h may none = same_unshut old new h
client_unshut (Pass text) outcome names old new h may none = same_unshut old new h
client_unshut HangUp outcome names old new h may none = same_unshut old new h
client_unshut Relay outcome names old new h may none = absurd (true≢false (sym may ∙ none))
client_unshut (Deposit sender rcpts words most) outcome names old new h may none = deposit_by (λ (s : Speaker). s.outlet.shut ≡ old.outlet.shut) words outcome old new (deposit_unshut words old) h
client_unshut Allot outcome names old new h may none = same_unshut old new h
client_unshut (TakeReply how) outcome names old new h may none = reply_by (λ (s : Speaker). s.outlet.shut ≡ old.outlet.shut) outcome old new (λ text tried told. told_unshut text tried old new told) h
client_unshut OpenDoor outcome names old new h may none = same_unshut old new h
client_unshut (Join dest target) outcome names old new h may none = same_unshut old new h
client_unshut (Copy toward) outcome names old new h may none = same_unshut old new h
client_unshut Part outcome names old new h may none = same_unshut old new h

pub unshut_last : {Origin : Type 0} → Lasts Origin Unshut
unshut_last = record {
  none = λ world. record { names = refl; shut = λ none. refl };
  both = λ old mid new a b. record { names = b.names ∙ a.names; shut = λ none. b.shut (ap (λ (n : Names). n.relays) a.names ∙ none) ∙ a.shut none };
  one = λ act outcome old new met. record { names = met.names; shut = λ none. client_unshut act outcome old.names old.client new.client met.client met.may none };
}
