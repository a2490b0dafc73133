-- The port counts each request of a session.
use Rattle.std.proofs.Common.{◌≡◌, sym, subst, length, Result, Ok, Err}
use Rattle.std.proofs.lemmas.List.{length-append}
use Rattle.auth_events.proofs.PortLemmas.{counted}
use Rattle.auth_events.specs.declared.port.PortFault.{PortFault}
use Rattle.auth_events.specs.declared.reply.Reply.{Reply}
use Rattle.auth_events.specs.declared.request.Request.{Request}
use Rattle.auth_events.specs.declared.request.Request.TheVariants as requests
use Rattle.fw_outside.proofs.CountLemmas.{grew_by, grew_none}
use Rattle.fw_outside.specs.Counts.{Grew}
use Rattle.session_acts.specs.Acts.{Act, Outcome}
use Rattle.session_acts.specs.Acts.Act.{Hear, Say, Try, Log, Note, Ask, Renew, Dial, Reach, Take, Pass, HangUp, Relay, Deposit, Allot, TakeReply, OpenDoor, Join, Copy, Part}
use Rattle.session_acts.specs.Deeds.{Gains}
use Rattle.session_acts.specs.Met.{Asking, AtOffice, number_told}
use Rattle.session_acts.specs.Talk.{CountsAsks, asked}
use Rattle.session_acts.specs.World.{Office}

module _ {Origin : Type 0} where
  asking_counts : (request : Request) (reply : Result Reply PortFault) (old new : Office Origin) → Asking request reply old new → Grew 1 old.port.asks new.port.asks
  asking_counts request reply old new h =
      subst (λ (o : Office Origin). Grew 1 old.port.asks o.port.asks) (sym h.is) (counted reply (number_told old.opened) h.moment request old.port h.port h.asks)

  same_counts : (old new : Office Origin) → new ≡ old → Grew 0 old.port.asks new.port.asks
  same_counts old new is = subst (λ (o : Office Origin). Grew 0 old.port.asks o.port.asks) (sym is) (grew_none old.port.asks)

  one_counts : (act : Act) (outcome : Outcome act) (old new : Office Origin) → AtOffice act outcome old new → Grew (length (asked act outcome)) old.port.asks new.port.asks
  one_counts (Ask request) outcome old new h = asking_counts request outcome old new h.asking
  one_counts (Renew name hash) (Ok salts) old new h = asking_counts (requests.Password name salts.0 hash) (Ok salts.1) (record old { dice = h.dice }) new h.asking
  one_counts (Renew name hash) (Err salts) old new h = asking_counts (requests.Password name salts.0 hash) (Err salts.1) (record old { dice = h.dice }) new h.asking
  one_counts (Hear form) outcome old new h = same_counts old new h
  one_counts (Say text) outcome old new h = same_counts old new h
  one_counts (Try text) outcome old new h = same_counts old new h
  one_counts (Log text) outcome old new h = same_counts old new h
  one_counts (Deposit sender rcpts words most) outcome old new h = same_counts old new h
  one_counts Allot outcome old new h = same_counts old new h
  one_counts (TakeReply how) outcome old new h = same_counts old new h
  one_counts OpenDoor outcome old new h = same_counts old new h
  one_counts (Join dest target) outcome old new h = same_counts old new h
  one_counts (Copy toward) outcome old new h = same_counts old new h
  one_counts Part outcome old new h = same_counts old new h
  one_counts (Note text) outcome old new h = same_counts old new h
  one_counts (Dial dest) outcome old new h = same_counts old new h
  one_counts (Reach dest) outcome old new h = same_counts old new h
  one_counts Take outcome old new h = same_counts old new h
  one_counts (Pass text) outcome old new h = same_counts old new h
  one_counts HangUp outcome old new h = same_counts old new h
  one_counts Relay outcome old new h = same_counts old new h

  pub count_gains : Gains Origin asked CountsAsks
  count_gains = record {
    none = λ world. grew_none world.office.port.asks;
    both = λ first more old mid new a b. grew_by (length first) (length more) _ old.office.port.asks mid.office.port.asks new.office.port.asks (length-append first more) a b;
    one = λ act outcome old new met. one_counts act outcome old.office new.office met.office;
  }
