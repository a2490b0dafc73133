-- Which command was heard last.
use Rattle.std.proofs.Common.{◌≡◌, refl, ap, ◌∙◌, ℕ, Bool, true, false, List, [], ◌∷◌, Option, Some, None, Result, Ok, Err}
use Rattle.session_acts.specs.Acts.{Act, Outcome}
use Rattle.session_acts.specs.Acts.Act.{Hear, Say, Try, Log, Note, Ask, Renew, Dial, Reach, Take, Pass, HangUp, Relay, Deposit, Allot, TakeReply, OpenDoor, Join, Copy, Part}
use Rattle.session_acts.specs.Deeds.{Deed}
use Rattle.session_acts.specs.Hearing.{heard_by}
use Rattle.session_acts.specs.declared.joined.Joined.TheVariants as joins
use Rattle.session_acts.specs.declared.replied.Replied.TheVariants.{Whole, Ended}
use Rattle.session_acts.specs.declared.reply_use.ReplyUse.TheVariants.{Passed, Dropped, Greeting}
use Rattle.ftp_gate.specs.Dialogue.{is_well}
use Rattle.ftp_gate.specs.Gate.{Gate}
use Rattle.ftp_gate.specs.Known.{Known, at_start, begins, greeting_by, known, known_after, known_from, order_in, saying}
use Rattle.ftp_gate.specs.Order.{Order}
use Rattle.ftp_gate.specs.Texts.{port_ok}

abbrev pub order_after : Option Order → (act : Act) → Outcome act → Option Order
order_after order (Hear form) outcome = order_in (heard_by outcome)
order_after order act outcome = order

abbrev pub order_from : Option Order → List Deed → Option Order
order_from order [] = order
order_from order (deed ∷ deeds) = order_from (order_after order deed.act deed.outcome) deeds

said_order : (gate : Gate) (b : Bool) (k : Known) → (saying gate b k).order ≡ k.order
said_order gate true k = refl
said_order gate false k = refl

greeted_order : (b : Bool) (k : Known) → (greeting_by b k).order ≡ k.order
greeted_order true k = refl
greeted_order false k = refl

order_so : (gate : Gate) (k : Known) (act : Act) (outcome : Outcome act) → (known_after gate k act outcome).order ≡ order_after k.order act outcome
order_so gate k (Hear form) outcome = refl
order_so gate k (Say text) outcome = said_order gate (begins text port_ok) k
order_so gate k (Try text) outcome = refl
order_so gate k (Log text) outcome = refl
order_so gate k (Note text) outcome = refl
order_so gate k (Ask request) (Ok reply) = refl
order_so gate k (Ask request) (Err fault) = refl
order_so gate k (Renew name hash) (Ok salts) = refl
order_so gate k (Renew name hash) (Err salts) = refl
order_so gate k (Dial dest) (Ok true) = refl
order_so gate k (Dial dest) (Ok false) = refl
order_so gate k (Dial dest) (Err never) = refl
order_so gate k (Reach dest) outcome = refl
order_so gate k Take outcome = refl
order_so gate k (Pass text) outcome = refl
order_so gate k HangUp outcome = refl
order_so gate k Relay outcome = refl
order_so gate k (Deposit sender rcpts words most) outcome = refl
order_so gate k Allot outcome = refl
order_so gate k (TakeReply Passed) outcome = refl
order_so gate k (TakeReply Dropped) outcome = refl
order_so gate k (TakeReply Greeting) (Ok (Whole code six, text)) = greeted_order (is_well code) k
order_so gate k (TakeReply Greeting) (Ok (Ended, text)) = refl
order_so gate k (TakeReply Greeting) (Err halt) = refl
order_so gate k OpenDoor (Ok (Some door)) = refl
order_so gate k OpenDoor (Ok None) = refl
order_so gate k OpenDoor (Err never) = refl
order_so gate k (Join dest target) (Ok joins.Up) = refl
order_so gate k (Join dest target) (Ok joins.NoSide) = refl
order_so gate k (Join dest target) (Ok joins.NoNear) = refl
order_so gate k (Join dest target) (Ok joins.Unready) = refl
order_so gate k (Join dest target) (Err never) = refl
order_so gate k (Copy toward) outcome = refl
order_so gate k Part outcome = refl

order_then : (gate : Gate) (k : Known) (deeds : List Deed) → (known_from gate k deeds).order ≡ order_from k.order deeds
order_then gate k [] = refl
order_then gate k (deed ∷ deeds) =
    order_then gate (known_after gate k deed.act deed.outcome) deeds ∙ ap (λ (o : Option Order). order_from o deeds) (order_so gate k deed.act deed.outcome)

pub order_known : (gate : Gate) (deeds : List Deed) → (known gate deeds).order ≡ order_from None deeds
order_known gate deeds = order_then gate at_start deeds
