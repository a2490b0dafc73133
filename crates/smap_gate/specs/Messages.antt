-- Which messages are kept: the lines that ask for them decide who sends each and to whom. No row is named here.
use Rattle.std.specs.Prelude.{◌≡◌, ℕ, List, [], ◌∷◌, ◌++◌, Result, Ok, Err}
use Rattle.fw_outside.specs.declared.heard.Heard.{Heard}
use Rattle.fw_types.specs.declared.ending.Ending.{Ending}
use Rattle.session_acts.specs.Acts.{Act, Outcome}
use Rattle.session_acts.specs.Acts.Act.{Deposit, Hear}
use Rattle.session_acts.specs.Deeds.{Deed, deeds_ran, gives}
use Rattle.session_acts.specs.Session.{Held, deeds_of}
use Rattle.session_acts.specs.Stored.{KeptMail, PutsMails, kept, kept_as}
use Rattle.session_acts.specs.World.{World}
use Rattle.session_acts.specs.declared.deposited.Deposited.{Deposited}
use Rattle.session_acts.specs.declared.silence.Silence.{Silence}
use Rattle.smap_gate.specs.Dialogue.{smap_row, smap_rows}
use Rattle.smap_gate.specs.Gate.{Gate}
use Rattle.smap_gate.specs.Replies.{Want, to_heard}
use Rattle.smap_gate.specs.Replies.Want.{Nothing, Memory, Message, Logging}
use Rattle.smap_gate.specs.declared.place.Place.{Place}
use Rattle.smap_gate.specs.declared.place.Place.TheVariants.{Waiting}

-- what stands of a message, and what the last line wants
pub record Standing : Type 0 where
  pub place : Place
  pub asks : Want

-- at first nothing
abbrev pub unasked : Standing
unasked = record { place = Waiting; asks = Nothing }

abbrev pub stands_behind : Gate → Standing → Result Heard Silence → Standing
stands_behind gate standing (Ok heard) = record { place = (to_heard gate standing.place heard).place; asks = (to_heard gate standing.place heard).want }
stands_behind gate standing (Err silence) = standing

abbrev pub stands_then : Gate → Standing → (act : Act) → Outcome act → Standing
stands_then gate standing (Hear form) outcome = stands_behind gate standing outcome
stands_then gate standing act outcome = standing

-- a message is of the sender and to the recipients that stood when its data were asked for
abbrev pub mail_asked : Want → Deposited → List ℕ → List KeptMail
mail_asked (Message sender rcpts) deposited data_heard = kept_as sender rcpts deposited data_heard
mail_asked Nothing deposited data_heard = []
mail_asked Memory deposited data_heard = []
mail_asked (Logging line) deposited data_heard = []

abbrev pub mail_by : {Halted : Type 0} → Want → Result (Deposited × List ℕ) Halted → List KeptMail
mail_by want (Ok answer) = mail_asked want answer.0 answer.1
mail_by want (Err halt) = []

abbrev pub mail_then : Standing → (act : Act) → Outcome act → List KeptMail
mail_then standing (Deposit sender rcpts words most) outcome = mail_by standing.asks outcome
mail_then standing act outcome = []

-- the messages that were kept, in order, each with the number of its slot
abbrev pub mails : Gate → Standing → List Deed → List KeptMail
mails gate standing [] = []
mails gate standing (deed ∷ deeds) = mail_then standing deed.act deed.outcome ++ mails gate (stands_then gate standing deed.act deed.outcome) deeds

-- the store was given these messages full, in this order, and no other
pub record KeepsMessages {Origin : Type 0} (gate : Gate) {old new : World Origin} {ending : Ending} (held : Held (smap_rows gate) smap_row old new ending) : Type 0 where
  pub are : gives kept (deeds_of held) ≡ mails gate unasked (deeds_ran held.ran)
  pub puts : PutsMails (mails gate unasked (deeds_ran held.ran)) old new
