-- What a session hears of its client and what it relays, and what it takes for that.
use Rattle.std.specs.Prelude.{◌≡◌, ℕ, ◌≤◌, List, [], ◌∷◌, ◌++◌, length, Option, Some, None, Result, Ok, Err}
use Rattle.std.specs.List.{concat}
use Rattle.fw_outside.specs.Counts.{Grew}
use Rattle.fw_outside.specs.ToldList.{grown}
use Rattle.fw_outside.specs.declared.heard.Heard.{Heard}
use Rattle.fw_outside.specs.declared.heard.Heard.TheVariants.{Stopped}
use Rattle.session_acts.specs.Acts.{Act, Outcome, Undeposited}
use Rattle.session_acts.specs.Acts.Act.{Hear, Relay, Deposit}
use Rattle.session_acts.specs.Acts.Undeposited.{Lacks, Unsaid, Unheard}
use Rattle.session_acts.specs.Forms.{IsHeardIn}
use Rattle.session_acts.specs.Met.{stop_of}
use Rattle.session_acts.specs.Relaying.{Flow, flow_of}
use Rattle.session_acts.specs.World.{Speaker}
use Rattle.session_acts.specs.declared.deposited.Deposited.{Deposited}
use Rattle.session_acts.specs.declared.deposited.Deposited.TheVariants.{NoSlot, NotBegun}
use Rattle.session_acts.specs.declared.form.Form.{Form}
use Rattle.session_acts.specs.declared.silence.Silence.{Silence}

-- a line, one that is too long, or why none was heard
abbrev pub heard_by : Result Heard Silence → Heard
heard_by (Ok heard) = heard
heard_by (Err silence) = Stopped (stop_of silence)

-- what becomes of a piece of the client's text: it is heard in a form as that, or taken as it stands, for a relay or as the
-- data of a mail
pub data Fate : Type 0 where
  IsHeard : (form : Form) (heard : Heard) → Fate
  IsCarried : (bytes : List ℕ) → Fate

abbrev pub carried_up : Option Flow → List Fate
carried_up None = []
carried_up (Some flow) = IsCarried flow.up.taken ∷ []

-- the data that were heard, if it came to that
abbrev pub data_if : Deposited → List ℕ → List Fate
data_if NoSlot data_heard = []
data_if NotBegun data_heard = []
data_if deposited data_heard = IsCarried data_heard ∷ []

abbrev pub data_in : {words : List ℕ} → Result (Deposited × List ℕ) (Undeposited words) → List Fate
data_in (Ok answer) = data_if answer.0 answer.1
data_in (Err Lacks) = []
data_in (Err (Unsaid front)) = []
data_in (Err (Unheard silence data_heard)) = IsCarried data_heard ∷ []

-- what is heard of the client, what a relay carries of it, and the data of its mails
abbrev pub heard_in : (act : Act) → Outcome act → List Fate
heard_in (Hear form) outcome = IsHeard form (heard_by outcome) ∷ []
heard_in Relay outcome = carried_up (flow_of outcome)
heard_in (Deposit sender rcpts words most) outcome = data_in outcome
heard_in act outcome = []

-- a piece that is heard is one line with its end, or has no end of a line; one that is relayed, or is data, is so as it stands
abbrev pub Meets : Fate → List ℕ → Type 0
Meets (IsHeard form heard) piece = IsHeardIn form heard piece
Meets (IsCarried bytes) piece = bytes ≡ piece

-- these pieces of a text meet these fates
abbrev pub AreHeard : List Fate → List (List ℕ) → Type 0
AreHeard [] [] = Unit {0}
AreHeard (one ∷ more) (piece ∷ pieces) = Meets one piece × AreHeard more pieces
AreHeard _ _ = ⊥

-- these bytes were taken of a client of which nothing was pending: the pieces that were heard or relayed, one after another,
-- and then what is pending now, which is at most 4,096 bytes
pub record TakesHeard (heards : List Fate) (old new : Speaker) : Type 0 where
  pub bytes : List ℕ
  pub pieces : List (List ℕ)
  pub grew : Grew (length bytes) old.inlet.amount new.inlet.amount
  pub took : new.inlet.taken ≡ grown old.inlet.taken bytes
  pub are_heard : AreHeard heards pieces
  pub all : bytes ≡ concat pieces ++ new.reader.pending
  pub near : length new.reader.pending ≤ 4096
