-- Which act may come next, by what is still owed: what the last line wants, and what the client is to be told. No row is
-- named here.
use Rattle.std.specs.Prelude.{◌≡◌, ℕ, List, [], ◌∷◌, ◌++◌, length, Result, Ok, Err}
use Rattle.fw_outside.specs.declared.heard.Heard.{Heard}
use Rattle.session_acts.specs.Acts.{Act, Answer}
use Rattle.session_acts.specs.Acts.Act.{Allot, Deposit, Hear, Log, Say}
use Rattle.session_acts.specs.Deeds.{Deed}
use Rattle.session_acts.specs.declared.deposited.Deposited.{Deposited}
use Rattle.session_acts.specs.declared.deposited.Deposited.TheVariants as ends
use Rattle.session_acts.specs.declared.form.Form.TheVariants.{Lines}
use Rattle.smap_gate.specs.Gate.{Gate}
use Rattle.smap_gate.specs.LogLines.{mail_line}
use Rattle.smap_gate.specs.Replies.{Reply, Want, end_text, place_then, says, to_heard}
use Rattle.smap_gate.specs.Replies.Want.{Nothing, Memory, Message, Logging}
use Rattle.smap_gate.specs.Texts as texts
use Rattle.smap_gate.specs.declared.place.Place.{Place}
use Rattle.smap_gate.specs.declared.place.Place.TheVariants.{Waiting}

-- ---- what is owed

-- behind a message that was kept its line is to be logged
abbrev pub want_behind : Gate → (rcpts : ℕ) → Deposited → Want
want_behind gate rcpts ends.NoSlot = Nothing
want_behind gate rcpts ends.NotBegun = Nothing
want_behind gate rcpts (ends.Kept slot bytes) = Logging (mail_line gate.peer slot rcpts bytes)
want_behind gate rcpts ends.TooLarge = Nothing
want_behind gate rcpts ends.Faulted = Nothing
want_behind gate rcpts ends.Ended = Nothing

-- What is owed after an act: a text that was said is paid, and so is a log line or memory that was wanted; a line that was heard
-- wants what it wants, and a message wants its log line and the text of how it came out.
abbrev pub owing_behind : Gate → Reply → (act : Act) → Answer act → Reply
owing_behind gate owing (Say text) answer = says [] owing.place
owing_behind gate owing (Hear form) answer = to_heard gate owing.place answer
owing_behind gate owing (Log text) answer = says owing.text owing.place
owing_behind gate owing Allot answer = says owing.text owing.place
owing_behind gate owing (Deposit sender rcpts words most) answer = record { place = owing.place; want = want_behind gate (length rcpts) answer.0; text = end_text answer.0 }
owing_behind gate owing act answer = owing

-- ---- what is wanted

-- Nothing is said but the text that is owed, and a line is heard only where nothing is. The log is given the line that is
-- wanted, memory is taken where it is, and a message is taken in where it is: from that sender, to those recipients, with the
-- words before its data and as many bytes as the gate lets a body have. Nothing else is done.
abbrev pub IsWanted : Gate → Reply → Act → Type 0
IsWanted gate owing (Say text) = (owing.want ≡ Nothing) × (text ≡ owing.text)
IsWanted gate owing (Hear form) = (owing.want ≡ Nothing) × (owing.text ≡ []) × (form ≡ Lines)
IsWanted gate owing (Log text) = owing.want ≡ Logging text
IsWanted gate owing Allot = owing.want ≡ Memory
IsWanted gate owing (Deposit sender rcpts words most) = (owing.want ≡ Message sender rcpts) × (owing.text ≡ []) × (words ≡ texts.go_ahead) × (most ≡ gate.most_bytes)
IsWanted gate owing act = ⊥

-- what follows an answer, where nothing follows an act at which the session stopped
abbrev pub Onward : {Answered Halted : Type 0} → Result Answered Halted → (Answered → Type 0) → List Deed → Type 0
Onward (Ok answer) Later deeds = Later answer
Onward (Err halt) Later deeds = deeds ≡ []

-- Each of these deeds is wanted where this is owed and those before it were done. At the end nothing is owed, unless the
-- session stopped at the last of them.
abbrev pub AreWanted : Gate → Reply → List Deed → Type 0
AreWanted gate owing [] = (owing.want ≡ Nothing) × (owing.text ≡ [])
AreWanted gate owing (deed ∷ deeds) =
    IsWanted gate owing deed.act × Onward deed.outcome (λ answer. AreWanted gate (owing_behind gate owing deed.act answer) deeds) deeds

-- at first the greeting is owed
abbrev pub greeting : Reply
greeting = says texts.ready Waiting

-- ---- the same of messages, said of what stands before and behind each

-- what stands of a message after these deeds
abbrev pub place_after : Gate → Place → List Deed → Place
place_after gate place [] = place
place_after gate place (deed ∷ deeds) = place_after gate (place_then gate place deed.act deed.outcome) deeds

-- a line, or the end, was heard
abbrev pub line_heard : Heard → Deed
line_heard heard = record { act = Hear Lines; outcome = Ok heard }

-- what this line wants after these deeds
abbrev pub wanted_by : Gate → List Deed → Heard → Want
wanted_by gate before heard = (to_heard gate (place_after gate Waiting before) heard).want

-- The last of these deeds is that a line was heard, which wants a message of this sender to these recipients.
pub record IsAsked (gate : Gate) (sender : List ℕ) (rcpts : List (List ℕ)) (before : List Deed) : Type 0 where
  pub earlier : List Deed
  pub heard : Heard
  pub last : before ≡ earlier ++ line_heard heard ∷ []
  pub wants : wanted_by gate earlier heard ≡ Message sender rcpts

-- Each message is asked for right before it is taken in, with the words before its data and as many bytes as the gate lets a
-- body have.
abbrev pub DepositsAreAsked : Gate → List Deed → Type 0
DepositsAreAsked gate deeds =
    (before after : List Deed) (deed : Deed) (sender : List ℕ) (rcpts : List (List ℕ)) (words : List ℕ) (most : ℕ) → deeds ≡ before ++ deed ∷ after → deed.act ≡ Deposit sender rcpts words most
    → IsAsked gate sender rcpts before × (words ≡ texts.go_ahead) × (most ≡ gate.most_bytes)

-- The first of these deeds takes in such a message, or stops at that.
pub record IsTakenIn (gate : Gate) (sender : List ℕ) (rcpts : List (List ℕ)) (after : List Deed) : Type 0 where
  pub deed : Deed
  pub more : List Deed
  pub next : after ≡ deed ∷ more
  pub takes : deed.act ≡ Deposit sender rcpts texts.go_ahead gate.most_bytes

-- Right behind each line that wants a message that is taken in.
abbrev pub AsksAreMet : Gate → List Deed → Type 0
AsksAreMet gate deeds =
    (before after : List Deed) (heard : Heard) (sender : List ℕ) (rcpts : List (List ℕ)) → deeds ≡ before ++ line_heard heard ∷ after → wanted_by gate before heard ≡ Message sender rcpts
    → IsTakenIn gate sender rcpts after
