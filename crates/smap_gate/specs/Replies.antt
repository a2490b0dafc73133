-- What a client is told for what it says and for what becomes of its messages, in the order in which that comes. No row is
-- named here.
use Rattle.std.specs.Prelude.{◌≡◌, ℕ, ◌==◌, Bool, true, false, nat_lt, List, [], ◌∷◌, ◌++◌, length, Option, Result, Ok, Err}
use Rattle.fw_outside.specs.declared.heard.Heard.{Heard}
use Rattle.fw_outside.specs.declared.heard.Heard.TheVariants.{Line, TooLong, Stopped}
use Rattle.fw_types.specs.declared.ending.Ending.{Ending}
use Rattle.session_acts.specs.Acts.{Act, Outcome}
use Rattle.session_acts.specs.Acts.Act.{Deposit, Hear}
use Rattle.session_acts.specs.Deeds.{Deed, deeds_ran, gives}
use Rattle.session_acts.specs.Laws.{told, words_if}
use Rattle.session_acts.specs.Session.{Held, deeds_of}
use Rattle.session_acts.specs.World.{World}
use Rattle.session_acts.specs.declared.deposited.Deposited.{Deposited}
use Rattle.session_acts.specs.declared.deposited.Deposited.TheVariants as ends
use Rattle.session_acts.specs.declared.silence.Silence.{Silence}
use Rattle.smap_gate.specs.Dialogue.{fault_text, smap_row, smap_rows}
use Rattle.smap_gate.specs.Gate.{Gate}
use Rattle.smap_gate.specs.Paths.{path_behind}
use Rattle.smap_gate.specs.Texts as texts
use Rattle.smap_gate.specs.declared.place.Place.{Place}
use Rattle.smap_gate.specs.declared.place.Place.TheVariants.{Waiting, Mailing}
use Rattle.smap_lines.specs.Command.{Command, mail_command_of}
use Rattle.smap_lines.specs.Command.Command.{bare, helo, mail, rcpt}
use Rattle.smap_lines.specs.declared.path.PathFault.{PathFault}
use Rattle.smap_lines.specs.declared.verb.Verb.{Verb}
use Rattle.smap_lines.specs.declared.verb.Verb.TheVariants.{Helo, Mail, Rcpt, Data, Rset, Noop, Quit, Help, NotImplemented, Unknown}

-- what a line wants before it is answered: nothing; memory for a recipient; or that a message of this sender, to these
-- recipients, is taken in; and behind that, that a line is logged
pub data Want : Type 0 where
  Nothing : Want
  Memory : Want
  Message : (sender : List ℕ) (rcpts : List (List ℕ)) → Want
  Logging : (line : List ℕ) → Want

-- what stands of a message behind a line, what the line wants, and what is told then
pub record Reply : Type 0 where
  pub place : Place
  pub want : Want
  pub text : List ℕ

abbrev pub says : List ℕ → Place → Reply
says text place = record { place = place; want = Nothing; text = text }

-- ---- lines

abbrev pub to_helo : (is_bare : Bool) → Place → Reply
to_helo true place = says texts.syntax_error place
to_helo false place = says texts.hello Waiting

abbrev pub to_sender : Result (List ℕ) PathFault → Reply
to_sender (Ok path) = says texts.fine (Mailing path [])
to_sender (Err fault) = says (fault_text fault) Waiting

abbrev pub to_mail : Place → Option (List ℕ) → Reply
to_mail Waiting path_text = to_sender (path_behind true path_text)
to_mail (Mailing sender rcpts) path_text = says texts.bad_sequence (Mailing sender rcpts)

abbrev pub to_recipient : List ℕ → List (List ℕ) → Result (List ℕ) PathFault → Reply
to_recipient sender rcpts (Ok path) = record { place = Mailing sender (rcpts ++ path ∷ []); want = Memory; text = texts.fine }
to_recipient sender rcpts (Err fault) = says (fault_text fault) (Mailing sender rcpts)

abbrev pub to_recipient_if : Bool → List ℕ → List (List ℕ) → Option (List ℕ) → Reply
to_recipient_if true sender rcpts path_text = to_recipient sender rcpts (path_behind false path_text)
to_recipient_if false sender rcpts path_text = says texts.too_many (Mailing sender rcpts)

abbrev pub to_rcpt : Gate → Place → Option (List ℕ) → Reply
to_rcpt gate Waiting path_text = says texts.bad_sequence Waiting
to_rcpt gate (Mailing sender rcpts) path_text = to_recipient_if (nat_lt (length rcpts) gate.most_rcpts) sender rcpts path_text

-- behind the data of a message nothing of it stands
abbrev pub to_data_if : Bool → List ℕ → List (List ℕ) → Reply
to_data_if true sender rcpts = says texts.bad_sequence (Mailing sender rcpts)
to_data_if false sender rcpts = record { place = Waiting; want = Message sender rcpts; text = [] }

abbrev pub to_data : Place → Reply
to_data Waiting = says texts.bad_sequence Waiting
to_data (Mailing sender rcpts) = to_data_if (length rcpts == 0) sender rcpts

abbrev pub to_verb : Place → Verb → Reply
to_verb place Data = to_data place
to_verb place Rset = says texts.fine Waiting
to_verb place Noop = says texts.fine place
to_verb place Quit = says texts.goodbye place
to_verb place Help = says texts.help place
to_verb place NotImplemented = says texts.not_implemented place
to_verb place Unknown = says texts.unknown place
to_verb place Helo = says texts.unknown place
to_verb place Mail = says texts.unknown place
to_verb place Rcpt = says texts.unknown place

abbrev pub to_command : Gate → Place → Command → Reply
to_command gate place (helo rest) = to_helo (length rest == 0) place
to_command gate place (mail path_text) = to_mail place path_text
to_command gate place (rcpt path_text) = to_rcpt gate place path_text
to_command gate place (bare verb) = to_verb place verb

-- nothing is told at the end of what the client says
abbrev pub to_heard : Gate → Place → Heard → Reply
to_heard gate place (Line line) = to_command gate place (mail_command_of line.items)
to_heard gate place TooLong = says texts.unknown place
to_heard gate place (Stopped stop) = says [] place

-- ---- messages

-- what is told at the end of a message's data, or in their place
abbrev pub end_text : Deposited → List ℕ
end_text ends.NoSlot = texts.no_slot
end_text ends.NotBegun = texts.disk_fault
end_text (ends.Kept slot bytes) = texts.kept slot
end_text ends.TooLarge = texts.too_large
end_text ends.Faulted = texts.disk_fault
end_text ends.Ended = []

-- ---- one thing after another

abbrev pub hearing_so : Gate → Place → Result Heard Silence → Reply
hearing_so gate place (Ok heard) = to_heard gate place heard
hearing_so gate place (Err silence) = says [] place

abbrev pub message_text : {Halted : Type 0} → Result (Deposited × List ℕ) Halted → List ℕ
message_text (Ok answer) = words_if answer.0 texts.go_ahead ++ end_text answer.0
message_text (Err halt) = texts.go_ahead

-- what the client is to be told for a deed
abbrev pub due : Gate → Place → (act : Act) → Outcome act → List ℕ
due gate place (Hear form) outcome = (hearing_so gate place outcome).text
due gate place (Deposit sender rcpts words most) outcome = message_text outcome
due gate place act outcome = []

-- what stands of a message behind it
abbrev pub place_then : Gate → Place → (act : Act) → Outcome act → Place
place_then gate place (Hear form) outcome = (hearing_so gate place outcome).place
place_then gate place act outcome = place

-- what the client is to be told for these deeds
abbrev pub all_due : Gate → Place → List Deed → List ℕ
all_due gate place [] = []
all_due gate place (deed ∷ deeds) = due gate place deed.act deed.outcome ++ all_due gate (place_then gate place deed.act deed.outcome) deeds

-- it was told a front of that behind the greeting, and all of it where the dialogue came to its end
pub record ToldInOrder {Origin : Type 0} (gate : Gate) {old new : World Origin} {ending : Ending} (held : Held (smap_rows gate) smap_row old new ending) : Type 0 where
  pub rest : List ℕ
  pub is : texts.ready ++ all_due gate Waiting (deeds_ran held.ran) ≡ gives told (deeds_of held) ++ rest
  pub whole : held.dialogue ≡ Ok tt → rest ≡ []
