-- The dialogue of `smap`, row by row.
use Rattle.std.specs.Prelude.{ℕ, ◌==◌, Bool, true, false, nat_lt, List, [], ◌∷◌, ◌++◌, length, Option, Result, Ok, Err}
use Rattle.fw_acts.specs.Acts.{Row, PlaceTable}
use Rattle.fw_acts.specs.Acts.Row.{Do, At, Over}
use Rattle.fw_outside.specs.declared.heard.Heard.{Heard}
use Rattle.fw_outside.specs.declared.heard.Heard.TheVariants.{Line, TooLong, Stopped}
use Rattle.session_acts.specs.Acts.{Act}
use Rattle.session_acts.specs.Acts.Act.{Allot, Deposit, Hear, Log, Say}
use Rattle.session_acts.specs.Met.{acts}
use Rattle.session_acts.specs.declared.deposited.Deposited.{Deposited}
use Rattle.session_acts.specs.declared.deposited.Deposited.TheVariants as ends
use Rattle.session_acts.specs.declared.form.Form.TheVariants.{Lines}
use Rattle.smap_gate.specs.Gate.{Gate}
use Rattle.smap_gate.specs.LogLines.{mail_line}
use Rattle.smap_gate.specs.Paths.{path_behind}
use Rattle.smap_gate.specs.Texts as texts
use Rattle.smap_gate.specs.declared.place.Place.{Place}
use Rattle.smap_gate.specs.declared.place.Place.TheVariants.{Waiting, Mailing}
use Rattle.smap_lines.specs.Command.{Command, mail_command_of}
use Rattle.smap_lines.specs.Command.Command.{bare, helo, mail, rcpt}
use Rattle.smap_lines.specs.declared.path.PathFault.{PathFault}
use Rattle.smap_lines.specs.declared.path.PathFault.TheVariants.{Syntax, NotAllowed}
use Rattle.smap_lines.specs.declared.verb.Verb.{Verb}
use Rattle.smap_lines.specs.declared.verb.Verb.TheVariants.{Helo, Mail, Rcpt, Data, Rset, Noop, Quit, Help, NotImplemented, Unknown}

-- at each place a line of the client is waited for
abbrev pub act_at : Place → Act
act_at place = Hear Lines

-- why a text is no path
abbrev pub fault_text : PathFault → List ℕ
fault_text Syntax = texts.syntax_error
fault_text NotAllowed = texts.not_allowed

module _ {Origin : Type 0} where
  -- words for the client, and then its next line
  abbrev pub tell : List ℕ → Place → Row (acts Origin) Place
  tell text place = Do (Say text) (λ done. At place)

  -- ---- commands

  -- a greeting with a word begins anew
  abbrev pub helo_if : (is_bare : Bool) → Place → Row (acts Origin) Place
  helo_if true place = tell texts.syntax_error place
  helo_if false place = tell texts.hello Waiting

  abbrev pub helo_row : Place → List ℕ → Row (acts Origin) Place
  helo_row place rest = helo_if (length rest == 0) place

  -- a sender, where none stands
  abbrev pub sender_row : Result (List ℕ) PathFault → Row (acts Origin) Place
  sender_row (Ok path) = tell texts.fine (Mailing path [])
  sender_row (Err fault) = tell (fault_text fault) Waiting

  abbrev pub mail_row : Place → Option (List ℕ) → Row (acts Origin) Place
  mail_row Waiting path_text = sender_row (path_behind true path_text)
  mail_row (Mailing sender rcpts) path_text = tell texts.bad_sequence (Mailing sender rcpts)

  -- one recipient more, for which memory is taken
  abbrev pub recipient_row : List ℕ → List (List ℕ) → Result (List ℕ) PathFault → Row (acts Origin) Place
  recipient_row sender rcpts (Ok path) = Do Allot (λ allotted. tell texts.fine (Mailing sender (rcpts ++ path ∷ [])))
  recipient_row sender rcpts (Err fault) = tell (fault_text fault) (Mailing sender rcpts)

  abbrev pub recipient_if : Bool → List ℕ → List (List ℕ) → Option (List ℕ) → Row (acts Origin) Place
  recipient_if true sender rcpts path_text = recipient_row sender rcpts (path_behind false path_text)
  recipient_if false sender rcpts path_text = tell texts.too_many (Mailing sender rcpts)

  -- where a sender stands, and there is room
  abbrev pub rcpt_row : Gate → Place → Option (List ℕ) → Row (acts Origin) Place
  rcpt_row gate Waiting path_text = tell texts.bad_sequence Waiting
  rcpt_row gate (Mailing sender rcpts) path_text = recipient_if (nat_lt (length rcpts) gate.most_rcpts) sender rcpts path_text

  -- ---- a message

  -- a message that is kept is logged, and then told
  abbrev pub kept_row : Gate → (slot rcpts bytes : ℕ) → Row (acts Origin) Place
  kept_row gate slot rcpts bytes = Do (Log (mail_line gate.peer slot rcpts bytes)) (λ logged. tell (texts.kept slot) Waiting)

  -- whatever became of a message, nothing of it stands afterwards
  abbrev pub deposited_row : Gate → (rcpts : ℕ) → Deposited → Row (acts Origin) Place
  deposited_row gate rcpts ends.NoSlot = tell texts.no_slot Waiting
  deposited_row gate rcpts ends.NotBegun = tell texts.disk_fault Waiting
  deposited_row gate rcpts (ends.Kept slot bytes) = kept_row gate slot rcpts bytes
  deposited_row gate rcpts ends.TooLarge = tell texts.too_large Waiting
  deposited_row gate rcpts ends.Faulted = tell texts.disk_fault Waiting
  deposited_row gate rcpts ends.Ended = Over

  -- the data of a message, which needs a recipient
  abbrev pub data_if : Bool → Gate → List ℕ → List (List ℕ) → Row (acts Origin) Place
  data_if true gate sender rcpts = tell texts.bad_sequence (Mailing sender rcpts)
  data_if false gate sender rcpts = Do (Deposit sender rcpts texts.go_ahead gate.most_bytes) (λ answer. deposited_row gate (length rcpts) answer.0)

  abbrev pub data_row : Gate → Place → Row (acts Origin) Place
  data_row gate Waiting = tell texts.bad_sequence Waiting
  data_row gate (Mailing sender rcpts) = data_if (length rcpts == 0) gate sender rcpts

  -- ---- the table

  abbrev pub bare_row : Gate → Place → Verb → Row (acts Origin) Place
  bare_row gate place Data = data_row gate place
  bare_row gate place Rset = tell texts.fine Waiting
  bare_row gate place Noop = tell texts.fine place
  bare_row gate place Quit = Do (Say texts.goodbye) (λ done. Over)
  bare_row gate place Help = tell texts.help place
  bare_row gate place NotImplemented = tell texts.not_implemented place
  bare_row gate place Unknown = tell texts.unknown place
  bare_row gate place Helo = tell texts.unknown place
  bare_row gate place Mail = tell texts.unknown place
  bare_row gate place Rcpt = tell texts.unknown place

  abbrev pub command_row : Gate → Place → Command → Row (acts Origin) Place
  command_row gate place (helo rest) = helo_row place rest
  command_row gate place (mail path_text) = mail_row place path_text
  command_row gate place (rcpt path_text) = rcpt_row gate place path_text
  command_row gate place (bare verb) = bare_row gate place verb

  abbrev pub heard_row : Gate → Place → Heard → Row (acts Origin) Place
  heard_row gate place (Line line) = command_row gate place (mail_command_of line.items)
  heard_row gate place TooLong = tell texts.unknown place
  heard_row gate place (Stopped stop) = Over

  abbrev pub smap_rows : Gate → PlaceTable (acts Origin) Place
  smap_rows gate = record { act = act_at; go = heard_row gate }

  -- the client is greeted first
  abbrev pub smap_row : Row (acts Origin) Place
  smap_row = tell texts.ready Waiting
