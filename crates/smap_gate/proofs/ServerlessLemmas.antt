-- The rows speak with no server.
use Rattle.std.proofs.Common.{refl, ℕ, ◌==◌, Bool, true, false, nat_lt, List, length, Option, Result, Ok, Err}
use Rattle.fw_acts.specs.Acts.{Row}
use Rattle.fw_acts.specs.Histories.{Keeps, Leaves, Watch}
use Rattle.fw_outside.specs.declared.heard.Heard.{Heard}
use Rattle.fw_outside.specs.declared.heard.Heard.TheVariants.{Line, TooLong, Stopped}
use Rattle.session_acts.specs.Met.{acts}
use Rattle.session_acts.specs.Serverless.{KeepsServerless, serverless_watch}
use Rattle.session_acts.specs.declared.deposited.Deposited.{Deposited}
use Rattle.session_acts.specs.declared.deposited.Deposited.TheVariants as ends
use Rattle.smap_gate.specs.Dialogue.{bare_row, command_row, data_if, data_row, deposited_row, heard_row, helo_if, mail_row, rcpt_row, recipient_if, recipient_row, sender_row, smap_row, smap_rows}
use Rattle.smap_gate.specs.Gate.{Gate}
use Rattle.smap_gate.specs.Paths.{path_behind}
use Rattle.smap_gate.specs.declared.place.Place.{Place}
use Rattle.smap_gate.specs.declared.place.Place.TheVariants.{Waiting, Mailing}
use Rattle.smap_lines.specs.Command.{Command, mail_command_of}
use Rattle.smap_lines.specs.Command.Command.{bare, helo, mail, rcpt}
use Rattle.smap_lines.specs.declared.path.PathFault.{PathFault}
use Rattle.smap_lines.specs.declared.verb.Verb.{Verb}
use Rattle.smap_lines.specs.declared.verb.Verb.TheVariants as verbs

module _ (Origin : Type 0) (gate : Gate) where
  abbrev watch : Watch (acts Origin) Place
  watch = serverless_watch Origin Place

  abbrev Alone : Row (acts Origin) Place → Type 0
  Alone row = Leaves watch row tt

  helo_alone : (is_bare : Bool) (place : Place) → Alone (helo_if is_bare place)
  helo_alone true place = (refl, λ done. tt)
  helo_alone false place = (refl, λ done. tt)

  sender_alone : (path : Result (List ℕ) PathFault) → Alone (sender_row path)
  sender_alone (Ok path) = (refl, λ done. tt)
  sender_alone (Err fault) = (refl, λ done. tt)

  mail_alone : (place : Place) (path_text : Option (List ℕ)) → Alone (mail_row place path_text)
  mail_alone Waiting path_text = sender_alone (path_behind true path_text)
  mail_alone (Mailing sender rcpts) path_text = (refl, λ done. tt)

  recipient_alone : (sender : List ℕ) (rcpts : List (List ℕ)) (path : Result (List ℕ) PathFault) → Alone (recipient_row sender rcpts path)
  recipient_alone sender rcpts (Ok path) = (refl, λ allotted. (refl, λ done. tt))
  recipient_alone sender rcpts (Err fault) = (refl, λ done. tt)

  recipient_if_alone : (room : Bool) (sender : List ℕ) (rcpts : List (List ℕ)) (path_text : Option (List ℕ)) → Alone (recipient_if room sender rcpts path_text)
  recipient_if_alone true sender rcpts path_text = recipient_alone sender rcpts (path_behind false path_text)
  recipient_if_alone false sender rcpts path_text = (refl, λ done. tt)

  rcpt_alone : (place : Place) (path_text : Option (List ℕ)) → Alone (rcpt_row gate place path_text)
  rcpt_alone Waiting path_text = (refl, λ done. tt)
  rcpt_alone (Mailing sender rcpts) path_text = recipient_if_alone (nat_lt (length rcpts) gate.most_rcpts) sender rcpts path_text

  deposited_alone : (rcpts : ℕ) (deposited : Deposited) → Alone (deposited_row gate rcpts deposited)
  deposited_alone rcpts ends.NoSlot = (refl, λ done. tt)
  deposited_alone rcpts ends.NotBegun = (refl, λ done. tt)
  deposited_alone rcpts (ends.Kept slot bytes) = (refl, λ logged. (refl, λ done. tt))
  deposited_alone rcpts ends.TooLarge = (refl, λ done. tt)
  deposited_alone rcpts ends.Faulted = (refl, λ done. tt)
  deposited_alone rcpts ends.Ended = tt

  data_if_alone : (none : Bool) (sender : List ℕ) (rcpts : List (List ℕ)) → Alone (data_if none gate sender rcpts)
  data_if_alone true sender rcpts = (refl, λ done. tt)
  data_if_alone false sender rcpts = (refl, λ answer. deposited_alone (length rcpts) answer.0)

  data_alone : (place : Place) → Alone (data_row gate place)
  data_alone Waiting = (refl, λ done. tt)
  data_alone (Mailing sender rcpts) = data_if_alone (length rcpts == 0) sender rcpts

  verb_alone : (place : Place) (verb : Verb) → Alone (bare_row gate place verb)
  verb_alone place verbs.Data = data_alone place
  verb_alone place verbs.Rset = (refl, λ done. tt)
  verb_alone place verbs.Noop = (refl, λ done. tt)
  verb_alone place verbs.Quit = (refl, λ done. tt)
  verb_alone place verbs.Help = (refl, λ done. tt)
  verb_alone place verbs.NotImplemented = (refl, λ done. tt)
  verb_alone place verbs.Unknown = (refl, λ done. tt)
  verb_alone place verbs.Helo = (refl, λ done. tt)
  verb_alone place verbs.Mail = (refl, λ done. tt)
  verb_alone place verbs.Rcpt = (refl, λ done. tt)

  command_alone : (place : Place) (command : Command) → Alone (command_row gate place command)
  command_alone place (helo rest) = helo_alone (length rest == 0) place
  command_alone place (mail path_text) = mail_alone place path_text
  command_alone place (rcpt path_text) = rcpt_alone place path_text
  command_alone place (bare verb) = verb_alone place verb

  heard_alone : (place : Place) (heard : Heard) → Alone (heard_row gate place heard)
  heard_alone place (Line line) = command_alone place (mail_command_of line.items)
  heard_alone place TooLong = (refl, λ done. tt)
  heard_alone place (Stopped stop) = tt

  rows_alone : Keeps (smap_rows gate) watch
  rows_alone place noted holds = (refl, λ heard. heard_alone place heard)

  pub keeps_serverless : KeepsServerless {Origin = Origin} (smap_rows gate) smap_row
  keeps_serverless = record { begins = (refl, λ done. tt); goes_on = rows_alone }
