-- The rows take nothing of a server and give it nothing.
use Rattle.std.proofs.Common.{refl, ℕ, Bool, true, false, List, [], Option, Some, None}
use Rattle.auth_events.specs.declared.denial.Denial.{Denial}
use Rattle.auth_events.specs.declared.reply.Reply.{Reply}
use Rattle.auth_events.specs.declared.reply.Reply.TheVariants as replies
use Rattle.fw_acts.specs.Acts.{Row}
use Rattle.fw_acts.specs.Acts.Row.{Do}
use Rattle.fw_acts.specs.Histories.{Keeps, Leaves}
use Rattle.fw_outside.specs.declared.heard.Heard.{Heard}
use Rattle.fw_outside.specs.declared.heard.Heard.TheVariants.{Line, TooLong, Stopped}
use Rattle.fw_types.specs.Name.{name_of}
use Rattle.fw_types.specs.declared.dest.Dest.{Dest}
use Rattle.gate_rules.specs.Verdict.{allows}
use Rattle.session_acts.specs.Acts.Act.{Log}
use Rattle.session_acts.specs.Met.{acts}
use Rattle.session_acts.specs.RelayFronts.{KeepsQuiet, quiet_watch}
use Rattle.session_acts.proofs.QuietLemmas.{logged_quiet}
use Rattle.tn_gate.specs.Command.{command_of}
use Rattle.tn_gate.specs.Dialogue.{answered_row, answering_row, command_row, commanding_row, connect_row, dest_row, dialed_row, failed_row, first_by, name_row, named_row, naming_row, opened_row, operated_row, permitted_row, reason_of, refuse_row, refusing_line, respond_row, response_row, row_at, tn_row, tn_rows}
use Rattle.tn_gate.specs.Gate.{Gate, asks_login}
use Rattle.tn_gate.specs.declared.command.Command.{Command}
use Rattle.tn_gate.specs.declared.command.Command.TheVariants.{Nothing, Connect, Quit, Help, Unknown}
use Rattle.tn_gate.specs.declared.place.Place.{Place}
use Rattle.tn_gate.specs.declared.place.Place.TheVariants.{Naming, Answering, Commanding}

module _ (Origin : Type 0) (gate : Gate) where
  abbrev Quiet : Row (acts Origin) Place → Type 0
  Quiet row = Leaves (quiet_watch Origin Place) row tt

  -- ---- the login

  failed : (name : List ℕ) (denial : Denial) (is_open : Bool) → Quiet (failed_row gate name denial is_open)
  failed name denial is_open = (refl, λ logged. (refl, λ done. tt))

  named : (name : List ℕ) (reply : Reply) → Quiet (named_row gate name reply)
  named name replies.Password = (refl, λ done. tt)
  named name (replies.Challenge number word_seed) = (refl, λ done. tt)
  named name (replies.Opened sid) = failed name (reason_of (replies.Opened sid)) true
  named name replies.Ok = failed name (reason_of replies.Ok) true
  named name (replies.Shown summary) = failed name (reason_of (replies.Shown summary)) true
  named name (replies.Denied denial) = failed name denial true

  opened : (name : List ℕ) (reply : Reply) → Quiet (opened_row gate name reply)
  opened name (replies.Opened sid) = (refl, named name)
  opened name replies.Password = failed name (reason_of replies.Password) false
  opened name (replies.Challenge number word_seed) = failed name (reason_of (replies.Challenge number word_seed)) false
  opened name replies.Ok = failed name (reason_of replies.Ok) false
  opened name (replies.Shown summary) = failed name (reason_of (replies.Shown summary)) false
  opened name (replies.Denied denial) = failed name denial false

  naming_so : (is_open : Bool) (name : Option (List ℕ)) → Quiet (name_row gate is_open name)
  naming_so is_open None = (refl, λ done. tt)
  naming_so true (Some name) = (refl, named name)
  naming_so false (Some name) = (refl, opened name)

  naming : (is_open : Bool) (heard : Heard) → Quiet (naming_row gate is_open heard)
  naming is_open (Line line) = naming_so is_open (name_of line.items)
  naming is_open TooLong = naming_so is_open None
  naming is_open (Stopped stop) = tt

  answered : (name : List ℕ) (reply : Reply) → Quiet (answered_row gate name reply)
  answered name replies.Ok = (refl, λ logged. (refl, λ done. tt))
  answered name replies.Password = failed name (reason_of replies.Password) true
  answered name (replies.Challenge number word_seed) = failed name (reason_of (replies.Challenge number word_seed)) true
  answered name (replies.Opened sid) = failed name (reason_of (replies.Opened sid)) true
  answered name (replies.Shown summary) = failed name (reason_of (replies.Shown summary)) true
  answered name (replies.Denied denial) = failed name denial true

  responding : (name : List ℕ) (hidden : Bool) (text : List ℕ) → Quiet (response_row gate name hidden text)
  responding name true text = (refl, λ done. (refl, answered name))
  responding name false text = (refl, answered name)

  answering : (name : List ℕ) (hidden : Bool) (heard : Heard) → Quiet (answering_row gate name hidden heard)
  answering name hidden (Line line) = responding name hidden line.items
  answering name hidden TooLong = responding name hidden []
  answering name hidden (Stopped stop) = tt

  -- ---- commands

  dialed : (up : Bool) → Quiet (dialed_row up)
  dialed true = (refl, λ done. tt)
  dialed false = (refl, λ done. tt)

  connecting : (dest : Dest) → Quiet (connect_row gate dest)
  connecting dest = (refl, λ logged. (refl, dialed))

  refusing : (dest : Dest) (line : ℕ) → Quiet (refuse_row gate dest line)
  refusing dest line = (refl, λ logged. (refl, λ done. tt))

  operated : (dest : Dest) (reply : Reply) → Quiet (operated_row gate dest reply)
  operated dest replies.Ok = connecting dest
  operated dest replies.Password = refusing dest (refusing_line gate.line replies.Password)
  operated dest (replies.Challenge number word_seed) = refusing dest (refusing_line gate.line (replies.Challenge number word_seed))
  operated dest (replies.Opened sid) = refusing dest (refusing_line gate.line (replies.Opened sid))
  operated dest (replies.Shown summary) = refusing dest (refusing_line gate.line (replies.Shown summary))
  operated dest (replies.Denied denial) = refusing dest (refusing_line gate.line (replies.Denied denial))

  permitted : (extnd : Bool) (dest : Dest) → Quiet (permitted_row extnd gate dest)
  permitted true dest = (refl, operated dest)
  permitted false dest = connecting dest

  allowed : (allows : Bool) (dest : Dest) → Quiet (dest_row allows gate dest)
  allowed true dest = permitted gate.options.extnd dest
  allowed false dest = refusing dest gate.line

  commanded : (command : Command) → Quiet (command_row gate command)
  commanded Nothing = (refl, λ done. tt)
  commanded (Connect dest) = allowed (allows gate.options dest) dest
  commanded Quit = (refl, λ done. tt)
  commanded Help = (refl, λ done. tt)
  commanded Unknown = (refl, λ done. tt)

  commanding : (heard : Heard) → Quiet (commanding_row gate heard)
  commanding (Line line) = commanded (command_of line.items)
  commanding TooLong = commanded Unknown
  commanding (Stopped stop) = tt

  -- ---- the table

  at_place : (place : Place) (heard : Heard) → Quiet (row_at gate place heard)
  at_place (Naming is_open) heard = naming is_open heard
  at_place (Answering name hidden) heard = answering name hidden heard
  at_place Commanding heard = commanding heard

  first_so : (login : Bool) → Quiet (first_by login)
  first_so true = (refl, λ done. tt)
  first_so false = (refl, λ done. tt)

pub tn_keeps_quiet : {Origin : Type 0} (gate : Gate) → KeepsQuiet {Origin = Origin} (tn_rows gate) (tn_row gate)
tn_keeps_quiet {Origin} gate = record { begins = first_so Origin gate (asks_login gate.options); goes_on = λ place noted holds. (refl, at_place Origin gate place) }

-- also behind a line that is logged first
pub tn_logged_quiet : {Origin : Type 0} (line : List ℕ) (gate : Gate) → KeepsQuiet {Origin = Origin} (tn_rows gate) (Do (Log line) (λ done. tn_row gate))
tn_logged_quiet line gate = logged_quiet line (tn_keeps_quiet gate)
