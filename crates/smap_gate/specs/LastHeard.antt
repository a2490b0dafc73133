-- With which deed a dialogue ends. No place and no row is named here.
use Rattle.std.specs.Prelude.{◌≡◌, ℕ, Bool, true, false, List, [], ◌∷◌, ◌++◌, Result, Ok, Err}
use Rattle.fw_outside.specs.declared.heard.Heard.{Heard}
use Rattle.fw_outside.specs.declared.heard.Heard.TheVariants.{Line, TooLong, Stopped}
use Rattle.session_acts.specs.Acts.{Act, Outcome}
use Rattle.session_acts.specs.Acts.Act.{Deposit, Hear}
use Rattle.session_acts.specs.Deeds.{Deed, gives}
use Rattle.session_acts.specs.Hearing.{heard_in}
use Rattle.session_acts.specs.declared.deposited.Deposited.{Deposited}
use Rattle.session_acts.specs.declared.deposited.Deposited.TheVariants as ends
use Rattle.smap_lines.specs.Command.{Command, mail_command_of}
use Rattle.smap_lines.specs.Command.Command.{bare, helo, mail, rcpt}
use Rattle.smap_lines.specs.declared.verb.Verb.{Verb}
use Rattle.smap_lines.specs.declared.verb.Verb.TheVariants.{Helo, Mail, Rcpt, Data, Rset, Noop, Quit, Help, NotImplemented, Unknown}

abbrev pub is_quit_verb : Verb → Bool
is_quit_verb Quit = true
is_quit_verb Helo = false
is_quit_verb Mail = false
is_quit_verb Rcpt = false
is_quit_verb Data = false
is_quit_verb Rset = false
is_quit_verb Noop = false
is_quit_verb Help = false
is_quit_verb NotImplemented = false
is_quit_verb Unknown = false

abbrev pub is_quit : Command → Bool
is_quit (helo rest) = false
is_quit (mail path_text) = false
is_quit (rcpt path_text) = false
is_quit (bare verb) = is_quit_verb verb

-- QUIT, or the end of what the client says
abbrev pub is_last_heard : Heard → Bool
is_last_heard (Line line) = is_quit (mail_command_of line.items)
is_last_heard TooLong = false
is_last_heard (Stopped stop) = true

-- its data came to no end
abbrev pub is_ended : Deposited → Bool
is_ended ends.NoSlot = false
is_ended ends.NotBegun = false
is_ended (ends.Kept slot bytes) = false
is_ended ends.TooLarge = false
is_ended ends.Faulted = false
is_ended ends.Ended = true

abbrev pub ends_hearing : {Halted : Type 0} → Result Heard Halted → Bool
ends_hearing (Ok heard) = is_last_heard heard
ends_hearing (Err halt) = false

abbrev pub ends_depositing : {Halted : Type 0} → Result (Deposited × List ℕ) Halted → Bool
ends_depositing (Ok answer) = is_ended answer.0
ends_depositing (Err halt) = false

-- Whether the dialogue ends with this deed: QUIT was heard, or the client's end, in place of a line or within a message's data.
abbrev pub ends_dialogue : (act : Act) → Outcome act → Bool
ends_dialogue (Hear form) outcome = ends_hearing outcome
ends_dialogue (Deposit sender rcpts words most) outcome = ends_depositing outcome
ends_dialogue act outcome = false

-- Behind a deed with which the dialogue ends nothing is heard of the client.
abbrev pub EndsThere : List Deed → Type 0
EndsThere deeds = (before after : List Deed) (deed : Deed) → deeds ≡ before ++ deed ∷ after → ends_dialogue deed.act deed.outcome ≡ true → gives heard_in after ≡ []

-- the dialogue ends with one of these deeds
pub record HasEnd (talk : List Deed) : Type 0 where
  pub before : List Deed
  pub deed : Deed
  pub after : List Deed
  pub is : talk ≡ before ++ deed ∷ after
  pub ends : ends_dialogue deed.act deed.outcome ≡ true
