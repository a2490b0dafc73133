-- With which deed the dialogue ends. No place and no row is named here.
use Rattle.std.specs.Prelude.{◌≡◌, ℕ, Bool, true, false, ◌&&◌, not, List, [], ◌∷◌, ◌++◌, Option, Some, None, Result, Ok, Err, codes}
use Rattle.std.specs.List.{AllByRecursion}
use Rattle.auth_events.specs.declared.request.Request.TheVariants.{Close}
use Rattle.fw_outside.specs.declared.heard.Heard.{Heard}
use Rattle.fw_outside.specs.declared.heard.Heard.TheVariants.{Line, TooLong, Stopped}
use Rattle.session_acts.specs.Acts.{Act, Outcome}
use Rattle.session_acts.specs.Acts.Act.{Ask, HangUp, Hear, Say, TakeReply}
use Rattle.session_acts.specs.Deeds.{Deed}
use Rattle.session_acts.specs.Hearing.{heard_by}
use Rattle.session_acts.specs.declared.replied.Replied.{Replied}
use Rattle.session_acts.specs.declared.replied.Replied.TheVariants.{Whole, Ended}
use Rattle.session_acts.specs.declared.reply_use.ReplyUse.TheVariants.{Passed, Dropped, Greeting}
use Rattle.ftp_gate.specs.Dialogue.{goes_on}
use Rattle.ftp_gate.specs.Gate.{Gate}
use Rattle.ftp_gate.specs.Kind.{kind_of}
use Rattle.ftp_gate.specs.Known.{begins, known}
use Rattle.ftp_gate.specs.Order.{Order}
use Rattle.ftp_gate.specs.Texts.{server_closed}
use Rattle.ftp_gate.specs.declared.kind.Kind.{Kind}
use Rattle.ftp_gate.specs.declared.kind.Kind.TheVariants as kinds
use Rattle.ftp_gate.specs.declared.kind.Outward.TheVariants.{Served}
use Rattle.ftp_gate.specs.declared.kind.Served.TheVariants.{Quit}

abbrev pub is_quit_kind : Kind → Bool
is_quit_kind (kinds.Outward (Served Quit)) = true
is_quit_kind kind = false

-- the command is QUIT
abbrev pub is_quit_order : Option Order → Bool
is_quit_order None = false
is_quit_order (Some order) = is_quit_kind (kind_of order.verb)

-- the end of what the client says
abbrev pub is_end : Heard → Bool
is_end (Stopped stop) = true
is_end heard = false

-- the end of what the server says
abbrev pub is_servers_end : {Halted : Type 0} → Result (Replied × List ℕ) Halted → Bool
is_servers_end (Ok (Ended, text)) = true
is_servers_end outcome = false

-- that, or the last reply to QUIT
abbrev pub is_last_reply : {Halted : Type 0} → Option Order → Result (Replied × List ℕ) Halted → Bool
is_last_reply order (Ok (Ended, text)) = true
is_last_reply order (Ok (Whole code six, text)) = is_quit_order order && not (goes_on code)
is_last_reply order (Err halt) = false

-- Whether the dialogue ends with this deed, where this command was heard last: the client or the server came to its end, the
-- server's last reply to QUIT was passed, or the client was told goodbye.
abbrev pub ends_dialogue : Option Order → (act : Act) → Outcome act → Bool
ends_dialogue order (Hear form) outcome = is_end (heard_by outcome)
ends_dialogue order (TakeReply Passed) outcome = is_last_reply order outcome
ends_dialogue order (TakeReply Dropped) outcome = is_servers_end outcome
ends_dialogue order (TakeReply Greeting) outcome = is_servers_end outcome
ends_dialogue order (Say text) outcome = begins text (codes "221 Goodbye")
ends_dialogue order act outcome = false

-- What may still come then: the client is told that the server closed, the link is hung up, the session at the port closed.
abbrev pub IsLast : Act → Type 0
IsLast (Say text) = text ≡ server_closed
IsLast HangUp = Unit {0}
IsLast (Ask request) = request ≡ Close
IsLast act = ⊥

-- behind a deed with which the dialogue ends nothing else is done
abbrev pub EndsThere : Gate → List Deed → Type 0
EndsThere gate deeds =
    (before after : List Deed) (deed : Deed) → deeds ≡ before ++ deed ∷ after → ends_dialogue (known gate before).order deed.act deed.outcome ≡ true → AllByRecursion (λ later. IsLast later.act) after

-- the dialogue ends with one of these deeds
pub record HasEnd (gate : Gate) (talk : List Deed) : Type 0 where
  pub before : List Deed
  pub deed : Deed
  pub after : List Deed
  pub is : talk ≡ before ++ deed ∷ after
  pub ends : ends_dialogue (known gate before).order deed.act deed.outcome ≡ true
