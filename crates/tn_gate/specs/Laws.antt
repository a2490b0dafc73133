-- What a session of `tn-gw` comes to.
use Rattle.std.specs.Prelude.{◌≡◌, ℕ, nat_eq, ◌⊎◌, Bool, true, false, List, [], ◌∷◌, ◌++◌, map, None, Ok, codes}
use Rattle.std.specs.List.{starts_with}
use Rattle.auth_events.specs.Login.{is_ok, login_in}
use Rattle.auth_events.specs.declared.reply.Reply.{Reply}
use Rattle.auth_events.specs.declared.reply.Reply.TheVariants as replies
use Rattle.auth_events.specs.declared.request.OpService.TheVariants as services
use Rattle.auth_events.specs.declared.request.Request.{Request}
use Rattle.auth_events.specs.declared.request.Request.TheVariants as requests
use Rattle.fw_outside.specs.declared.ask.Ask.TheVariants.{Main}
use Rattle.fw_outside.specs.declared.heard.Heard.{Heard}
use Rattle.fw_outside.specs.declared.heard.Heard.TheVariants.{Line, TooLong, Stopped}
use Rattle.fw_types.specs.Name.{name_of}
use Rattle.fw_types.specs.declared.dest.Dest.{Dest}
use Rattle.fw_types.specs.declared.ending.Ending.{Ending}
use Rattle.fw_types.specs.declared.host.Host.{Host}
use Rattle.gate_rules.specs.Verdict.{allows}
use Rattle.session_acts.specs.Acts.Act.{Ask, Dial, Hear, Say}
use Rattle.session_acts.specs.Client.{line_logged}
use Rattle.session_acts.specs.Deeds.{Deed, gives}
use Rattle.session_acts.specs.Laws.{called}
use Rattle.session_acts.specs.RelayLast.{StopsBefore}
use Rattle.session_acts.specs.Relayed.{relayed, then_relay}
use Rattle.session_acts.specs.Session.{Held, deeds_of}
use Rattle.session_acts.specs.Talk.{answered, asked}
use Rattle.session_acts.specs.World.{World}
use Rattle.tn_gate.specs.Asked.{asked_for, line_dest}
use Rattle.tn_gate.specs.Dialogue.{heard_form, reason_of, refusing_line, tn_row, tn_rows}
use Rattle.tn_gate.specs.Due.{asks_last, fails, takes_commands, user_asking}
use Rattle.tn_gate.specs.Gate.{Gate, asks_login}
use Rattle.tn_gate.specs.LogLines.{connect_line, fail_line, refuse_line}
use Rattle.tn_gate.specs.Texts.{command_prompt, refusal}

-- ---- each destination that is asked for

abbrev pub EndsWith : Deed → List Deed → Type 0
EndsWith deed before = (earlier : List Deed) × (before ≡ earlier ++ deed ∷ [])

-- a line that asks for a link to the destination was heard last
pub record IsWanted (dest : Dest) (before : List Deed) : Type 0 where
  pub heard : Heard
  pub wants : line_dest heard ≡ dest ∷ []
  pub last : EndsWith (record { act = Hear heard_form; outcome = Ok heard }) before

-- permission to reach the host was asked and given
abbrev pub granted : Host → Deed
granted host = record { act = Ask (requests.Operation services.Telnet host); outcome = Ok replies.Ok }

abbrev pub granted_if : Bool → Host → List Deed
granted_if true host = granted host ∷ []
granted_if false host = []

-- What stands between the line that asks for a destination and that it is asked for: with `-extnd` the permission, and then
-- the connect line, which was logged whole.
abbrev pub clearing : Gate → Dest → List Deed
clearing gate dest = granted_if gate.options.extnd dest.host ++ line_logged (connect_line gate dest) ∷ []

-- A destination may be asked for after these deeds: they end so, and right before that the line was heard that asks for it;
-- the permission line lets it pass; and where that line asks for a login, one stands in what the session has asked and was
-- answered.
pub record IsCleared (gate : Gate) (dest : Dest) (before : List Deed) : Type 0 where
  pub earlier : List Deed
  pub stands : before ≡ earlier ++ clearing gate dest
  pub wanted : IsWanted dest earlier
  pub allowed : allows gate.options dest ≡ true
  pub login : asks_login gate.options ≡ true → login_in (answered (gives asked before)) ≡ true

-- whatever asks for a destination comes where it may
abbrev pub DialsCleared : Gate → List Deed → Type 0
DialsCleared gate deeds =
    (before after : List Deed) (deed : Deed) (dest : Dest) → deeds ≡ before ++ deed ∷ after → called deed.act deed.outcome ≡ Main dest ∷ [] → IsCleared gate dest before

-- ---- each denial

-- the port was asked this last, and answered so
abbrev pub asked_so : Request → Reply → Deed
asked_so request reply = record { act = Ask request; outcome = Ok reply }

-- The permission line's destinations don't let it pass, so that line refuses it.
pub record IsDisallowed (gate : Gate) (dest : Dest) (line : ℕ) (before : List Deed) : Type 0 where
  pub wanted : IsWanted dest before
  pub denied : allows gate.options dest ≡ false
  pub by : line ≡ gate.line

-- Permission to reach the host was asked last, and not given: the line that the answer names refuses it, or else the
-- permission line.
pub record IsUnpermitted (gate : Gate) (dest : Dest) (line : ℕ) (before : List Deed) : Type 0 where
  pub earlier : List Deed
  pub wanted : IsWanted dest earlier
  pub reply : Reply
  pub last : before ≡ earlier ++ asked_so (requests.Operation services.Telnet dest.host) reply ∷ []
  pub denied : is_ok reply ≡ false
  pub by : line ≡ refusing_line gate.line reply

-- The text is the refusal of the destination that is wanted, by the line that refuses it, and the log has that whole.
pub record IsRefusal (gate : Gate) (text : List ℕ) (before : List Deed) : Type 0 where
  pub dest : Dest
  pub line : ℕ
  pub is : text ≡ refusal line ++ command_prompt
  pub earlier : List Deed
  pub logged : before ≡ earlier ++ line_logged (refuse_line gate dest line) ∷ []
  pub cause : IsDisallowed gate dest line earlier ⊎ IsUnpermitted gate dest line earlier

-- What was asked last for a login failed, and the log has whole whose login that was and why it failed.
pub record IsFailure (gate : Gate) (before : List Deed) : Type 0 where
  pub request : Request
  pub reply : Reply
  pub failed : fails request reply ≡ true
  pub earlier : List Deed
  pub logged : before ≡ earlier ++ asked_so request reply ∷ line_logged (fail_line gate (user_asking earlier request) (reason_of reply)) ∷ []

-- a line that is no name, or too long
abbrev pub IsNoName : Heard → Type 0
IsNoName (Line line) = name_of line.items ≡ None
IsNoName TooLong = Unit {0}
IsNoName (Stopped stop) = ⊥

-- such a line was heard where no command is taken and no response was asked for, and nothing asked for it
pub record HeardNoName (gate : Gate) (before : List Deed) : Type 0 where
  pub heard : Heard
  pub is : IsNoName heard
  pub last : EndsWith (record { act = Hear heard_form; outcome = Ok heard }) before
  pub naming : takes_commands gate before ≡ false
  pub unasked : asks_last (answered (gives asked before)) ≡ false

abbrev pub begins : List ℕ → List ℕ → Bool
begins text word = starts_with nat_eq text word

-- What the client is told after these deeds: where that is the refusal of a destination or of a login, the last of them has
-- logged it, whole. A text that is no name is refused without a line in the log.
pub record IsLoggedFirst (gate : Gate) (text : List ℕ) (before : List Deed) : Type 0 where
  pub refused : begins text (codes "Denied") ≡ true → IsRefusal gate text before
  pub failed : begins text (codes "Login denied") ≡ true → IsFailure gate before ⊎ HeardNoName gate before

abbrev pub DenialsLogged : Gate → List Deed → Type 0
DenialsLogged gate deeds =
    (before after : List Deed) (deed : Deed) (text : List ℕ) → deeds ≡ before ++ deed ∷ after → deed.act ≡ Say text → IsLoggedFirst gate text before

-- ---- each connect line

-- right behind the line its destination is dialed
pub record IsDialed (gate : Gate) (line : List ℕ) (after : List Deed) : Type 0 where
  pub dest : Dest
  pub up : Bool
  pub more : List Deed
  pub is : line ≡ connect_line gate dest
  pub dials : after ≡ record { act = Dial dest; outcome = Ok up } ∷ more

-- so it is behind each connect line that the log has whole
abbrev pub LinesDialed : Gate → List Deed → Type 0
LinesDialed gate deeds =
    (before after : List Deed) (line : List ℕ) → deeds ≡ before ++ line_logged line ∷ after → begins line (codes "connect ") ≡ true → IsDialed gate line after

-- ---- all destinations

-- The dialer is asked for the destinations of `asked_for`, in order, and for no other: for all of them, unless the dialogue
-- stopped, and then for a front of them.
pub record AsksExactly {Origin : Type 0} (gate : Gate) {old new : World Origin} {ending : Ending} (held : Held (relayed (tn_rows gate)) (then_relay (tn_row gate)) old new ending) : Type 0 where
  pub rest : List Dest
  pub is : map Main (asked_for gate (deeds_of held)) ≡ gives called (deeds_of held) ++ map Main rest
  pub whole : (rest ≡ []) ⊎ StopsBefore (tn_rows gate) (tn_row gate) held
