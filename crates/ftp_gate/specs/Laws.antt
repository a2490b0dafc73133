-- What a session of `ftp-gw` comes to.
use Rattle.std.specs.Prelude.{◌≡◌, ℕ, ◌≤◌, ◌⊎◌, Bool, true, false, List, [], ◌∷◌, ◌++◌, Option, Some, None, Result, Ok, codes}
use Rattle.std.specs.List.{AllByRecursion}
use Rattle.std.specs.Option.{option_map}
use Rattle.auth_events.specs.Login.{is_ok}
use Rattle.auth_events.specs.declared.reply.Reply.{Reply}
use Rattle.auth_events.specs.declared.reply.Reply.TheVariants as replies
use Rattle.auth_events.specs.declared.request.OpService.TheVariants as services
use Rattle.auth_events.specs.declared.request.Request.{Request}
use Rattle.auth_events.specs.declared.request.Request.TheVariants as requests
use Rattle.fw_types.specs.Name.{name_of}
use Rattle.fw_types.specs.declared.dest.Dest.{Dest}
use Rattle.fw_types.specs.declared.ending.Ending.{Ending}
use Rattle.fw_types.specs.declared.host.Host.{Host}
use Rattle.fw_types.specs.declared.peer.Peer.{Peer}
use Rattle.gate_rules.specs.Verdict.{allows}
use Rattle.md5.specs.Md5.{md5}
use Rattle.otp_md5.specs.Hexadecimal.{read_of}
use Rattle.relay_ways.specs.Carried.{Way}
use Rattle.session_acts.specs.Acts.{Act, Outcome}
use Rattle.session_acts.specs.Acts.Act.{Ask, Copy, Dial, HangUp, Hear, Join, Log, OpenDoor, Part, Pass, Reach, Say, TakeReply}
use Rattle.session_acts.specs.Client.{line_logged}
use Rattle.session_acts.specs.Deeds.{Deed, gives}
use Rattle.session_acts.specs.Laws.{got}
use Rattle.session_acts.specs.Session.{Held, deeds_of}
use Rattle.session_acts.specs.World.{World}
use Rattle.session_acts.specs.declared.joined.Joined.{Joined}
use Rattle.session_acts.specs.declared.replied.Replied.TheVariants.{Whole, Ended}
use Rattle.session_acts.specs.declared.reply_use.ReplyUse.{ReplyUse}
use Rattle.session_acts.specs.declared.reply_use.ReplyUse.TheVariants.{Passed, Dropped, Greeting}
use Rattle.session_acts.specs.declared.target.Target.{Target}
use Rattle.session_acts.specs.declared.target.Target.TheVariants.{Addr, AtDoor}
use Rattle.session_acts.specs.declared.toward.Toward.{Toward}
use Rattle.ftp_gate.specs.Dialogue.{data_port, ftp_row, ftp_rows, goes_on, heard_form, is_done, is_up, reason_of, refusing_line}
use Rattle.ftp_gate.specs.Gate.{Gate, asks_login, has_verb}
use Rattle.ftp_gate.specs.Kind.{kind_of}
use Rattle.ftp_gate.specs.Known.{Known, asked_for, begins, known, passage}
use Rattle.ftp_gate.specs.LogLines.{blocked_line, connect_line, fail_line, refuse_line}
use Rattle.ftp_gate.specs.Order.{Order}
use Rattle.ftp_gate.specs.Texts.{dest_denied, log_in_first, pasv_text, verb_denied}
use Rattle.ftp_gate.specs.User.{user_of}
use Rattle.ftp_gate.specs.declared.kind.Kind.TheVariants as kinds
use Rattle.ftp_gate.specs.declared.kind.Outward.TheVariants.{User, Served}
use Rattle.ftp_gate.specs.declared.kind.Served.TheVariants.{Pasv, Transfer}

-- ---- blocked commands

-- The command was heard last. Its verb isn't denied, and a login stands, if one is asked for before it.
pub record IsUnblocked (gate : Gate) (order : Order) (k : Known) : Type 0 where
  pub heard : k.order ≡ Some order
  pub denied : has_verb gate.options.deny order.verb ≡ false
  pub login : asks_login gate.options order.verb ≡ true → k.login ≡ true

-- ---- each destination that is asked for

-- The command names a user at this destination.
pub record Wants (dest : Dest) (order : Order) : Type 0 where
  pub kind : kind_of order.verb ≡ kinds.Outward User
  pub name : List ℕ
  pub names : user_of order.arg ≡ Some (name, dest)

-- permission to reach the host was asked and given
abbrev pub granted : Host → Deed
granted host = record { act = Ask (requests.Operation services.Ftp host); outcome = Ok replies.Ok }

abbrev pub granted_if : Bool → Host → List Deed
granted_if true host = granted host ∷ []
granted_if false host = []

-- What stands between the command that asks for a destination and that it is asked for: with `-extnd` the permission, and
-- then the connect line, which was logged whole.
abbrev pub clearing : Gate → Dest → List Deed
clearing gate dest = granted_if gate.options.extnd dest.host ++ line_logged (connect_line gate dest) ∷ []

-- The destination may be asked for: the command that was heard last wants it and isn't blocked, no link is up, and the
-- permission line lets it pass. Since the command this was done, and nothing else.
pub record IsCleared (gate : Gate) (dest : Dest) (k : Known) : Type 0 where
  pub order : Order
  pub unblocked : IsUnblocked gate order k
  pub wants : Wants dest order
  pub unlinked : k.dialed ≡ None
  pub allowed : allows gate.options dest ≡ true
  pub since : k.since ≡ clearing gate dest

-- whatever asks for a destination comes where it may
abbrev pub DialsCleared : Gate → List Deed → Type 0
DialsCleared gate deeds =
    (before after : List Deed) (deed : Deed) (dest : Dest) → deeds ≡ before ++ deed ∷ after → deed.act ≡ Dial dest → IsCleared gate dest (known gate before)

-- ---- data links

-- the client's own address, at a port from 1,024 on, or the door
abbrev pub IsOwnTarget : Peer → Target → Type 0
IsOwnTarget peer (Addr addr port) = (peer.addr ≡ Some addr) × (1024 ≤ port)
IsOwnTarget peer AtDoor = Unit {0}

-- a door may be opened for a PASV that was heard last and isn't blocked, where a link is up whose server greeted well
pub record IsOwnDoor (gate : Gate) (k : Known) : Type 0 where
  pub order : Order
  pub unblocked : IsUnblocked gate order k
  pub kind : kind_of order.verb ≡ kinds.Outward (Served Pasv)
  pub main : Dest
  pub link : k.link ≡ Some main
  pub since : k.since ≡ []

-- the server was asked for its data port, and answered so
abbrev pub port_asked : ℕ → Option (List ℕ × ℕ) → List ℕ → List Deed
port_asked code six text =
    record { act = Pass pasv_text; outcome = Ok tt } ∷ record { act = TakeReply Dropped; outcome = Ok (Whole code six, text) } ∷ []

-- Data links may be asked for: the command that was heard last is a transfer that isn't blocked. One is to the host of the
-- server to which a link is up, at the port that it told since, and the other is what was set, which is the client's own.
pub record IsOwnPair (gate : Gate) (dest : Dest) (target : Target) (k : Known) : Type 0 where
  pub order : Order
  pub unblocked : IsUnblocked gate order k
  pub toward : Toward
  pub kind : kind_of order.verb ≡ kinds.Outward (Served (Transfer toward))
  pub main : Dest
  pub link : k.link ≡ Some main
  pub host : dest.host ≡ main.host
  pub code : ℕ
  pub six : Option (List ℕ × ℕ)
  pub text : List ℕ
  pub since : k.since ≡ port_asked code six text
  pub port : data_port code six ≡ Some dest.port
  pub set : k.standing.setting ≡ Some target
  pub own : IsOwnTarget gate.peer target

-- Data may be copied this way: the command that was heard last is a transfer this way that isn't blocked, both data links came
-- up, and the server's reply to it was the last, and says that it transfers.
pub record IsOwnCopy (gate : Gate) (toward : Toward) (k : Known) : Type 0 where
  pub order : Order
  pub unblocked : IsUnblocked gate order k
  pub kind : kind_of order.verb ≡ kinds.Outward (Served (Transfer toward))
  pub joined : k.standing.joined ≡ true
  pub code : ℕ
  pub six : Option (List ℕ × ℕ)
  pub text : List ℕ
  pub earlier : List Deed
  pub since : k.since ≡ earlier ++ record { act = TakeReply Passed; outcome = Ok (Whole code six, text) } ∷ []
  pub starts : goes_on code ≡ true

abbrev pub OpensOwn : Gate → List Deed → Type 0
OpensOwn gate deeds = (before after : List Deed) (deed : Deed) → deeds ≡ before ++ deed ∷ after → deed.act ≡ OpenDoor → IsOwnDoor gate (known gate before)

abbrev pub CopiesOwn : Gate → List Deed → Type 0
CopiesOwn gate deeds =
    (before after : List Deed) (deed : Deed) (toward : Toward) → deeds ≡ before ++ deed ∷ after → deed.act ≡ Copy toward → IsOwnCopy gate toward (known gate before)

abbrev pub JoinsOwn : Gate → List Deed → Type 0
JoinsOwn gate deeds =
    (before after : List Deed) (deed : Deed) (dest : Dest) (target : Target) → deeds ≡ before ++ deed ∷ after → deed.act ≡ Join dest target → IsOwnPair gate dest target (known gate before)

-- ---- what the server is given

-- of the command that was heard last, which isn't blocked, where a link is up whose server greeted well
pub record IsPassable (gate : Gate) (k : Known) : Type 0 where
  pub order : Order
  pub unblocked : IsUnblocked gate order k
  pub main : Dest
  pub link : k.link ≡ Some main

-- the texts that the server is given
abbrev pub given_to_server : (act : Act) → Outcome act → List ℕ
given_to_server (Pass text) outcome = got outcome
given_to_server act outcome = []

-- it may be given this text, which is what is due of the commands so far
pub record IsDuePassage (gate : Gate) (text : List ℕ) (before : List Deed) : Type 0 where
  pub passable : IsPassable gate (known gate before)
  pub due : passage gate before ≡ gives given_to_server before ++ text

abbrev pub PassesUnblocked : Gate → List Deed → Type 0
PassesUnblocked gate deeds =
    (before after : List Deed) (deed : Deed) (text : List ℕ) → deeds ≡ before ++ deed ∷ after → deed.act ≡ Pass text → IsDuePassage gate text before

-- the destinations that the dialer is asked for
abbrev pub main_asked : (act : Act) → Outcome act → List Dest
main_asked (Dial dest) outcome = dest ∷ []
main_asked (Reach dest) outcome = dest ∷ []
main_asked act outcome = []

abbrev pub IsDone : {Done Cause : Type 0} → Result Done Cause → Type 0
IsDone (Ok done) = Unit {0}
IsDone _ = ⊥

-- The server was given what the commands are passed as, in order, and nothing else: all of it, unless the dialogue stopped,
-- and then a front of it.
pub record GivesPassage {Origin : Type 0} (gate : Gate) {old new : World Origin} {ending : Ending} (held : Held (ftp_rows gate) ftp_row old new ending) : Type 0 where
  pub rest : List ℕ
  pub is : passage gate (deeds_of held) ≡ gives given_to_server (deeds_of held) ++ rest
  pub whole : IsDone held.dialogue → rest ≡ []

-- The dialer was asked for the destinations that the commands ask for, in order, and for no other: for all of them, unless the
-- dialogue stopped, and then for a front of them.
pub record AsksExactly {Origin : Type 0} (gate : Gate) {old new : World Origin} {ending : Ending} (held : Held (ftp_rows gate) ftp_row old new ending) : Type 0 where
  pub rest : List Dest
  pub is : asked_for gate (deeds_of held) ≡ gives main_asked (deeds_of held) ++ rest
  pub whole : IsDone held.dialogue → rest ≡ []

-- ---- each denial

abbrev pub EndsWith : Deed → List Deed → Type 0
EndsWith deed deeds = (earlier : List Deed) × (deeds ≡ earlier ++ deed ∷ [])

-- the port was asked this last, and answered so
abbrev pub asked_so : Request → Reply → Deed
asked_so request reply = record { act = Ask request; outcome = Ok reply }

-- the verb of the command that was heard last is denied, and the log has that whole
pub record IsVerbDenied (gate : Gate) (text : List ℕ) (k : Known) : Type 0 where
  pub order : Order
  pub heard : k.order ≡ Some order
  pub denied : has_verb gate.options.deny order.verb ≡ true
  pub is : text ≡ verb_denied gate.line
  pub logged : EndsWith (line_logged (blocked_line gate order.verb)) k.since

-- a login is asked for before that verb, and none stands
pub record IsLoginMissing (gate : Gate) (text : List ℕ) (k : Known) : Type 0 where
  pub order : Order
  pub heard : k.order ≡ Some order
  pub asks : asks_login gate.options order.verb ≡ true
  pub none : k.login ≡ false
  pub is : text ≡ log_in_first gate.line
  pub logged : EndsWith (line_logged (blocked_line gate order.verb)) k.since

-- The permission line's destinations don't let it pass, so that line refuses it.
pub record IsDisallowed (gate : Gate) (dest : Dest) (line : ℕ) : Type 0 where
  pub denied : allows gate.options dest ≡ false
  pub by : line ≡ gate.line

-- Permission to reach the host was asked last, and not given: the line that the answer names refuses it, or else the
-- permission line.
pub record IsUnpermitted (gate : Gate) (dest : Dest) (line : ℕ) (since : List Deed) : Type 0 where
  pub reply : Reply
  pub last : EndsWith (asked_so (requests.Operation services.Ftp dest.host) reply) since
  pub denied : is_ok reply ≡ false
  pub by : line ≡ refusing_line gate.line reply

-- The destination that is wanted is refused by this line, and the log has that whole.
pub record IsRefusal (gate : Gate) (text : List ℕ) (k : Known) : Type 0 where
  pub order : Order
  pub heard : k.order ≡ Some order
  pub dest : Dest
  pub wants : Wants dest order
  pub line : ℕ
  pub is : text ≡ dest_denied line
  pub earlier : List Deed
  pub logged : k.since ≡ earlier ++ line_logged (refuse_line gate dest line) ∷ []
  pub cause : IsDisallowed gate dest line ⊎ IsUnpermitted gate dest line earlier

-- By this answer a login failed: no session was opened, the user wasn't asked for a response, or that was wrong.
abbrev pub fails : Request → Reply → Bool
fails (requests.Open console) (replies.Opened sid) = false
fails (requests.Open console) reply = true
fails (requests.Authenticate name) replies.Password = false
fails (requests.Authenticate name) (replies.Challenge number word_seed) = false
fails (requests.Authenticate name) reply = true
fails (requests.Response hash word) replies.Ok = false
fails (requests.Response hash word) reply = true
fails request reply = false

-- whose login a request is about
abbrev pub IsAbout : Request → List ℕ → Order → Option (List ℕ) → Type 0
IsAbout (requests.Open console) name order user = name_of order.arg ≡ Some name
IsAbout (requests.Authenticate other) name order user = other ≡ name
IsAbout request name order user = user ≡ Some name

-- What was asked last for a login failed, and the log has whole whose login that was and why it failed.
pub record IsFailure (gate : Gate) (k : Known) : Type 0 where
  pub order : Order
  pub heard : k.order ≡ Some order
  pub request : Request
  pub reply : Reply
  pub failed : fails request reply ≡ true
  pub name : List ℕ
  pub about : IsAbout request name order k.user
  pub earlier : List Deed
  pub logged : k.since ≡ earlier ++ asked_so request reply ∷ line_logged (fail_line gate name (reason_of reply)) ∷ []

-- a user is named whom no name can be, and nothing asked for that
pub record IsNoName (k : Known) : Type 0 where
  pub order : Order
  pub heard : k.order ≡ Some order
  pub kind : kind_of order.verb ≡ kinds.Authorize
  pub none : name_of order.arg ≡ None
  pub since : k.since ≡ []

-- What the client is told: where that is a denial, the log was given it right before, whole. A text that is no name is refused
-- without a line in the log.
pub record IsLoggedFirst (gate : Gate) (text : List ℕ) (k : Known) : Type 0 where
  pub verb : begins text (codes "500 Denied") ≡ true → IsVerbDenied gate text k
  pub login : begins text (codes "530 Log in") ≡ true → IsLoginMissing gate text k
  pub dest : begins text (codes "530 Denied") ≡ true → IsRefusal gate text k
  pub failed : begins text (codes "530 Login") ≡ true → IsFailure gate k ⊎ IsNoName k

abbrev pub DenialsLogged : Gate → List Deed → Type 0
DenialsLogged gate deeds =
    (before after : List Deed) (deed : Deed) (text : List ℕ) → deeds ≡ before ++ deed ∷ after → deed.act ≡ Say text → IsLoggedFirst gate text (known gate before)

-- ---- each answer that something failed

-- data links were asked for last, and didn't both come up
pub record IsUnjoined (since : List Deed) : Type 0 where
  pub dest : Dest
  pub target : Target
  pub joined : Joined
  pub missed : is_up joined ≡ false
  pub last : EndsWith (record { act = Join dest target; outcome = Ok joined }) since

-- the server was asked for its data port last, and told none
pub record IsPortless (since : List Deed) : Type 0 where
  pub code : ℕ
  pub six : Option (List ℕ × ℕ)
  pub text : List ℕ
  pub none : data_port code six ≡ None
  pub last : EndsWith (record { act = TakeReply Dropped; outcome = Ok (Whole code six, text) }) since

-- the server's end was heard last
pub record IsClosed (since : List Deed) : Type 0 where
  pub how : ReplyUse
  pub text : List ℕ
  pub last : EndsWith (record { act = TakeReply how; outcome = Ok (Ended, text) }) since

-- data were copied, but not to their end, and since then replies were heard and not passed
pub record IsCutShort (since : List Deed) : Type 0 where
  pub toward : Toward
  pub carried : Option Way
  pub lacks : is_done (option_map (λ way. way.end) carried) ≡ false
  pub earlier : List Deed
  pub drops : List Deed
  pub are_drops : AllByRecursion (λ deed. deed.act ≡ TakeReply Dropped) drops
  pub is : since ≡ earlier ++ record { act = Copy toward; outcome = Ok carried } ∷ drops

-- so it was, and the last of them ends the server's answer
pub record IsEarly (since : List Deed) : Type 0 where
  pub cut : IsCutShort since
  pub code : ℕ
  pub six : Option (List ℕ × ℕ)
  pub text : List ℕ
  pub ends : goes_on code ≡ false
  pub last : EndsWith (record { act = TakeReply Dropped; outcome = Ok (Whole code six, text) }) since

-- What the client is told: where that is that something failed, that was done last.
pub record HasCause (text : List ℕ) (since : List Deed) : Type 0 where
  pub route : begins text (codes "425 No route") ≡ true → (dest : Dest) × EndsWith (record { act = Dial dest; outcome = Ok false }) since
  pub door : begins text (codes "425 No door") ≡ true → EndsWith (record { act = OpenDoor; outcome = Ok None }) since
  pub pair : begins text (codes "425 No data") ≡ true → IsUnjoined since
  pub port : begins text (codes "425 Server") ≡ true → IsPortless since
  pub closed : begins text (codes "421") ≡ true → IsClosed since
  pub early : begins text (codes "426") ≡ true → IsEarly since

abbrev pub FailuresToldOf : Gate → List Deed → Type 0
FailuresToldOf gate deeds =
    (before after : List Deed) (deed : Deed) (text : List ℕ) → deeds ≡ before ++ deed ∷ after → deed.act ≡ Say text → HasCause text (known gate before).since

-- ---- each reply

-- The greeting is heard behind a dial that came up. A reply is heard and not passed where the server was asked for its data port
-- last, or behind a copy that was cut short.
abbrev pub IsDueReply : ReplyUse → List Deed → Type 0
IsDueReply Greeting since = (dest : Dest) × EndsWith (record { act = Dial dest; outcome = Ok true }) since
IsDueReply Dropped since = EndsWith (record { act = Pass pasv_text; outcome = Ok tt }) since ⊎ IsCutShort since
IsDueReply Passed since = Unit {0}

-- ---- each request

-- the command names this user
pub record Names (name : List ℕ) (order : Order) : Type 0 where
  pub kind : kind_of order.verb ≡ kinds.Authorize
  pub is : name_of order.arg ≡ Some name

-- the command gives this response
pub record Responds (hash : List ℕ) (word : Option ℕ) (order : Order) : Type 0 where
  pub kind : kind_of order.verb ≡ kinds.Response
  pub digest : hash ≡ md5 order.arg
  pub read : word ≡ read_of order.arg

-- the command wants a destination at this host, which the permission line lets pass; and the rules on operations decide, too
pub record Reaches (gate : Gate) (host : Host) (order : Order) : Type 0 where
  pub dest : Dest
  pub wants : Wants dest order
  pub is : host ≡ dest.host
  pub allowed : allows gate.options dest ≡ true
  pub extnd : gate.options.extnd ≡ true

-- since the command a session was opened, and nothing else done
pub record WasOpened (since : List Deed) : Type 0 where
  pub sid : ℕ
  pub is : since ≡ asked_so (requests.Open false) (replies.Opened sid) ∷ []

-- The request is asked for this command, and nothing was done since: where a user is named, to open a session, or, at once or
-- behind an opening, who that is; where a response is given, whether it is right, if a user was named before; and where a
-- destination is wanted while no link is up, for permission to reach its host.
abbrev pub IsAskedFor : Gate → Request → Order → Known → Type 0
IsAskedFor gate (requests.Open console) order k = (console ≡ false) × (k.since ≡ []) × (name : List ℕ) × Names name order
IsAskedFor gate (requests.Authenticate name) order k = Names name order × ((k.since ≡ []) ⊎ WasOpened k.since)
IsAskedFor gate (requests.Response hash word) order k = Responds hash word order × (k.since ≡ []) × (name : List ℕ) × (k.user ≡ Some name)
IsAskedFor gate (requests.Operation service host) order k = (service ≡ services.Ftp) × (k.since ≡ []) × (k.dialed ≡ None) × IsUnblocked gate order k × Reaches gate host order
IsAskedFor gate request order k = ⊥

-- the command that was heard last asks for the request; the session may be closed at any time
pub record IsAskedOf (gate : Gate) (request : Request) (k : Known) : Type 0 where
  pub order : Order
  pub heard : k.order ≡ Some order
  pub asks : IsAskedFor gate request order k

abbrev pub IsDueAsk : Gate → Request → Known → Type 0
IsDueAsk gate requests.Close k = Unit {0}
IsDueAsk gate request k = IsAskedOf gate request k

abbrev pub AsksDue : Gate → List Deed → Type 0
AsksDue gate deeds =
    (before after : List Deed) (deed : Deed) (request : Request) → deeds ≡ before ++ deed ∷ after → deed.act ≡ Ask request → IsDueAsk gate request (known gate before)

-- ---- the login

-- asks for a destination, or gives the server something
abbrev pub IsOutward : Act → Type 0
IsOutward (Dial dest) = Unit {0}
IsOutward (Pass text) = Unit {0}
IsOutward act = ⊥

-- a login is asked for before the command that was heard last
pub record NeedsLogin (gate : Gate) (k : Known) : Type 0 where
  pub order : Order
  pub heard : k.order ≡ Some order
  pub asks : asks_login gate.options order.verb ≡ true

-- ---- each act

-- each act is one of these, and what it says and does comes where it may
abbrev pub IsRight : Gate → Known → Act → Type 0
IsRight gate k (Hear form) = form ≡ heard_form
IsRight gate k (Say text) = IsLoggedFirst gate text k × HasCause text k.since
IsRight gate k (Log text) = Unit {0}
IsRight gate k (Ask request) = IsDueAsk gate request k
IsRight gate k (Dial dest) = IsCleared gate dest k
IsRight gate k (Pass text) = IsPassable gate k
IsRight gate k (TakeReply how) = IsDueReply how k.since
IsRight gate k OpenDoor = IsOwnDoor gate k
IsRight gate k (Join dest target) = IsOwnPair gate dest target k
IsRight gate k (Copy toward) = IsOwnCopy gate toward k
IsRight gate k Part = Unit {0}
IsRight gate k HangUp = Unit {0}
IsRight gate k act = ⊥

abbrev pub AreRight : Gate → List Deed → Type 0
AreRight gate deeds = (before after : List Deed) (deed : Deed) → deeds ≡ before ++ deed ∷ after → IsRight gate (known gate before) deed.act
