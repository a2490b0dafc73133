-- A client of `ftp-gw`: what it is told, for which destinations the dialer is asked, and what the servers are given.
use Rattle.std.specs.Prelude.{◌≡◌, ℕ, false, List, [], ◌∷◌, ◌++◌, None, Err}
use Rattle.auth_events.specs.Login.{login_in}
use Rattle.auth_events.specs.declared.entry.Entry.{Entry}
use Rattle.fw_acts.specs.Acts.{Row, PlaceTable}
use Rattle.ftp_gate.specs.Breaks.{CopiesCarry, CountsBreaks}
use Rattle.ftp_gate.specs.Copied.{CopiesMarked}
use Rattle.ftp_gate.specs.Dialogue.{ftp_row, ftp_rows}
use Rattle.ftp_gate.specs.Due.{DoesWhatIsDue}
use Rattle.ftp_gate.specs.Ends.{EndsThere, HasEnd}
use Rattle.ftp_gate.specs.Gate.{Gate, gate_at}
use Rattle.ftp_gate.specs.Known.{known}
use Rattle.ftp_gate.specs.Laws.{AreRight, AsksDue, AsksExactly, CopiesOwn, DenialsLogged, DialsCleared, FailuresToldOf, GivesPassage, IsDone, IsOutward, JoinsOwn, NeedsLogin, OpensOwn, PassesUnblocked}
use Rattle.ftp_gate.specs.Refusals.{CountsTold, JoinsAsked}
use Rattle.ftp_gate.specs.declared.place.Place.{Place}
use Rattle.fw_types.specs.declared.ending.Ending.{Ending}
use Rattle.fw_types.specs.declared.ending.Ending.TheVariants.{Done}
use Rattle.fw_types.specs.declared.peer.Peer.{Peer}
use Rattle.gate_rules.specs.declared.service.Service.TheVariants as services
use Rattle.session_acts.specs.Deeds.{Deed, deeds_ran, gives}
use Rattle.session_acts.specs.Hearing.{TakesHeard, heard_in}
use Rattle.session_acts.specs.LastStop.{StopsLast}
use Rattle.session_acts.specs.Laws.{CountsBroken, CountsRefusals, LinksDialer, broken_off, linked, refused}
use Rattle.session_acts.specs.Met.{acts}
use Rattle.session_acts.specs.Once.{OpensOnce}
use Rattle.session_acts.specs.OwnLogin.{LoginStandsIn, number_opened}
use Rattle.session_acts.specs.Passing.{GivesServers, passed_over}
use Rattle.session_acts.specs.ServersHeard.{HearsServers, heard_over}
use Rattle.session_acts.specs.Session.{Held, deeds_of}
use Rattle.session_acts.specs.Talk.{Entered, answered, asked}
use Rattle.session_acts.specs.World.{World}
use Rattle.session_acts.specs.declared.cause.Cause.{Cause}
use Rattle.bastion.specs.Answering.{port_of}
use Rattle.bastion.specs.AtGateway.{OfGateway}
use Rattle.bastion.specs.Basis.{Course}
use Rattle.bastion.specs.Inputs.{Inputs}
use Rattle.bastion.specs.WorldView.{WorldView}
use Rattle.bastion.specs.declared.words.Authorities.{Authorities}
use Rattle.bastion.specs.declared.words.Command.TheVariants.{Gateway}
use Rattle.bastion.specs.declared.words.GatewayKind.TheVariants as kinds

-- the rows of its session, by the line that permits it
abbrev pub serving_rows : {Origin : Type 0} → Inputs → Peer → ℕ → PlaceTable (acts Origin) Place
serving_rows inputs peer line = ftp_rows (gate_at inputs.rules line peer)

abbrev pub serving_row : {Origin : Type 0} → Inputs → Peer → ℕ → Row (acts Origin) Place
serving_row inputs peer line = ftp_row

-- whether a login is known to stand is what the requests and their answers tell
abbrev pub LoginsTold : Gate → Type 0
LoginsTold gate = (deeds : List Deed) → (known gate deeds).login ≡ login_in (answered (gives asked deeds))

-- Where a login is asked for before the command that was heard last, whatever asks for a destination or gives the server something
-- comes after one: what the session had asked by then is a front of the history, and in that a login stands for the number that
-- this session's opening was given.
abbrev pub LoginsStand : Gate → List Deed → List Entry → Type 0
LoginsStand gate deeds history =
    (before after : List Deed) (deed : Deed) → deeds ≡ before ++ deed ∷ after → IsOutward deed.act → NeedsLogin gate (known gate before) → LoginStandsIn (number_opened (gives asked deeds)) (gives asked before) history

-- What holds of a session of the gateway over a port that has seen this history. It goes by the lines that it heard of the client, which
-- are what it took of the client. The destinations that it asked for are those that the client's commands ask for: all of them in
-- a session that is done, else up to where the dialogue stopped. Each was asked for right behind its connect line, which the log
-- has whole, and behind the permission for its host with `-extnd`; the permission line allows it; the verb isn't denied, and where
-- a login is asked for before it, one of this session stands in the history. The server was given what the commands are passed as,
-- in order, and nothing else: all of it in a session that is done, else a front of it; so no command that is blocked. Data links
-- were asked for at the host of the server that is linked, and at the client's own address or at a door; doors were opened, and
-- data copied, for commands that were passed. What the gateway told as a denial, the log was given right before, whole. Behind
-- each deed came what was due, and no line, destination, request, reply or copy that wasn't. Where the gateway told of a
-- failure, that was so. After openings in vain a session was opened at most once, and closed once, as the last.
pub record IsUpheld {Origin : Type 0} (gate : Gate) (history : List Entry) {old new : World Origin} {ending : Ending} (held : Held (ftp_rows gate) ftp_row old new ending) : Type 0 where
  pub lines : TakesHeard (gives heard_in (deeds_of held)) old.client new.client
  pub exactly : AsksExactly gate held
  pub all : ending ≡ Done → exactly.rest ≡ []
  pub cleared : DialsCleared gate (deeds_of held)
  pub passage : GivesPassage gate held
  pub passed : ending ≡ Done → passage.rest ≡ []
  pub unblocked : PassesUnblocked gate (deeds_of held)
  pub joins : JoinsOwn gate (deeds_of held)
  -- whenever they were wanted, the one to the server at least
  pub asked_for : JoinsAsked (deeds_of held)
  pub denials : DenialsLogged gate (deeds_of held)
  pub requests : AsksDue gate (deeds_of held)
  pub logins : LoginsStand gate (deeds_of held) history
  pub known_by : LoginsTold gate
  pub doors : OpensOwn gate (deeds_of held)
  pub copies : CopiesOwn gate (deeds_of held)
  -- at each copy both data links are still up
  pub carries : CopiesCarry (deeds_of held)
  -- and each goes between the link that was asked for as a data link to a server and the one that was asked for as the client's
  pub between : CopiesMarked (deeds_of held) old new
  pub due : DoesWhatIsDue gate (deeds_of held)
  pub causes : FailuresToldOf gate (deeds_of held)
  pub acts : AreRight gate (deeds_of held)
  pub opened : OpensOnce (gives asked (deeds_of held))
  -- behind the end of either side, the goodbye and the last reply to QUIT at most the server's close is told, a link hung up and a
  -- session closed; and a dialogue that comes to its end ends with one of these
  pub ends : EndsThere gate (deeds_of held)
  pub ended : IsDone held.dialogue → HasEnd gate (deeds_ran held.ran)
  -- each request was asked for the session that was open, at a moment of the clock
  pub entered : Entered (gives asked (deeds_of held)) old.office new.office
  -- what each server was given over its link is what was passed over it, and what was taken of it is what was heard of it: the
  -- replies, and what was copied over data links
  pub given : GivesServers (passed_over None (deeds_of held)) old new
  pub replies : HearsServers (heard_over None (deeds_of held)) old new
  -- as many links were hung up as came up, and the dialer counted so many come up; none is up at the end; each destination, door
  -- and data link that was refused was counted, and each copy that broke off
  pub links : LinksDialer (gives linked (deeds_of held)) old new
  pub over : (new.server.link ≡ None) × (new.server.pair ≡ None)
  pub refusals : CountsRefusals (gives refused (deeds_of held)) old new
  -- so for each destination that was asked for in vain, and each time that the gateway tells of no door or no data link
  pub refusals_told : CountsTold (deeds_of held) old new
  pub broken : CountsBroken (gives broken_off (deeds_of held)) old new
  -- so for each time that the gateway tells that a transfer ended early which took fewer bytes than may be taken
  pub breaks_told : CountsBreaks (deeds_of held) old new
  -- where the session stopped, at the log, say, nothing but what was owed was done after
  pub stops : (cause : Cause) → held.dialogue ≡ Err cause → StopsLast cause held

-- a session of the gateway was held
pub record OfFtp (authorities : Authorities) (peer : Peer) (inputs : Inputs) (course : Course) (status : ℕ) (old new : WorldView) : Type 0 where
  pub at : OfGateway authorities false (Gateway kinds.Ftp authorities peer) services.FtpGw peer (serving_rows inputs peer) (serving_row inputs peer) inputs course status old new
  pub upheld : IsUpheld (gate_at inputs.rules at.line peer) (port_of authorities at.view).seen at.session.held
