-- A client of `tn-gw`: what it is told, for which destinations the dialer is asked, and what goes over the link.
use Rattle.std.specs.Prelude.{◌≡◌, ℕ, true, List, [], ◌∷◌, ◌++◌, Err}
use Rattle.auth_events.specs.declared.entry.Entry.{Entry}
use Rattle.fw_acts.specs.Acts.{Row, PlaceTable}
use Rattle.fw_outside.specs.declared.ask.Ask.TheVariants.{Main}
use Rattle.fw_types.specs.declared.dest.Dest.{Dest}
use Rattle.fw_types.specs.declared.ending.Ending.{Ending}
use Rattle.fw_types.specs.declared.ending.Ending.TheVariants.{Done}
use Rattle.fw_types.specs.declared.peer.Peer.{Peer}
use Rattle.gate_rules.specs.declared.service.Service.TheVariants as services
use Rattle.session_acts.specs.Deeds.{Deed, deeds_ran, gives}
use Rattle.session_acts.specs.Hearing.{heard_in}
use Rattle.session_acts.specs.LastStop.{StopsLast}
use Rattle.session_acts.specs.Laws.{CountsRefusals, LinksDialer, called, linked, refused}
use Rattle.session_acts.specs.Met.{acts}
use Rattle.session_acts.specs.RelayLast.{RelaysLast}
use Rattle.session_acts.specs.Relayed.{relayed, then_relay}
use Rattle.session_acts.specs.RelayFronts.{RelaysFronts}
use Rattle.session_acts.specs.Said.{SaysLines, lines_said}
use Rattle.session_acts.specs.Session.{Held, deeds_of}
use Rattle.session_acts.specs.Talk.{Entered, asked}
use Rattle.session_acts.specs.World.{World}
use Rattle.session_acts.specs.declared.cause.Cause.{Cause}
use Rattle.tn_gate.specs.Asked.{lines_in, turns_of}
use Rattle.tn_gate.specs.Asking.{AsksWhatIsDue}
use Rattle.tn_gate.specs.Course.{OpensOnce}
use Rattle.tn_gate.specs.Dialogue.{tn_row, tn_rows}
use Rattle.tn_gate.specs.Due.{LogsWhatIsDue}
use Rattle.tn_gate.specs.Ends.{EndsThere, HasEnd}
use Rattle.tn_gate.specs.Gate.{Gate, asks_login, gate_at}
use Rattle.tn_gate.specs.Laws.{AsksExactly, DenialsLogged, DialsCleared, LinesDialed}
use Rattle.tn_gate.specs.Login.{LoginStandsIn, number_opened}
use Rattle.tn_gate.specs.declared.place.Place.{Place}
use Rattle.bastion.specs.Answering.{port_at_first, port_of}
use Rattle.bastion.specs.AtGateway.{OfGateway, begins_at, ends_at}
use Rattle.bastion.specs.Basis.{Course}
use Rattle.bastion.specs.Inputs.{Inputs}
use Rattle.bastion.specs.WorldView.{WorldView}
use Rattle.bastion.specs.declared.words.Authorities.{Authorities}
use Rattle.bastion.specs.declared.words.Command.TheVariants.{Gateway}
use Rattle.bastion.specs.declared.words.GatewayKind.TheVariants as kinds

-- the rows of its session, by the line that permits it; a relay is at its end
abbrev pub telnet_rows : {Origin : Type 0} → Inputs → Peer → ℕ → PlaceTable (acts Origin) Place
telnet_rows inputs peer line = relayed (tn_rows (gate_at inputs.rules line peer))

abbrev pub telnet_row : {Origin : Type 0} → Inputs → Peer → ℕ → Row (acts Origin) Place
telnet_row inputs peer line = then_relay (tn_row (gate_at inputs.rules line peer))

-- Where a login is asked for, each destination is asked for after one: what the session had asked by then is a front of the
-- history, and in that a login stands for the number that this session's opening was given.
abbrev pub LoginsStand : Gate → List Deed → List Entry → Type 0
LoginsStand gate deeds history =
    asks_login gate.options ≡ true → (before after : List Deed) (deed : Deed) (dest : Dest) → deeds ≡ before ++ deed ∷ after → called deed.act deed.outcome ≡ Main dest ∷ [] → LoginStandsIn (number_opened (gives asked deeds)) (gives asked before) history

-- What holds of a session of the gateway over a port that has seen this history. The lines that it heard are the first lines of the
-- text that it took of the client, in order, and it goes by these. The destinations that it asked for are those that these
-- lines ask for: all of them in a session that is done, else up to where the dialogue stopped. Each was asked for right behind
-- its connect line, which the log has whole, and behind the permission for its host with `-extnd`; the permission line allows
-- it; and where that asks for a login, one of this session stands in the history. Right behind each connect line that the log
-- has whole its destination was asked for. The log was given each line that was due, for a destination, a login or a login that
-- failed, right behind what it was due for, and no other. What the client was told as a denial, of a destination or of a login,
-- the log was given right before, whole. After openings in vain a session was opened at most once, and closed once, as the
-- last.
pub record IsGuarded {Origin : Type 0} (gate : Gate) (history : List Entry) {old new : World Origin} {ending : Ending} (held : Held (relayed (tn_rows gate)) (then_relay (tn_row gate)) old new ending) : Type 0 where
  pub lines : SaysLines (gives heard_in (deeds_of held)) old.client new.client
  pub heard : lines_in (turns_of (deeds_of held)) ≡ lines_said (gives heard_in (deeds_of held))
  pub exactly : AsksExactly gate held
  pub all : ending ≡ Done → exactly.rest ≡ []
  pub cleared : DialsCleared gate (deeds_of held)
  pub logins : LoginsStand gate (deeds_of held) history
  pub dialed : LinesDialed gate (deeds_of held)
  pub due : LogsWhatIsDue gate (deeds_of held)
  pub denials : DenialsLogged gate (deeds_of held)
  pub opened : OpensOnce (gives asked (deeds_of held))
  -- behind each line and each answer the request is asked that is due, and no other
  pub requests : AsksWhatIsDue gate (deeds_of held)
  -- behind a link that came up, `quit` or the end no line is heard and no destination is asked for
  pub ends : EndsThere gate (deeds_of held)
  -- and a dialogue that comes to its end ends with one of these
  pub ended : (last : RelaysLast (tn_rows gate) (tn_row gate) held) → HasEnd gate (deeds_ran last.talk)
  -- as many links were hung up as came up, and each destination that was refused was counted
  pub links : LinksDialer (gives linked (deeds_of held)) old new
  pub refusals : CountsRefusals (gives refused (deeds_of held)) old new
  -- each request was asked for the session that was open, at a moment of the clock
  pub entered : Entered (gives asked (deeds_of held)) old.office new.office
  -- where the session stopped, at the log, say, nothing but what was owed was done after
  pub stops : (cause : Cause) → held.dialogue ≡ Err cause → StopsLast cause held

-- A session of the gateway was held. If a link came up, its server was given a front of what was taken of the client behind the
-- lines that were heard, and the client, behind what it was told, a front of what was taken of the server; else nothing was
-- given to a server, and nothing taken of one.
pub record OfTelnet (authorities : Authorities) (peer : Peer) (inputs : Inputs) (course : Course) (status : ℕ) (old new : WorldView) : Type 0 where
  pub at : OfGateway authorities true (Gateway kinds.Telnet authorities peer) services.TnGw peer (telnet_rows inputs peer) (telnet_row inputs peer) inputs course status old new
  pub guarded : IsGuarded (gate_at inputs.rules at.line peer) (port_of authorities at.view).seen at.session.held
  pub fronts : RelaysFronts (deeds_of at.session.held) (begins_at services.TnGw inputs peer at.line (port_at_first authorities inputs at.before) old) (ends_at (port_of authorities at.view) at.logs new) course.ending
