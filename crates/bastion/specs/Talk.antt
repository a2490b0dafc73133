-- What a session over a port leaves: over a book, its talk as one legal history, and over a link, its talk as the entries of the port;
-- and the lines behind it.
use Rattle.std.specs.Prelude.{◌≡◌, ◌≢◌, ℕ, Bool, true, false, List, ◌∷◌, [], filter, length, map, Option, Some, Ok, Result}
use Rattle.std.specs.List.{list_any}
use Rattle.std.specs.Option.{option_map}
use Rattle.auth_events.specs.declared.reply.Reply.{Reply}
use Rattle.auth_events.specs.declared.request.Request.{Request}
use Rattle.auth_machine.specs.Book.{BookView}
use Rattle.auth_machine.specs.History.{CountsCalls, CountsUnkept, HasRecords, IsLegal, IsSound}
use Rattle.client_service.specs.Conn.{NotedIf}
use Rattle.client_service.specs.Decision.{decision_text}
use Rattle.client_service.specs.Endings.{ending_line}
use Rattle.fw_outside.specs.DialerView.{DialerView}
use Rattle.fw_outside.specs.KeeperView.{KeeperView, NamedBytes}
use Rattle.fw_outside.specs.SinkView.{SinkView}
use Rattle.fw_outside.specs.ToldList.{grown}
use Rattle.fw_types.specs.declared.ending.Ending.{Ending}
use Rattle.fw_types.specs.declared.ending.Ending.TheVariants.{Done}
use Rattle.fw_types.specs.declared.peer.Peer.{Peer}
use Rattle.gate_rules.specs.declared.service.Service.{Service}
use Rattle.gate_rules.specs.declared.verdict.Verdict.TheVariants.{Deny}
use Rattle.remote_port.specs.Remote.{RemoteOrigin, RemoteView}
use Rattle.remote_port.specs.Texts.{RemoteTexts}
use Rattle.session_acts.specs.Acts.{Front}
use Rattle.session_acts.specs.Acts.Act.{Try}
use Rattle.session_acts.specs.Client.{line_logged}
use Rattle.session_acts.specs.Deeds.{Deed, deeds_ran, gives}
use Rattle.session_acts.specs.Denying.{denying_row, no_rows}
use Rattle.session_acts.specs.Laws.{told}
use Rattle.session_acts.specs.Session.{Session, deeds_of}
use Rattle.session_acts.specs.Talk.{answered, asked, is_entered, is_refused_as_full, said_of}
use Rattle.bastion.specs.Answering.{Answerer, GivenBack, PortView, answerer_in, port_at_first, port_of}
use Rattle.bastion.specs.Inputs.{Inputs}
use Rattle.bastion.specs.Outcome.{fault_line_of, status_of}
use Rattle.bastion.specs.Run.{is_at_console, verdict_for}
use Rattle.bastion.specs.Serving.{met_at, most_entries, origin_of}
use Rattle.bastion.specs.WorldView.{SessionInputs, WorldView}
use Rattle.bastion.specs.declared.outcome.Outcome.TheVariants.{Ended}
use Rattle.bastion.specs.declared.words.Authorities.{Authorities}
use Rattle.bastion.specs.declared.words.Authorities.TheVariants.{Records, Remote}
use Rattle.bastion.specs.declared.words.Command.{Command}

-- the names with their bytes that a keeper has, where one is there and tells
abbrev pub table_kept : SessionInputs → Option (Option NamedBytes)
table_kept inputs = option_map (λ keeper. keeper.table) inputs.keeper

-- nobody was told anything, and nobody denied
pub record IsSilent (status : ℕ) (old new : WorldView) : Type 0 where
  pub output : new.output ≡ old.output
  pub undenied : status ≢ 1

-- No session was held, and nobody was told that it is denied: the client was told nothing, and the keeper has what it had.
pub record IsUnserved (status : ℕ) (old new : WorldView) : Type 0 where
  pub silent : IsSilent status old new
  pub unheld : (status ≢ 0) × (status ≢ 6)
  pub kept : table_kept new.inputs ≡ table_kept old.inputs

-- the requests that a session asked and that were answered, with their replies
abbrev pub talk_of : List Deed → List (Request × Reply)
talk_of deeds = answered (gives asked deeds)

-- whether one of them was refused since the history was full
abbrev pub was_refused : List Deed → Bool
was_refused deeds = list_any is_refused_as_full (talk_of deeds)

-- What these deeds asked and were answered, but for what was refused since the history was full, is the whole of the history,
-- in order; that is legal by the policy and the records, which are sound, and the keeper has the records after it and has
-- counted a failure for each entry that was not kept. It counted as many calls as there are entries that change, make or
-- delete a record, and at most as many more as there were requests without an entry.
pub record IsLegalTalk (inputs : Inputs) (before : KeeperView) (deeds : List Deed) (book : BookView) : Type 0 where
  pub sound : IsSound (origin_of inputs)
  pub legal : IsLegal (origin_of inputs) book.history
  pub talk : map said_of book.history ≡ filter is_entered (talk_of deeds)
  pub has : HasRecords (origin_of inputs) book.history book.keeper
  pub faults : CountsUnkept before.faults book.history book.keeper
  pub called : CountsCalls before.calls (origin_of inputs) book.history (length (gives asked deeds)) book.keeper
  pub full : was_refused deeds ≡ true → length book.history ≡ most_entries

-- What these deeds asked and were answered, but for what was refused since the server's history was full, are the entries of the port,
-- in order. What the ends gave and took are the lines of these. That they are of one legal history isn't said here: it is by the law of
-- `auth_remote` alone, of a server that is honest.
pub record IsRemoteTalk (ends : RemoteOrigin) (deeds : List Deed) (remote : RemoteView) : Type 0 where
  pub origin : remote.origin ≡ ends
  pub talk : map said_of remote.talk.seen ≡ filter is_entered (talk_of deeds)
  pub texts : RemoteTexts remote

-- what a session asked, by who knows the users
abbrev pub IsTalk : (authorities : Authorities) → Inputs → Answerer authorities → List Deed → PortView authorities → Type 0
IsTalk Records inputs before deeds book = IsLegalTalk inputs before deeds book
IsTalk Remote inputs ends deeds remote = IsRemoteTalk ends deeds remote

-- Behind a session the log was given the ending's line, and that of the limit, where there are such. The status is the
-- ending's, but 6 where the session was done and a request had been refused.
pub record IsConcluded (service : Service) (peer : Peer) (ending : Ending) (refused : Bool) (status : ℕ) (old new : SinkView) : Type 0 where
  pub ended : SinkView
  pub noted : NotedIf (ending_line service peer ending) old ended
  pub limited : NotedIf (fault_line_of (Ended ending refused)) ended new
  pub status_is : status ≡ status_of (Ended ending refused)

-- The rules deny the client, who isn't at the console. Over these devices two deeds were done, in this order: the line of the denial was given to the
-- log, whole; and then the client was given the words of it, or a front of them. The keeper is as the load left it, or both ends of the
-- link as they were.
pub record IsToldOff (authorities : Authorities) (command : Command) (service : Service) (peer : Peer) (words : ℕ → List ℕ) (dialer : DialerView) (inputs : Inputs) (old new : WorldView) : Type 0 where
  pub outside : is_at_console command ≡ false
  pub line : ℕ
  pub denied : verdict_for command inputs ≡ Deny line
  pub before : Answerer authorities
  pub there : answerer_in authorities old.inputs ≡ Some before
  pub view : PortView authorities
  pub left : DialerView
  pub session : Session no_rows (denying_row (decision_text (Deny line) service peer) (words line)) (met_at old (port_at_first authorities inputs before) dialer) (met_at new (port_of authorities view) left) Done
  pub tried : Result (Unit {0}) (Front (words line))
  pub deeds : deeds_ran session.held.ran ≡ line_logged (decision_text (Deny line) service peer) ∷ record { act = Try (words line); outcome = Ok tried } ∷ []
  pub told : new.output.given ≡ grown old.output.given (gives told (deeds_of session.held))
  pub kept : GivenBack authorities before old.inputs new.inputs
