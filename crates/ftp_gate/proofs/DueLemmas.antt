-- The rows do what is due.
use Rattle.std.proofs.Common.{◌≡◌, refl, sym, ap, subst, ◌∙◌, ℕ, Bool, true, false, not, ◌&&◌, ◌||◌, List, [], ◌∷◌, ◌++◌, codes, map, Result, Ok, Err, Option, Some, None}
use Rattle.std.specs.Option.{option_map}
use Rattle.auth_events.specs.Login.{is_full, is_ok, login_then}
use Rattle.auth_events.specs.declared.denial.Denial.{Denial}
use Rattle.auth_events.specs.declared.port.PortFault.{PortFault}
use Rattle.auth_events.specs.declared.reply.Reply.{Reply}
use Rattle.auth_events.specs.declared.reply.Reply.TheVariants as replies
use Rattle.auth_events.specs.declared.request.OpService.TheVariants as services
use Rattle.auth_events.specs.declared.request.Request.{Request}
use Rattle.auth_events.specs.declared.request.Request.TheVariants as requests
use Rattle.fw_acts.specs.Acts.{Row, Step, PlaceTable}
use Rattle.fw_acts.specs.Acts.Row.{Do, At, Over}
use Rattle.fw_acts.specs.Histories.{AllMay, Keeps, Leaves, Watch, history}
use Rattle.fw_acts.specs.Ran.{Comes, Ran}
use Rattle.fw_acts.proofs.HistoryLemmas.{run_leaves, run_may}
use Rattle.fw_outside.specs.declared.heard.Heard.{Heard}
use Rattle.fw_outside.specs.declared.heard.Heard.TheVariants.{Line, TooLong, Stopped}
use Rattle.fw_types.specs.Name.{name_of}
use Rattle.fw_types.specs.declared.dest.Dest.{Dest}
use Rattle.fw_types.specs.declared.ending.Ending.{Ending}
use Rattle.fw_types.specs.declared.host.Host.{Host}
use Rattle.gate_rules.specs.Verdict.{allows}
use Rattle.md5.specs.Md5.{md5}
use Rattle.otp_md5.specs.Hexadecimal.{read_of}
use Rattle.session_acts.specs.Acts.{Act, Halt, Outcome}
use Rattle.session_acts.specs.Acts.Act.{Hear, Say, Try, Log, Note, Ask, Renew, Dial, Reach, Take, Pass, HangUp, Relay, Deposit, Allot, TakeReply, OpenDoor, Join, Copy, Part}
use Rattle.session_acts.specs.Deeds.{Deed, deed_last, deeds_ran, done}
use Rattle.session_acts.specs.Met.{acts}
use Rattle.session_acts.specs.Session.{Held, closing, deeds_of, freeing, owed}
use Rattle.session_acts.specs.World.{Speaker, World}
use Rattle.session_acts.specs.declared.cause.Cause.{Cause}
use Rattle.session_acts.specs.declared.joined.Joined.{Joined}
use Rattle.session_acts.specs.declared.joined.Joined.TheVariants as joins
use Rattle.session_acts.specs.declared.replied.Replied.{Replied}
use Rattle.session_acts.specs.declared.replied.Replied.TheVariants.{Whole, Ended}
use Rattle.session_acts.specs.declared.reply_use.ReplyUse.TheVariants.{Passed, Dropped, Greeting}
use Rattle.session_acts.specs.declared.target.Target.{Target}
use Rattle.session_acts.specs.declared.target.Target.TheVariants.{AtDoor}
use Rattle.session_acts.specs.declared.toward.Toward.{Toward}
use Rattle.ftp_lines.specs.Six.{six_of}
use Rattle.ftp_gate.specs.Dialogue as rows
use Rattle.ftp_gate.specs.Dialogue.{data_port, ftp_row, ftp_rows, goes_on, is_done, is_in, is_up, is_well, own_target, reason_of, refusing_line}
use Rattle.ftp_gate.specs.Due.{ComesNext, DoesWhatIsDue, FitsDue, allowed_due, authenticated_due, authorize_due, command_due, command_if, connect_due, dest_by, dest_due, dial_due, dropped_due, due_after, first_due, heard_due, kind_due, linked_due, name_by, named_due, opened_due, operated_due, outward_due, passed_due, pending, pending_in, responded_due, response_due, served_due, transfer_by, unless_due, use_by, use_of, user_due, verb_due, wanted_due, way_of, welcomed_due}
use Rattle.ftp_gate.specs.Gate.{Gate, asks_login, has_verb}
use Rattle.ftp_gate.specs.Kind.{is_quit, kind_of}
use Rattle.ftp_gate.specs.Known.{Known, at_start, begins, greeting_by, known, known_after, known_from, saying, with_deed}
use Rattle.ftp_gate.specs.LogLines.{blocked_line, command_line, connect_line, fail_line, login_line, refuse_line}
use Rattle.ftp_gate.specs.Order.{Order, order_of}
use Rattle.ftp_gate.specs.Texts as texts
use Rattle.ftp_gate.specs.User.{name_there, user_of}
use Rattle.ftp_gate.specs.declared.kind.Kind.{Kind}
use Rattle.ftp_gate.specs.declared.kind.Kind.TheVariants as kinds
use Rattle.ftp_gate.specs.declared.kind.Outward.{Outward}
use Rattle.ftp_gate.specs.declared.kind.Outward.TheVariants.{User, Served}
use Rattle.ftp_gate.specs.declared.kind.Served as served
use Rattle.ftp_gate.specs.declared.kind.Served.TheVariants.{Port, Pasv, Extended, Transfer, Quit, Other}
use Rattle.ftp_gate.specs.declared.place.Account.{Account}
use Rattle.ftp_gate.specs.declared.place.Account.TheVariants.{Unopened, Opened}
use Rattle.ftp_gate.specs.declared.place.Place.{Place}
use Rattle.ftp_gate.specs.declared.place.Place.TheVariants.{Listening, Answering, Dropping}
use Rattle.ftp_gate.specs.declared.place.State.{State}
use Rattle.ftp_gate.proofs.AccountLemmas.{deed_of, named_login}

-- ---- the watch

-- what is known, and which line or request is due
record Trail : Type 0 where
  k : Known
  due : Option Act

abbrev trace : Gate → Trail → (act : Act) → Outcome act → Trail
trace gate t act outcome = record { k = known_after gate t.k act outcome; due = due_after gate t.k act outcome }

-- the user who was asked about last
abbrev named_as : Account → Option (List ℕ)
named_as Unopened = None
named_as (Opened name logged_in) = Some name

-- what a place knows is so
record Facts (state : State) (k : Known) : Type 0 where
  login : k.login ≡ is_in state.account
  user : k.user ≡ named_as state.account
  link : k.link ≡ state.dest

abbrev HoldsAt : Place → Trail → Type 0
HoldsAt (Listening state) t = Facts state t.k × (t.due ≡ None)
HoldsAt (Answering state quits) t = Facts state t.k × (t.due ≡ Some (TakeReply Passed)) × (pending_in t.k ≡ None)
HoldsAt (Dropping state) t = Facts state t.k × (t.due ≡ Some (TakeReply Dropped)) × (pending_in t.k ≡ None)

-- no data links came up for the command, and nothing was copied
record Fresh (k : Known) : Type 0 where
  joined : k.standing.joined ≡ false
  copied : k.copied ≡ false

abbrev due_watch : (Origin : Type 0) → Gate → Watch (acts Origin) Place
due_watch Origin gate = record {
  Noted = Trail;
  note = λ t act answer. trace gate t act (Ok answer);
  may = λ t act. FitsDue t.due act;
  holds = λ t place. HoldsAt place t;
  over = λ t. t.due ≡ None;
}

-- where nothing is due, and where something is
fits_none : (due : Option Act) (act : Act) → due ≡ None → FitsDue None act → FitsDue due act
fits_none due act is fits = subst (λ (d : Option Act). FitsDue d act) (sym is) fits

fits_due : (due : Option Act) (act : Act) → due ≡ Some act → FitsDue due act
fits_due due act is = subst (λ (d : Option Act). FitsDue d act) (sym is) refl

said_facts : (gate : Gate) (state : State) (b : Bool) (deed : Deed) (since : List Deed) (k : Known) → Facts state k → Facts state (with_deed deed since (saying gate b k))
said_facts gate state true deed since k f = record { login = f.login; user = f.user; link = f.link }
said_facts gate state false deed since k f = record { login = f.login; user = f.user; link = f.link }

module _ (Origin : Type 0) (gate : Gate) where
  abbrev watch : Watch (acts Origin) Place
  watch = due_watch Origin gate

  abbrev Leads : Row (acts Origin) Place → Trail → Type 0
  Leads row t = Leaves watch row t

  -- words, where no line is due
  tell : (t : Trail) (words : List ℕ) (state : State) → Facts state t.k → t.due ≡ None → Leads (rows.tell_row words state) t
  tell t words state f none =
      (fits_none t.due (Say words) none tt, λ done. (said_facts gate state (begins words texts.port_ok) (deed_of (Say words) (Ok done)) t.k.since t.k f, refl))

  -- a line that is due, and then words
  log_tell : (t : Trail) (line words : List ℕ) (state : State) → begins line (codes "connect") ≡ false → Facts state t.k → t.due ≡ Some (Log line) → Leads (Do (Log line) (λ logged. rows.tell_row words state)) t
  log_tell t line words state other f due = (
    fits_due t.due (Log line) due,
    λ logged. tell (trace gate t (Log line) (Ok logged)) words state (record { login = f.login; user = f.user; link = f.link }) (ap (λ (b : Bool). dial_due b t.k.order) other),
  )

  closed : (t : Trail) → t.due ≡ None → Leads rows.closed_row t
  closed t none = (fits_none t.due (Say texts.server_closed) none tt, λ done. refl)

  -- ---- the login

  named : (t : Trail) (state : State) (name : List ℕ) (stands : Bool) (reply : Reply) → Facts (rows.with_account (Opened name stands) state) t.k → t.due ≡ authenticated_due gate name reply → Leads (rows.named_row gate state name stands reply) t
  named t state name stands replies.Password f due = tell t texts.password_asked (rows.with_account (Opened name stands) state) f due
  named t state name stands (replies.Challenge number word_seed) f due = tell t (texts.challenge_asked number word_seed) (rows.with_account (Opened name stands) state) f due
  named t state name stands (replies.Opened sid) f due = log_tell t (fail_line gate name (reason_of (replies.Opened sid))) texts.login_denied (rows.with_account (Opened name stands) state) refl f due
  named t state name stands replies.Ok f due = log_tell t (fail_line gate name (reason_of replies.Ok)) texts.login_denied (rows.with_account (Opened name stands) state) refl f due
  named t state name stands (replies.Shown summary) f due = log_tell t (fail_line gate name (reason_of (replies.Shown summary))) texts.login_denied (rows.with_account (Opened name stands) state) refl f due
  named t state name stands (replies.Denied denial) f due = log_tell t (fail_line gate name denial) texts.login_denied (rows.with_account (Opened name stands) state) refl f due

  authenticate : (t : Trail) (state : State) (name : List ℕ) (stood : Bool) → t.k.login ≡ stood → t.k.link ≡ state.dest → t.due ≡ Some (Ask (requests.Authenticate name)) → Leads (rows.authenticate_row gate state name stood) t
  authenticate t state name stood login link due = (
    fits_due t.due (Ask (requests.Authenticate name)) due,
    λ reply. named (trace gate t (Ask (requests.Authenticate name)) (Ok reply)) state name (stood && is_full reply) reply
        (record { login = ap (λ (b : Bool). login_then b (requests.Authenticate name, reply)) login ∙ named_login stood name reply; user = refl; link = link }) refl,
  )

  -- a command that names a user, or gives a response, or is for a server
  module _ (order : Order) where
    module _ (state : State) (name : List ℕ) (names : name_of order.arg ≡ Some name) (unopened : state.account ≡ Unopened) where
      none_stands : (k : Known) (reply : Reply) → k.login ≡ is_in state.account → login_then k.login (requests.Open false, reply) ≡ false
      none_stands k reply login = ap (λ (b : Bool). login_then b (requests.Open false, reply)) (login ∙ ap is_in unopened)

      due_open : (t : Trail) (reply : Reply) → t.k.order ≡ Some order → opened_due gate (name_by t.k.order) reply ≡ opened_due gate (Some name) reply
      due_open t reply heard = ap (λ (o : Option Order). opened_due gate (name_by o) reply) heard ∙ ap (λ (n : Option (List ℕ)). opened_due gate n reply) names

      vain : (t : Trail) (reply : Reply) (denial : Denial) → opened_due gate (Some name) reply ≡ Some (Log (fail_line gate name denial)) → t.k.order ≡ Some order → Facts state t.k
          → Leads (rows.failed_row gate name denial state) (trace gate t (Ask (requests.Open false)) (Ok reply))
      vain t reply denial fails heard f =
          log_tell (trace gate t (Ask (requests.Open false)) (Ok reply)) (fail_line gate name denial) texts.login_denied state refl
          (record { login = none_stands t.k reply f.login ∙ sym (ap is_in unopened); user = f.user; link = f.link }) (due_open t reply heard ∙ fails)

      opened : (t : Trail) (reply : Reply) → t.k.order ≡ Some order → Facts state t.k → Leads (rows.opened_row gate state name reply) (trace gate t (Ask (requests.Open false)) (Ok reply))
      opened t (replies.Opened sid) heard f =
          authenticate (trace gate t (Ask (requests.Open false)) (Ok (replies.Opened sid))) state name false (none_stands t.k (replies.Opened sid) f.login) f.link (due_open t (replies.Opened sid) heard)
      opened t replies.Password heard f = vain t replies.Password (reason_of replies.Password) refl heard f
      opened t (replies.Challenge number word_seed) heard f = vain t (replies.Challenge number word_seed) (reason_of (replies.Challenge number word_seed)) refl heard f
      opened t replies.Ok heard f = vain t replies.Ok (reason_of replies.Ok) refl heard f
      opened t (replies.Shown summary) heard f = vain t (replies.Shown summary) (reason_of (replies.Shown summary)) refl heard f
      opened t (replies.Denied denial) heard f = vain t (replies.Denied denial) denial refl heard f

    name_so : (t : Trail) (state : State) (account : Account) (name : List ℕ) → state.account ≡ account → name_of order.arg ≡ Some name → t.k.order ≡ Some order → Facts state t.k → t.due ≡ first_due (named_as account) name → Leads (rows.name_row gate state account name) t
    name_so t state Unopened name is names heard f due =
        (fits_due t.due (Ask (requests.Open false)) due, λ reply. opened state name names is t reply heard f)
    name_so t state (Opened other stood) name is names heard f due = authenticate t state name stood (f.login ∙ ap is_in is) f.link due

    authorize : (t : Trail) (state : State) (name : Option (List ℕ)) → name_of order.arg ≡ name → t.k.order ≡ Some order → Facts state t.k → t.due ≡ authorize_due name (named_as state.account) → Leads (rows.authorize_row gate state name) t
    authorize t state None is heard f none = tell t texts.login_denied state f none
    authorize t state (Some name) is heard f none = name_so t state state.account name refl is heard f none

    -- ---- responses

    module _ (state : State) (name text : List ℕ) where
      abbrev response : Request
      response = requests.Response (md5 text) (read_of text)

      and_true : (b : Bool) → (b && true) ≡ b
      and_true true = refl
      and_true false = refl

      -- a response that isn't right changes no login
      wrong_stands : (b : Bool) (reply : Reply) → is_ok reply ≡ false → login_then b (response, reply) ≡ b
      wrong_stands b reply bad = ap (λ (t : Bool). t || (b && true)) bad ∙ and_true b

      due_answer : (t : Trail) (reply : Reply) → t.k.user ≡ Some name → responded_due gate t.k.user reply ≡ responded_due gate (Some name) reply
      due_answer t reply user = ap (λ (u : Option (List ℕ)). responded_due gate u reply) user

      wrong : (t : Trail) (reply : Reply) (denial : Denial) → is_ok reply ≡ false → responded_due gate (Some name) reply ≡ Some (Log (fail_line gate name denial)) → t.k.user ≡ Some name → Facts state t.k
          → Leads (rows.failed_row gate name denial state) (trace gate t (Ask response) (Ok reply))
      wrong t reply denial bad fails user f =
          log_tell (trace gate t (Ask response) (Ok reply)) (fail_line gate name denial) texts.login_denied state refl
          (record { login = wrong_stands t.k.login reply bad ∙ f.login; user = f.user; link = f.link }) (due_answer t reply user ∙ fails)

      answered : (t : Trail) (reply : Reply) → t.k.user ≡ Some name → Facts state t.k → Leads (rows.answered_row gate state name reply) (trace gate t (Ask response) (Ok reply))
      answered t replies.Ok user f =
          log_tell (trace gate t (Ask response) (Ok replies.Ok)) (login_line gate name) texts.login_ok (rows.with_account (Opened name true) state) refl
          (record { login = refl; user = user; link = f.link }) (due_answer t replies.Ok user)
      answered t replies.Password user f = wrong t replies.Password (reason_of replies.Password) refl refl user f
      answered t (replies.Challenge number word_seed) user f = wrong t (replies.Challenge number word_seed) (reason_of (replies.Challenge number word_seed)) refl refl user f
      answered t (replies.Opened sid) user f = wrong t (replies.Opened sid) (reason_of (replies.Opened sid)) refl refl user f
      answered t (replies.Shown summary) user f = wrong t (replies.Shown summary) (reason_of (replies.Shown summary)) refl refl user f
      answered t (replies.Denied denial) user f = wrong t (replies.Denied denial) denial refl refl user f

    response_so : (t : Trail) (state : State) (account : Account) (text : List ℕ) → state.account ≡ account → Facts state t.k → t.due ≡ response_due (named_as account) text → Leads (rows.response_row gate state account text) t
    response_so t state Unopened text is f none = tell t texts.authorize_first state f none
    response_so t state (Opened name stood) text is f none =
        let user : t.k.user ≡ Some name = f.user ∙ ap named_as is in
        (fits_due t.due (Ask (response state name text)) none, λ reply. answered state name text t reply user f)

    -- ---- what is passed

    no_way : (k : Known) → k.order ≡ Some order → way_of (kind_of order.verb) ≡ None → transfer_by k.order ≡ None
    no_way k heard stays = ap transfer_by heard ∙ stays

    given_holds : (k : Known) → transfer_by k.order ≡ None → Some (TakeReply (use_of (transfer_by k.order) k.standing.joined)) ≡ Some (TakeReply Passed)
    given_holds k none = ap (λ (w : Option Toward). Some (TakeReply (use_of w k.standing.joined))) none

    none_pending : (k : Known) → transfer_by k.order ≡ None → pending_in k ≡ None
    none_pending k none = ap (λ (w : Option Toward). pending w k.copied) none

    pass : (t : Trail) (state : State) (verb text : List ℕ) (quits logs : Bool) → transfer_by t.k.order ≡ None → Facts state t.k → t.due ≡ command_if logs gate verb → Leads (rows.logged_row gate verb logs (Do (Pass text) (λ done. At (Answering state quits)))) t
    pass t state verb text quits true none f due = (
      fits_due t.due (Log (command_line gate verb)) due,
      λ logged. (tt, λ done. (record { login = f.login; user = f.user; link = f.link }, given_holds t.k none, none_pending t.k none)),
    )
    pass t state verb text quits false none f due =
        (fits_none t.due (Pass text) due tt, λ done. (record { login = f.login; user = f.user; link = f.link }, given_holds t.k none, none_pending t.k none))

    pass_user : (t : Trail) (state : State) (name : List ℕ) → transfer_by t.k.order ≡ None → Facts state t.k → t.due ≡ command_due gate (codes "USER") → Leads (rows.pass_user_row gate state name) t
    pass_user t state name none f due = pass t state (codes "USER") (texts.user_text name) false (has_verb gate.options.log (codes "USER")) none f due

    -- ---- destinations

    welcomed : (t : Trail) (deed : Deed) (state : State) (name : List ℕ) (dest : Dest) (well : Bool) → state.dest ≡ None → t.k.dialed ≡ Some dest → transfer_by t.k.order ≡ None → Facts state t.k
        → Leads (rows.welcomed_row gate state name dest well) (record { k = with_deed deed t.k.since (greeting_by well t.k); due = welcomed_due well gate })
    welcomed t deed state name dest true unlinked up none f =
        pass_user (record { k = with_deed deed t.k.since (greeting_by true t.k); due = welcomed_due true gate }) (rows.with_dest dest state) name none (record { login = f.login; user = f.user; link = up }) refl
    welcomed t deed state name dest false unlinked up none f = (tt, λ done. (record { login = f.login; user = f.user; link = sym unlinked }, refl))

    greeted : (t : Trail) (state : State) (name : List ℕ) (dest : Dest) (heard : Replied × List ℕ) → state.dest ≡ None → t.k.dialed ≡ Some dest → transfer_by t.k.order ≡ None → Facts state t.k → Leads (rows.greeted_row gate state name dest heard.0) (trace gate t (TakeReply Greeting) (Ok heard))
    greeted t state name dest (Whole code six, text) unlinked up none f = welcomed t (deed_of (TakeReply Greeting) (Ok (Whole code six, text))) state name dest (is_well code) unlinked up none f
    greeted t state name dest (Ended, text) unlinked up none f = closed (trace gate t (TakeReply Greeting) (Ok (Ended, text))) refl

    dialed : (t : Trail) (state : State) (name : List ℕ) (dest : Dest) (up : Bool) → state.dest ≡ None → transfer_by t.k.order ≡ None → Facts state t.k → Leads (rows.dialed_row gate state name dest up) (trace gate t (Dial dest) (Ok up))
    dialed t state name dest true unlinked none f =
        (refl, λ heard. greeted (trace gate t (Dial dest) (Ok true)) state name dest heard unlinked refl none (record { login = f.login; user = f.user; link = sym unlinked }))
    dialed t state name dest false unlinked none f = tell (trace gate t (Dial dest) (Ok false)) texts.no_route state (record { login = f.login; user = f.user; link = sym unlinked }) refl

    connect : (t : Trail) (state : State) (name : List ℕ) (dest : Dest) → state.dest ≡ None → dial_due true t.k.order ≡ Some (Dial dest) → transfer_by t.k.order ≡ None → Facts state t.k → t.due ≡ Some (Log (connect_line gate dest)) → Leads (rows.connect_row gate state name dest) t
    connect t state name dest unlinked wants none f due = (
      fits_due t.due (Log (connect_line gate dest)) due,
      λ logged. (fits_due (dial_due true t.k.order) (Dial dest) wants, λ up. dialed (trace gate t (Log (connect_line gate dest)) (Ok logged)) state name dest up unlinked none (record { login = f.login; user = f.user; link = f.link })),
    )

    module _ (state : State) (name : List ℕ) (dest : Dest) (names : user_of order.arg ≡ Some (name, dest)) (stays : way_of (kind_of order.verb) ≡ None) (unlinked : state.dest ≡ None) where
      abbrev operation : Request
      operation = requests.Operation services.Ftp dest.host

      due_operation : (t : Trail) (reply : Reply) → t.k.order ≡ Some order → operated_due gate (dest_by t.k.order) reply ≡ operated_due gate (Some dest) reply
      due_operation t reply heard =
          ap (λ (o : Option Order). operated_due gate (dest_by o) reply) heard ∙ ap (λ (u : Option (List ℕ × Dest)). operated_due gate (option_map (λ one. one.1) u) reply) names

      wants_dial : (k : Known) → k.order ≡ Some order → dial_due true k.order ≡ Some (Dial dest)
      wants_dial k heard =
          ap (λ (o : Option Order). dial_due true o) heard ∙ ap (λ (u : Option (List ℕ × Dest)). option_map (λ (d : Dest). Dial d) (option_map (λ (one : List ℕ × Dest). one.1) u)) names

      -- no login is given or ended by it
      keeps_login : (b : Bool) → (b && true) ≡ b
      keeps_login true = refl
      keeps_login false = refl

      operated_facts : (t : Trail) (reply : Reply) → Facts state t.k → Facts state (trace gate t (Ask operation) (Ok reply)).k
      operated_facts t reply f = record { login = keeps_login t.k.login ∙ f.login; user = f.user; link = f.link }

      refused : (t : Trail) (reply : Reply) → operated_due gate (Some dest) reply ≡ Some (Log (refuse_line gate dest (refusing_line gate.line reply))) → t.k.order ≡ Some order → Facts state t.k
          → Leads (rows.refuse_row gate state dest (refusing_line gate.line reply)) (trace gate t (Ask operation) (Ok reply))
      refused t reply is heard f =
          log_tell (trace gate t (Ask operation) (Ok reply)) (refuse_line gate dest (refusing_line gate.line reply)) (texts.dest_denied (refusing_line gate.line reply)) state refl (operated_facts t reply f) (due_operation t reply heard ∙ is)

      operated : (t : Trail) (reply : Reply) → t.k.order ≡ Some order → Facts state t.k → Leads (rows.operated_row gate state name dest reply) (trace gate t (Ask operation) (Ok reply))
      operated t replies.Ok heard f = connect (trace gate t (Ask operation) (Ok replies.Ok)) state name dest unlinked (wants_dial t.k heard) (no_way t.k heard stays) (operated_facts t replies.Ok f) (due_operation t replies.Ok heard)
      operated t replies.Password heard f = refused t replies.Password refl heard f
      operated t (replies.Challenge number word_seed) heard f = refused t (replies.Challenge number word_seed) refl heard f
      operated t (replies.Opened sid) heard f = refused t (replies.Opened sid) refl heard f
      operated t (replies.Shown summary) heard f = refused t (replies.Shown summary) refl heard f
      operated t (replies.Denied denial) heard f = refused t (replies.Denied denial) refl heard f

      permitted : (t : Trail) (extnd : Bool) → t.due ≡ connect_due extnd gate dest → t.k.order ≡ Some order → Facts state t.k → Leads (rows.permitted_row extnd gate state name dest) t
      permitted t true due heard f = (fits_due t.due (Ask operation) due, λ reply. operated t reply heard f)
      permitted t false due heard f = connect t state name dest unlinked (wants_dial t.k heard) (no_way t.k heard stays) f due

      dest_so : (t : Trail) (allowed : Bool) → t.due ≡ dest_due allowed gate dest → t.k.order ≡ Some order → Facts state t.k → Leads (rows.dest_row allowed gate state name dest) t
      dest_so t true due heard f = permitted t gate.options.extnd due heard f
      dest_so t false due heard f = log_tell t (refuse_line gate dest gate.line) (texts.dest_denied gate.line) state refl f due

    wanted : (t : Trail) (state : State) (user : Option (List ℕ × Dest)) → user_of order.arg ≡ user → way_of (kind_of order.verb) ≡ None → state.dest ≡ None → t.due ≡ wanted_due gate user → t.k.order ≡ Some order → Facts state t.k → Leads (rows.wanted_row gate state user) t
    wanted t state None is stays unlinked due heard f = tell t texts.no_destination state f due
    wanted t state (Some (name, dest)) is stays unlinked due heard f = dest_so state name dest is stays unlinked t (allows gate.options dest) due heard f

    again : (t : Trail) (state : State) (name : Option (List ℕ)) → transfer_by t.k.order ≡ None → t.due ≡ named_due gate name → Facts state t.k → Leads (rows.again_row gate state name) t
    again t state None none due f = tell t texts.already_connected state f due
    again t state (Some name) none due f = pass_user t state name none f due

    user_so : (t : Trail) (state : State) (dest : Option Dest) → state.dest ≡ dest → way_of (kind_of order.verb) ≡ None → t.due ≡ user_due gate dest order.arg → t.k.order ≡ Some order → Facts state t.k → Leads (rows.user_row gate state dest order.arg) t
    user_so t state None is stays due heard f = wanted t state (user_of order.arg) refl stays is due heard f
    user_so t state (Some dest) is stays due heard f = again t state (name_there dest order.arg) (no_way t.k heard stays) due f

    -- ---- data links

    port : (t : Trail) (state : State) (target : Option Target) → Facts state t.k → t.due ≡ None → Leads (rows.port_row state target) t
    port t state None f none = tell t texts.foreign_address state f none
    port t state (Some target) f none = tell t texts.port_ok (rows.with_setting (Some target) state) (record { login = f.login; user = f.user; link = f.link }) none

    door : (t : Trail) (state : State) (place : Option (List ℕ × ℕ)) → Facts state t.k → Leads (rows.door_row state place) (trace gate t OpenDoor (Ok place))
    door t state None f = tell (trace gate t OpenDoor (Ok None)) texts.no_door state (record { login = f.login; user = f.user; link = f.link }) refl
    door t state (Some place) f =
        tell (trace gate t OpenDoor (Ok (Some place))) (texts.passive_mode place.0 place.1) (rows.with_setting (Some AtDoor) state) (record { login = f.login; user = f.user; link = f.link }) refl

    copied : (t : Trail) (state : State) (done : Bool) → Facts state t.k → t.due ≡ Some (TakeReply (use_by done)) → pending_in t.k ≡ None → Leads (rows.copied_row state done) t
    copied t state true f due pend = (f, due, pend)
    copied t state false f due pend = (f, due, pend)

    started : (t : Trail) (state : State) (toward : Toward) (starts : Bool) → transfer_by t.k.order ≡ Some toward → Facts state t.k → t.due ≡ passed_due (Some toward) starts → Leads (rows.started_row state toward starts) t
    started t state toward true way f due = (
      fits_due t.due (Copy toward) due,
      λ carried. copied (trace gate t (Copy toward) (Ok carried)) state (is_done (option_map (λ way. way.end) carried)) (record { login = f.login; user = f.user; link = f.link }) refl
          (ap (λ (w : Option Toward). pending w true) way),
    )
    started t state toward false way f due = (fits_due t.due Part due, λ done. (record { login = f.login; user = f.user; link = f.link }, refl))

    -- the command transfers data this way, and none were copied
    pending_so : (k : Known) (toward : Toward) → transfer_by k.order ≡ Some toward → k.copied ≡ false → pending_in k ≡ Some toward
    pending_so k toward way none = ap (λ (w : Option Toward). pending w k.copied) way ∙ ap (λ (b : Bool). pending (Some toward) b) none

    commanded : (t : Trail) (state : State) (toward : Toward) (heard : Replied × List ℕ) → transfer_by t.k.order ≡ Some toward → t.k.copied ≡ false → Facts state t.k
        → Leads (rows.commanded_row state toward heard.0) (trace gate t (TakeReply Passed) (Ok heard))
    commanded t state toward (Whole code six, text) way none f =
        started (trace gate t (TakeReply Passed) (Ok (Whole code six, text))) state toward (goes_on code) way (record { login = f.login; user = f.user; link = f.link })
        (ap (λ (p : Option Toward). passed_due p (goes_on code)) (pending_so t.k toward way none))
    commanded t state toward (Ended, text) way none f = closed (trace gate t (TakeReply Passed) (Ok (Ended, text))) refl

    give : (t : Trail) (state : State) (toward : Toward) (text : List ℕ) → transfer_by t.k.order ≡ Some toward → t.k.standing.joined ≡ true → t.k.copied ≡ false → Facts state t.k → t.due ≡ None
        → Leads (Do (Pass text) (λ done. Do (TakeReply Passed) (λ heard. rows.commanded_row state toward heard.0))) t
    give t state toward text way up copy f none = (
      fits_none t.due (Pass text) none tt,
      λ done. (
        fits_due (Some (TakeReply (use_of (transfer_by t.k.order) t.k.standing.joined))) (TakeReply Passed) (ap (λ (w : Option Toward). Some (TakeReply (use_of w t.k.standing.joined))) way ∙ ap (λ (b : Bool). Some (TakeReply (use_of (Some toward) b))) up),
        λ heard. commanded (trace gate t (Pass text) (Ok done)) state toward heard way copy (record { login = f.login; user = f.user; link = f.link }),
      ),
    )

    joined_logged : (t : Trail) (state : State) (toward : Toward) (text : List ℕ) (logs : Bool) → transfer_by t.k.order ≡ Some toward → t.k.standing.joined ≡ true → t.k.copied ≡ false → t.due ≡ command_if logs gate order.verb → Facts state t.k
        → Leads (rows.logged_row gate order.verb logs (Do (Pass text) (λ done. Do (TakeReply Passed) (λ heard. rows.commanded_row state toward heard.0)))) t
    joined_logged t state toward text true way up copy due f = (
      fits_due t.due (Log (command_line gate order.verb)) due,
      λ logged. give (trace gate t (Log (command_line gate order.verb)) (Ok logged)) state toward text way up copy (record { login = f.login; user = f.user; link = f.link }) refl,
    )
    joined_logged t state toward text false way up copy due f = give t state toward text way up copy f due

    joined : (t : Trail) (state : State) (toward : Toward) (side : Dest) (target : Target) (up : Joined) → t.k.order ≡ Some order → transfer_by t.k.order ≡ Some toward → t.k.copied ≡ false → Facts state t.k
        → Leads (rows.joined_row gate state toward order (is_up up)) (trace gate t (Join side target) (Ok up))
    joined t state toward side target joins.Up heard way copy f =
        joined_logged (trace gate t (Join side target) (Ok joins.Up)) state toward (texts.passed_line order.line) (has_verb gate.options.log order.verb) way refl copy (ap (λ (o : Option Order). verb_due gate o) heard)
        (record { login = f.login; user = f.user; link = f.link })
    joined t state toward side target joins.NoSide heard way copy f = tell (trace gate t (Join side target) (Ok joins.NoSide)) texts.no_data_link state (record { login = f.login; user = f.user; link = f.link }) refl
    joined t state toward side target joins.NoNear heard way copy f = tell (trace gate t (Join side target) (Ok joins.NoNear)) texts.no_data_link state (record { login = f.login; user = f.user; link = f.link }) refl
    joined t state toward side target joins.Unready heard way copy f = tell (trace gate t (Join side target) (Ok joins.Unready)) texts.no_data_link state (record { login = f.login; user = f.user; link = f.link }) refl

    ported : (t : Trail) (state : State) (dest : Dest) (target : Target) (toward : Toward) (at : Option ℕ) → t.k.order ≡ Some order → transfer_by t.k.order ≡ Some toward → t.k.copied ≡ false → Facts state t.k → t.due ≡ None
        → Leads (rows.ported_row gate state dest target toward order at) t
    ported t state dest target toward None heard way copy f none = tell t texts.no_data_port state f none
    ported t state dest target toward (Some at) heard way copy f none =
        let side : Dest = record { host = dest.host; port = at } in
        (fits_none t.due (Join side target) none tt, λ up. joined t state toward side target up heard way copy f)

    passive : (t : Trail) (state : State) (dest : Dest) (target : Target) (toward : Toward) (answer : Replied × List ℕ) → t.k.order ≡ Some order → transfer_by t.k.order ≡ Some toward → t.k.copied ≡ false → Facts state t.k
        → Leads (rows.passive_row gate state dest target toward order answer.0) (trace gate t (TakeReply Dropped) (Ok answer))
    passive t state dest target toward (Whole code six, text) heard way copy f =
        ported (trace gate t (TakeReply Dropped) (Ok (Whole code six, text))) state dest target toward (data_port code six) heard way copy (record { login = f.login; user = f.user; link = f.link })
        (ap (λ (p : Option Toward). dropped_due p (goes_on code)) (pending_so t.k toward way copy))
    passive t state dest target toward (Ended, text) heard way copy f = closed (trace gate t (TakeReply Dropped) (Ok (Ended, text))) refl

    transfer : (t : Trail) (state : State) (dest : Dest) (toward : Toward) (target : Option Target) → t.k.order ≡ Some order → transfer_by t.k.order ≡ Some toward → Fresh t.k → Facts state t.k → t.due ≡ None
        → Leads (rows.transfer_row gate state dest toward order target) t
    transfer t state dest toward None heard way fresh f none = tell t texts.port_first state f none
    transfer t state dest toward (Some target) heard way fresh f none = (
      fits_none t.due (Pass texts.pasv_text) none tt,
      λ done. (
        fits_due (Some (TakeReply (use_of (transfer_by t.k.order) t.k.standing.joined))) (TakeReply Dropped)
            (ap (λ (w : Option Toward). Some (TakeReply (use_of w t.k.standing.joined))) way ∙ ap (λ (b : Bool). Some (TakeReply (use_of (Some toward) b))) fresh.joined),
        λ answer. passive (trace gate t (Pass texts.pasv_text) (Ok done)) (rows.with_setting None state) dest target toward answer heard way fresh.copied (record { login = f.login; user = f.user; link = f.link }),
      ),
    )

    -- ---- commands

    module _ (t : Trail) (state : State) (heard : t.k.order ≡ Some order) (fresh : Fresh t.k) (f : Facts state t.k) where
      linked : (dest : Dest) (asked : served.Served) → kind_of order.verb ≡ kinds.Outward (Served asked) → t.due ≡ served_due gate order asked → Leads (rows.linked_row gate state dest order asked) t
      linked dest Port kind due = port t state (own_target gate.peer.addr (six_of order.arg)) f due
      linked dest Pasv kind due = (fits_none t.due OpenDoor due tt, λ place. door t state place f)
      linked dest Extended kind due = tell t texts.not_implemented state f due
      linked dest (Transfer toward) kind due = transfer t state dest toward state.setting heard (ap transfer_by heard ∙ ap way_of kind) fresh f due
      linked dest Quit kind due = pass t state order.verb (texts.passed_line order.line) true (has_verb gate.options.log order.verb) (no_way t.k heard (ap way_of kind)) f due
      linked dest Other kind due = pass t state order.verb (texts.passed_line order.line) false (has_verb gate.options.log order.verb) (no_way t.k heard (ap way_of kind)) f due

      unlinked : (quits : Bool) → t.due ≡ None → Leads (rows.unlinked_row state quits) t
      unlinked true none = (fits_none t.due (Say texts.goodbye) none tt, λ done. refl)
      unlinked false none = tell t texts.user_first state f none

      served_so : (dest : Option Dest) (asked : served.Served) → kind_of order.verb ≡ kinds.Outward (Served asked) → t.due ≡ linked_due gate dest order asked → Leads (rows.served_row gate state dest order asked) t
      served_so None asked kind due = unlinked (is_quit order.verb) due
      served_so (Some dest) asked kind due = linked dest asked kind due

      allowed : (asked : Outward) → kind_of order.verb ≡ kinds.Outward asked → t.due ≡ allowed_due gate state.dest order asked → Leads (rows.allowed_row gate state order asked) t
      allowed User kind due = user_so t state state.dest refl (ap way_of kind) due heard f
      allowed (Served asked) kind due = served_so state.dest asked kind due

      login : (asked : Outward) (lacks : Bool) → kind_of order.verb ≡ kinds.Outward asked → t.due ≡ unless_due lacks gate state.dest order asked → Leads (rows.login_row gate state order asked lacks) t
      login asked true kind due = log_tell t (blocked_line gate order.verb) (texts.log_in_first gate.line) state refl f due
      login asked false kind due = allowed asked kind due

      outward : (asked : Outward) (denied : Bool) → kind_of order.verb ≡ kinds.Outward asked → t.due ≡ outward_due denied gate (is_in state.account) state.dest order asked → Leads (rows.outward_row gate state order asked denied) t
      outward asked true kind due = log_tell t (blocked_line gate order.verb) (texts.verb_denied gate.line) state refl f due
      outward asked false kind due = login asked (asks_login gate.options order.verb && not (is_in state.account)) kind due

      kind_so : (kind : Kind) → kind_of order.verb ≡ kind → t.due ≡ kind_due gate (is_in state.account) (named_as state.account) state.dest order kind → Leads (rows.kind_row gate state order kind) t
      kind_so kinds.Authorize is due = authorize t state (name_of order.arg) refl heard f due
      kind_so kinds.Response is due = response_so t state state.account order.arg refl f due
      kind_so (kinds.Outward asked) is due = outward asked (has_verb gate.options.deny order.verb) is due

  -- ---- what is heard

  command : (t : Trail) (state : State) (order : Option Order) → t.k.order ≡ order → Fresh t.k → Facts state t.k → t.due ≡ heard_due gate (is_in state.account) (named_as state.account) state.dest order → Leads (rows.command_row gate state order) t
  command t state None heard fresh f due = tell t texts.syntax_error state f due
  command t state (Some order) heard fresh f due = kind_so order t state heard fresh f (kind_of order.verb) refl due

  hear_due : (t : Trail) (state : State) (order : Option Order) → Facts state t.k → heard_due gate t.k.login t.k.user t.k.link order ≡ heard_due gate (is_in state.account) (named_as state.account) state.dest order
  hear_due t state order f =
      ap (λ (b : Bool). heard_due gate b t.k.user t.k.link order) f.login ∙ ap (λ (u : Option (List ℕ)). heard_due gate (is_in state.account) u t.k.link order) f.user
      ∙ ap (λ (l : Option Dest). heard_due gate (is_in state.account) (named_as state.account) l order) f.link

  hear : (t : Trail) (state : State) (heard : Heard) → Facts state t.k → Leads (rows.heard_row gate state heard) (trace gate t (Hear rows.heard_form) (Ok heard))
  hear t state (Line line) f =
      command (trace gate t (Hear rows.heard_form) (Ok (Line line))) state (order_of line.items) refl (record { joined = refl; copied = refl }) (record { login = f.login; user = f.user; link = f.link }) (hear_due t state (order_of line.items) f)
  hear t state TooLong f = tell (trace gate t (Hear rows.heard_form) (Ok TooLong)) texts.syntax_error state (record { login = f.login; user = f.user; link = f.link }) refl
  hear t state (Stopped stop) f = refl

  -- ---- the server's replies

  passed : (t : Trail) (state : State) (quits on : Bool) → Facts state t.k → t.due ≡ passed_due None on → pending_in t.k ≡ None → Leads (rows.passed_row state quits on) t
  passed t state quits true f due pend = (f, due, pend)
  passed t state true false f due pend = due
  passed t state false false f due pend = (f, due)

  answer : (t : Trail) (state : State) (quits : Bool) (heard : Replied × List ℕ) → Facts state t.k → pending_in t.k ≡ None → Leads (rows.answering_row state quits heard.0) (trace gate t (TakeReply Passed) (Ok heard))
  answer t state quits (Whole code six, text) f pend =
      passed (trace gate t (TakeReply Passed) (Ok (Whole code six, text))) state quits (goes_on code) (record { login = f.login; user = f.user; link = f.link })
      (ap (λ (p : Option Toward). passed_due p (goes_on code)) pend) pend
  answer t state quits (Ended, text) f pend = closed (trace gate t (TakeReply Passed) (Ok (Ended, text))) refl

  dropped : (t : Trail) (state : State) (on : Bool) → Facts state t.k → t.due ≡ dropped_due None on → pending_in t.k ≡ None → Leads (rows.dropped_row state on) t
  dropped t state true f due pend = (f, due, pend)
  dropped t state false f due pend = tell t texts.ended_early state f due

  dropping : (t : Trail) (state : State) (heard : Replied × List ℕ) → Facts state t.k → pending_in t.k ≡ None → Leads (rows.dropping_row state heard.0) (trace gate t (TakeReply Dropped) (Ok heard))
  dropping t state (Whole code six, text) f pend =
      dropped (trace gate t (TakeReply Dropped) (Ok (Whole code six, text))) state (goes_on code) (record { login = f.login; user = f.user; link = f.link })
      (ap (λ (p : Option Toward). dropped_due p (goes_on code)) pend) pend
  dropping t state (Ended, text) f pend = closed (trace gate t (TakeReply Dropped) (Ok (Ended, text))) refl

  -- ---- the table

  keeps : Keeps (ftp_rows gate) watch
  keeps (Listening state) t holds = (fits_none t.due (Hear rows.heard_form) holds.1 tt, λ heard. hear t state heard holds.0)
  keeps (Answering state quits) t holds = (fits_due t.due (TakeReply Passed) holds.1, λ heard. answer t state quits heard holds.0 holds.2)
  keeps (Dropping state) t holds = (fits_due t.due (TakeReply Dropped) holds.1, λ heard. dropping t state heard holds.0 holds.2)

  abbrev start : Trail
  start = record { k = at_start; due = None }

  first : Leads ftp_row start
  first = tell start texts.ready (record { account = Unopened; dest = None; setting = None }) (record { login = refl; user = refl; link = refl }) refl

-- ---- all deeds

abbrev traced : Gate → Trail → List Deed → Trail
traced gate t [] = t
traced gate t (deed ∷ deeds) = traced gate (trace gate t deed.act deed.outcome) deeds

abbrev AllFit : Gate → Trail → List Deed → Type 0
AllFit gate t [] = Unit {0}
AllFit gate t (deed ∷ deeds) = FitsDue t.due deed.act × AllFit gate (trace gate t deed.act deed.outcome) deeds

traced_both : (gate : Gate) (t : Trail) (first more : List Deed) → traced gate t (first ++ more) ≡ traced gate (traced gate t first) more
traced_both gate t [] more = refl
traced_both gate t (deed ∷ first) more = traced_both gate (trace gate t deed.act deed.outcome) first more

fit_both : (gate : Gate) (t : Trail) (first more : List Deed) → AllFit gate t first → AllFit gate (traced gate t first) more → AllFit gate t (first ++ more)
fit_both gate t [] more a b = b
fit_both gate t (deed ∷ first) more a b = (a.0, fit_both gate (trace gate t deed.act deed.outcome) first more a.1 b)

known_by : (gate : Gate) (t : Trail) (deeds : List Deed) → (traced gate t deeds).k ≡ known_from gate t.k deeds
known_by gate t [] = refl
known_by gate t (deed ∷ deeds) = known_by gate (trace gate t deed.act deed.outcome) deeds

not_both : (due : Act) → Some due ≡ None → ⊥
not_both due same = cc

-- none is due at the end
logged_so : (due : Option Act) (gate : Gate) (t : Trail) (deeds : List Deed) → t.due ≡ due → AllFit gate t deeds → (traced gate t deeds).due ≡ None → ComesNext due deeds
logged_so None gate t [] is all none = tt
logged_so (Some due) gate t [] is all none = absurd (not_both due (sym is ∙ none))
logged_so None gate t (deed ∷ deeds) is all none = subst (λ (d : Option Act). FitsDue d deed.act) is all.0
logged_so (Some due) gate t (deed ∷ deeds) is all none = subst (λ (d : Option Act). FitsDue d deed.act) is all.0

logged_each : (gate : Gate) (t : Trail) (before after : List Deed) (deed : Deed) → AllFit gate t (before ++ deed ∷ after) → (traced gate t (before ++ deed ∷ after)).due ≡ None
    → ComesNext (due_after gate (traced gate t before).k deed.act deed.outcome) after
logged_each gate t [] after deed all none = logged_so (due_after gate t.k deed.act deed.outcome) gate (trace gate t deed.act deed.outcome) after refl all.1 none
logged_each gate t (other ∷ before) after deed all none = logged_each gate (trace gate t other.act other.outcome) before after deed all.1 none

-- ---- what is owed

close_fits : (gate : Gate) (t : Trail) (opened : Option ℕ) (answer : Result Reply PortFault) → t.due ≡ None → AllFit gate t (closing opened answer)
close_fits gate t None answer none = tt
close_fits gate t (Some sid) answer none = (fits_none t.due (Ask requests.Close) none refl, tt)

close_due : (gate : Gate) (t : Trail) (opened : Option ℕ) (answer : Result Reply PortFault) → t.due ≡ None → (traced gate t (closing opened answer)).due ≡ None
close_due gate t None answer none = none
close_due gate t (Some sid) (Ok reply) none = refl
close_due gate t (Some sid) (Err fault) none = refl

owed_fits : (gate : Gate) (t : Trail) (link : Option Speaker) (opened : Option ℕ) (answer : Result Reply PortFault) → t.due ≡ None → AllFit gate t (freeing link ++ closing opened answer)
owed_fits gate t None opened answer none = close_fits gate t opened answer none
owed_fits gate t (Some up) opened answer none = (fits_none t.due HangUp none tt, close_fits gate (trace gate t HangUp (Ok tt)) opened answer refl)

owed_due : (gate : Gate) (t : Trail) (link : Option Speaker) (opened : Option ℕ) (answer : Result Reply PortFault) → t.due ≡ None → (traced gate t (freeing link ++ closing opened answer)).due ≡ None
owed_due gate t None opened answer none = close_due gate t opened answer none
owed_due gate t (Some up) opened answer none = close_due gate (trace gate t HangUp (Ok tt)) opened answer refl

-- behind an act that stopped none is due
stop_due : (gate : Gate) (k : Known) (act : Act) (halt : Halt act) → due_after gate k act (Err halt) ≡ None
stop_due gate k (Hear form) halt = refl
stop_due gate k (Ask request) halt = refl
stop_due gate k (TakeReply Greeting) halt = refl
stop_due gate k (TakeReply Passed) halt = refl
stop_due gate k (TakeReply Dropped) halt = refl
stop_due gate k (Join dest target) halt = absurd halt
stop_due gate k (Say text) halt = refl
stop_due gate k (Try text) halt = refl
stop_due gate k (Log text) halt = refl
stop_due gate k (Note text) halt = refl
stop_due gate k (Renew name hash) halt = refl
stop_due gate k (Dial dest) halt = absurd halt
stop_due gate k (Reach dest) halt = refl
stop_due gate k Take halt = refl
stop_due gate k (Pass text) halt = refl
stop_due gate k HangUp halt = refl
stop_due gate k Relay halt = refl
stop_due gate k (Deposit sender rcpts words most) halt = refl
stop_due gate k Allot halt = refl
stop_due gate k OpenDoor halt = refl
stop_due gate k (Copy toward) halt = absurd halt
stop_due gate k Part halt = refl

-- ---- a dialogue

record Talked (gate : Gate) (deeds : List Deed) : Type 0 where
  fits : AllFit gate (record { k = at_start; due = None }) deeds
  none : (traced gate (record { k = at_start; due = None }) deeds).due ≡ None

module _ {Origin : Type 0} (gate : Gate) where
  abbrev own : PlaceTable (acts Origin) Place
  own = ftp_rows gate

  abbrev over : Unit {0} → Row (acts Origin) Place
  over done = Over

  steps_fit : (t : Trail) (steps : List (Step (acts Origin))) → AllMay (due_watch Origin gate) t steps → AllFit gate t (map done steps)
  steps_fit t [] all = tt
  steps_fit t (step ∷ steps) all = (all.0, steps_fit (trace gate t step.act (Ok step.answer)) steps all.1)

  steps_trace : (t : Trail) (steps : List (Step (acts Origin))) → history (due_watch Origin gate) t steps ≡ traced gate t (map done steps)
  steps_trace t [] = refl
  steps_trace t (step ∷ steps) = steps_trace (trace gate t step.act (Ok step.answer)) steps

  last_fits : (dialogue : Result (Unit {0}) Cause) (new : World Origin) (left : Row (acts Origin) Place) (mid : World Origin) (comes : Comes own over dialogue new left mid) (t : Trail) → Leaves (due_watch Origin gate) left t
      → AllFit gate t (deed_last own over dialogue new left mid comes)
  last_fits (Ok end) new left mid comes t leaves = tt
  last_fits (Err cause) new (Do act go) mid comes t leaves = (leaves.0, tt)
  last_fits (Err cause) new (At place) mid comes t leaves = ((keeps Origin gate place t leaves).0, tt)
  last_fits (Err cause) new Over mid comes t leaves = absurd comes

  last_due : (dialogue : Result (Unit {0}) Cause) (new : World Origin) (left : Row (acts Origin) Place) (mid : World Origin) (comes : Comes own over dialogue new left mid) (t : Trail) → Leaves (due_watch Origin gate) left t
      → (traced gate t (deed_last own over dialogue new left mid comes)).due ≡ None
  last_due (Ok end) new left mid comes t leaves = subst (λ (r : Row (acts Origin) Place). Leaves (due_watch Origin gate) r t) comes.0 leaves
  last_due (Err cause) new (Do act go) mid comes t leaves = stop_due gate t.k act comes.halt
  last_due (Err cause) new (At place) mid comes t leaves = stop_due gate t.k (own.act place) comes.halt
  last_due (Err cause) new Over mid comes t leaves = absurd comes

  ran_fits : (old new : World Origin) (dialogue : Result (Unit {0}) Cause) (ran : Ran own ftp_row over old new dialogue) → Talked gate (deeds_ran ran)
  ran_fits old new dialogue ran =
      let begin : Trail = record { k = at_start; due = None } in
      let steps = ran.steps in
      let front = map done steps in
      let leaves = run_leaves own (due_watch Origin gate) (keeps Origin gate) ftp_row ran.left begin steps (first Origin gate) ran.run in
      let all = run_may own (due_watch Origin gate) (keeps Origin gate) ftp_row ran.left begin steps (first Origin gate) ran.run in
      let t = traced gate begin front in
      let here : Leaves (due_watch Origin gate) ran.left t = subst (λ (m : Trail). Leaves (due_watch Origin gate) ran.left m) (steps_trace begin steps) leaves in
      let last = deed_last own over dialogue new ran.left ran.mid ran.comes in
      record {
        fits = fit_both gate begin front last (steps_fit begin steps all) (last_fits dialogue new ran.left ran.mid ran.comes t here);
        none = subst (λ (m : Trail). m.due ≡ None) (sym (traced_both gate begin front last)) (last_due dialogue new ran.left ran.mid ran.comes t here);
      }

-- ---- a session

module _ {Origin : Type 0} (gate : Gate) (old new : World Origin) (ending : Ending) (held : Held (ftp_rows gate) ftp_row old new ending) where
  abbrev begin : Trail
  begin = record { k = at_start; due = None }

  abbrev talk : List Deed
  talk = deeds_ran held.ran

  talked : Talked gate talk
  talked = ran_fits gate old held.mid held.dialogue held.ran

  all_fit : AllFit gate begin (deeds_of held)
  all_fit =
      fit_both gate begin talk (owed held.mid held.answer) talked.fits (owed_fits gate (traced gate begin talk) held.mid.server.link held.mid.office.opened held.answer talked.none)

  none_due : (traced gate begin (deeds_of held)).due ≡ None
  none_due =
      subst (λ (m : Trail). m.due ≡ None) (sym (traced_both gate begin talk (owed held.mid held.answer)))
      (owed_due gate (traced gate begin talk) held.mid.server.link held.mid.office.opened held.answer talked.none)

  pub held_due : DoesWhatIsDue gate (deeds_of held)
  held_due = record {
    first = logged_so None gate begin (deeds_of held) refl all_fit none_due;
    each = λ before after deed is.
        subst (λ (k : Known). ComesNext (due_after gate k deed.act deed.outcome) after) (known_by gate begin before)
        (logged_each gate begin before after deed (subst (λ (d : List Deed). AllFit gate begin d) is all_fit) (subst (λ (d : List Deed). (traced gate begin d).due ≡ None) is none_due));
  }
