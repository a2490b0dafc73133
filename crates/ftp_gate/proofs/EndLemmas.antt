-- With which deed the dialogue ends, and what the rows do behind it.
use Rattle.std.proofs.Common.{◌≡◌, refl, sym, ap, subst, ◌∙◌, ℕ, Bool, true, false, not, ◌&&◌, ◌||◌, List, [], ◌∷◌, ◌++◌, codes, map, Option, Some, None, Result, Ok, Err}
use mathlib.Core.Bool.{true≢false}
use Rattle.std.specs.List.{AllByRecursion}
use Rattle.std.specs.Option.{option_map}
use Rattle.auth_events.specs.Login.{is_full}
use Rattle.auth_events.specs.declared.denial.Denial.{Denial}
use Rattle.auth_events.specs.declared.port.PortFault.{PortFault}
use Rattle.auth_events.specs.declared.reply.Reply.{Reply}
use Rattle.auth_events.specs.declared.reply.Reply.TheVariants as replies
use Rattle.auth_events.specs.declared.request.Request.TheVariants as requests
use Rattle.fw_acts.specs.Acts.{Row, Step, PlaceTable}
use Rattle.fw_acts.specs.Acts.Row.{Do, At, Over}
use Rattle.fw_acts.specs.Histories.{AllMay, Keeps, Leaves, Watch, history}
use Rattle.fw_acts.specs.Ran.{Comes, Ran}
use Rattle.fw_acts.proofs.HistoryLemmas.{run_leaves, run_may}
use Rattle.fw_outside.specs.declared.heard.Heard.{Heard}
use Rattle.fw_outside.specs.declared.heard.Heard.TheVariants.{Line, TooLong, Stopped}
use Rattle.fw_types.specs.Name.{name_of}
use Rattle.fw_types.specs.declared.dest.Dest.{Dest}
use Rattle.fw_types.specs.declared.ending.Ending.{Ending}
use Rattle.gate_rules.specs.Verdict.{allows}
use Rattle.session_acts.specs.Acts.{Act, Outcome}
use Rattle.session_acts.specs.Acts.Act.{Hear, Say, Try, Log, Note, Ask, Renew, Dial, Reach, Take, Pass, HangUp, Relay, Deposit, Allot, TakeReply, OpenDoor, Join, Copy, Part}
use Rattle.session_acts.specs.Deeds.{Deed, deed_last, deeds_ran, done}
use Rattle.session_acts.specs.Hearing.{heard_by}
use Rattle.session_acts.specs.Met.{acts}
use Rattle.session_acts.specs.Session.{Held, closing, deeds_of, freeing, owed}
use Rattle.session_acts.specs.World.{Speaker, World}
use Rattle.session_acts.specs.declared.cause.Cause.{Cause}
use Rattle.session_acts.specs.declared.joined.Joined.{Joined}
use Rattle.session_acts.specs.declared.joined.Joined.TheVariants as joins
use Rattle.session_acts.specs.declared.replied.Replied.{Replied}
use Rattle.session_acts.specs.declared.replied.Replied.TheVariants.{Whole, Ended}
use Rattle.session_acts.specs.declared.reply_use.ReplyUse.TheVariants.{Passed, Dropped, Greeting}
use Rattle.session_acts.specs.declared.target.Target.{Target}
use Rattle.session_acts.specs.declared.toward.Toward.{Toward}
use Rattle.ftp_lines.specs.Six.{six_of}
use Rattle.ftp_gate.specs.Dialogue as rows
use Rattle.ftp_gate.specs.Dialogue.{data_port, ftp_row, ftp_rows, goes_on, is_done, is_in, is_up, is_well, own_target, reason_of, refusing_line}
use Rattle.ftp_gate.specs.Ends.{EndsThere, HasEnd, IsLast, ends_dialogue, is_end, is_quit_kind, is_quit_order}
use Rattle.ftp_gate.specs.Gate.{Gate, asks_login, has_verb}
use Rattle.ftp_gate.specs.Kind.{is_quit, kind_of}
use Rattle.ftp_gate.specs.Known.{begins, known, order_in}
use Rattle.ftp_gate.specs.Laws.{IsDone}
use Rattle.ftp_gate.specs.Order.{Order, order_of}
use Rattle.ftp_gate.specs.Texts as texts
use Rattle.ftp_gate.specs.User.{name_there, user_of}
use Rattle.ftp_gate.specs.declared.kind.Kind.{Kind}
use Rattle.ftp_gate.specs.declared.kind.Kind.TheVariants as kinds
use Rattle.ftp_gate.specs.declared.kind.Outward.{Outward}
use Rattle.ftp_gate.specs.declared.kind.Outward.TheVariants.{User, Served}
use Rattle.ftp_gate.specs.declared.kind.Served as served
use Rattle.ftp_gate.specs.declared.kind.Served.TheVariants.{Port, Pasv, Extended, Transfer, Quit, Other}
use Rattle.ftp_gate.specs.declared.place.Account.{Account}
use Rattle.ftp_gate.specs.declared.place.Account.TheVariants.{Unopened, Opened}
use Rattle.ftp_gate.specs.declared.place.Place.{Place}
use Rattle.ftp_gate.specs.declared.place.Place.TheVariants.{Listening, Answering, Dropping}
use Rattle.ftp_gate.specs.declared.place.State.{State}
use Rattle.ftp_gate.proofs.AccountLemmas.{deed_of}
use Rattle.ftp_gate.proofs.OrderLemmas.{order_after, order_from, order_known}

-- ---- the watch

-- the command that was heard last, and whether the dialogue ended
record Reached : Type 0 where
  order : Option Order
  ended : Bool

abbrev reach : Reached → (act : Act) → Outcome act → Reached
reach r act outcome = record { order = order_after r.order act outcome; ended = r.ended || ends_dialogue r.order act outcome }

abbrev IsLastIf : Bool → Act → Type 0
IsLastIf true act = IsLast act
IsLastIf false act = Unit {0}

abbrev HoldsAt : Reached → Place → Type 0
HoldsAt r (Listening state) = r.ended ≡ false
HoldsAt r (Answering state quits) = (r.ended ≡ false) × (is_quit_order r.order ≡ quits)
HoldsAt r (Dropping state) = r.ended ≡ false

abbrev end_watch : (Origin : Type 0) → Watch (acts Origin) Place
end_watch Origin = record {
  Noted = Reached;
  note = λ r act answer. reach r act (Ok answer);
  may = λ r act. IsLastIf r.ended act;
  holds = λ r place. HoldsAt r place;
  over = λ r. r.ended ≡ true;
}

-- the dialogue goes on
abbrev going : Option Order → Reached
going order = record { order = order; ended = false }

-- ---- the rows

module _ (Origin : Type 0) (gate : Gate) where
  abbrev Leads : Row (acts Origin) Place → Reached → Type 0
  Leads row r = Leaves (end_watch Origin) row r

  closed : (r : Reached) → r.ended ≡ true → Leads rows.closed_row r
  closed r is = subst (λ (b : Bool). Leads rows.closed_row (record { order = r.order; ended = b })) (sym is) (refl, λ done. refl)

  -- a command that was heard last
  module _ (order : Option Order) where
    tell : (words : List ℕ) (state : State) → begins words (codes "221 Goodbye") ≡ false → Leads (rows.tell_row words state) (going order)
    tell words state other = (tt, λ done. other)

    failed : (name : List ℕ) (denial : Denial) (state : State) → Leads (rows.failed_row gate name denial state) (going order)
    failed name denial state = (tt, λ logged. tell texts.login_denied state refl)

    named : (state : State) (name : List ℕ) (stands : Bool) (reply : Reply) → Leads (rows.named_row gate state name stands reply) (going order)
    named state name stands replies.Password = tell texts.password_asked (rows.with_account (Opened name stands) state) refl
    named state name stands (replies.Challenge number word_seed) = tell (texts.challenge_asked number word_seed) (rows.with_account (Opened name stands) state) refl
    named state name stands (replies.Opened sid) = failed name (reason_of (replies.Opened sid)) (rows.with_account (Opened name stands) state)
    named state name stands replies.Ok = failed name (reason_of replies.Ok) (rows.with_account (Opened name stands) state)
    named state name stands (replies.Shown summary) = failed name (reason_of (replies.Shown summary)) (rows.with_account (Opened name stands) state)
    named state name stands (replies.Denied denial) = failed name denial (rows.with_account (Opened name stands) state)

    authenticate : (state : State) (name : List ℕ) (stood : Bool) → Leads (rows.authenticate_row gate state name stood) (going order)
    authenticate state name stood = (tt, λ reply. named state name (stood && is_full reply) reply)

    opened : (state : State) (name : List ℕ) (reply : Reply) → Leads (rows.opened_row gate state name reply) (going order)
    opened state name (replies.Opened sid) = authenticate state name false
    opened state name replies.Password = failed name (reason_of replies.Password) state
    opened state name (replies.Challenge number word_seed) = failed name (reason_of (replies.Challenge number word_seed)) state
    opened state name replies.Ok = failed name (reason_of replies.Ok) state
    opened state name (replies.Shown summary) = failed name (reason_of (replies.Shown summary)) state
    opened state name (replies.Denied denial) = failed name denial state

    name_row : (state : State) (account : Account) (name : List ℕ) → Leads (rows.name_row gate state account name) (going order)
    name_row state Unopened name = (tt, λ reply. opened state name reply)
    name_row state (Opened other stood) name = authenticate state name stood

    authorize : (state : State) (name : Option (List ℕ)) → Leads (rows.authorize_row gate state name) (going order)
    authorize state None = tell texts.login_denied state refl
    authorize state (Some name) = name_row state state.account name

    answered : (state : State) (name : List ℕ) (reply : Reply) → Leads (rows.answered_row gate state name reply) (going order)
    answered state name replies.Ok = (tt, λ logged. tell texts.login_ok (rows.with_account (Opened name true) state) refl)
    answered state name replies.Password = failed name (reason_of replies.Password) state
    answered state name (replies.Challenge number word_seed) = failed name (reason_of (replies.Challenge number word_seed)) state
    answered state name (replies.Opened sid) = failed name (reason_of (replies.Opened sid)) state
    answered state name (replies.Shown summary) = failed name (reason_of (replies.Shown summary)) state
    answered state name (replies.Denied denial) = failed name denial state

    response : (state : State) (account : Account) (text : List ℕ) → Leads (rows.response_row gate state account text) (going order)
    response state Unopened text = tell texts.authorize_first state refl
    response state (Opened name stood) text = (tt, λ reply. answered state name reply)

    -- what is passed
    pass : (state : State) (verb text : List ℕ) (quits logs : Bool) → is_quit_order order ≡ quits → Leads (rows.logged_row gate verb logs (Do (Pass text) (λ done. At (Answering state quits)))) (going order)
    pass state verb text quits true is = (tt, λ logged. (tt, λ done. (refl, is)))
    pass state verb text quits false is = (tt, λ done. (refl, is))

    blocked : (state : State) (verb words : List ℕ) → begins words (codes "221 Goodbye") ≡ false → Leads (rows.blocked_row gate state verb words) (going order)
    blocked state verb words other = (tt, λ logged. tell words state other)

    -- ---- destinations, for a command that isn't QUIT
    module _ (stays : is_quit_order order ≡ false) where
      pass_user : (state : State) (name : List ℕ) → Leads (rows.pass_user_row gate state name) (going order)
      pass_user state name = pass state (codes "USER") (texts.user_text name) false (has_verb gate.options.log (codes "USER")) stays

      welcomed : (state : State) (name : List ℕ) (dest : Dest) (well : Bool) → Leads (rows.welcomed_row gate state name dest well) (going order)
      welcomed state name dest true = pass_user (rows.with_dest dest state) name
      welcomed state name dest false = (tt, λ done. refl)

      greeted : (state : State) (name : List ℕ) (dest : Dest) (heard : Replied × List ℕ) → Leads (rows.greeted_row gate state name dest heard.0) (reach (going order) (TakeReply Greeting) (Ok heard))
      greeted state name dest (Whole code six, text) = welcomed state name dest (is_well code)
      greeted state name dest (Ended, text) = (refl, λ done. refl)

      dialed : (state : State) (name : List ℕ) (dest : Dest) (up : Bool) → Leads (rows.dialed_row gate state name dest up) (going order)
      dialed state name dest true = (tt, λ heard. greeted state name dest heard)
      dialed state name dest false = tell texts.no_route state refl

      connect : (state : State) (name : List ℕ) (dest : Dest) → Leads (rows.connect_row gate state name dest) (going order)
      connect state name dest = (tt, λ logged. (tt, λ up. dialed state name dest up))

      refuse : (state : State) (dest : Dest) (line : ℕ) → Leads (rows.refuse_row gate state dest line) (going order)
      refuse state dest line = (tt, λ logged. tell (texts.dest_denied line) state refl)

      operated : (state : State) (name : List ℕ) (dest : Dest) (reply : Reply) → Leads (rows.operated_row gate state name dest reply) (going order)
      operated state name dest replies.Ok = connect state name dest
      operated state name dest replies.Password = refuse state dest (refusing_line gate.line replies.Password)
      operated state name dest (replies.Challenge number word_seed) = refuse state dest (refusing_line gate.line (replies.Challenge number word_seed))
      operated state name dest (replies.Opened sid) = refuse state dest (refusing_line gate.line (replies.Opened sid))
      operated state name dest (replies.Shown summary) = refuse state dest (refusing_line gate.line (replies.Shown summary))
      operated state name dest (replies.Denied denial) = refuse state dest (refusing_line gate.line (replies.Denied denial))

      permitted : (extnd : Bool) (state : State) (name : List ℕ) (dest : Dest) → Leads (rows.permitted_row extnd gate state name dest) (going order)
      permitted true state name dest = (tt, λ reply. operated state name dest reply)
      permitted false state name dest = connect state name dest

      dest_leads : (allowed : Bool) (state : State) (name : List ℕ) (dest : Dest) → Leads (rows.dest_row allowed gate state name dest) (going order)
      dest_leads true state name dest = permitted gate.options.extnd state name dest
      dest_leads false state name dest = refuse state dest gate.line

      wanted : (state : State) (user : Option (List ℕ × Dest)) → Leads (rows.wanted_row gate state user) (going order)
      wanted state None = tell texts.no_destination state refl
      wanted state (Some user) = dest_leads (allows gate.options user.1) state user.0 user.1

      again : (state : State) (name : Option (List ℕ)) → Leads (rows.again_row gate state name) (going order)
      again state None = tell texts.already_connected state refl
      again state (Some name) = pass_user state name

      user : (state : State) (dest : Option Dest) (arg : List ℕ) → Leads (rows.user_row gate state dest arg) (going order)
      user state None arg = wanted state (user_of arg)
      user state (Some dest) arg = again state (name_there dest arg)

      -- ---- data links
      port : (state : State) (target : Option Target) → Leads (rows.port_row state target) (going order)
      port state None = tell texts.foreign_address state refl
      port state (Some target) = tell texts.port_ok (rows.with_setting (Some target) state) refl

      door : (state : State) (place : Option (List ℕ × ℕ)) → Leads (rows.door_row state place) (going order)
      door state None = tell texts.no_door state refl
      door state (Some place) = (tt, λ done. refl)

      copied : (state : State) (done : Bool) → Leads (rows.copied_row state done) (going order)
      copied state true = (refl, stays)
      copied state false = refl

      started : (state : State) (toward : Toward) (starts : Bool) → Leads (rows.started_row state toward starts) (going order)
      started state toward true = (tt, λ carried. copied state (is_done (option_map (λ way. way.end) carried)))
      started state toward false = (tt, λ done. refl)

      commanded : (state : State) (toward : Toward) (heard : Replied × List ℕ) → Leads (rows.commanded_row state toward heard.0) (reach (going order) (TakeReply Passed) (Ok heard))
      commanded state toward (Whole code six, text) =
          subst (λ (b : Bool). Leads (rows.started_row state toward (goes_on code)) (record { order = order; ended = false || (b && not (goes_on code)) })) (sym stays) (started state toward (goes_on code))
      commanded state toward (Ended, text) = (refl, λ done. refl)

      joined_logged : (state : State) (toward : Toward) (verb text : List ℕ) (logs : Bool)
          → Leads (rows.logged_row gate verb logs (Do (Pass text) (λ done. Do (TakeReply Passed) (λ heard. rows.commanded_row state toward heard.0)))) (going order)
      joined_logged state toward verb text true = (tt, λ logged. (tt, λ done. (tt, λ heard. commanded state toward heard)))
      joined_logged state toward verb text false = (tt, λ done. (tt, λ heard. commanded state toward heard))

      joined : (state : State) (toward : Toward) (o : Order) (up : Bool) → Leads (rows.joined_row gate state toward o up) (going order)
      joined state toward o true = joined_logged state toward o.verb (texts.passed_line o.line) (has_verb gate.options.log o.verb)
      joined state toward o false = tell texts.no_data_link state refl

      ported : (state : State) (dest : Dest) (target : Target) (toward : Toward) (o : Order) (port : Option ℕ) → Leads (rows.ported_row gate state dest target toward o port) (going order)
      ported state dest target toward o None = tell texts.no_data_port state refl
      ported state dest target toward o (Some port) = (tt, λ up. joined state toward o (is_up up))

      passive : (state : State) (dest : Dest) (target : Target) (toward : Toward) (o : Order) (heard : Replied × List ℕ)
          → Leads (rows.passive_row gate state dest target toward o heard.0) (reach (going order) (TakeReply Dropped) (Ok heard))
      passive state dest target toward o (Whole code six, text) = ported state dest target toward o (data_port code six)
      passive state dest target toward o (Ended, text) = (refl, λ done. refl)

      transfer : (state : State) (dest : Dest) (toward : Toward) (o : Order) (target : Option Target) → Leads (rows.transfer_row gate state dest toward o target) (going order)
      transfer state dest toward o None = tell texts.port_first state refl
      transfer state dest toward o (Some target) = (tt, λ done. (tt, λ heard. passive (rows.with_setting None state) dest target toward o heard))

  -- ---- a command
  module _ (order : Order) where
    linked : (state : State) (dest : Dest) (asked : served.Served) → kind_of order.verb ≡ kinds.Outward (Served asked) → Leads (rows.linked_row gate state dest order asked) (going (Some order))
    linked state dest Port kind = port (Some order) (ap is_quit_kind kind) state (own_target gate.peer.addr (six_of order.arg))
    linked state dest Pasv kind = (tt, λ place. door (Some order) (ap is_quit_kind kind) state place)
    linked state dest Extended kind = tell (Some order) texts.not_implemented state refl
    linked state dest (Transfer toward) kind = transfer (Some order) (ap is_quit_kind kind) state dest toward order state.setting
    linked state dest Quit kind = pass (Some order) state order.verb (texts.passed_line order.line) true (has_verb gate.options.log order.verb) (ap is_quit_kind kind)
    linked state dest Other kind = pass (Some order) state order.verb (texts.passed_line order.line) false (has_verb gate.options.log order.verb) (ap is_quit_kind kind)

    unlinked : (state : State) (quits : Bool) → Leads (rows.unlinked_row state quits) (going (Some order))
    unlinked state true = (tt, λ done. refl)
    unlinked state false = tell (Some order) texts.user_first state refl

    served_leads : (state : State) (dest : Option Dest) (asked : served.Served) → kind_of order.verb ≡ kinds.Outward (Served asked) → Leads (rows.served_row gate state dest order asked) (going (Some order))
    served_leads state None asked kind = unlinked state (is_quit order.verb)
    served_leads state (Some dest) asked kind = linked state dest asked kind

    allowed : (state : State) (asked : Outward) → kind_of order.verb ≡ kinds.Outward asked → Leads (rows.allowed_row gate state order asked) (going (Some order))
    allowed state User kind = user (Some order) (ap is_quit_kind kind) state state.dest order.arg
    allowed state (Served asked) kind = served_leads state state.dest asked kind

    login : (state : State) (asked : Outward) (lacks : Bool) → kind_of order.verb ≡ kinds.Outward asked → Leads (rows.login_row gate state order asked lacks) (going (Some order))
    login state asked true kind = blocked (Some order) state order.verb (texts.log_in_first gate.line) refl
    login state asked false kind = allowed state asked kind

    outward : (state : State) (asked : Outward) (denied : Bool) → kind_of order.verb ≡ kinds.Outward asked → Leads (rows.outward_row gate state order asked denied) (going (Some order))
    outward state asked true kind = blocked (Some order) state order.verb (texts.verb_denied gate.line) refl
    outward state asked false kind = login state asked (asks_login gate.options order.verb && not (is_in state.account)) kind

    kind_leads : (state : State) (kind : Kind) → kind_of order.verb ≡ kind → Leads (rows.kind_row gate state order kind) (going (Some order))
    kind_leads state kinds.Authorize kind = authorize (Some order) state (name_of order.arg)
    kind_leads state kinds.Response kind = response (Some order) state state.account order.arg
    kind_leads state (kinds.Outward asked) kind = outward state asked (has_verb gate.options.deny order.verb) kind

  command : (state : State) (order : Option Order) → Leads (rows.command_row gate state order) (going order)
  command state None = tell None texts.syntax_error state refl
  command state (Some order) = kind_leads order state (kind_of order.verb) refl

  hear : (state : State) (order : Option Order) (heard : Heard) → Leads (rows.heard_row gate state heard) (reach (going order) (Hear rows.heard_form) (Ok heard))
  hear state order (Line line) = command state (order_of line.items)
  hear state order TooLong = command state None
  hear state order (Stopped stop) = refl

  -- ---- the server's replies
  passed : (state : State) (order : Option Order) (quits on : Bool) → is_quit_order order ≡ quits → Leads (rows.passed_row state quits on) (record { order = order; ended = quits && not on })
  passed state order true true is = (refl, is)
  passed state order false true is = (refl, is)
  passed state order true false is = refl
  passed state order false false is = refl

  answer : (state : State) (order : Option Order) (quits : Bool) (heard : Replied × List ℕ) → is_quit_order order ≡ quits → Leads (rows.answering_row state quits heard.0) (reach (going order) (TakeReply Passed) (Ok heard))
  answer state order quits (Whole code six, text) is =
      subst (λ (b : Bool). Leads (rows.passed_row state quits (goes_on code)) (record { order = order; ended = b && not (goes_on code) })) (sym is) (passed state order quits (goes_on code) is)
  answer state order quits (Ended, text) is = (refl, λ done. refl)

  dropped : (state : State) (order : Option Order) (on : Bool) → Leads (rows.dropped_row state on) (going order)
  dropped state order true = refl
  dropped state order false = tell order texts.ended_early state refl

  drop_leads : (state : State) (order : Option Order) (heard : Replied × List ℕ) → Leads (rows.dropping_row state heard.0) (reach (going order) (TakeReply Dropped) (Ok heard))
  drop_leads state order (Whole code six, text) = dropped state order (goes_on code)
  drop_leads state order (Ended, text) = (refl, λ done. refl)

  -- ---- the table
  abbrev LeadsAt : Place → Reached → Type 0
  LeadsAt place r = Leads (Do (rows.act_at place) (rows.row_at gate place)) r

  at_place : (place : Place) (order : Option Order) → HoldsAt (going order) place → LeadsAt place (going order)
  at_place (Listening state) order holds = (tt, λ heard. hear state order heard)
  at_place (Answering state quits) order holds = (tt, λ heard. answer state order quits heard holds.1)
  at_place (Dropping state) order holds = (tt, λ heard. drop_leads state order heard)

  ended_at : (place : Place) (r : Reached) → HoldsAt r place → r.ended ≡ false
  ended_at (Listening state) r holds = holds
  ended_at (Answering state quits) r holds = holds.0
  ended_at (Dropping state) r holds = holds

  keeps : Keeps (ftp_rows gate) (end_watch Origin)
  keeps place r holds =
      let is = ended_at place r holds in
      subst (λ (b : Bool). LeadsAt place (record { order = r.order; ended = b })) (sym is)
      (at_place place r.order (subst (λ (b : Bool). HoldsAt (record { order = r.order; ended = b }) place) is holds))

  begins_so : Leads ftp_row (going None)
  begins_so = (tt, λ done. refl)

-- ---- deeds behind one with which the dialogue ends

abbrev reached : Reached → List Deed → Reached
reached r [] = r
reached r (deed ∷ deeds) = reached (reach r deed.act deed.outcome) deeds

abbrev AllFit : Reached → List Deed → Type 0
AllFit r [] = Unit {0}
AllFit r (deed ∷ deeds) = IsLastIf r.ended deed.act × AllFit (reach r deed.act deed.outcome) deeds

reached_order : (r : Reached) (deeds : List Deed) → (reached r deeds).order ≡ order_from r.order deeds
reached_order r [] = refl
reached_order r (deed ∷ deeds) = reached_order (reach r deed.act deed.outcome) deeds

reached_both : (r : Reached) (first more : List Deed) → reached r (first ++ more) ≡ reached (reached r first) more
reached_both r [] more = refl
reached_both r (deed ∷ first) more = reached_both (reach r deed.act deed.outcome) first more

fit_both : (r : Reached) (first more : List Deed) → AllFit r first → AllFit (reached r first) more → AllFit r (first ++ more)
fit_both r [] more a b = b
fit_both r (deed ∷ first) more a b = (a.0, fit_both (reach r deed.act deed.outcome) first more a.1 b)

fit_behind : (r : Reached) (first more : List Deed) → AllFit r (first ++ more) → AllFit (reached r first) more
fit_behind r [] more all = all
fit_behind r (deed ∷ first) more all = fit_behind (reach r deed.act deed.outcome) first more all.1

fit_if : (b : Bool) (act : Act) → IsLast act → IsLastIf b act
fit_if true act last = last
fit_if false act last = tt

last_of : (b : Bool) (act : Act) → b ≡ true → IsLastIf b act → IsLast act
last_of true act is fits = fits
last_of false act is fits = absurd (true≢false (sym is))

or_true : (b other : Bool) → b ≡ true → (b || other) ≡ true
or_true true other is = refl
or_true false other is = absurd (true≢false (sym is))

or_so : (b other : Bool) → other ≡ true → (b || other) ≡ true
or_so true other is = refl
or_so false other is = is

all_last : (r : Reached) (deeds : List Deed) → r.ended ≡ true → AllFit r deeds → AllByRecursion (λ (later : Deed). IsLast later.act) deeds
all_last r [] is all = tt
all_last r (deed ∷ deeds) is all =
    (last_of r.ended deed.act is all.0, all_last (reach r deed.act deed.outcome) deeds (or_true r.ended (ends_dialogue r.order deed.act deed.outcome) is) all.1)

close_fits : (r : Reached) (opened : Option ℕ) (answer : Result Reply PortFault) → AllFit r (closing opened answer)
close_fits r None answer = tt
close_fits r (Some sid) answer = (fit_if r.ended (Ask requests.Close) refl, tt)

owed_fits : (r : Reached) (link : Option Speaker) (opened : Option ℕ) (answer : Result Reply PortFault) → AllFit r (freeing link ++ closing opened answer)
owed_fits r None opened answer = close_fits r opened answer
owed_fits r (Some up) opened answer = (fit_if r.ended HangUp tt, close_fits (reach r HangUp (Ok tt)) opened answer)

-- ---- one of them

record IsFound (order : Option Order) (deeds : List Deed) : Type 0 where
  before : List Deed
  deed : Deed
  after : List Deed
  is : deeds ≡ before ++ deed ∷ after
  ends : ends_dialogue (order_from order before) deed.act deed.outcome ≡ true

found_by : (order : Option Order) (deed : Deed) (deeds : List Deed) (here : Bool) → ends_dialogue order deed.act deed.outcome ≡ here
    → ((reached (going (order_after order deed.act deed.outcome)) deeds).ended ≡ true → IsFound (order_after order deed.act deed.outcome) deeds)
    → (reached (record { order = order_after order deed.act deed.outcome; ended = here }) deeds).ended ≡ true → IsFound order (deed ∷ deeds)
found_by order deed deeds true here later is = record { before = []; deed = deed; after = deeds; is = refl; ends = here }
found_by order deed deeds false here later is =
    let rest = later is in
    record { before = deed ∷ rest.before; deed = rest.deed; after = rest.after; is = ap (λ (d : List Deed). deed ∷ d) rest.is; ends = rest.ends }

found : (order : Option Order) (deeds : List Deed) → (reached (going order) deeds).ended ≡ true → IsFound order deeds
found order [] is = absurd (true≢false (sym is))
found order (deed ∷ deeds) is = found_by order deed deeds (ends_dialogue order deed.act deed.outcome) refl (λ more. found (order_after order deed.act deed.outcome) deeds more) is

-- ---- a dialogue

record Talked (dialogue : Result (Unit {0}) Cause) (deeds : List Deed) : Type 0 where
  fits : AllFit (going None) deeds
  ended : IsDone dialogue → (reached (going None) deeds).ended ≡ true

module _ {Origin : Type 0} (gate : Gate) where
  abbrev own : PlaceTable (acts Origin) Place
  own = ftp_rows gate

  abbrev over : Unit {0} → Row (acts Origin) Place
  over done = Over

  steps_fit : (r : Reached) (steps : List (Step (acts Origin))) → AllMay (end_watch Origin) r steps → AllFit r (map done steps)
  steps_fit r [] all = tt
  steps_fit r (step ∷ steps) all = (all.0, steps_fit (reach r step.act (Ok step.answer)) steps all.1)

  steps_reach : (r : Reached) (steps : List (Step (acts Origin))) → history (end_watch Origin) r steps ≡ reached r (map done steps)
  steps_reach r [] = refl
  steps_reach r (step ∷ steps) = steps_reach (reach r step.act (Ok step.answer)) steps

  last_fits : (dialogue : Result (Unit {0}) Cause) (new : World Origin) (left : Row (acts Origin) Place) (mid : World Origin) (comes : Comes own over dialogue new left mid) (r : Reached) → Leaves (end_watch Origin) left r
      → AllFit r (deed_last own over dialogue new left mid comes)
  last_fits (Ok end) new left mid comes r leaves = tt
  last_fits (Err cause) new (Do act go) mid comes r leaves = (leaves.0, tt)
  last_fits (Err cause) new (At place) mid comes r leaves = ((keeps Origin gate place r leaves).0, tt)
  last_fits (Err cause) new Over mid comes r leaves = absurd comes

  last_ends : (dialogue : Result (Unit {0}) Cause) (new : World Origin) (left : Row (acts Origin) Place) (mid : World Origin) (comes : Comes own over dialogue new left mid) (r : Reached) → Leaves (end_watch Origin) left r
      → IsDone dialogue → (reached r (deed_last own over dialogue new left mid comes)).ended ≡ true
  last_ends (Ok end) new left mid comes r leaves done = subst (λ (z : Row (acts Origin) Place). Leaves (end_watch Origin) z r) comes.0 leaves
  last_ends (Err cause) new left mid comes r leaves done = absurd done

  ran_fits : (old new : World Origin) (dialogue : Result (Unit {0}) Cause) (ran : Ran own ftp_row over old new dialogue) → Talked dialogue (deeds_ran ran)
  ran_fits old new dialogue ran =
      let start = going None in
      let steps = ran.steps in
      let first = map done steps in
      let leaves = run_leaves own (end_watch Origin) (keeps Origin gate) ftp_row ran.left start steps (begins_so Origin gate) ran.run in
      let all = run_may own (end_watch Origin) (keeps Origin gate) ftp_row ran.left start steps (begins_so Origin gate) ran.run in
      let r = reached start first in
      let here : Leaves (end_watch Origin) ran.left r = subst (λ (m : Reached). Leaves (end_watch Origin) ran.left m) (steps_reach start steps) leaves in
      let last = deed_last own over dialogue new ran.left ran.mid ran.comes in
      record {
        fits = fit_both start first last (steps_fit start steps all) (last_fits dialogue new ran.left ran.mid ran.comes r here);
        ended = λ ends. subst (λ (m : Reached). m.ended ≡ true) (sym (reached_both start first last)) (last_ends dialogue new ran.left ran.mid ran.comes r here ends);
      }

-- ---- a session

module _ {Origin : Type 0} (gate : Gate) (old new : World Origin) (ending : Ending) (held : Held (ftp_rows gate) ftp_row old new ending) where
  talked : Talked held.dialogue (deeds_ran held.ran)
  talked = ran_fits gate old held.mid held.dialogue held.ran

  all_fit : AllFit (going None) (deeds_of held)
  all_fit =
      fit_both (going None) (deeds_ran held.ran) (owed held.mid held.answer) talked.fits
      (owed_fits (reached (going None) (deeds_ran held.ran)) held.mid.server.link held.mid.office.opened held.answer)

  pub held_there : EndsThere gate (deeds_of held)
  held_there before after deed is ends =
      let r = reached (going None) before in
      let order : (known gate before).order ≡ r.order = order_known gate before ∙ sym (reached_order (going None) before) in
      let here : ends_dialogue r.order deed.act deed.outcome ≡ true = subst (λ (o : Option Order). ends_dialogue o deed.act deed.outcome ≡ true) order ends in
      let fits : AllFit r (deed ∷ after) = fit_behind (going None) before (deed ∷ after) (subst (λ (d : List Deed). AllFit (going None) d) is all_fit) in
      all_last (reach r deed.act deed.outcome) after (or_so r.ended (ends_dialogue r.order deed.act deed.outcome) here) fits.1

  pub held_ended : IsDone held.dialogue → HasEnd gate (deeds_ran held.ran)
  held_ended done =
      let one = found None (deeds_ran held.ran) (talked.ended done) in
      record {
        before = one.before;
        deed = one.deed;
        after = one.after;
        is = one.is;
        ends = subst (λ (o : Option Order). ends_dialogue o one.deed.act one.deed.outcome ≡ true) (sym (order_known gate one.before)) one.ends;
      }
