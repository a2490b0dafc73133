-- The rows open a session at most once, whatever was tried before, and ask nothing of it after its close.
use Rattle.std.proofs.Common.{◌≡◌, refl, sym, ap, subst, ◌∙◌, ℕ, Bool, true, false, not, ◌&&◌, List, codes, Option, Some, None}
use mathlib.Core.Bool.{true≢false}
use Rattle.std.specs.Option.{option_map}
use Rattle.auth_events.specs.Login.{is_full}
use Rattle.auth_events.specs.declared.denial.Denial.{Denial}
use Rattle.auth_events.specs.declared.reply.Reply.{Reply}
use Rattle.auth_events.specs.declared.reply.Reply.TheVariants as replies
use Rattle.auth_events.specs.declared.request.OpService.TheVariants as services
use Rattle.auth_events.specs.declared.request.Request.TheVariants as requests
use Rattle.fw_acts.specs.Acts.{Row}
use Rattle.fw_acts.specs.Acts.Row.{Do, At, Over}
use Rattle.fw_acts.specs.Histories.{Keeps, Leaves, Watch}
use Rattle.fw_outside.specs.declared.heard.Heard.{Heard}
use Rattle.fw_outside.specs.declared.heard.Heard.TheVariants.{Line, TooLong, Stopped}
use Rattle.fw_types.specs.Name.{name_of}
use Rattle.fw_types.specs.declared.dest.Dest.{Dest}
use Rattle.fw_types.specs.declared.ending.Ending.{Ending}
use Rattle.fw_types.specs.declared.host.Host.{Host}
use Rattle.gate_rules.specs.Verdict.{allows}
use Rattle.session_acts.specs.Acts.Act.{Ask, Pass, TakeReply}
use Rattle.session_acts.specs.Course.{CourseState, MayCome}
use Rattle.session_acts.specs.Course.CourseState.{Unasked, Going, Finished}
use Rattle.session_acts.specs.Deeds.{gives}
use Rattle.session_acts.specs.Met.{acts}
use Rattle.session_acts.specs.Once.{OpensOnce, is_opened}
use Rattle.session_acts.specs.Session.{Held, deeds_of}
use Rattle.session_acts.specs.Talk.{asked}
use Rattle.session_acts.specs.World.{World}
use Rattle.session_acts.specs.declared.joined.Joined.{Joined}
use Rattle.session_acts.specs.declared.replied.Replied.{Replied}
use Rattle.session_acts.specs.declared.replied.Replied.TheVariants.{Whole, Ended}
use Rattle.session_acts.specs.declared.reply_use.ReplyUse.TheVariants.{Passed}
use Rattle.session_acts.specs.declared.target.Target.{Target}
use Rattle.session_acts.specs.declared.toward.Toward.{Toward}
use Rattle.session_acts.proofs.OnceLemmas as once
use Rattle.session_acts.proofs.OnceLemmas.{once_watch, opened_state}
use Rattle.ftp_lines.specs.Six.{six_of}
use Rattle.ftp_gate.specs.Dialogue as rows
use Rattle.ftp_gate.specs.Dialogue.{data_port, ftp_row, ftp_rows, goes_on, is_done, is_in, is_up, is_well, own_target, reason_of, refusing_line}
use Rattle.ftp_gate.specs.Gate.{Gate, asks_login, has_verb}
use Rattle.ftp_gate.specs.Kind.{is_quit, kind_of}
use Rattle.ftp_gate.specs.Order.{Order, order_of}
use Rattle.ftp_gate.specs.Texts as texts
use Rattle.ftp_gate.specs.User.{name_there, user_of}
use Rattle.ftp_gate.specs.declared.kind.Kind.{Kind}
use Rattle.ftp_gate.specs.declared.kind.Kind.TheVariants as kinds
use Rattle.ftp_gate.specs.declared.kind.Outward.{Outward}
use Rattle.ftp_gate.specs.declared.kind.Outward.TheVariants.{User, Served}
use Rattle.ftp_gate.specs.declared.kind.Served as served
use Rattle.ftp_gate.specs.declared.kind.Served.TheVariants.{Port, Pasv, Extended, Transfer, Quit, Other}
use Rattle.ftp_gate.specs.declared.place.Account.{Account}
use Rattle.ftp_gate.specs.declared.place.Account.TheVariants.{Unopened, Opened}
use Rattle.ftp_gate.specs.declared.place.Place.{Place}
use Rattle.ftp_gate.specs.declared.place.Place.TheVariants.{Listening, Answering, Dropping}
use Rattle.ftp_gate.specs.declared.place.State.{State}
use Rattle.ftp_gate.proofs.KindLemmas.{user_asks}
use Rattle.ftp_gate.proofs.WatchLemmas.{state_of}

-- a session is open behind the first name for which one could be opened
abbrev course_at : Account → CourseState
course_at Unopened = Unasked
course_at (Opened name logged_in) = Going

abbrev MayBe : Place → CourseState → Type 0
MayBe place course = course ≡ course_at (state_of place).account

-- permission is asked where a login stands
may_operate : (account : Account) (host : Host) → is_in account ≡ true → MayCome false (course_at account) (Ask (requests.Operation services.Ftp host))
may_operate Unopened host is = absurd (true≢false (sym is))
may_operate (Opened name logged_in) host is = refl

stands_so : (asks stands : Bool) → (asks && not stands) ≡ false → asks ≡ true → stands ≡ true
stands_so asks true is on = refl
stands_so true false is on = absurd (true≢false is)
stands_so false false is on = absurd (true≢false (sym on))

module _ (Origin : Type 0) (gate : Gate) where
  abbrev watch : Watch (acts Origin) Place
  watch = once_watch Origin Place MayBe

  abbrev Leads : Row (acts Origin) Place → CourseState → Type 0
  Leads row course = Leaves watch row course

  -- ---- the login

  named : (state : State) (name : List ℕ) (stands : Bool) (reply : Reply) → Leads (rows.named_row gate state name stands reply) Going
  named state name stands replies.Password = (tt, λ done. refl)
  named state name stands (replies.Challenge number word_seed) = (tt, λ done. refl)
  named state name stands (replies.Opened sid) = (tt, λ logged. (tt, λ done. refl))
  named state name stands replies.Ok = (tt, λ logged. (tt, λ done. refl))
  named state name stands (replies.Shown summary) = (tt, λ logged. (tt, λ done. refl))
  named state name stands (replies.Denied denial) = (tt, λ logged. (tt, λ done. refl))

  authenticate : (state : State) (name : List ℕ) (stood : Bool) → Leads (rows.authenticate_row gate state name stood) Going
  authenticate state name stood = (refl, λ reply. named state name (stood && is_full reply) reply)

  -- where no session was opened
  module _ (state : State) (is : state.account ≡ Unopened) where
    vain : (name : List ℕ) (denial : Denial) → Leads (rows.failed_row gate name denial state) Unasked
    vain name denial = (tt, λ logged. (tt, λ done. sym (ap course_at is)))

    opened : (name : List ℕ) (reply : Reply) → Leads (rows.opened_row gate state name reply) (opened_state (is_opened (Some reply)))
    opened name (replies.Opened sid) = authenticate state name false
    opened name replies.Password = vain name (reason_of replies.Password)
    opened name (replies.Challenge number word_seed) = vain name (reason_of (replies.Challenge number word_seed))
    opened name replies.Ok = vain name (reason_of replies.Ok)
    opened name (replies.Shown summary) = vain name (reason_of (replies.Shown summary))
    opened name (replies.Denied denial) = vain name denial

  name_so : (state : State) (account : Account) (name : List ℕ) → state.account ≡ account → Leads (rows.name_row gate state account name) (course_at account)
  name_so state Unopened name is = (refl, λ reply. opened state is name reply)
  name_so state (Opened other stood) name is = authenticate state name stood

  abbrev Stays : State → Row (acts Origin) Place → Type 0
  Stays state row = Leads row (course_at state.account)

  authorize : (state : State) (name : Option (List ℕ)) → Stays state (rows.authorize_row gate state name)
  authorize state None = (tt, λ done. refl)
  authorize state (Some name) = name_so state state.account name refl

  -- where one was
  module _ (state : State) (other : List ℕ) (stood : Bool) (is : state.account ≡ Opened other stood) where
    wrong : (name : List ℕ) (denial : Denial) → Leads (rows.failed_row gate name denial state) Going
    wrong name denial = (tt, λ logged. (tt, λ done. sym (ap course_at is)))

    answered : (name : List ℕ) (reply : Reply) → Leads (rows.answered_row gate state name reply) Going
    answered name replies.Ok = (tt, λ logged. (tt, λ done. refl))
    answered name replies.Password = wrong name (reason_of replies.Password)
    answered name (replies.Challenge number word_seed) = wrong name (reason_of (replies.Challenge number word_seed))
    answered name (replies.Opened sid) = wrong name (reason_of (replies.Opened sid))
    answered name (replies.Shown summary) = wrong name (reason_of (replies.Shown summary))
    answered name (replies.Denied denial) = wrong name denial

  response_so : (state : State) (account : Account) (text : List ℕ) → state.account ≡ account → Leads (rows.response_row gate state account text) (course_at account)
  response_so state Unopened text is = (tt, λ done. sym (ap course_at is))
  response_so state (Opened name stood) text is = (refl, λ reply. answered state name stood is name reply)

  -- ---- what is passed

  pass : (state : State) (verb text : List ℕ) (quits logs : Bool) → Stays state (rows.logged_row gate verb logs (Do (Pass text) (λ done. At (Answering state quits))))
  pass state verb text quits true = (tt, λ logged. (tt, λ done. refl))
  pass state verb text quits false = (tt, λ done. refl)

  pass_user : (state : State) (name : List ℕ) → Stays state (rows.pass_user_row gate state name)
  pass_user state name = pass state (codes "USER") (texts.user_text name) false (has_verb gate.options.log (codes "USER"))

  -- ---- destinations

  welcomed : (state : State) (name : List ℕ) (dest : Dest) (well : Bool) → Stays state (rows.welcomed_row gate state name dest well)
  welcomed state name dest true = pass_user (rows.with_dest dest state) name
  welcomed state name dest false = (tt, λ done. refl)

  greeted : (state : State) (name : List ℕ) (dest : Dest) (replied : Replied) → Stays state (rows.greeted_row gate state name dest replied)
  greeted state name dest (Whole code six) = welcomed state name dest (is_well code)
  greeted state name dest Ended = (tt, λ done. tt)

  dialed : (state : State) (name : List ℕ) (dest : Dest) (up : Bool) → Stays state (rows.dialed_row gate state name dest up)
  dialed state name dest true = (tt, λ heard. greeted state name dest heard.0)
  dialed state name dest false = (tt, λ done. refl)

  connect : (state : State) (name : List ℕ) (dest : Dest) → Stays state (rows.connect_row gate state name dest)
  connect state name dest = (tt, λ logged. (tt, λ up. dialed state name dest up))

  refuse : (state : State) (dest : Dest) (line : ℕ) → Stays state (rows.refuse_row gate state dest line)
  refuse state dest line = (tt, λ logged. (tt, λ done. refl))

  operated : (state : State) (name : List ℕ) (dest : Dest) (reply : Reply) → Stays state (rows.operated_row gate state name dest reply)
  operated state name dest replies.Ok = connect state name dest
  operated state name dest replies.Password = refuse state dest (refusing_line gate.line replies.Password)
  operated state name dest (replies.Challenge number word_seed) = refuse state dest (refusing_line gate.line (replies.Challenge number word_seed))
  operated state name dest (replies.Opened sid) = refuse state dest (refusing_line gate.line (replies.Opened sid))
  operated state name dest (replies.Shown summary) = refuse state dest (refusing_line gate.line (replies.Shown summary))
  operated state name dest (replies.Denied denial) = refuse state dest (refusing_line gate.line (replies.Denied denial))

  module _ (state : State) (stands : gate.options.extnd ≡ true → is_in state.account ≡ true) where
    permitted : (extnd : Bool) (name : List ℕ) (dest : Dest) → gate.options.extnd ≡ extnd → Stays state (rows.permitted_row extnd gate state name dest)
    permitted true name dest is = (may_operate state.account dest.host (stands is), λ reply. operated state name dest reply)
    permitted false name dest is = connect state name dest

    dest_so : (allowed : Bool) (name : List ℕ) (dest : Dest) → Stays state (rows.dest_row allowed gate state name dest)
    dest_so true name dest = permitted gate.options.extnd name dest refl
    dest_so false name dest = refuse state dest gate.line

    wanted : (user : Option (List ℕ × Dest)) → Stays state (rows.wanted_row gate state user)
    wanted None = (tt, λ done. refl)
    wanted (Some user) = dest_so (allows gate.options user.1) user.0 user.1

    again : (name : Option (List ℕ)) → Stays state (rows.again_row gate state name)
    again None = (tt, λ done. refl)
    again (Some name) = pass_user state name

    user : (dest : Option Dest) (arg : List ℕ) → Stays state (rows.user_row gate state dest arg)
    user None arg = wanted (user_of arg)
    user (Some dest) arg = again (name_there dest arg)

  -- ---- data links

  port : (state : State) (target : Option Target) → Stays state (rows.port_row state target)
  port state None = (tt, λ done. refl)
  port state (Some target) = (tt, λ done. refl)

  door : (state : State) (place : Option (List ℕ × ℕ)) → Stays state (rows.door_row state place)
  door state None = (tt, λ done. refl)
  door state (Some place) = (tt, λ done. refl)

  copied : (state : State) (done : Bool) → Stays state (rows.copied_row state done)
  copied state true = refl
  copied state false = refl

  started : (state : State) (toward : Toward) (starts : Bool) → Stays state (rows.started_row state toward starts)
  started state toward true = (tt, λ carried. copied state (is_done (option_map (λ way. way.end) carried)))
  started state toward false = (tt, λ done. refl)

  commanded : (state : State) (toward : Toward) (replied : Replied) → Stays state (rows.commanded_row state toward replied)
  commanded state toward (Whole code six) = started state toward (goes_on code)
  commanded state toward Ended = (tt, λ done. tt)

  joined_logged : (state : State) (toward : Toward) (verb text : List ℕ) (logs : Bool)
      → Stays state (rows.logged_row gate verb logs (Do (Pass text) (λ done. Do (TakeReply Passed) (λ heard. rows.commanded_row state toward heard.0))))
  joined_logged state toward verb text true = (tt, λ logged. (tt, λ done. (tt, λ heard. commanded state toward heard.0)))
  joined_logged state toward verb text false = (tt, λ done. (tt, λ heard. commanded state toward heard.0))

  joined : (state : State) (toward : Toward) (order : Order) (up : Bool) → Stays state (rows.joined_row gate state toward order up)
  joined state toward order true = joined_logged state toward order.verb (texts.passed_line order.line) (has_verb gate.options.log order.verb)
  joined state toward order false = (tt, λ done. refl)

  ported : (state : State) (dest : Dest) (target : Target) (toward : Toward) (order : Order) (at : Option ℕ) → Stays state (rows.ported_row gate state dest target toward order at)
  ported state dest target toward order None = (tt, λ done. refl)
  ported state dest target toward order (Some at) = (tt, λ up. joined state toward order (is_up up))

  passive : (state : State) (dest : Dest) (target : Target) (toward : Toward) (order : Order) (replied : Replied) → Stays state (rows.passive_row gate state dest target toward order replied)
  passive state dest target toward order (Whole code six) = ported state dest target toward order (data_port code six)
  passive state dest target toward order Ended = (tt, λ done. tt)

  transfer : (state : State) (dest : Dest) (toward : Toward) (order : Order) (target : Option Target) → Stays state (rows.transfer_row gate state dest toward order target)
  transfer state dest toward order None = (tt, λ done. refl)
  transfer state dest toward order (Some target) = (tt, λ done. (tt, λ heard. passive (rows.with_setting None state) dest target toward order heard.0))

  -- ---- commands

  module _ (state : State) (order : Order) where
    linked : (dest : Dest) (asked : served.Served) → Stays state (rows.linked_row gate state dest order asked)
    linked dest Port = port state (own_target gate.peer.addr (six_of order.arg))
    linked dest Pasv = (tt, λ place. door state place)
    linked dest Extended = (tt, λ done. refl)
    linked dest (Transfer toward) = transfer state dest toward order state.setting
    linked dest Quit = pass state order.verb (texts.passed_line order.line) true (has_verb gate.options.log order.verb)
    linked dest Other = pass state order.verb (texts.passed_line order.line) false (has_verb gate.options.log order.verb)

    unlinked : (quits : Bool) → Stays state (rows.unlinked_row state quits)
    unlinked true = (tt, λ done. tt)
    unlinked false = (tt, λ done. refl)

    served_so : (dest : Option Dest) (asked : served.Served) → Stays state (rows.served_row gate state dest order asked)
    served_so None asked = unlinked (is_quit order.verb)
    served_so (Some dest) asked = linked dest asked

    abbrev lacks : Bool
    lacks = asks_login gate.options order.verb && not (is_in state.account)

    allowed : (asked : Outward) → kind_of order.verb ≡ kinds.Outward asked → lacks ≡ false → Stays state (rows.allowed_row gate state order asked)
    allowed User kind none =
        user state (λ extnd. stands_so (asks_login gate.options order.verb) (is_in state.account) none (user_asks gate.options order.verb kind extnd)) state.dest order.arg
    allowed (Served asked) kind none = served_so state.dest asked

    login : (asked : Outward) (none : Bool) → kind_of order.verb ≡ kinds.Outward asked → lacks ≡ none → Stays state (rows.login_row gate state order asked none)
    login asked true kind is = (tt, λ logged. (tt, λ done. refl))
    login asked false kind is = allowed asked kind is

    outward : (asked : Outward) (denied : Bool) → kind_of order.verb ≡ kinds.Outward asked → Stays state (rows.outward_row gate state order asked denied)
    outward asked true kind = (tt, λ logged. (tt, λ done. refl))
    outward asked false kind = login asked lacks kind refl

    kind_so : (kind : Kind) → kind_of order.verb ≡ kind → Stays state (rows.kind_row gate state order kind)
    kind_so kinds.Authorize is = authorize state (name_of order.arg)
    kind_so kinds.Response is = response_so state state.account order.arg refl
    kind_so (kinds.Outward asked) is = outward asked (has_verb gate.options.deny order.verb) is

  command : (state : State) (order : Option Order) → Stays state (rows.command_row gate state order)
  command state None = (tt, λ done. refl)
  command state (Some order) = kind_so state order (kind_of order.verb) refl

  hear : (state : State) (heard : Heard) → Stays state (rows.heard_row gate state heard)
  hear state (Line line) = command state (order_of line.items)
  hear state TooLong = (tt, λ done. refl)
  hear state (Stopped stop) = tt

  -- ---- the server's replies

  passed : (state : State) (quits on : Bool) → Stays state (rows.passed_row state quits on)
  passed state quits true = refl
  passed state true false = tt
  passed state false false = refl

  answer : (state : State) (quits : Bool) (replied : Replied) → Stays state (rows.answering_row state quits replied)
  answer state quits (Whole code six) = passed state quits (goes_on code)
  answer state quits Ended = (tt, λ done. tt)

  dropped : (state : State) (on : Bool) → Stays state (rows.dropped_row state on)
  dropped state true = refl
  dropped state false = (tt, λ done. refl)

  dropping : (state : State) (replied : Replied) → Stays state (rows.dropping_row state replied)
  dropping state (Whole code six) = dropped state (goes_on code)
  dropping state Ended = (tt, λ done. tt)

  -- ---- the table

  at_place : (place : Place) → Leads (Do (rows.act_at place) (rows.row_at gate place)) (course_at (state_of place).account)
  at_place (Listening state) = (tt, λ heard. hear state heard)
  at_place (Answering state quits) = (tt, λ heard. answer state quits heard.0)
  at_place (Dropping state) = (tt, λ heard. dropping state heard.0)

  keeps : Keeps (ftp_rows gate) watch
  keeps place course is = subst (λ (c : CourseState). Leads (Do (rows.act_at place) (rows.row_at gate place)) c) (sym is) (at_place place)

  first : Leads ftp_row Unasked
  first = (tt, λ done. refl)

  once_in : (old new : World Origin) (ending : Ending) (held : Held (ftp_rows gate) ftp_row old new ending) → old.office.opened ≡ None → OpensOnce (gives asked (deeds_of held))
  once_in old new ending held none = once.held_once Origin Place MayBe (ftp_rows gate) ftp_row old new ending held first keeps none

pub held_once : {Origin : Type 0} (gate : Gate) (old new : World Origin) (ending : Ending) (held : Held (ftp_rows gate) ftp_row old new ending) → old.office.opened ≡ None → OpensOnce (gives asked (deeds_of held))
held_once {Origin} gate old new ending held none = once_in Origin gate old new ending held none
