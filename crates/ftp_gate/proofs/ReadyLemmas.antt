-- Data links are joined only while a link is up, and at a door only while one stands; and data are copied only while data links are up.
use Rattle.std.proofs.Common.{◌≡◌, refl, sym, ap, subst, ◌∙◌, ℕ, Bool, true, false, not, ◌&&◌, ◌||◌, nat_le, List, [], ◌∷◌, ◌++◌, codes, map, Option, Some, None, Result, Ok, Err, if◌then◌else◌}
use mathlib.Core.Bool.{true≢false}
use Rattle.std.specs.Option.{option_map}
use Rattle.auth_events.specs.Login.{is_full}
use Rattle.auth_events.specs.declared.denial.Denial.{Denial}
use Rattle.auth_events.specs.declared.port.PortFault.{PortFault}
use Rattle.auth_events.specs.declared.reply.Reply.{Reply}
use Rattle.auth_events.specs.declared.reply.Reply.TheVariants as replies
use Rattle.fw_acts.specs.Acts.{Row, Step, PlaceTable}
use Rattle.fw_acts.specs.Acts.Row.{Do, At, Over}
use Rattle.fw_acts.specs.Ran.{Comes, Ran}
use Rattle.fw_acts.proofs.HistoryLemmas.{run_leaves, run_may}
use Rattle.fw_outside.specs.declared.heard.Heard.{Heard}
use Rattle.fw_outside.specs.declared.heard.Heard.TheVariants.{Line, TooLong, Stopped}
use Rattle.fw_types.specs.Name.{name_of}
use Rattle.fw_types.specs.declared.dest.Dest.{Dest}
use Rattle.fw_types.specs.declared.ending.Ending.{Ending}
use Rattle.gate_rules.specs.Verdict.{allows}
use Rattle.session_acts.specs.Met.{acts}
use Rattle.session_acts.specs.declared.cause.Cause.{Cause}
use Rattle.session_acts.specs.declared.joined.Joined.{Joined}
use Rattle.session_acts.specs.declared.target.Target.{Target}
use Rattle.session_acts.specs.declared.target.Target.TheVariants.{Addr, AtDoor}
use Rattle.session_acts.specs.declared.toward.Toward.{Toward}
use Rattle.ftp_lines.specs.Six.{six_of}
use Rattle.ftp_gate.specs.Dialogue as rows
use Rattle.ftp_gate.specs.Gate.{Gate, asks_login, has_verb}
use Rattle.ftp_gate.specs.Kind.{is_quit, kind_of}
use Rattle.ftp_gate.specs.Order.{Order, order_of}
use Rattle.ftp_gate.specs.Texts as texts
use Rattle.ftp_gate.specs.User.{name_there, user_of}
use Rattle.ftp_gate.specs.declared.kind.Kind.{Kind}
use Rattle.ftp_gate.specs.declared.kind.Kind.TheVariants as kinds
use Rattle.ftp_gate.specs.declared.kind.Outward.{Outward}
use Rattle.ftp_gate.specs.declared.kind.Outward.TheVariants.{User, Served}
use Rattle.ftp_gate.specs.declared.kind.Served as served
use Rattle.ftp_gate.specs.declared.kind.Served.TheVariants.{Port, Pasv, Extended, Transfer, Quit, Other}
use Rattle.ftp_gate.specs.declared.place.Account.{Account}
use Rattle.ftp_gate.specs.declared.place.Account.TheVariants.{Unopened, Opened}
use Rattle.ftp_gate.specs.declared.place.Place.{Place}
use Rattle.ftp_gate.specs.declared.place.Place.TheVariants.{Listening, Answering, Dropping}
use Rattle.ftp_gate.specs.declared.place.State.{State}
use Rattle.fw_acts.specs.Histories.{AllMay, Keeps, Leaves, Watch, history}
use Rattle.session_acts.specs.Acts.{Act, Outcome}
use Rattle.session_acts.specs.Acts.Act.{Copy, HangUp, Join, OpenDoor, Pass, TakeReply}
use Rattle.session_acts.specs.Deeds.{Deed, deed_last, deeds_ran, done}
use Rattle.session_acts.specs.Joining.{no_door}
use Rattle.session_acts.specs.Session.{Held, closing, deeds_of, freeing, owed}
use Rattle.session_acts.specs.Standing.{AreReady, Standing, is_lacking, is_unasked, standing_of, standing_then}
use Rattle.session_acts.specs.World.{Server, Speaker, World}
use Rattle.session_acts.specs.declared.replied.Replied.{Replied}
use Rattle.session_acts.specs.declared.replied.Replied.TheVariants.{Whole, Ended}
use Rattle.session_acts.specs.declared.reply_use.ReplyUse.TheVariants.{Passed}
use Rattle.session_acts.proofs.DeedLemmas.{held_deeds}
use Rattle.session_acts.proofs.StandingLemmas.{all_ready}
use Rattle.ftp_gate.specs.Dialogue.{data_port, ftp_row, ftp_rows, goes_on, is_done, is_in, is_peers, is_up, is_well, own_target, reason_of, refusing_line}
use Rattle.ftp_gate.specs.Refusals.{JoinsAsked}
use Rattle.ftp_gate.proofs.PairedLemmas.{pair_up, paired_then}

-- ---- what stands behind a deed

-- what stands for data links to be asked for, and whether a pair of them is up
pub record Kept : Type 0 where
  pub standing : Standing
  pub paired : Bool

abbrev pub kept_then : (act : Act) → Outcome act → Kept → Kept
kept_then act outcome s = record { standing = standing_then act outcome s.standing; paired = paired_then act outcome s.paired }

abbrev pub kept_of : Server → Kept
kept_of server = record { standing = standing_of server; paired = pair_up server }

-- behind a dial, by whether that came up
abbrev only_link : Bool → Kept
only_link up = record { standing = record { linked = up; door = false }; paired = false }

-- ---- what stands where a command is waited for

-- a link is up wherever a destination is known, and a door stands wherever one is set; before that nothing is set
abbrev Fits : Option Dest → Option Target → Standing → Type 0
Fits None setting s = setting ≡ None
Fits (Some dest) None s = s.linked ≡ true
Fits (Some dest) (Some target) s = is_lacking target s ≡ false

abbrev Stands : State → Standing → Type 0
Stands state s = Fits state.dest state.setting s

abbrev StandsAt : Kept → Place → Type 0
StandsAt s (Listening state) = Stands state s.standing
StandsAt s (Answering state quits) = Stands state s.standing
StandsAt s (Dropping state) = Stands state s.standing

-- data links can be asked for where they are wanted, and are up where data are copied
abbrev pub CanCome : Kept → Act → Type 0
CanCome s (Join dest target) = is_lacking target s.standing ≡ false
CanCome s (Copy toward) = s.paired ≡ true
CanCome s act = Unit {0}

abbrev ready_watch : (Origin : Type 0) → Watch (acts Origin) Place
ready_watch Origin = record {
  Noted = Kept;
  note = λ s act answer. kept_then act (Ok answer) s;
  may = λ s act. CanCome s act;
  holds = λ s place. StandsAt s place;
  over = λ s. Unit {0};
}

-- ---- how it comes and goes

-- no link is known
unlinked_fits : (state : State) (s : Standing) → state.dest ≡ None → state.setting ≡ None → Stands state s
unlinked_fits state s none unset = subst (λ (d : Option Dest). Fits d state.setting s) (sym none) unset

unset_there : (state : State) (s : Standing) → state.dest ≡ None → Stands state s → state.setting ≡ None
unset_there state s none fits = subst (λ (d : Option Dest). Fits d state.setting s) none fits

up_by : (l b : Bool) → (not l || b) ≡ false → l ≡ true
up_by true b is = refl
up_by false b is = absurd (true≢false is)

up_there : (dest : Dest) (setting : Option Target) (s : Standing) → Fits (Some dest) setting s → s.linked ≡ true
up_there dest None s fits = fits
up_there dest (Some target) s fits = up_by s.linked (no_door target s.door) fits

-- a link to this destination is known
module _ (state : State) (dest : Dest) (is : state.dest ≡ Some dest) where
  fits_there : (s : Standing) → Stands state s → Fits (Some dest) state.setting s
  fits_there s fits = subst (λ (d : Option Dest). Fits d state.setting s) is fits

  set_fits : (target : Target) (s : Standing) → s.linked ≡ true → no_door target s.door ≡ false → Stands (rows.with_setting (Some target) state) s
  set_fits target s up door =
      subst (λ (d : Option Dest). Fits d (Some target) s) (sym is) (ap (λ (l : Bool). not l || no_door target s.door) up ∙ door)

  free_fits : (s : Standing) → s.linked ≡ true → Stands (rows.with_setting None state) s
  free_fits s up = subst (λ (d : Option Dest). Fits d None s) (sym is) up

-- ---- the rows

module _ (Origin : Type 0) (gate : Gate) where
  abbrev Leads : Row (acts Origin) Place → Kept → Type 0
  Leads row s = Leaves (ready_watch Origin) row s

  closed : (s : Kept) → Leads rows.closed_row s
  closed s = (tt, λ done. tt)

  copied : (s : Kept) (state : State) (done : Bool) → Stands state s.standing → Leads (rows.copied_row state done) s
  copied s state true fits = fits
  copied s state false fits = fits

  -- where nothing comes or goes
  module _ (s : Kept) where
    tell : (words : List ℕ) (state : State) → Stands state s.standing → Leads (rows.tell_row words state) s
    tell words state fits = (tt, λ done. fits)

    failed : (name : List ℕ) (denial : Denial) (state : State) → Stands state s.standing → Leads (rows.failed_row gate name denial state) s
    failed name denial state fits = (tt, λ logged. tell texts.login_denied state fits)

    named : (state : State) (name : List ℕ) (stands : Bool) (reply : Reply) → Stands state s.standing → Leads (rows.named_row gate state name stands reply) s
    named state name stands replies.Password fits = tell texts.password_asked (rows.with_account (Opened name stands) state) fits
    named state name stands (replies.Challenge number word_seed) fits = tell (texts.challenge_asked number word_seed) (rows.with_account (Opened name stands) state) fits
    named state name stands (replies.Opened sid) fits = failed name (reason_of (replies.Opened sid)) (rows.with_account (Opened name stands) state) fits
    named state name stands replies.Ok fits = failed name (reason_of replies.Ok) (rows.with_account (Opened name stands) state) fits
    named state name stands (replies.Shown summary) fits = failed name (reason_of (replies.Shown summary)) (rows.with_account (Opened name stands) state) fits
    named state name stands (replies.Denied denial) fits = failed name denial (rows.with_account (Opened name stands) state) fits

    authenticate : (state : State) (name : List ℕ) (stood : Bool) → Stands state s.standing → Leads (rows.authenticate_row gate state name stood) s
    authenticate state name stood fits = (tt, λ reply. named state name (stood && is_full reply) reply fits)

    opened : (state : State) (name : List ℕ) (reply : Reply) → Stands state s.standing → Leads (rows.opened_row gate state name reply) s
    opened state name (replies.Opened sid) fits = authenticate state name false fits
    opened state name replies.Password fits = failed name (reason_of replies.Password) state fits
    opened state name (replies.Challenge number word_seed) fits = failed name (reason_of (replies.Challenge number word_seed)) state fits
    opened state name replies.Ok fits = failed name (reason_of replies.Ok) state fits
    opened state name (replies.Shown summary) fits = failed name (reason_of (replies.Shown summary)) state fits
    opened state name (replies.Denied denial) fits = failed name denial state fits

    name_leads : (state : State) (account : Account) (name : List ℕ) → Stands state s.standing → Leads (rows.name_row gate state account name) s
    name_leads state Unopened name fits = (tt, λ reply. opened state name reply fits)
    name_leads state (Opened other stood) name fits = authenticate state name stood fits

    authorize : (state : State) (name : Option (List ℕ)) → Stands state s.standing → Leads (rows.authorize_row gate state name) s
    authorize state None fits = tell texts.login_denied state fits
    authorize state (Some name) fits = name_leads state state.account name fits

    answered : (state : State) (name : List ℕ) (reply : Reply) → Stands state s.standing → Leads (rows.answered_row gate state name reply) s
    answered state name replies.Ok fits = (tt, λ logged. tell texts.login_ok (rows.with_account (Opened name true) state) fits)
    answered state name replies.Password fits = failed name (reason_of replies.Password) state fits
    answered state name (replies.Challenge number word_seed) fits = failed name (reason_of (replies.Challenge number word_seed)) state fits
    answered state name (replies.Opened sid) fits = failed name (reason_of (replies.Opened sid)) state fits
    answered state name (replies.Shown summary) fits = failed name (reason_of (replies.Shown summary)) state fits
    answered state name (replies.Denied denial) fits = failed name denial state fits

    response : (state : State) (account : Account) (text : List ℕ) → Stands state s.standing → Leads (rows.response_row gate state account text) s
    response state Unopened text fits = tell texts.authorize_first state fits
    response state (Opened name stood) text fits = (tt, λ reply. answered state name reply fits)

    -- what is passed
    pass : (state : State) (verb text : List ℕ) (quits logs : Bool) → Stands state s.standing → Leads (rows.logged_row gate verb logs (Do (Pass text) (λ done. At (Answering state quits)))) s
    pass state verb text quits true fits = (tt, λ logged. (tt, λ done. fits))
    pass state verb text quits false fits = (tt, λ done. fits)

    pass_user : (state : State) (name : List ℕ) → Stands state s.standing → Leads (rows.pass_user_row gate state name) s
    pass_user state name fits = pass state (codes "USER") (texts.user_text name) false (has_verb gate.options.log (codes "USER")) fits

    blocked : (state : State) (verb words : List ℕ) → Stands state s.standing → Leads (rows.blocked_row gate state verb words) s
    blocked state verb words fits = (tt, λ logged. tell words state fits)

    refuse : (state : State) (dest : Dest) (line : ℕ) → Stands state s.standing → Leads (rows.refuse_row gate state dest line) s
    refuse state dest line fits = (tt, λ logged. tell (texts.dest_denied line) state fits)

    -- data that are copied, or let go
    started : (state : State) (toward : Toward) (starts : Bool) → s.paired ≡ true → Stands state s.standing → Leads (rows.started_row state toward starts) s
    started state toward true paired fits = (paired, λ carried. copied (kept_then (Copy toward) (Ok carried) s) state (is_done (option_map (λ way. way.end) carried)) fits)
    started state toward false paired fits = (tt, λ done. fits)

    commanded : (state : State) (toward : Toward) (heard : Replied) → s.paired ≡ true → Stands state s.standing → Leads (rows.commanded_row state toward heard) s
    commanded state toward (Whole code six) paired fits = started state toward (goes_on code) paired fits
    commanded state toward Ended paired fits = closed s

    joined_logged : (state : State) (toward : Toward) (verb text : List ℕ) (logs : Bool) → s.paired ≡ true → Stands state s.standing
        → Leads (rows.logged_row gate verb logs (Do (Pass text) (λ done. Do (TakeReply Passed) (λ heard. rows.commanded_row state toward heard.0)))) s
    joined_logged state toward verb text true paired fits = (tt, λ logged. (tt, λ done. (tt, λ heard. commanded state toward heard.0 paired fits)))
    joined_logged state toward verb text false paired fits = (tt, λ done. (tt, λ heard. commanded state toward heard.0 paired fits))

    joined : (state : State) (toward : Toward) (o : Order) (up : Bool) → (up ≡ true → s.paired ≡ true) → Stands state s.standing → Leads (rows.joined_row gate state toward o up) s
    joined state toward o true paired fits = joined_logged state toward o.verb (texts.passed_line o.line) (has_verb gate.options.log o.verb) (paired refl) fits
    joined state toward o false paired fits = tell texts.no_data_link state fits

  -- ---- destinations, where no link is known
  module _ (state : State) (none : state.dest ≡ None) (unset : state.setting ≡ None) where
    still : (s : Kept) → Stands state s.standing
    still s = unlinked_fits state s.standing none unset

    dest_fits : (dest : Dest) (s : Standing) → s.linked ≡ true → Stands (rows.with_dest dest state) s
    dest_fits dest s up = subst (λ (t : Option Target). Fits (Some dest) t s) (sym unset) up

    welcomed : (s : Kept) (name : List ℕ) (dest : Dest) (well : Bool) → s.standing.linked ≡ true → Leads (rows.welcomed_row gate state name dest well) s
    welcomed s name dest true up = pass_user s (rows.with_dest dest state) name (dest_fits dest s.standing up)
    welcomed s name dest false up = (tt, λ done. still (kept_then HangUp (Ok done) s))

    greeted : (s : Kept) (name : List ℕ) (dest : Dest) (heard : Replied) → s.standing.linked ≡ true → Leads (rows.greeted_row gate state name dest heard) s
    greeted s name dest (Whole code six) up = welcomed s name dest (is_well code) up
    greeted s name dest Ended up = closed s

    dialed : (name : List ℕ) (dest : Dest) (up : Bool) → Leads (rows.dialed_row gate state name dest up) (only_link up)
    dialed name dest true = (tt, λ heard. greeted (only_link true) name dest heard.0 refl)
    dialed name dest false = tell (only_link false) texts.no_route state (still (only_link false))

    connect : (s : Kept) (name : List ℕ) (dest : Dest) → Leads (rows.connect_row gate state name dest) s
    connect s name dest = (tt, λ logged. (tt, λ up. dialed name dest up))

    operated : (s : Kept) (name : List ℕ) (dest : Dest) (reply : Reply) → Leads (rows.operated_row gate state name dest reply) s
    operated s name dest replies.Ok = connect s name dest
    operated s name dest replies.Password = refuse s state dest (refusing_line gate.line replies.Password) (still s)
    operated s name dest (replies.Challenge number word_seed) = refuse s state dest (refusing_line gate.line (replies.Challenge number word_seed)) (still s)
    operated s name dest (replies.Opened sid) = refuse s state dest (refusing_line gate.line (replies.Opened sid)) (still s)
    operated s name dest (replies.Shown summary) = refuse s state dest (refusing_line gate.line (replies.Shown summary)) (still s)
    operated s name dest (replies.Denied denial) = refuse s state dest (refusing_line gate.line (replies.Denied denial)) (still s)

    permitted : (s : Kept) (extnd : Bool) (name : List ℕ) (dest : Dest) → Leads (rows.permitted_row extnd gate state name dest) s
    permitted s true name dest = (tt, λ reply. operated s name dest reply)
    permitted s false name dest = connect s name dest

    dest_leads : (s : Kept) (allowed : Bool) (name : List ℕ) (dest : Dest) → Leads (rows.dest_row allowed gate state name dest) s
    dest_leads s true name dest = permitted s gate.options.extnd name dest
    dest_leads s false name dest = refuse s state dest gate.line (still s)

    wanted : (s : Kept) (user : Option (List ℕ × Dest)) → Leads (rows.wanted_row gate state user) s
    wanted s None = tell s texts.no_destination state (still s)
    wanted s (Some user) = dest_leads s (allows gate.options user.1) user.0 user.1

  again : (s : Kept) (state : State) (name : Option (List ℕ)) → Stands state s.standing → Leads (rows.again_row gate state name) s
  again s state None fits = tell s texts.already_connected state fits
  again s state (Some name) fits = pass_user s state name fits

  user : (s : Kept) (state : State) (dest : Option Dest) (arg : List ℕ) → state.dest ≡ dest → Stands state s.standing → Leads (rows.user_row gate state dest arg) s
  user s state None arg is fits = wanted state is (unset_there state s.standing is fits) s (user_of arg)
  user s state (Some dest) arg is fits = again s state (name_there dest arg) fits

  -- ---- data links, where a link is known
  module _ (state : State) (dest : Dest) (is : state.dest ≡ Some dest) (s : Kept) (fits : Stands state s.standing) where
    up : s.standing.linked ≡ true
    up = up_there dest state.setting s.standing (fits_there state dest is s.standing fits)

    port_if : (own : Bool) (addr : List ℕ) (port : ℕ) → Leads (rows.port_row state (if own then Some (Addr addr port) else None)) s
    port_if true addr port = tell s texts.port_ok (rows.with_setting (Some (Addr addr port)) state) (set_fits state dest is (Addr addr port) s.standing up refl)
    port_if false addr port = tell s texts.foreign_address state fits

    port_leads : (own : Option (List ℕ)) (six : Option (List ℕ × ℕ)) → Leads (rows.port_row state (own_target own six)) s
    port_leads own None = tell s texts.foreign_address state fits
    port_leads own (Some six) = port_if (is_peers own six.0 && nat_le 1024 six.1) six.0 six.1

    door : (place : Option (List ℕ × ℕ)) → Leads (rows.door_row state place) (kept_then OpenDoor (Ok place) s)
    door None = tell s texts.no_door state fits
    door (Some place) =
        let open_door : Kept = record { standing = record { linked = s.standing.linked; door = true }; paired = s.paired } in
        tell open_door (texts.passive_mode place.0 place.1) (rows.with_setting (Some AtDoor) state) (set_fits state dest is AtDoor open_door.standing up refl)

    module _ (target : Target) (ready : is_lacking target s.standing ≡ false) where
      used : (t : Standing) → t.linked ≡ true → Stands (rows.with_setting None state) t
      used t up = free_fits state dest is t up

      joined_then : (side : Dest) (toward : Toward) (o : Order) (joined_so : Joined)
          → Leads (rows.joined_row gate (rows.with_setting None state) toward o (is_up joined_so)) (kept_then (Join side target) (Ok joined_so) s)
      joined_then side toward o joined_so =
          let t = kept_then (Join side target) (Ok joined_so) s in
          joined t (rows.with_setting None state) toward o (is_up joined_so) (λ both. both) (used t.standing up)

      ported : (toward : Toward) (o : Order) (port : Option ℕ) → Leads (rows.ported_row gate (rows.with_setting None state) dest target toward o port) s
      ported toward o None = tell s texts.no_data_port (rows.with_setting None state) (used s.standing up)
      ported toward o (Some port) = (ready, λ joined_so. joined_then (record { host = dest.host; port = port }) toward o joined_so)

      passive : (toward : Toward) (o : Order) (heard : Replied) → Leads (rows.passive_row gate (rows.with_setting None state) dest target toward o heard) s
      passive toward o (Whole code six) = ported toward o (data_port code six)
      passive toward o Ended = closed s

    transfer : (toward : Toward) (o : Order) (setting : Option Target) → state.setting ≡ setting → Leads (rows.transfer_row gate state dest toward o setting) s
    transfer toward o None set = tell s texts.port_first state fits
    transfer toward o (Some target) set =
        let ready : is_lacking target s.standing ≡ false = subst (λ (t : Option Target). Fits (Some dest) t s.standing) set (fits_there state dest is s.standing fits) in
        (tt, λ done. (tt, λ heard. passive target ready toward o heard.0))

    linked : (order : Order) (asked : served.Served) → Leads (rows.linked_row gate state dest order asked) s
    linked order Port = port_leads gate.peer.addr (six_of order.arg)
    linked order Pasv = (tt, λ place. door place)
    linked order Extended = tell s texts.not_implemented state fits
    linked order (Transfer toward) = transfer toward order state.setting refl
    linked order Quit = pass s state order.verb (texts.passed_line order.line) true (has_verb gate.options.log order.verb) fits
    linked order Other = pass s state order.verb (texts.passed_line order.line) false (has_verb gate.options.log order.verb) fits

  -- ---- a command
  module _ (s : Kept) (state : State) (fits : Stands state s.standing) where
    unlinked : (quits : Bool) → Leads (rows.unlinked_row state quits) s
    unlinked true = (tt, λ done. tt)
    unlinked false = tell s texts.user_first state fits

    served_leads : (order : Order) (dest : Option Dest) (asked : served.Served) → state.dest ≡ dest → Leads (rows.served_row gate state dest order asked) s
    served_leads order None asked is = unlinked (is_quit order.verb)
    served_leads order (Some dest) asked is = linked state dest is s fits order asked

    allowed : (order : Order) (asked : Outward) → Leads (rows.allowed_row gate state order asked) s
    allowed order User = user s state state.dest order.arg refl fits
    allowed order (Served asked) = served_leads order state.dest asked refl

    login : (order : Order) (asked : Outward) (lacks : Bool) → Leads (rows.login_row gate state order asked lacks) s
    login order asked true = blocked s state order.verb (texts.log_in_first gate.line) fits
    login order asked false = allowed order asked

    outward : (order : Order) (asked : Outward) (denied : Bool) → Leads (rows.outward_row gate state order asked denied) s
    outward order asked true = blocked s state order.verb (texts.verb_denied gate.line) fits
    outward order asked false = login order asked (asks_login gate.options order.verb && not (is_in state.account))

    kind_leads : (order : Order) (kind : Kind) → Leads (rows.kind_row gate state order kind) s
    kind_leads order kinds.Authorize = authorize s state (name_of order.arg) fits
    kind_leads order kinds.Response = response s state state.account order.arg fits
    kind_leads order (kinds.Outward asked) = outward order asked (has_verb gate.options.deny order.verb)

    command : (order : Option Order) → Leads (rows.command_row gate state order) s
    command None = tell s texts.syntax_error state fits
    command (Some order) = kind_leads order (kind_of order.verb)

    hear : (heard : Heard) → Leads (rows.heard_row gate state heard) s
    hear (Line line) = command (order_of line.items)
    hear TooLong = command None
    hear (Stopped stop) = tt

    -- the server's replies
    passed : (quits on : Bool) → Leads (rows.passed_row state quits on) s
    passed quits true = fits
    passed true false = tt
    passed false false = fits

    answer : (quits : Bool) (heard : Replied) → Leads (rows.answering_row state quits heard) s
    answer quits (Whole code six) = passed quits (goes_on code)
    answer quits Ended = closed s

    dropped : (on : Bool) → Leads (rows.dropped_row state on) s
    dropped true = fits
    dropped false = tell s texts.ended_early state fits

    drops : (heard : Replied) → Leads (rows.dropping_row state heard) s
    drops (Whole code six) = dropped (goes_on code)
    drops Ended = closed s

  -- ---- the table
  keeps : Keeps (ftp_rows gate) (ready_watch Origin)
  keeps (Listening state) s fits = (tt, λ heard. hear s state fits heard)
  keeps (Answering state quits) s fits = (tt, λ heard. answer s state fits quits heard.0)
  keeps (Dropping state) s fits = (tt, λ heard. drops s state fits heard.0)

  begins_so : (s : Kept) → Leads ftp_row s
  begins_so s = (tt, λ done. refl)

-- ---- deeds

abbrev stood : Kept → List Deed → Kept
stood s [] = s
stood s (deed ∷ deeds) = stood (kept_then deed.act deed.outcome s) deeds

abbrev pub AllCome : Kept → List Deed → Type 0
AllCome s [] = Unit {0}
AllCome s (deed ∷ deeds) = CanCome s deed.act × AllCome (kept_then deed.act deed.outcome s) deeds

come_both : (s : Kept) (first more : List Deed) → AllCome s first → AllCome (stood s first) more → AllCome s (first ++ more)
come_both s [] more a b = b
come_both s (deed ∷ first) more a b = (a.0, come_both (kept_then deed.act deed.outcome s) first more a.1 b)

close_comes : (s : Kept) (opened : Option ℕ) (answer : Result Reply PortFault) → AllCome s (closing opened answer)
close_comes s None answer = tt
close_comes s (Some sid) answer = (tt, tt)

owed_come : (s : Kept) (link : Option Speaker) (opened : Option ℕ) (answer : Result Reply PortFault) → AllCome s (freeing link ++ closing opened answer)
owed_come s None opened answer = close_comes s opened answer
owed_come s (Some speaker) opened answer = (tt, close_comes (kept_then HangUp (Ok tt) s) opened answer)

-- what is asked for exactly where it can be, and is wanted only there, is asked for
asked_at : (s : Kept) (before after : List Deed) (dest : Dest) (target : Target) (joined : Joined)
    → AreReady s.standing (before ++ record { act = Join dest target; outcome = Ok joined } ∷ after) → AllCome s (before ++ record { act = Join dest target; outcome = Ok joined } ∷ after) → is_unasked joined ≡ false
asked_at s [] after dest target joined ready can = ready.0 ∙ can.0
asked_at s (deed ∷ before) after dest target joined ready can = asked_at (kept_then deed.act deed.outcome s) before after dest target joined ready.1 can.1

-- ---- a dialogue

module _ {Origin : Type 0} (gate : Gate) where
  abbrev own : PlaceTable (acts Origin) Place
  own = ftp_rows gate

  abbrev over : Unit {0} → Row (acts Origin) Place
  over done = Over

  steps_come : (s : Kept) (steps : List (Step (acts Origin))) → AllMay (ready_watch Origin) s steps → AllCome s (map done steps)
  steps_come s [] all = tt
  steps_come s (step ∷ steps) all = (all.0, steps_come (kept_then step.act (Ok step.answer) s) steps all.1)

  steps_stood : (s : Kept) (steps : List (Step (acts Origin))) → history (ready_watch Origin) s steps ≡ stood s (map done steps)
  steps_stood s [] = refl
  steps_stood s (step ∷ steps) = steps_stood (kept_then step.act (Ok step.answer) s) steps

  last_comes : (dialogue : Result (Unit {0}) Cause) (new : World Origin) (left : Row (acts Origin) Place) (mid : World Origin) (comes : Comes own over dialogue new left mid) (s : Kept) → Leaves (ready_watch Origin) left s
      → AllCome s (deed_last own over dialogue new left mid comes)
  last_comes (Ok end) new left mid comes s leaves = tt
  last_comes (Err cause) new (Do act go) mid comes s leaves = (leaves.0, tt)
  last_comes (Err cause) new (At place) mid comes s leaves = ((keeps Origin gate place s leaves).0, tt)
  last_comes (Err cause) new Over mid comes s leaves = absurd comes

  ran_come : (s : Kept) (old new : World Origin) (dialogue : Result (Unit {0}) Cause) (ran : Ran own ftp_row over old new dialogue) → AllCome s (deeds_ran ran)
  ran_come s old new dialogue ran =
      let steps = ran.steps in
      let first = map done steps in
      let leaves = run_leaves own (ready_watch Origin) (keeps Origin gate) ftp_row ran.left s steps (begins_so Origin gate s) ran.run in
      let all = run_may own (ready_watch Origin) (keeps Origin gate) ftp_row ran.left s steps (begins_so Origin gate s) ran.run in
      let here : Leaves (ready_watch Origin) ran.left (stood s first) = subst (λ (m : Kept). Leaves (ready_watch Origin) ran.left m) (steps_stood s steps) leaves in
      come_both s first (deed_last own over dialogue new ran.left ran.mid ran.comes) (steps_come s steps all) (last_comes dialogue new ran.left ran.mid ran.comes (stood s first) here)

-- ---- a session

module _ {Origin : Type 0} (gate : Gate) (old new : World Origin) (ending : Ending) (held : Held (ftp_rows gate) ftp_row old new ending) where
  pub all_come : AllCome (kept_of old.server) (deeds_of held)
  all_come =
      let s = kept_of old.server in
      come_both s (deeds_ran held.ran) (owed held.mid held.answer) (ran_come gate s old held.mid held.dialogue held.ran)
      (owed_come (stood s (deeds_ran held.ran)) held.mid.server.link held.mid.office.opened held.answer)

  pub held_joined : JoinsAsked (deeds_of held)
  held_joined before after dest target joined is =
      let s = kept_of old.server in
      let ready : AreReady s.standing (deeds_of held) = all_ready (deeds_of held) old new (held_deeds held) in
      asked_at s before after dest target joined (subst (λ (d : List Deed). AreReady s.standing d) is ready) (subst (λ (d : List Deed). AllCome s d) is all_come)
