-- What the rows of commands for a server keep, to which a link is up.
use Rattle.std.proofs.Common.{◌≡◌, ◌≤◌, arith, refl, sym, ap, subst, ◌∙◌, ℕ, Bool, true, false, not, ◌&&◌, ◌||◌, List, [], ◌∷◌, ◌++◌, Option, Some, None, Result, Ok, Err, inl, inr, codes, append_assoc, append-nil}
use mathlib.Core.Bool.{true≢false}
use Rattle.std.specs.Prelude.{◌/◌, ◌==◌, nat_le, if◌then◌else◌}
use Rattle.std.specs.Option.{option_map}
use Rattle.std.proofs.lemmas.Bool.Decides.{nat_tests}
use Rattle.std.specs.Str.{bytes_eq}
use Rattle.std.proofs.lemmas.Slice.Eq.{bytes_eq-Decides}
use Rattle.auth_events.specs.Login.{is_full, is_ok, login_then}
use Rattle.auth_events.specs.declared.denial.Denial.{Denial}
use Rattle.auth_events.specs.declared.denial.Denial.TheVariants.{NotIn}
use Rattle.auth_events.specs.declared.reply.Reply.{Reply}
use Rattle.auth_events.specs.declared.reply.Reply.TheVariants as replies
use Rattle.auth_events.specs.declared.request.OpService.TheVariants as services
use Rattle.auth_events.specs.declared.request.Request.{Request}
use Rattle.auth_events.specs.declared.request.Request.TheVariants as requests
use Rattle.fw_acts.specs.Acts.{Row, PlaceTable}
use Rattle.fw_acts.specs.Acts.Row.{Do, At, Over}
use Rattle.fw_acts.specs.Histories.{Keeps, Leaves, Watch}
use Rattle.fw_types.specs.declared.dest.Dest.{Dest}
use Rattle.md5.specs.Md5.{md5}
use Rattle.otp_md5.specs.Hexadecimal.{read_of}
use Rattle.session_acts.specs.Acts.{Act, Outcome}
use Rattle.session_acts.specs.Acts.Act.{Ask, Copy, Dial, HangUp, Hear, Join, Log, OpenDoor, Part, Pass, Say, TakeReply}
use Rattle.session_acts.specs.Client.{line_logged}
use Rattle.session_acts.specs.Deeds.{Deed}
use Rattle.session_acts.specs.Met.{acts}
use Rattle.session_acts.specs.declared.target.Target.{Target}
use Rattle.session_acts.specs.declared.target.Target.TheVariants.{Addr, AtDoor}
use Rattle.ftp_gate.specs.Dialogue as rows
use Rattle.ftp_gate.specs.Dialogue.{heard_form, is_in, reason_of, with_account}
use Rattle.ftp_gate.specs.Gate.{Gate, asks_login, has_verb}
use Rattle.ftp_gate.specs.Kind.{kind_of}
use Rattle.ftp_gate.specs.LogLines.{blocked_line, command_line, connect_line, fail_line, login_line, refuse_line}
use Rattle.ftp_gate.specs.Order.{Order}
use Rattle.ftp_gate.specs.Passage.{Standing, asked_allowed, asked_by, asked_dest, asked_kind, asked_outward, asked_unless, asked_user, dest_if, first_name, line_if, name_text, passed_allowed, passed_as, passed_kind, passed_linked, passed_outward, passed_served, passed_transfer, passed_unless, passed_user}
use Rattle.ftp_gate.specs.Texts as texts
use Rattle.ftp_gate.specs.declared.kind.Kind.{Kind}
use Rattle.ftp_gate.specs.declared.kind.Kind.TheVariants as kinds
use Rattle.ftp_gate.specs.declared.place.Account.{Account}
use Rattle.ftp_gate.specs.declared.place.Account.TheVariants.{Unopened, Opened}
use Rattle.ftp_gate.specs.declared.place.Place.{Place}
use Rattle.ftp_gate.specs.declared.place.Place.TheVariants.{Listening, Answering, Dropping}
use Rattle.ftp_gate.specs.declared.place.State.{State}
use Rattle.ftp_gate.specs.Laws.{EndsWith, HasCause, IsAbout, IsCleared, IsCutShort, IsDisallowed, IsFailure, IsLoggedFirst, IsNoName, IsOwnCopy, IsOwnDoor, IsOwnPair, IsOwnTarget, IsPassable, IsPortless, IsRefusal, IsUnblocked, IsUnjoined, IsUnpermitted, Wants, asked_so, clearing, fails, granted, granted_if, port_asked}
use Rattle.ftp_gate.specs.Known.{Known, begins, dests_in, greeted_with, greeting_by, joined_with, known_after, order_in, passage_in, port_set, set_by, used_up, with_deed}
use Rattle.ftp_gate.proofs.AccountLemmas.{Noted, at_first, deed_of, named_login, note}
use Rattle.ftp_gate.proofs.WatchLemmas.{Behind, Due, Even, Holds, IsOwnSetting, IsPlain, IsUser, Knows, May, behind, calm, clash, closed_leaves, ftp_watch, logged_even, logged_holds, logged_knows, plain_first, say_leaves, tell_leaves}
use Rattle.fw_types.specs.Name.{name_of}
use Rattle.ftp_gate.proofs.BaseLemmas.{Base, Silent, asked_base, even_at, even_of, logged_base}
use Rattle.fw_types.specs.declared.host.Host.{Host}
use Rattle.gate_rules.specs.Verdict.{allows}
use Rattle.session_acts.specs.declared.replied.Replied.{Replied}
use Rattle.session_acts.specs.declared.replied.Replied.TheVariants as replied
use Rattle.session_acts.specs.declared.reply_use.ReplyUse.TheVariants.{Passed, Dropped, Greeting}
use Rattle.ftp_gate.specs.User.{name_there, user_of}
use Rattle.ftp_gate.specs.declared.kind.Outward.{Outward}
use Rattle.ftp_gate.specs.declared.kind.Outward.TheVariants.{User, Served}
use Rattle.ftp_gate.specs.declared.kind.Served as served
use Rattle.ftp_gate.specs.declared.kind.Served.TheVariants.{Port, Pasv, Extended, Transfer, Quit, Other}
use Rattle.ftp_lines.specs.Six.{six_of}
use Rattle.session_acts.specs.declared.joined.Joined.{Joined}
use Rattle.session_acts.specs.declared.joined.Joined.TheVariants as joins
use Rattle.session_acts.specs.declared.toward.Toward.{Toward}
use Rattle.ftp_gate.proofs.StartLemmas.{Free, Start, asks_allowed, due_behind, due_even, due_logged, given_knows, keeps_set, pass_leaves, passes_allowed, stands_by, still_passable, unblocked}

-- ---- the client's own address

abbrev none_set : Option Target
none_set = None

abbrev target_or : Target → Option Target → Target
target_or other None = other
target_or other (Some target) = target

no_target : {A : Type 0} (target : Target) → none_set ≡ Some target → A
no_target target is = absurd (cc)

at_least : (port : ℕ) → nat_le 1024 port ≡ true → 1024 ≤ port
at_least port is = grind (arith, nat_tests)

own_by : (gate : Gate) (own : Option (List ℕ)) (six : List ℕ × ℕ) (target : Target) (a b : Bool) → gate.peer.addr ≡ own → rows.is_peers own six.0 ≡ a → nat_le 1024 six.1 ≡ b
    → (if a && b then Some (Addr six.0 six.1) else None) ≡ Some target → IsOwnTarget gate.peer target
own_by gate None six target true b peer same small is = clash same
own_by gate (Some own) six target true true peer same small is =
    subst (λ (t : Target). IsOwnTarget gate.peer t) (ap (λ (o : Option Target). target_or target o) is) (peer ∙ ap (λ (a : List ℕ). Some a) ((bytes_eq-Decides own six.0).0 same), at_least six.1 small)
own_by gate own six target true false peer same small is = no_target target is
own_by gate own six target false b peer same small is = no_target target is

own_of : (gate : Gate) (six : Option (List ℕ × ℕ)) (target : Target) → rows.own_target gate.peer.addr six ≡ Some target → IsOwnTarget gate.peer target
own_of gate None target is = no_target target is
own_of gate (Some six) target is = own_by gate gate.peer.addr six target (rows.is_peers gate.peer.addr six.0) (nat_le 1024 six.1) refl refl refl is

-- the server was asked for its data port, and what was set is used up
record Asked (gate : Gate) (state : State) (order : Order) (n : Noted) : Type 0 where
  order_is : n.k.order ≡ Some order
  knows : Knows gate (rows.with_setting None state) n.k
  login : n.k.standing.login ≡ is_in state.account
  passed : n.passed ≡ n.k.earlier ++ texts.pasv_text
  calls : n.calls ≡ n.k.before
  due : (joined : Bool) → passed_as gate (record (n.k.standing) { joined = joined }) (Some order) ≡ texts.pasv_text ++ line_if joined order.line
  joined : n.k.standing.joined ≡ false
  setting : n.k.standing.setting ≡ state.setting

module _ (Origin : Type 0) (gate : Gate) (state : State) (order : Order) (main : Dest) (linked : state.dest ≡ Some main) where
  abbrev watch : Watch (acts Origin) Place
  watch = ftp_watch Origin gate

  abbrev FreeFor : served.Served → Type 0
  FreeFor asked = Free gate state order (Served asked)

  passes : (asked : served.Served) → FreeFor asked → (n : Noted) → Start gate state order n → passed_as gate n.k.standing (Some order) ≡ passed_served n.k.standing order asked
  passes asked free n start =
      passes_allowed gate state order (Served asked) free n.k.standing start.login ∙ ap (λ (l : Option Dest). passed_linked l n.k.standing order asked) (start.link ∙ linked)

  asks_none : (asked : served.Served) → FreeFor asked → (st : Standing) → st.login ≡ is_in state.account → asked_by gate st (Some order) ≡ []
  asks_none asked free st login = asks_allowed gate state order (Served asked) free st login

  passable : (asked : served.Served) → FreeFor asked → (n : Noted) → Start gate state order n → IsPassable gate n.k
  passable asked free n start = record { order = order; unblocked = unblocked gate state order (Served asked) free n.k start.base.heard start.knows.login; main = main; link = start.knows.link ∙ linked }

  even_start : (asked : served.Served) → (free : FreeFor asked) → (n : Noted) → Start gate state order n → passed_served n.k.standing order asked ≡ [] → Even gate n
  even_start asked free n start none = even_at gate order n start.base (passes asked free n start ∙ none) (asks_none asked free n.k.standing start.login)

  -- ---- PORT and PASV

  port_leaves : FreeFor Port → (n : Noted) (target : Option Target) → rows.own_target gate.peer.addr (six_of order.arg) ≡ target → Start gate state order n → Leaves watch (rows.port_row state target) n
  port_leaves free n None is start =
      tell_leaves Origin gate n texts.foreign_address state (record { other = refl; verb = refl; login = refl; dest = refl; failed = refl }) (calm refl refl refl refl refl refl) (start.knows, even_start Port free n start refl)
  port_leaves free n (Some target) is start =
      let even = even_start Port free n start refl in
      let first : IsLoggedFirst gate texts.port_ok n.k = record { verb = λ it. clash it; login = λ it. clash it; dest = λ it. clash it; failed = λ it. clash it } in
      let sets : set_by (port_set gate) n.k.order n.k.setting ≡ Some target =
      ap (λ (o : Option Order). set_by (port_set gate) o n.k.setting) start.base.heard ∙ ap (λ (kind : Kind). port_set gate order kind n.k.setting) free.kind ∙ is in (
        ((first, calm refl refl refl refl refl refl), behind gate n even),
        λ done. (
          record { login = start.knows.login; user = start.knows.user; link = start.knows.link; up = start.knows.up; setting = sets; own = own_of gate (six_of order.arg) target is },
          record { is = even.is ∙ sym (append-nil n.passed); asks = even.asks ∙ sym (append-nil n.calls) },
        ),
      )

  opened_leaves : (n : Noted) (door : Option (List ℕ × ℕ)) → Knows gate state n.k → Even gate n → Leaves watch (rows.door_row state door) (note gate n OpenDoor (Ok door))
  opened_leaves n None knows even =
      tell_leaves Origin gate (note gate n OpenDoor (Ok None)) texts.no_door state (record { other = refl; verb = refl; login = refl; dest = refl; failed = refl })
      (record { route = λ is. clash is; door = λ is. (n.k.since, refl); pair = λ is. clash is; port = λ is. clash is; closed = λ is. clash is; early = λ is. clash is })
      (record { login = knows.login; user = knows.user; link = knows.link; up = knows.up; setting = knows.setting; own = knows.own }, record { is = even.is ∙ sym (append-nil n.passed); asks = even.asks ∙ sym (append-nil n.calls) })
  opened_leaves n (Some place) knows even =
      tell_leaves Origin gate (note gate n OpenDoor (Ok (Some place))) (texts.passive_mode place.0 place.1) (rows.with_setting (Some AtDoor) state) (record { other = refl; verb = refl; login = refl; dest = refl; failed = refl }) (calm refl refl refl refl refl refl)
      (record { login = knows.login; user = knows.user; link = knows.link; up = knows.up; setting = refl; own = tt }, record { is = even.is ∙ sym (append-nil n.passed); asks = even.asks ∙ sym (append-nil n.calls) })

  door_leaves : FreeFor Pasv → (n : Noted) → Start gate state order n → Leaves watch (Do OpenDoor (rows.door_row state)) n
  door_leaves free n start =
      let even = even_start Pasv free n start refl in
      let may : IsOwnDoor gate n.k = record {
        order = order;
        unblocked = unblocked gate state order (Served Pasv) free n.k start.base.heard start.knows.login;
        kind = free.kind;
        main = main;
        link = start.knows.link ∙ linked;
        since = start.since;
      } in
      ((may, behind gate n even), λ door. opened_leaves n door start.knows even)

  -- ---- what is passed as it came

  line_leaves : (asked : served.Served) (free : FreeFor asked) (quits : Bool) (n : Noted) → passed_served n.k.standing order asked ≡ texts.passed_line order.line → ((s : Option Target) → used_up (kinds.Outward (Served asked)) s ≡ s) → Start gate state order n
      → Leaves watch (rows.pass_row gate state order.verb (texts.passed_line order.line) quits) n
  line_leaves asked free quits n is keeps start =
      let due : Due gate (texts.passed_line order.line) n = record {
        is =
            ap (λ (o : Option Order). n.k.earlier ++ passed_as gate n.k.standing o) start.base.heard ∙ ap (λ (z : List ℕ). n.k.earlier ++ z) (passes asked free n start ∙ is)
            ∙ ap (λ (z : List ℕ). z ++ texts.passed_line order.line) (sym start.base.passed);
        asks = ap (λ (o : Option Order). n.k.before ++ asked_by gate n.k.standing o) start.base.heard ∙ ap (λ (z : List Dest). n.k.before ++ z) (asks_none asked free n.k.standing start.login) ∙ append-nil n.k.before ∙ sym start.base.calls;
      } in
      pass_leaves Origin gate state order.verb (texts.passed_line order.line) quits (has_verb gate.options.log order.verb) n due (passable asked free n start)
      (keeps_set gate state order (Served asked) free n.k start.base.heard keeps) start.knows

  -- ---- transfers

  module _ (toward : Toward) (free : FreeFor (Transfer toward)) where
    abbrev bare : State
    bare = rows.with_setting None state

    asked_dests : (n : Noted) → Asked gate state order n → (joined : Bool) → n.k.before ++ asked_by gate (record (n.k.standing) { joined = joined }) n.k.order ≡ n.calls
    asked_dests n a joined =
        ap (λ (o : Option Order). n.k.before ++ asked_by gate (record (n.k.standing) { joined = joined }) o) a.order_is
        ∙ ap (λ (z : List Dest). n.k.before ++ z) (asks_none (Transfer toward) free (record (n.k.standing) { joined = joined }) a.login) ∙ append-nil n.k.before ∙ sym a.calls

    standing_as : (st : Standing) → st.joined ≡ false → record st { joined = false } ≡ st
    standing_as st is = ap (λ (b : Bool). record st { joined = b }) (sym is)

    asked_even : (n : Noted) → Asked gate state order n → Even gate n
    asked_even n a =
        let same = standing_as n.k.standing a.joined in
        record {
          is =
              ap (λ (st : Standing). n.k.earlier ++ passed_as gate st n.k.order) (sym same) ∙ ap (λ (o : Option Order). n.k.earlier ++ passed_as gate (record (n.k.standing) { joined = false }) o) a.order_is
              ∙ ap (λ (z : List ℕ). n.k.earlier ++ z) (a.due false ∙ append-nil texts.pasv_text) ∙ sym a.passed;
          asks = ap (λ (st : Standing). n.k.before ++ asked_by gate st n.k.order) (sym same) ∙ asked_dests n a false;
        }

    -- ---- behind the command

    -- behind an act that changed nothing
    abbrev passed_by : Noted → Deed → Noted
    passed_by n deed = record { k = with_deed deed n.k.since n.k; passed = n.passed ++ []; calls = n.calls ++ [] }

    copied_leaves : (b : Bool) (n : Noted) → (b ≡ false → IsCutShort n.k.since) → Holds gate n bare → Leaves watch (rows.copied_row bare b) n
    copied_leaves true n cut holds = holds
    copied_leaves false n cut holds = (holds, cut refl)

    started_leaves : (n : Noted) (b : Bool) → (b ≡ true → IsOwnCopy gate toward n.k) → Knows gate bare n.k → Even gate n → Leaves watch (rows.started_row bare toward b) n
    started_leaves n true may knows even = (
      (may refl, behind gate n even),
      λ carried. copied_leaves (rows.is_done (option_map (λ way. way.end) carried)) (note gate n (Copy toward) (Ok carried))
          (λ lacks. record { toward = toward; carried = carried; lacks = lacks; earlier = n.k.since; drops = []; are_drops = tt; is = refl }) (
            record { login = knows.login; user = knows.user; link = knows.link; up = knows.up; setting = knows.setting; own = knows.own },
            record { is = even.is ∙ sym (append-nil n.passed); asks = even.asks ∙ sym (append-nil n.calls) },
          ),
    )
    started_leaves n false may knows even = (
      behind gate n even,
      λ done. (
        record { login = knows.login; user = knows.user; link = knows.link; up = knows.up; setting = knows.setting; own = knows.own },
        record { is = even.is ∙ sym (append-nil n.passed); asks = even.asks ∙ sym (append-nil n.calls) },
      ),
    )

    -- the command was passed
    record Given (n : Noted) : Type 0 where
      order_is : n.k.order ≡ Some order
      joined : n.k.standing.joined ≡ true
      knows : Knows gate bare n.k
      even : Even gate n

    answered_knows : (n : Noted) (deed : Deed) → Given n → Knows gate bare (passed_by n deed).k
    answered_knows n deed given = record { login = given.knows.login; user = given.knows.user; link = given.knows.link; up = given.knows.up; setting = given.knows.setting; own = given.knows.own }

    answered_even : (n : Noted) (deed : Deed) → Given n → Even gate (passed_by n deed)
    answered_even n deed given = record { is = given.even.is ∙ sym (append-nil n.passed); asks = given.even.asks ∙ sym (append-nil n.calls) }

    commanded_leaves : (n : Noted) (heard : Replied × List ℕ) → Given n → Leaves watch (rows.commanded_row bare toward heard.0) (note gate n (TakeReply Passed) (Ok heard))
    commanded_leaves n (replied.Whole code six, text) given =
        let deed = deed_of (TakeReply Passed) (Ok (replied.Whole code six, text)) in
        let after = passed_by n deed in
        let may : rows.goes_on code ≡ true → IsOwnCopy gate toward after.k = λ starts. record {
          order = order;
          unblocked = unblocked gate state order (Served (Transfer toward)) free after.k given.order_is given.knows.login;
          kind = free.kind;
          joined = given.joined;
          code = code;
          six = six;
          text = text;
          earlier = n.k.since;
          since = refl;
          starts = starts;
        } in
        started_leaves after (rows.goes_on code) may (answered_knows n deed given) (answered_even n deed given)
    commanded_leaves n (replied.Ended, text) given =
        let deed = deed_of (TakeReply Passed) (Ok (replied.Ended, text)) in
        closed_leaves Origin gate (passed_by n deed) (record { how = Passed; text = text; last = (n.k.since, refl) }) (answered_even n deed given)

    -- both data links are up, and the command is to be passed
    give_leaves : (n : Noted) → Due gate (texts.passed_line order.line) n → IsPassable gate n.k → set_by (λ o kind s. used_up kind s) n.k.order n.k.setting ≡ n.k.setting → n.k.order ≡ Some order → n.k.standing.joined ≡ true → Knows gate bare n.k
        → Leaves watch (Do (Pass (texts.passed_line order.line)) (λ done. Do (TakeReply Passed) (λ heard. rows.commanded_row bare toward heard.0))) n
    give_leaves n due may kept order_is joined knows =
        let text = texts.passed_line order.line in
        let even = due_even gate text n due in
        let given = note gate n (Pass text) (Ok tt) in
        let passed : Given given = record { order_is = order_is; joined = joined; knows = given_knows Origin gate bare text n kept knows; even = even } in
        ((may, due), λ done. ((tt, behind gate given even), λ heard. commanded_leaves given heard passed))

    command_leaves : (b : Bool) (n : Noted) → Due gate (texts.passed_line order.line) n → IsPassable gate n.k → set_by (λ o kind s. used_up kind s) n.k.order n.k.setting ≡ n.k.setting → n.k.order ≡ Some order → n.k.standing.joined ≡ true → Knows gate bare n.k
        → Leaves watch (rows.logged_row gate order.verb b (Do (Pass (texts.passed_line order.line)) (λ done. Do (TakeReply Passed) (λ heard. rows.commanded_row bare toward heard.0)))) n
    command_leaves true n due may kept order_is joined knows =
        let line = command_line gate order.verb in
        (due_behind gate (texts.passed_line order.line) n due, λ logged. give_leaves (note gate n (Log line) (Ok tt)) (due_logged gate (texts.passed_line order.line) line n due) (still_passable gate line n may) kept order_is joined (logged_knows Origin gate n line bare knows))
    command_leaves false n due may kept order_is joined knows = give_leaves n due may kept order_is joined knows

    used : (k : Known) → k.order ≡ Some order → set_by (λ o kind s. used_up kind s) k.order k.setting ≡ None
    used k is = ap (λ (o : Option Order). set_by (λ o kind s. used_up kind s) o k.setting) is ∙ ap (λ (kind : Kind). used_up kind k.setting) free.kind

    -- ---- joining

    asked_still : (n : Noted) (deed : Deed) → Asked gate state order n → Asked gate state order (passed_by n deed)
    asked_still n deed a = record {
      order_is = a.order_is;
      knows = record { login = a.knows.login; user = a.knows.user; link = a.knows.link; up = a.knows.up; setting = a.knows.setting; own = a.knows.own };
      login = a.login;
      passed = append-nil n.passed ∙ a.passed;
      calls = append-nil n.calls ∙ a.calls;
      due = a.due;
      joined = a.joined;
      setting = a.setting;
    }

    told_leaves : (n : Noted) (words : List ℕ) → IsPlain words → HasCause words n.k.since → Asked gate state order n → Leaves watch (rows.tell_row words bare) n
    told_leaves n words plain cause a = tell_leaves Origin gate n words bare plain cause (a.knows, asked_even n a)

    module _ (target : Target) (set : state.setting ≡ Some target) (own : IsOwnTarget gate.peer target) where
      unjoined : (n : Noted) (side : Dest) (joined : Joined) → rows.is_up joined ≡ false → Asked gate state order n → Leaves watch (rows.tell_row texts.no_data_link bare) (passed_by n (deed_of (Join side target) (Ok joined)))
      unjoined n side joined missed a =
          let deed = deed_of (Join side target) (Ok joined) in
          let cause : IsUnjoined (n.k.since ++ deed ∷ []) = record { dest = side; target = target; joined = joined; missed = missed; last = (n.k.since, refl) } in
          told_leaves (passed_by n deed) texts.no_data_link (record { other = refl; verb = refl; login = refl; dest = refl; failed = refl })
          (record { route = λ is. clash is; door = λ is. clash is; pair = λ is. cause; port = λ is. clash is; closed = λ is. clash is; early = λ is. clash is }) (asked_still n deed a)

      joined_leaves : (n : Noted) (side : Dest) (joined : Joined) → Asked gate state order n → Leaves watch (rows.joined_row gate bare toward order (rows.is_up joined)) (note gate n (Join side target) (Ok joined))
      joined_leaves n side joins.Up a =
          let after = note gate n (Join side target) (Ok joins.Up) in
          let text = texts.passed_line order.line in
          let due : Due gate text after = record {
            is =
                ap (λ (o : Option Order). n.k.earlier ++ passed_as gate (joined_with n.k.standing) o) a.order_is ∙ ap (λ (z : List ℕ). n.k.earlier ++ z) (a.due true)
                ∙ sym (append_assoc n.k.earlier texts.pasv_text text) ∙ ap (λ (z : List ℕ). z ++ text) (sym a.passed ∙ sym (append-nil n.passed));
            asks = asked_dests n a true ∙ sym (append-nil n.calls);
          } in
          let may : IsPassable gate after.k = record {
            order = order;
            unblocked = unblocked gate state order (Served (Transfer toward)) free after.k a.order_is a.knows.login;
            main = main;
            link = a.knows.link ∙ linked;
          } in
          command_leaves (has_verb gate.options.log order.verb) after due may (used after.k a.order_is ∙ sym a.knows.setting) a.order_is refl
          (record { login = a.knows.login; user = a.knows.user; link = a.knows.link; up = a.knows.up; setting = a.knows.setting; own = tt })
      joined_leaves n side joins.NoSide a = unjoined n side joins.NoSide refl a
      joined_leaves n side joins.NoNear a = unjoined n side joins.NoNear refl a
      joined_leaves n side joins.Unready a = unjoined n side joins.Unready refl a

      ported_leaves : (n : Noted) (code : ℕ) (six : Option (List ℕ × ℕ)) (text : List ℕ) (port : Option ℕ) → rows.data_port code six ≡ port → n.k.since ≡ port_asked code six text → Asked gate state order n
          → Leaves watch (rows.ported_row gate bare main target toward order port) n
      ported_leaves n code six text None is since a =
          let none : IsPortless n.k.since = record { code = code; six = six; text = text; none = is; last = (deed_of (Pass texts.pasv_text) (Ok tt) ∷ [], since) } in
          told_leaves n texts.no_data_port (record { other = refl; verb = refl; login = refl; dest = refl; failed = refl })
          (record { route = λ it. clash it; door = λ it. clash it; pair = λ it. clash it; port = λ it. none; closed = λ it. clash it; early = λ it. clash it }) a
      ported_leaves n code six text (Some port) is since a =
          let side : Dest = record { host = main.host; port = port } in
          let pair : IsOwnPair gate side target n.k = record {
            order = order;
            unblocked = unblocked gate state order (Served (Transfer toward)) free n.k a.order_is a.knows.login;
            toward = toward;
            kind = free.kind;
            main = main;
            link = a.knows.link ∙ linked;
            host = refl;
            code = code;
            six = six;
            text = text;
            since = since;
            port = is;
            set = a.setting ∙ set;
            own = own;
          } in
          ((pair, behind gate n (asked_even n a)), λ joined. joined_leaves n side joined a)

      passive_leaves : (n : Noted) (heard : Replied × List ℕ) → n.k.since ≡ deed_of (Pass texts.pasv_text) (Ok tt) ∷ [] → Asked gate state order n
          → Leaves watch (rows.passive_row gate bare main target toward order heard.0) (note gate n (TakeReply Dropped) (Ok heard))
      passive_leaves n (replied.Whole code six, text) since a =
          let deed = deed_of (TakeReply Dropped) (Ok (replied.Whole code six, text)) in
          ported_leaves (passed_by n deed) code six text (rows.data_port code six) refl (ap (λ (d : List Deed). d ++ deed ∷ []) since) (asked_still n deed a)
      passive_leaves n (replied.Ended, text) since a =
          let deed = deed_of (TakeReply Dropped) (Ok (replied.Ended, text)) in
          closed_leaves Origin gate (passed_by n deed) (record { how = Dropped; text = text; last = (n.k.since, refl) }) (asked_even (passed_by n deed) (asked_still n deed a))

    due_as : (n : Noted) (target : Target) → state.setting ≡ Some target → Start gate state order n → (joined : Bool) → passed_as gate (record (n.k.standing) { joined = joined }) (Some order) ≡ texts.pasv_text ++ line_if joined order.line
    due_as n target set start joined =
        let st : Standing = record (n.k.standing) { joined = joined } in
        passes_allowed gate state order (Served (Transfer toward)) free st start.login
        ∙ ap (λ (l : Option Dest). passed_linked l st order (Transfer toward)) (start.link ∙ linked) ∙ ap (λ (t : Option Target). passed_transfer t joined order.line) (start.setting ∙ set)

    asked_first : (n : Noted) (target : Target) → state.setting ≡ Some target → Start gate state order n → Asked gate state order (note gate n (Pass texts.pasv_text) (Ok tt))
    asked_first n target set start = record {
      order_is = start.base.heard;
      knows = record { login = start.knows.login; user = start.knows.user; link = start.knows.link; up = start.knows.up; setting = used n.k start.base.heard; own = tt };
      login = start.login;
      passed = ap (λ (z : List ℕ). z ++ texts.pasv_text) start.base.passed;
      calls = append-nil n.calls ∙ start.base.calls;
      due = due_as n target set start;
      joined = start.joined;
      setting = start.setting;
    }

    transfer_leaves : (n : Noted) (setting : Option Target) → state.setting ≡ setting → Start gate state order n → Leaves watch (rows.transfer_row gate state main toward order setting) n
    transfer_leaves n None set start =
        let none : passed_served n.k.standing order (Transfer toward) ≡ [] = ap (λ (t : Option Target). passed_transfer t n.k.standing.joined order.line) (start.setting ∙ set) in
        tell_leaves Origin gate n texts.port_first state (record { other = refl; verb = refl; login = refl; dest = refl; failed = refl }) (calm refl refl refl refl refl refl) (start.knows, even_start (Transfer toward) free n start none)
    transfer_leaves n (Some target) set start =
        let same = standing_as n.k.standing start.joined in
        let due : Due gate texts.pasv_text n = record {
          is =
              ap (λ (st : Standing). n.k.earlier ++ passed_as gate st n.k.order) (sym same) ∙ ap (λ (o : Option Order). n.k.earlier ++ passed_as gate (record (n.k.standing) { joined = false }) o) start.base.heard
              ∙ ap (λ (z : List ℕ). n.k.earlier ++ z) (due_as n target set start false ∙ append-nil texts.pasv_text) ∙ ap (λ (z : List ℕ). z ++ texts.pasv_text) (sym start.base.passed);
          asks = ap (λ (o : Option Order). n.k.before ++ asked_by gate n.k.standing o) start.base.heard ∙ ap (λ (z : List Dest). n.k.before ++ z) (asks_none (Transfer toward) free n.k.standing start.login) ∙ append-nil n.k.before ∙ sym start.base.calls;
        } in
        let given = note gate n (Pass texts.pasv_text) (Ok tt) in
        let a = asked_first n target set start in
        let own : IsOwnTarget gate.peer target = subst (λ (t : Option Target). IsOwnSetting gate t) set start.knows.own in (
          (passable (Transfer toward) free n start, due),
          λ done.
              ((inl (n.k.since, refl), behind gate given (asked_even given a)), λ heard. passive_leaves target set own given heard (ap (λ (d : List Deed). d ++ deed_of (Pass texts.pasv_text) (Ok tt) ∷ []) start.since) a),
        )

  pub linked_leaves : (n : Noted) (asked : served.Served) → FreeFor asked → Start gate state order n → Leaves watch (rows.linked_row gate state main order asked) n
  linked_leaves n Port free start = port_leaves free n (rows.own_target gate.peer.addr (six_of order.arg)) refl start
  linked_leaves n Pasv free start = door_leaves free n start
  linked_leaves n Extended free start =
      tell_leaves Origin gate n texts.not_implemented state (record { other = refl; verb = refl; login = refl; dest = refl; failed = refl }) (calm refl refl refl refl refl refl) (start.knows, even_start Extended free n start refl)
  linked_leaves n (Transfer toward) free start = transfer_leaves toward free n state.setting refl start
  linked_leaves n Quit free start = line_leaves Quit free true n refl (λ s. refl) start
  linked_leaves n Other free start = line_leaves Other free false n refl (λ s. refl) start
