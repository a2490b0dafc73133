-- What the rows keep, from each place and from the first row on.
use Rattle.std.proofs.Common.{◌≡◌, ◌≤◌, refl, sym, ap, subst, ◌∙◌, ℕ, Bool, true, false, not, ◌&&◌, ◌||◌, List, [], ◌∷◌, ◌++◌, Option, Some, None, Result, Ok, Err, inl, inr, codes, append_assoc, append-nil}
use mathlib.Core.Bool.{true≢false}
use Rattle.std.specs.Prelude.{◌/◌, ◌==◌, nat_le, if◌then◌else◌}
use Rattle.std.specs.List.{AllByRecursion}
use Rattle.std.specs.Option.{option_map}
use Rattle.std.specs.Str.{bytes_eq}
use Rattle.std.proofs.lemmas.Slice.Eq.{bytes_eq-Decides}
use Rattle.auth_events.specs.Login.{is_full, is_ok, login_then}
use Rattle.auth_events.specs.declared.denial.Denial.{Denial}
use Rattle.auth_events.specs.declared.denial.Denial.TheVariants.{NotIn}
use Rattle.auth_events.specs.declared.reply.Reply.{Reply}
use Rattle.auth_events.specs.declared.reply.Reply.TheVariants as replies
use Rattle.auth_events.specs.declared.request.OpService.TheVariants as services
use Rattle.auth_events.specs.declared.request.Request.{Request}
use Rattle.auth_events.specs.declared.request.Request.TheVariants as requests
use Rattle.fw_acts.specs.Acts.{Row, PlaceTable}
use Rattle.fw_acts.specs.Acts.Row.{Do, At, Over}
use Rattle.fw_acts.specs.Histories.{Keeps, Leaves, Watch}
use Rattle.fw_types.specs.declared.dest.Dest.{Dest}
use Rattle.md5.specs.Md5.{md5}
use Rattle.otp_md5.specs.Hexadecimal.{read_of}
use Rattle.session_acts.specs.Acts.{Act, Outcome}
use Rattle.session_acts.specs.Acts.Act.{Ask, Copy, Dial, HangUp, Hear, Join, Log, OpenDoor, Part, Pass, Say, TakeReply}
use Rattle.session_acts.specs.Client.{line_logged}
use Rattle.session_acts.specs.Deeds.{Deed}
use Rattle.session_acts.specs.Met.{acts}
use Rattle.session_acts.specs.declared.target.Target.{Target}
use Rattle.session_acts.specs.declared.target.Target.TheVariants.{Addr, AtDoor}
use Rattle.ftp_gate.specs.Dialogue as rows
use Rattle.ftp_gate.specs.Dialogue.{heard_form, is_in, reason_of, with_account}
use Rattle.ftp_gate.specs.Gate.{Gate, asks_login, has_verb}
use Rattle.ftp_gate.specs.Kind.{kind_of}
use Rattle.ftp_gate.specs.LogLines.{blocked_line, command_line, connect_line, fail_line, login_line, refuse_line}
use Rattle.ftp_gate.specs.Order.{Order}
use Rattle.ftp_gate.specs.Passage.{Standing, asked_allowed, asked_by, asked_dest, asked_kind, asked_outward, asked_unless, asked_user, dest_if, first_name, line_if, name_text, passed_allowed, passed_as, passed_kind, passed_linked, passed_outward, passed_served, passed_transfer, passed_unless, passed_user}
use Rattle.ftp_gate.specs.Texts as texts
use Rattle.ftp_gate.specs.declared.kind.Kind.{Kind}
use Rattle.ftp_gate.specs.declared.kind.Kind.TheVariants as kinds
use Rattle.ftp_gate.specs.declared.place.Account.{Account}
use Rattle.ftp_gate.specs.declared.place.Account.TheVariants.{Unopened, Opened}
use Rattle.ftp_gate.specs.declared.place.Place.{Place}
use Rattle.ftp_gate.specs.declared.place.Place.TheVariants.{Listening, Answering, Dropping}
use Rattle.ftp_gate.specs.declared.place.State.{State}
use Rattle.ftp_gate.specs.Laws.{EndsWith, HasCause, IsAbout, IsCleared, IsCutShort, IsDisallowed, IsEarly, IsFailure, IsLoggedFirst, IsNoName, IsOwnPair, IsOwnTarget, IsPassable, IsRefusal, IsUnblocked, IsUnpermitted, Wants, asked_so, clearing, fails, granted, granted_if}
use Rattle.ftp_gate.specs.Known.{Known, begins, dests_in, greeted_with, greeting_by, joined_with, known_after, order_in, passage_in, port_set, set_by, used_up, with_deed}
use Rattle.ftp_gate.proofs.AccountLemmas.{Noted, at_first, deed_of, named_login, note}
use Rattle.ftp_gate.proofs.WatchLemmas.{Behind, Due, Even, Holds, IsOwnSetting, IsPlain, IsUser, Knows, May, behind, calm, clash, closed_leaves, ftp_watch, logged_even, logged_holds, logged_knows, plain_first, say_leaves, tell_leaves}
use Rattle.fw_types.specs.Name.{name_of}
use Rattle.ftp_gate.proofs.BaseLemmas.{Base, Silent, asked_base, even_at, even_of, logged_base}
use Rattle.fw_types.specs.declared.host.Host.{Host}
use Rattle.gate_rules.specs.Verdict.{allows}
use Rattle.session_acts.specs.declared.replied.Replied.{Replied}
use Rattle.session_acts.specs.declared.replied.Replied.TheVariants as replied
use Rattle.session_acts.specs.declared.reply_use.ReplyUse.TheVariants.{Passed, Dropped, Greeting}
use Rattle.ftp_gate.specs.User.{name_there, user_of}
use Rattle.ftp_gate.specs.declared.kind.Outward.{Outward}
use Rattle.ftp_gate.specs.declared.kind.Outward.TheVariants.{User, Served}
use Rattle.ftp_gate.specs.declared.kind.Served as served
use Rattle.ftp_gate.specs.declared.kind.Served.TheVariants.{Port, Pasv, Extended, Transfer, Quit, Other}
use Rattle.ftp_lines.specs.Six.{six_of}
use Rattle.session_acts.specs.declared.joined.Joined.{Joined}
use Rattle.session_acts.specs.declared.joined.Joined.TheVariants as joins
use Rattle.session_acts.specs.declared.toward.Toward.{Toward}
use Rattle.ftp_gate.proofs.StartLemmas.{Free, Start, asks_allowed, due_behind, due_even, due_logged, given_knows, keeps_set, pass_leaves, passes_allowed, stands_by, still_passable, unblocked}
use Rattle.fw_outside.specs.declared.heard.Heard.{Heard}
use Rattle.fw_outside.specs.declared.heard.Heard.TheVariants.{Line, TooLong, Stopped}
use Rattle.ftp_gate.specs.Kind.{is_quit}
use Rattle.ftp_gate.specs.Laws.{IsLoginMissing, IsVerbDenied}
use Rattle.ftp_gate.specs.Order.{order_of}
use Rattle.ftp_gate.proofs.LoginLeaves.{authorize_leaves, response_leaves}
use Rattle.ftp_gate.proofs.ServedLeaves.{linked_leaves}
use Rattle.ftp_gate.proofs.UserLeaves.{user_leaves}

missing_of : (a l : Bool) → (a && not l) ≡ true → (a ≡ true) × (l ≡ false)
missing_of true true is = clash is
missing_of true false is = (refl, refl)
missing_of false l is = clash is

module _ (Origin : Type 0) (gate : Gate) where
  abbrev watch : Watch (acts Origin) Place
  watch = ftp_watch Origin gate

  abbrev own : PlaceTable (acts Origin) Place
  own = rows.ftp_rows gate

  module _ (state : State) (order : Order) where
    unlinked_leaves : (n : Noted) (b : Bool) → Knows gate state n.k → Even gate n → Leaves watch (rows.unlinked_row state b) n
    unlinked_leaves n true knows even =
        let plain : IsPlain texts.goodbye = record { other = refl; verb = refl; login = refl; dest = refl; failed = refl } in
        (((plain_first gate texts.goodbye n.k plain, calm refl refl refl refl refl refl), behind gate n even), λ done. record { is = even.is ∙ sym (append-nil n.passed); asks = even.asks ∙ sym (append-nil n.calls) })
    unlinked_leaves n false knows even = tell_leaves Origin gate n texts.user_first state (record { other = refl; verb = refl; login = refl; dest = refl; failed = refl }) (calm refl refl refl refl refl refl) (knows, even)

    served_leaves : (n : Noted) (asked : served.Served) (dest : Option Dest) → state.dest ≡ dest → Free gate state order (Served asked) → Start gate state order n → Leaves watch (rows.served_row gate state dest order asked) n
    served_leaves n asked None is free start =
        let even = even_at gate order n start.base
        (passes_allowed gate state order (Served asked) free n.k.standing start.login ∙ ap (λ (l : Option Dest). passed_linked l n.k.standing order asked) (start.link ∙ is))
        (asks_allowed gate state order (Served asked) free n.k.standing start.login) in
        unlinked_leaves n (is_quit order.verb) start.knows even
    served_leaves n asked (Some main) is free start = linked_leaves Origin gate state order main is n asked free start

    allowed_leaves : (n : Noted) (asked : Outward) → Free gate state order asked → Start gate state order n → Leaves watch (rows.allowed_row gate state order asked) n
    allowed_leaves n User free start = user_leaves Origin gate state order free n state.dest refl start
    allowed_leaves n (Served asked) free start = served_leaves n asked state.dest refl free start

    blocked_leaves : (n : Noted) (words : List ℕ) → begins words texts.port_ok ≡ false → ((since : List Deed) → HasCause words since) → ((k : Known) → k.order ≡ Some order → k.login ≡ n.k.login → EndsWith (line_logged (blocked_line gate order.verb)) k.since → IsLoggedFirst gate words k) → n.k.order ≡ Some order → Knows gate state n.k → Even gate n
        → Leaves watch (rows.blocked_row gate state order.verb words) n
    blocked_leaves n words other cause first heard knows even =
        let line = blocked_line gate order.verb in
        let after = note gate n (Log line) (Ok tt) in
        (behind gate n even, λ logged. say_leaves Origin gate after words state other (first after.k heard refl (n.k.since, refl)) (cause after.k.since) (logged_holds Origin gate n line state (knows, even)))

    module _ (asked : Outward) (kind : kind_of order.verb ≡ kinds.Outward asked) where
      login_leaves : (n : Noted) (b : Bool) → has_verb gate.options.deny order.verb ≡ false → (asks_login gate.options order.verb && not (is_in state.account)) ≡ b → Start gate state order n → Leaves watch (rows.login_row gate state order asked b) n
      login_leaves n true denied is start =
          let lacks : (asks_login gate.options order.verb && not n.k.standing.login) ≡ true = ap (λ (l : Bool). asks_login gate.options order.verb && not l) start.login ∙ is in
          let passes : passed_as gate n.k.standing (Some order) ≡ [] =
          ap (λ (kd : Kind). passed_kind gate n.k.standing order kd) kind ∙ ap (λ (b : Bool). passed_outward gate b n.k.standing order asked) denied ∙ ap (λ (b : Bool). passed_unless b n.k.standing order asked) lacks in
          let asks : asked_by gate n.k.standing (Some order) ≡ [] =
          ap (λ (kd : Kind). asked_kind gate n.k.standing order kd) kind ∙ ap (λ (b : Bool). asked_outward gate b n.k.standing order asked) denied ∙ ap (λ (b : Bool). asked_unless gate b n.k.standing order asked) lacks in
          let parts = missing_of (asks_login gate.options order.verb) (is_in state.account) is in
          blocked_leaves n (texts.log_in_first gate.line) refl (λ since. calm refl refl refl refl refl refl)
          (λ k heard login logged. record {
            verb = λ it. clash it;
            login = λ it. record { order = order; heard = heard; asks = parts.0; none = login ∙ start.knows.login ∙ parts.1; is = refl; logged = logged };
            dest = λ it. clash it;
            failed = λ it. clash it;
          }) start.base.heard start.knows (even_at gate order n start.base passes asks)
      login_leaves n false denied is start = allowed_leaves n asked (record { kind = kind; denied = denied; missing = is }) start

      outward_leaves : (n : Noted) (b : Bool) → has_verb gate.options.deny order.verb ≡ b → Start gate state order n → Leaves watch (rows.outward_row gate state order asked b) n
      outward_leaves n true denied start =
          let passes : passed_as gate n.k.standing (Some order) ≡ [] =
          ap (λ (kd : Kind). passed_kind gate n.k.standing order kd) kind ∙ ap (λ (b : Bool). passed_outward gate b n.k.standing order asked) denied in
          let asks : asked_by gate n.k.standing (Some order) ≡ [] =
          ap (λ (kd : Kind). asked_kind gate n.k.standing order kd) kind ∙ ap (λ (b : Bool). asked_outward gate b n.k.standing order asked) denied in
          blocked_leaves n (texts.verb_denied gate.line) refl (λ since. calm refl refl refl refl refl refl)
          (λ k heard login logged. record {
            verb = λ it. record { order = order; heard = heard; denied = denied; is = refl; logged = logged };
            login = λ it. clash it;
            dest = λ it. clash it;
            failed = λ it. clash it;
          }) start.base.heard start.knows (even_at gate order n start.base passes asks)
      outward_leaves n false denied start = login_leaves n (asks_login gate.options order.verb && not (is_in state.account)) denied refl start

    kind_leaves : (n : Noted) (kind : Kind) → kind_of order.verb ≡ kind → Start gate state order n → Leaves watch (rows.kind_row gate state order kind) n
    kind_leaves n kinds.Authorize is start =
        let silent : Silent gate order = record { passes = λ st. ap (λ (kd : Kind). passed_kind gate st order kd) is; asks = λ st. ap (λ (kd : Kind). asked_kind gate st order kd) is } in
        authorize_leaves Origin gate order silent n state (name_of order.arg) is refl start.since start.base start.knows
    kind_leaves n kinds.Response is start =
        let silent : Silent gate order = record { passes = λ st. ap (λ (kd : Kind). passed_kind gate st order kd) is; asks = λ st. ap (λ (kd : Kind). asked_kind gate st order kd) is } in
        response_leaves Origin gate order silent n state state.account is refl start.since start.base start.knows
    kind_leaves n (kinds.Outward asked) is start = outward_leaves asked is n (has_verb gate.options.deny order.verb) refl start

  -- ---- what is heard

  -- what was heard is no command
  none_even : (n : Noted) (heard : Heard) → order_in heard ≡ None → Even gate n → Even gate (note gate n (Hear heard_form) (Ok heard))
  none_even n heard none even =
      let after = note gate n (Hear heard_form) (Ok heard) in
      record {
        is = ap (λ (o : Option Order). passage_in gate n.k ++ passed_as gate after.k.standing o) none ∙ append-nil (passage_in gate n.k) ∙ even.is ∙ sym (append-nil n.passed);
        asks = ap (λ (o : Option Order). dests_in gate n.k ++ asked_by gate after.k.standing o) none ∙ append-nil (dests_in gate n.k) ∙ even.asks ∙ sym (append-nil n.calls);
      }

  heard_knows : (n : Noted) (heard : Heard) (state : State) → Knows gate state n.k → Knows gate state (note gate n (Hear heard_form) (Ok heard)).k
  heard_knows n heard state knows = record { login = knows.login; user = knows.user; link = knows.link; up = knows.up; setting = knows.setting; own = knows.own }

  command_leaves : (n : Noted) (heard : Heard) (state : State) (order : Option Order) → order_in heard ≡ order → Holds gate n state → Leaves watch (rows.command_row gate state order) (note gate n (Hear heard_form) (Ok heard))
  command_leaves n heard state None is holds =
      tell_leaves Origin gate (note gate n (Hear heard_form) (Ok heard)) texts.syntax_error state (record { other = refl; verb = refl; login = refl; dest = refl; failed = refl }) (calm refl refl refl refl refl refl)
      (heard_knows n heard state holds.0, none_even n heard is holds.1)
  command_leaves n heard state (Some order) is holds =
      let after = note gate n (Hear heard_form) (Ok heard) in
      let start : Start gate state order after = record {
        base = record { heard = is; passed = append-nil n.passed ∙ sym holds.1.is; calls = append-nil n.calls ∙ sym holds.1.asks };
        knows = heard_knows n heard state holds.0;
        since = refl;
        login = holds.0.login;
        link = holds.0.link;
        setting = holds.0.setting;
        permitted = refl;
        greeted = refl;
        joined = refl;
      } in
      kind_leaves state order after (kind_of order.verb) refl start

  heard_leaves : (n : Noted) (heard : Heard) (state : State) → Holds gate n state → Leaves watch (rows.heard_row gate state heard) (note gate n (Hear heard_form) (Ok heard))
  heard_leaves n (Line line) state holds = command_leaves n (Line line) state (order_of line.items) refl holds
  heard_leaves n TooLong state holds = command_leaves n TooLong state None refl holds
  heard_leaves n (Stopped stop) state holds = none_even n (Stopped stop) refl holds.1

  -- ---- replies

  abbrev behind_reply : Noted → Deed → Noted
  behind_reply n deed = record { k = with_deed deed n.k.since n.k; passed = n.passed ++ []; calls = n.calls ++ [] }

  reply_holds : (n : Noted) (deed : Deed) (state : State) → Holds gate n state → Holds gate (behind_reply n deed) state
  reply_holds n deed state holds = (
    record { login = holds.0.login; user = holds.0.user; link = holds.0.link; up = holds.0.up; setting = holds.0.setting; own = holds.0.own },
    record { is = holds.1.is ∙ sym (append-nil n.passed); asks = holds.1.asks ∙ sym (append-nil n.calls) },
  )

  after_leaves : (n : Noted) (state : State) (quits : Bool) → Holds gate n state → Leaves watch (rows.after_row state quits) n
  after_leaves n state true holds = holds.1
  after_leaves n state false holds = holds

  passed_leaves : (n : Noted) (state : State) (quits b : Bool) → Holds gate n state → Leaves watch (rows.passed_row state quits b) n
  passed_leaves n state quits true holds = holds
  passed_leaves n state quits false holds = after_leaves n state quits holds

  answering_leaves : (n : Noted) (state : State) (quits : Bool) (heard : Replied × List ℕ) → Holds gate n state → Leaves watch (rows.answering_row state quits heard.0) (behind_reply n (deed_of (TakeReply Passed) (Ok heard)))
  answering_leaves n state quits (replied.Whole code six, text) holds =
      let deed = deed_of (TakeReply Passed) (Ok (replied.Whole code six, text)) in
      passed_leaves (behind_reply n deed) state quits (rows.goes_on code) (reply_holds n deed state holds)
  answering_leaves n state quits (replied.Ended, text) holds =
      let deed = deed_of (TakeReply Passed) (Ok (replied.Ended, text)) in
      closed_leaves Origin gate (behind_reply n deed) (record { how = Passed; text = text; last = (n.k.since, refl) }) (reply_holds n deed state holds).1

  -- one reply more was dropped
  more_drops : (drops : List Deed) (deed : Deed) → AllByRecursion (λ (d : Deed). d.act ≡ TakeReply Dropped) drops → deed.act ≡ TakeReply Dropped → AllByRecursion (λ (d : Deed). d.act ≡ TakeReply Dropped) (drops ++ deed ∷ [])
  more_drops [] deed all one = (one, tt)
  more_drops (first ∷ drops) deed all one = (all.0, more_drops drops deed all.1 one)

  cut_more : (since : List Deed) (heard : Replied × List ℕ) → IsCutShort since → IsCutShort (since ++ deed_of (TakeReply Dropped) (Ok heard) ∷ [])
  cut_more since heard cut =
      let deed = deed_of (TakeReply Dropped) (Ok heard) in
      record {
        toward = cut.toward;
        carried = cut.carried;
        lacks = cut.lacks;
        earlier = cut.earlier;
        drops = cut.drops ++ deed ∷ [];
        are_drops = more_drops cut.drops deed cut.are_drops refl;
        is = ap (λ (d : List Deed). d ++ deed ∷ []) cut.is ∙ append_assoc cut.earlier (deed_of (Copy cut.toward) (Ok cut.carried) ∷ cut.drops) (deed ∷ []);
      }

  dropped_leaves : (n : Noted) (state : State) (b : Bool) → IsCutShort n.k.since → (b ≡ false → IsEarly n.k.since) → Holds gate n state → Leaves watch (rows.dropped_row state b) n
  dropped_leaves n state true cut early holds = (holds, cut)
  dropped_leaves n state false cut early holds =
      tell_leaves Origin gate n texts.ended_early state (record { other = refl; verb = refl; login = refl; dest = refl; failed = refl })
      (record { route = λ is. clash is; door = λ is. clash is; pair = λ is. clash is; port = λ is. clash is; closed = λ is. clash is; early = λ is. early refl }) holds

  dropping_leaves : (n : Noted) (state : State) (heard : Replied × List ℕ) → IsCutShort n.k.since → Holds gate n state → Leaves watch (rows.dropping_row state heard.0) (behind_reply n (deed_of (TakeReply Dropped) (Ok heard)))
  dropping_leaves n state (replied.Whole code six, text) cut holds =
      let deed = deed_of (TakeReply Dropped) (Ok (replied.Whole code six, text)) in
      let more = cut_more n.k.since (replied.Whole code six, text) cut in
      dropped_leaves (behind_reply n deed) state (rows.goes_on code) more (λ ends. record { cut = more; code = code; six = six; text = text; ends = ends; last = (n.k.since, refl) }) (reply_holds n deed state holds)
  dropping_leaves n state (replied.Ended, text) cut holds =
      let deed = deed_of (TakeReply Dropped) (Ok (replied.Ended, text)) in
      closed_leaves Origin gate (behind_reply n deed) (record { how = Dropped; text = text; last = (n.k.since, refl) }) (reply_holds n deed state holds).1

  -- ---- the table

  pub rows_keep : Keeps own (ftp_watch Origin gate)
  rows_keep (Listening state) n holds = ((refl, behind gate n holds.1), λ heard. heard_leaves n heard state holds)
  rows_keep (Answering state quits) n holds =
      ((tt, behind gate n holds.1), λ heard. answering_leaves n state quits heard holds)
  rows_keep (Dropping state) n holds =
      ((inr holds.1, behind gate n holds.0.1), λ heard. dropping_leaves n state heard holds.1 holds.0)

  pub first_keeps : Leaves (ftp_watch Origin gate) rows.ftp_row at_first
  first_keeps =
      tell_leaves Origin gate at_first texts.ready (record { account = Unopened; dest = None; setting = None }) (record { other = refl; verb = refl; login = refl; dest = refl; failed = refl }) (calm refl refl refl refl refl refl)
      (record { login = refl; user = tt; link = refl; up = refl; setting = refl; own = tt }, record { is = refl; asks = refl })
