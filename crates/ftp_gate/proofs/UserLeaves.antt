-- What the rows of USER keep.
use Rattle.std.proofs.Common.{◌≡◌, ◌≤◌, refl, sym, ap, subst, ◌∙◌, ℕ, Bool, true, false, not, ◌&&◌, ◌||◌, List, [], ◌∷◌, ◌++◌, Option, Some, None, Result, Ok, Err, ◌⊎◌, inl, inr, codes, append_assoc, append-nil}
use mathlib.Core.Bool.{true≢false}
use Rattle.std.specs.Prelude.{◌/◌, ◌==◌, nat_le, if◌then◌else◌}
use Rattle.std.specs.Option.{option_map}
use Rattle.std.specs.Str.{bytes_eq}
use Rattle.std.proofs.lemmas.Slice.Eq.{bytes_eq-Decides}
use Rattle.auth_events.specs.Login.{is_full, is_ok, login_then}
use Rattle.auth_events.specs.declared.denial.Denial.{Denial}
use Rattle.auth_events.specs.declared.denial.Denial.TheVariants.{NotIn}
use Rattle.auth_events.specs.declared.reply.Reply.{Reply}
use Rattle.auth_events.specs.declared.reply.Reply.TheVariants as replies
use Rattle.auth_events.specs.declared.request.OpService.TheVariants as services
use Rattle.auth_events.specs.declared.request.Request.{Request}
use Rattle.auth_events.specs.declared.request.Request.TheVariants as requests
use Rattle.fw_acts.specs.Acts.{Row, PlaceTable}
use Rattle.fw_acts.specs.Acts.Row.{Do, At, Over}
use Rattle.fw_acts.specs.Histories.{Keeps, Leaves, Watch}
use Rattle.fw_types.specs.declared.dest.Dest.{Dest}
use Rattle.md5.specs.Md5.{md5}
use Rattle.otp_md5.specs.Hexadecimal.{read_of}
use Rattle.session_acts.specs.Acts.{Act, Outcome}
use Rattle.session_acts.specs.Acts.Act.{Ask, Copy, Dial, HangUp, Hear, Join, Log, OpenDoor, Part, Pass, Say, TakeReply}
use Rattle.session_acts.specs.Client.{line_logged}
use Rattle.session_acts.specs.Deeds.{Deed}
use Rattle.session_acts.specs.Met.{acts}
use Rattle.session_acts.specs.declared.target.Target.{Target}
use Rattle.session_acts.specs.declared.target.Target.TheVariants.{Addr, AtDoor}
use Rattle.ftp_gate.specs.Dialogue as rows
use Rattle.ftp_gate.specs.Dialogue.{heard_form, is_in, reason_of, with_account}
use Rattle.ftp_gate.specs.Gate.{Gate, asks_login, has_verb}
use Rattle.ftp_gate.specs.Kind.{kind_of}
use Rattle.ftp_gate.specs.LogLines.{blocked_line, command_line, connect_line, fail_line, login_line, refuse_line}
use Rattle.ftp_gate.specs.Order.{Order}
use Rattle.ftp_gate.specs.Passage.{Standing, asked_allowed, asked_by, asked_dest, asked_kind, asked_outward, asked_unless, asked_user, dest_if, first_name, line_if, name_text, passed_allowed, passed_as, passed_kind, passed_linked, passed_outward, passed_transfer, passed_unless, passed_user}
use Rattle.ftp_gate.specs.Texts as texts
use Rattle.ftp_gate.specs.declared.kind.Kind.{Kind}
use Rattle.ftp_gate.specs.declared.kind.Kind.TheVariants as kinds
use Rattle.ftp_gate.specs.declared.place.Account.{Account}
use Rattle.ftp_gate.specs.declared.place.Account.TheVariants.{Unopened, Opened}
use Rattle.ftp_gate.specs.declared.place.Place.{Place}
use Rattle.ftp_gate.specs.declared.place.Place.TheVariants.{Listening, Answering, Dropping}
use Rattle.ftp_gate.specs.declared.place.State.{State}
use Rattle.ftp_gate.specs.Laws.{EndsWith, IsAbout, IsCleared, IsDisallowed, IsFailure, IsLoggedFirst, IsNoName, IsOwnPair, IsOwnTarget, IsPassable, IsRefusal, IsUnblocked, IsUnpermitted, Wants, asked_so, clearing, fails, granted, granted_if}
use Rattle.ftp_gate.specs.Known.{Known, begins, dests_in, greeted_with, greeting_by, joined_with, known_after, order_in, passage_in, port_set, set_by, used_up, with_deed}
use Rattle.ftp_gate.proofs.AccountLemmas.{Noted, at_first, deed_of, named_login, note}
use Rattle.ftp_gate.proofs.WatchLemmas.{Behind, Due, Even, Holds, IsOwnSetting, IsPlain, IsUser, Knows, May, behind, calm, clash, closed_leaves, ftp_watch, logged_even, logged_holds, logged_knows, plain_first, say_leaves, tell_leaves}
use Rattle.fw_types.specs.Name.{name_of}
use Rattle.ftp_gate.proofs.BaseLemmas.{Base, Silent, asked_base, even_at, even_of, logged_base}
use Rattle.fw_types.specs.declared.host.Host.{Host}
use Rattle.gate_rules.specs.Verdict.{allows}
use Rattle.session_acts.specs.declared.replied.Replied.{Replied}
use Rattle.session_acts.specs.declared.replied.Replied.TheVariants as replied
use Rattle.session_acts.specs.declared.reply_use.ReplyUse.TheVariants.{Passed, Dropped, Greeting}
use Rattle.ftp_gate.specs.User.{name_there, user_of}
use Rattle.ftp_gate.specs.declared.kind.Outward.{Outward}
use Rattle.ftp_gate.specs.declared.kind.Outward.TheVariants.{User, Served}
use Rattle.ftp_gate.proofs.StartLemmas.{Free, Start, asks_allowed, due_behind, due_even, due_logged, given_knows, keeps_set, pass_leaves, passes_allowed, stands_by, still_passable, unblocked}

or_true : (b : Bool) → (b || true) ≡ true
or_true true = refl
or_true false = refl

and_false : (b : Bool) → (b && false) ≡ false
and_false true = refl
and_false false = refl

and_true : (b : Bool) → (b && true) ≡ b
and_true true = refl
and_true false = refl

-- where no link is up, and nothing was asked for: so far, with what was done since
record Wanting (gate : Gate) (state : State) (order : Order) (since : List Deed) (n : Noted) : Type 0 where
  base : Base order n
  knows : Knows gate state n.k
  done : n.k.since ≡ since
  login : n.k.standing.login ≡ is_in state.account
  link : n.k.standing.link ≡ None
  greeted : n.k.standing.greeted ≡ false

-- what a place knows but of links
record Aware (gate : Gate) (state : State) (k : Known) : Type 0 where
  login : k.login ≡ is_in state.account
  user : IsUser state.account k.user
  setting : k.setting ≡ state.setting
  own : IsOwnSetting gate state.setting

-- the link came up or not, and nothing more was said
record Dialed (gate : Gate) (state : State) (order : Order) (n : Noted) : Type 0 where
  order_is : n.k.order ≡ Some order
  knows : Aware gate state n.k
  passed : n.passed ≡ n.k.earlier
  asks : dests_in gate n.k ≡ n.calls
  login : n.k.standing.login ≡ is_in state.account
  link : n.k.standing.link ≡ None
  greeted : n.k.standing.greeted ≡ false

module _ (Origin : Type 0) (gate : Gate) (state : State) (order : Order) (free : Free gate state order User) where
  abbrev watch : Watch (acts Origin) Place
  watch = ftp_watch Origin gate

  -- where no link is up, this user at this destination is wanted
  module _ (unlinked : state.dest ≡ None) where
    passes_none : (since : List Deed) (n : Noted) → Wanting gate state order since n → passed_as gate n.k.standing (Some order) ≡ []
    passes_none since n w =
        passes_allowed gate state order User free n.k.standing w.login
        ∙ ap (λ (l : Option Dest). passed_user l n.k.standing.greeted order.arg) w.link ∙ ap (λ (b : Bool). passed_user None b order.arg) w.greeted

    asks_dest : (st : Standing) → st.login ≡ is_in state.account → st.link ≡ None → asked_by gate st (Some order) ≡ asked_dest gate st (user_of order.arg)
    asks_dest st login link = asks_allowed gate state order User free st login ∙ ap (λ (l : Option Dest). asked_user gate st l order.arg) link

    module _ (name : List ℕ) (dest : Dest) (names : user_of order.arg ≡ Some (name, dest)) where
      abbrev wants : Wants dest order
      wants = record { kind = free.kind; name = name; names = names }

      asks_one : (since : List Deed) (n : Noted) (b : Bool) → (allows gate.options dest && (not gate.options.extnd || n.k.standing.permitted)) ≡ b → Wanting gate state order since n → asked_by gate n.k.standing (Some order) ≡ dest_if b dest
      asks_one since n b test w =
          asks_dest n.k.standing w.login w.link ∙ ap (λ (u : Option (List ℕ × Dest)). asked_dest gate n.k.standing u) names ∙ ap (λ (t : Bool). dest_if t dest) test

      refuse_leaves : (since : List Deed) (n : Noted) (line : ℕ) → (allows gate.options dest && (not gate.options.extnd || n.k.standing.permitted)) ≡ false → IsDisallowed gate dest line ⊎ IsUnpermitted gate dest line since → Wanting gate state order since n
          → Leaves watch (rows.refuse_row gate state dest line) n
      refuse_leaves since n line test cause w =
          let even = even_at gate order n w.base (passes_none since n w) (asks_one since n false test w) in
          let text = refuse_line gate dest line in
          let after = note gate n (Log text) (Ok tt) in
          let refusal : IsRefusal gate (texts.dest_denied line) after.k = record {
            order = order;
            heard = w.base.heard;
            dest = dest;
            wants = wants;
            line = line;
            is = refl;
            earlier = since;
            logged = ap (λ (d : List Deed). d ++ line_logged text ∷ []) w.done;
            cause = cause;
          } in
          let first : IsLoggedFirst gate (texts.dest_denied line) after.k = record { verb = λ it. clash it; login = λ it. clash it; dest = λ it. refusal; failed = λ it. clash it } in
          (behind gate n even, λ logged. say_leaves Origin gate after (texts.dest_denied line) state refl first (calm refl refl refl refl refl refl) (logged_holds Origin gate n text state (w.knows, even)))

      -- ---- behind the dial

      dialed_even : (n : Noted) → Dialed gate state order n → Even gate n
      dialed_even n d = record {
        is =
            ap (λ (o : Option Order). n.k.earlier ++ passed_as gate n.k.standing o) d.order_is
            ∙ ap (λ (z : List ℕ). n.k.earlier ++ z) (passes_allowed gate state order User free n.k.standing d.login ∙ ap (λ (l : Option Dest). passed_user l n.k.standing.greeted order.arg) d.link ∙ ap (λ (b : Bool). passed_user None b order.arg) d.greeted)
            ∙ append-nil n.k.earlier ∙ sym d.passed;
        asks = d.asks;
      }

      -- the server greeted, well or not
      welcomed_leaves : (n : Noted) (deed : Deed) (b : Bool) → n.k.dialed ≡ Some dest → Dialed gate state order n
          → Leaves watch (rows.welcomed_row gate state name dest b) (record { k = with_deed deed n.k.since (greeting_by b n.k); passed = n.passed ++ []; calls = n.calls ++ [] })
      welcomed_leaves n deed true up d =
          let after : Noted = record { k = with_deed deed n.k.since (greeting_by true n.k); passed = n.passed ++ []; calls = n.calls ++ [] } in
          let passes : passed_as gate after.k.standing (Some order) ≡ texts.user_text name =
          passes_allowed gate state order User free after.k.standing d.login ∙ ap (λ (l : Option Dest). passed_user l true order.arg) d.link ∙ ap (λ (u : Option (List ℕ × Dest)). name_text (first_name u)) names in
          let asks_same : asked_by gate after.k.standing (Some order) ≡ asked_by gate n.k.standing (Some order) =
          asks_allowed gate state order User free after.k.standing d.login ∙ sym (asks_allowed gate state order User free n.k.standing d.login) in
          let due : Due gate (texts.user_text name) after = record {
            is = ap (λ (o : Option Order). n.k.earlier ++ passed_as gate after.k.standing o) d.order_is ∙ ap (λ (z : List ℕ). n.k.earlier ++ z) passes ∙ ap (λ (z : List ℕ). z ++ texts.user_text name) (sym d.passed ∙ sym (append-nil n.passed));
            asks = ap (λ (o : Option Order). n.k.before ++ asked_by gate after.k.standing o) d.order_is ∙ ap (λ (z : List Dest). n.k.before ++ z) asks_same ∙ ap (λ (o : Option Order). n.k.before ++ asked_by gate n.k.standing o) (sym d.order_is) ∙ d.asks ∙ sym (append-nil n.calls);
          } in
          let may : IsPassable gate after.k = record { order = order; unblocked = unblocked gate state order User free after.k d.order_is d.knows.login; main = dest; link = up } in
          let knows : Knows gate (rows.with_dest dest state) after.k = record { login = d.knows.login; user = d.knows.user; link = up; up = up; setting = d.knows.setting; own = d.knows.own } in
          pass_leaves Origin gate (rows.with_dest dest state) (codes "USER") (texts.user_text name) false (has_verb gate.options.log (codes "USER")) after due may
          (keeps_set gate state order User free after.k d.order_is (λ s. refl)) knows
      welcomed_leaves n deed false up d =
          let even = dialed_even n d in
          let now : Noted = record { k = with_deed deed n.k.since n.k; passed = n.passed ++ []; calls = n.calls ++ [] } in
          let here : Even gate now = record { is = even.is ∙ sym (append-nil n.passed); asks = even.asks ∙ sym (append-nil n.calls) } in (
            behind gate now here,
            λ done. (
              record { login = d.knows.login; user = d.knows.user; link = sym unlinked; up = sym unlinked; setting = d.knows.setting; own = d.knows.own },
              record { is = here.is ∙ sym (append-nil now.passed); asks = here.asks ∙ sym (append-nil now.calls) },
            ),
          )

      greeted_leaves : (n : Noted) (answer : Replied × List ℕ) → n.k.dialed ≡ Some dest → Dialed gate state order n → Leaves watch (rows.greeted_row gate state name dest answer.0) (note gate n (TakeReply Greeting) (Ok answer))
      greeted_leaves n (replied.Whole code six, text) up d = welcomed_leaves n (deed_of (TakeReply Greeting) (Ok (replied.Whole code six, text))) (rows.is_well code) up d
      greeted_leaves n (replied.Ended, text) up d =
          let even = dialed_even n d in
          closed_leaves Origin gate (note gate n (TakeReply Greeting) (Ok (replied.Ended, text))) (record { how = Greeting; text = text; last = (n.k.since, refl) }) (record { is = even.is ∙ sym (append-nil n.passed); asks = even.asks ∙ sym (append-nil n.calls) })

      dialed_leaves : (n : Noted) (up : Bool) → n.k.order ≡ Some order → Knows gate state n.k → n.passed ≡ n.k.earlier → dests_in gate n.k ≡ n.calls ++ dest ∷ [] → n.k.standing.login ≡ is_in state.account → n.k.standing.link ≡ None → n.k.standing.greeted ≡ false
          → Leaves watch (rows.dialed_row gate state name dest up) (note gate n (Dial dest) (Ok up))
      dialed_leaves n true order_is knows passed asks login link greeted =
          let after = note gate n (Dial dest) (Ok true) in
          let d : Dialed gate state order after = record {
            order_is = order_is;
            knows = record { login = knows.login; user = knows.user; setting = knows.setting; own = knows.own };
            passed = append-nil n.passed ∙ passed;
            asks = asks;
            login = login;
            link = link;
            greeted = greeted;
          } in
          (((dest, (n.k.since, refl)), behind gate after (dialed_even after d)), λ heard. greeted_leaves after heard refl d)
      dialed_leaves n false order_is knows passed asks login link greeted =
          let after = note gate n (Dial dest) (Ok false) in
          let d : Dialed gate state order after = record {
            order_is = order_is;
            knows = record { login = knows.login; user = knows.user; setting = knows.setting; own = knows.own };
            passed = append-nil n.passed ∙ passed;
            asks = asks;
            login = login;
            link = link;
            greeted = greeted;
          } in
          tell_leaves Origin gate after texts.no_route state (record { other = refl; verb = refl; login = refl; dest = refl; failed = refl })
          (record { route = λ is. (dest, (n.k.since, refl)); door = λ is. clash is; pair = λ is. clash is; port = λ is. clash is; closed = λ is. clash is; early = λ is. clash is }) (record { login = knows.login; user = knows.user; link = sym unlinked; up = sym unlinked; setting = knows.setting; own = knows.own }, dialed_even after d)

      connect_leaves : (since : List Deed) (n : Noted) → allows gate.options dest ≡ true → (not gate.options.extnd || n.k.standing.permitted) ≡ true → since ≡ granted_if gate.options.extnd dest.host → Wanting gate state order since n
          → Leaves watch (rows.connect_row gate state name dest) n
      connect_leaves since n allowed clear is w =
          let test : (allows gate.options dest && (not gate.options.extnd || n.k.standing.permitted)) ≡ true = rw (allowed, clear) refl in
          let passes = passes_none since n w in
          let asks : dests_in gate n.k ≡ n.calls ++ dest ∷ [] =
          ap (λ (o : Option Order). n.k.before ++ asked_by gate n.k.standing o) w.base.heard ∙ ap (λ (z : List Dest). n.k.before ++ z) (asks_one since n true test w) ∙ ap (λ (z : List Dest). z ++ dest ∷ []) (sym w.base.calls) in
          let whole : passage_in gate n.k ≡ n.passed =
          ap (λ (o : Option Order). n.k.earlier ++ passed_as gate n.k.standing o) w.base.heard ∙ ap (λ (z : List ℕ). n.k.earlier ++ z) passes ∙ append-nil n.k.earlier ∙ sym w.base.passed in
          let line = connect_line gate dest in
          let logged : Noted = note gate n (Log line) (Ok tt) in
          let cleared : IsCleared gate dest logged.k = record {
            order = order;
            unblocked = unblocked gate state order User free logged.k w.base.heard w.knows.login;
            wants = wants;
            unlinked = w.knows.up ∙ unlinked;
            allowed = allowed;
            since = ap (λ (d : List Deed). d ++ line_logged line ∷ []) (w.done ∙ is);
          } in
          let near : Behind gate n = record { rest = []; is = whole ∙ sym (append-nil n.passed); more = dest ∷ []; asks = asks } in
          let near_now : Behind gate logged = record {
            rest = [];
            is = whole ∙ sym (append-nil n.passed) ∙ sym (append-nil (n.passed ++ []));
            more = dest ∷ [];
            asks = asks ∙ ap (λ (z : List Dest). z ++ dest ∷ []) (sym (append-nil n.calls));
          } in
          (near, λ done. ((cleared, near_now), λ up. dialed_leaves logged up w.base.heard (logged_knows Origin gate n line state w.knows) (append-nil n.passed ∙ w.base.passed) near_now.asks w.login w.link w.greeted))

    wanting : (n : Noted) → Start gate state order n → Wanting gate state order [] n
    wanting n start = record { base = start.base; knows = start.knows; done = start.since; login = start.login; link = start.link ∙ unlinked; greeted = start.greeted }

    module _ (name : List ℕ) (dest : Dest) (names : user_of order.arg ≡ Some (name, dest)) where
      abbrev operation : Request
      operation = requests.Operation services.Ftp dest.host

      -- behind the answer to the operation
      operated : (n : Noted) (reply : Reply) → Start gate state order n → Wanting gate state order (asked_so operation reply ∷ []) (note gate n (Ask operation) (Ok reply))
      operated n reply start = record {
        base = asked_base gate order n operation reply start.base;
        knows = record { login = and_true n.k.login ∙ start.knows.login; user = start.knows.user; link = start.knows.link; up = start.knows.up; setting = start.knows.setting; own = start.knows.own };
        done = ap (λ (d : List Deed). d ++ asked_so operation reply ∷ []) start.since;
        login = start.login;
        link = start.link ∙ unlinked;
        greeted = start.greeted;
      }

      unpermitted : (n : Noted) (reply : Reply) → gate.options.extnd ≡ true → is_ok reply ≡ false → Start gate state order n
          → Leaves watch (rows.refuse_row gate state dest (rows.refusing_line gate.line reply)) (note gate n (Ask operation) (Ok reply))
      unpermitted n reply extnd bad start =
          refuse_leaves name dest names (asked_so operation reply ∷ []) (note gate n (Ask operation) (Ok reply)) (rows.refusing_line gate.line reply)
          (ap (λ (b : Bool). allows gate.options dest && (not b || (is_ok reply || n.k.standing.permitted))) extnd ∙ ap (λ (b : Bool). allows gate.options dest && (b || n.k.standing.permitted)) bad
          ∙ ap (λ (b : Bool). allows gate.options dest && b) start.permitted ∙ and_false (allows gate.options dest))
          (inr (record { reply = reply; last = ([], refl); denied = bad; by = refl })) (operated n reply start)

      operated_leaves : (n : Noted) (reply : Reply) → allows gate.options dest ≡ true → gate.options.extnd ≡ true → Start gate state order n → Leaves watch (rows.operated_row gate state name dest reply) (note gate n (Ask operation) (Ok reply))
      operated_leaves n replies.Ok allowed extnd start =
          connect_leaves name dest names (asked_so operation replies.Ok ∷ []) (note gate n (Ask operation) (Ok replies.Ok)) allowed (or_true (not gate.options.extnd))
          (ap (λ (b : Bool). granted_if b dest.host) (sym extnd)) (operated n replies.Ok start)
      operated_leaves n (replies.Denied denial) allowed extnd start = unpermitted n (replies.Denied denial) extnd refl start
      operated_leaves n (replies.Opened sid) allowed extnd start = unpermitted n (replies.Opened sid) extnd refl start
      operated_leaves n replies.Password allowed extnd start = unpermitted n replies.Password extnd refl start
      operated_leaves n (replies.Challenge number word_seed) allowed extnd start = unpermitted n (replies.Challenge number word_seed) extnd refl start
      operated_leaves n (replies.Shown summary) allowed extnd start = unpermitted n (replies.Shown summary) extnd refl start

      permitted_leaves : (n : Noted) (extnd : Bool) → gate.options.extnd ≡ extnd → allows gate.options dest ≡ true → Start gate state order n → Leaves watch (rows.permitted_row extnd gate state name dest) n
      permitted_leaves n true extnd allowed start =
          let w = wanting n start in
          let none : (allows gate.options dest && (not gate.options.extnd || n.k.standing.permitted)) ≡ false =
          ap (λ (b : Bool). allows gate.options dest && (not b || n.k.standing.permitted)) extnd ∙ ap (λ (b : Bool). allows gate.options dest && b) start.permitted ∙ and_false (allows gate.options dest) in
          let even = even_at gate order n w.base (passes_none [] n w) (asks_one name dest names [] n false none w) in (
            (
              record {
                order = order;
                heard = start.base.heard;
                asks = (refl, start.since, start.knows.up ∙ unlinked, unblocked gate state order User free n.k start.base.heard start.knows.login, record { dest = dest; wants = record { kind = free.kind; name = name; names = names }; is = refl; allowed = allowed; extnd = extnd });
              },
              behind gate n even,
            ),
            λ reply. operated_leaves n reply allowed extnd start,
          )
      permitted_leaves n false extnd allowed start =
          connect_leaves name dest names [] n allowed (ap (λ (b : Bool). not b || n.k.standing.permitted) extnd) (ap (λ (b : Bool). granted_if b dest.host) (sym extnd)) (wanting n start)

      dest_leaves : (n : Noted) (allowed : Bool) → allows gate.options dest ≡ allowed → Start gate state order n → Leaves watch (rows.dest_row allowed gate state name dest) n
      dest_leaves n true is start = permitted_leaves n gate.options.extnd refl is start
      dest_leaves n false is start =
          refuse_leaves name dest names [] n gate.line (ap (λ (b : Bool). b && (not gate.options.extnd || n.k.standing.permitted)) is) (inl (record { denied = is; by = refl })) (wanting n start)

    wanted_leaves : (n : Noted) (user : Option (List ℕ × Dest)) → user_of order.arg ≡ user → Start gate state order n → Leaves watch (rows.wanted_row gate state user) n
    wanted_leaves n None is start =
        let w = wanting n start in
        let even = even_at gate order n w.base (passes_none [] n w) (asks_dest n.k.standing w.login w.link ∙ ap (λ (u : Option (List ℕ × Dest)). asked_dest gate n.k.standing u) is) in
        tell_leaves Origin gate n texts.no_destination state (record { other = refl; verb = refl; login = refl; dest = refl; failed = refl }) (calm refl refl refl refl refl refl) (start.knows, even)
    wanted_leaves n (Some (name, dest)) is start = dest_leaves name dest is n (allows gate.options dest) refl start

  -- where a link to this destination is up
  module _ (main : Dest) (linked : state.dest ≡ Some main) where
    passes_there : (n : Noted) → Start gate state order n → passed_as gate n.k.standing (Some order) ≡ name_text (name_there main order.arg)
    passes_there n start =
        passes_allowed gate state order User free n.k.standing start.login ∙ ap (λ (l : Option Dest). passed_user l n.k.standing.greeted order.arg) (start.link ∙ linked)

    asks_none : (n : Noted) → Start gate state order n → asked_by gate n.k.standing (Some order) ≡ []
    asks_none n start = asks_allowed gate state order User free n.k.standing start.login ∙ ap (λ (l : Option Dest). asked_user gate n.k.standing l order.arg) (start.link ∙ linked)

    again_leaves : (n : Noted) (name : Option (List ℕ)) → name_there main order.arg ≡ name → Start gate state order n → Leaves watch (rows.again_row gate state name) n
    again_leaves n None is start =
        let even = even_at gate order n start.base (passes_there n start ∙ ap name_text is) (asks_none n start) in
        tell_leaves Origin gate n texts.already_connected state (record { other = refl; verb = refl; login = refl; dest = refl; failed = refl }) (calm refl refl refl refl refl refl) (start.knows, even)
    again_leaves n (Some name) is start =
        let due : Due gate (texts.user_text name) n = record {
          is =
              ap (λ (o : Option Order). n.k.earlier ++ passed_as gate n.k.standing o) start.base.heard ∙ ap (λ (z : List ℕ). n.k.earlier ++ z) (passes_there n start ∙ ap name_text is)
              ∙ ap (λ (z : List ℕ). z ++ texts.user_text name) (sym start.base.passed);
          asks = ap (λ (o : Option Order). n.k.before ++ asked_by gate n.k.standing o) start.base.heard ∙ ap (λ (z : List Dest). n.k.before ++ z) (asks_none n start) ∙ append-nil n.k.before ∙ sym start.base.calls;
        } in
        let may : IsPassable gate n.k = record { order = order; unblocked = unblocked gate state order User free n.k start.base.heard start.knows.login; main = main; link = start.knows.link ∙ linked } in
        pass_leaves Origin gate state (codes "USER") (texts.user_text name) false (has_verb gate.options.log (codes "USER")) n due may (keeps_set gate state order User free n.k start.base.heard (λ s. refl)) start.knows

  pub user_leaves : (n : Noted) (dest : Option Dest) → state.dest ≡ dest → Start gate state order n → Leaves watch (rows.user_row gate state dest order.arg) n
  user_leaves n None is start = wanted_leaves is n (user_of order.arg) refl start
  user_leaves n (Some main) is start = again_leaves main is n (name_there main order.arg) refl start
