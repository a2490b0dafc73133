-- What the rows of the login keep.
use Rattle.std.proofs.Common.{◌≡◌, ◌⊎◌, ◌≤◌, refl, sym, ap, subst, ◌∙◌, ℕ, Bool, true, false, not, ◌&&◌, ◌||◌, List, [], ◌∷◌, ◌++◌, Option, Some, None, Result, Ok, Err, inl, inr, codes, append_assoc, append-nil}
use mathlib.Core.Bool.{true≢false}
use Rattle.std.specs.Prelude.{◌/◌, ◌==◌, nat_le, if◌then◌else◌}
use Rattle.std.specs.Option.{option_map}
use Rattle.std.specs.Str.{bytes_eq}
use Rattle.std.proofs.lemmas.Slice.Eq.{bytes_eq-Decides}
use Rattle.auth_events.specs.Login.{is_full, is_ok, login_then}
use Rattle.auth_events.specs.declared.denial.Denial.{Denial}
use Rattle.auth_events.specs.declared.denial.Denial.TheVariants.{NotIn}
use Rattle.auth_events.specs.declared.reply.Reply.{Reply}
use Rattle.auth_events.specs.declared.reply.Reply.TheVariants as replies
use Rattle.auth_events.specs.declared.request.OpService.TheVariants as services
use Rattle.auth_events.specs.declared.request.Request.{Request}
use Rattle.auth_events.specs.declared.request.Request.TheVariants as requests
use Rattle.fw_acts.specs.Acts.{Row, PlaceTable}
use Rattle.fw_acts.specs.Acts.Row.{Do, At, Over}
use Rattle.fw_acts.specs.Histories.{Keeps, Leaves, Watch}
use Rattle.fw_types.specs.declared.dest.Dest.{Dest}
use Rattle.md5.specs.Md5.{md5}
use Rattle.otp_md5.specs.Hexadecimal.{read_of}
use Rattle.session_acts.specs.Acts.{Act, Outcome}
use Rattle.session_acts.specs.Acts.Act.{Ask, Copy, Dial, HangUp, Hear, Join, Log, OpenDoor, Part, Pass, Say, TakeReply}
use Rattle.session_acts.specs.Client.{line_logged}
use Rattle.session_acts.specs.Deeds.{Deed}
use Rattle.session_acts.specs.Met.{acts}
use Rattle.session_acts.specs.declared.target.Target.{Target}
use Rattle.session_acts.specs.declared.target.Target.TheVariants.{Addr, AtDoor}
use Rattle.ftp_gate.specs.Dialogue as rows
use Rattle.ftp_gate.specs.Dialogue.{heard_form, is_in, reason_of, with_account}
use Rattle.ftp_gate.specs.Gate.{Gate, asks_login, has_verb}
use Rattle.ftp_gate.specs.Kind.{kind_of}
use Rattle.ftp_gate.specs.LogLines.{blocked_line, command_line, connect_line, fail_line, login_line, refuse_line}
use Rattle.ftp_gate.specs.Order.{Order}
use Rattle.ftp_gate.specs.Passage.{Standing, asked_by, passed_as}
use Rattle.ftp_gate.specs.Texts as texts
use Rattle.ftp_gate.specs.declared.kind.Kind.{Kind}
use Rattle.ftp_gate.specs.declared.kind.Kind.TheVariants as kinds
use Rattle.ftp_gate.specs.declared.place.Account.{Account}
use Rattle.ftp_gate.specs.declared.place.Account.TheVariants.{Unopened, Opened}
use Rattle.ftp_gate.specs.declared.place.Place.{Place}
use Rattle.ftp_gate.specs.declared.place.Place.TheVariants.{Listening, Answering, Dropping}
use Rattle.ftp_gate.specs.declared.place.State.{State}
use Rattle.ftp_gate.specs.Laws.{EndsWith, IsAbout, IsCleared, IsDisallowed, IsFailure, IsLoggedFirst, IsNoName, IsOwnPair, IsOwnTarget, IsPassable, IsRefusal, IsUnblocked, IsUnpermitted, Names, Wants, WasOpened, asked_so, clearing, fails, granted, granted_if}
use Rattle.ftp_gate.specs.Known.{Known, begins, dests_in, known_after, order_in, passage_in}
use Rattle.ftp_gate.proofs.AccountLemmas.{Noted, at_first, deed_of, named_login, note}
use Rattle.ftp_gate.proofs.WatchLemmas.{Behind, Even, Holds, IsOwnSetting, IsPlain, IsUser, Knows, May, behind, calm, clash, closed_leaves, ftp_watch, logged_even, logged_holds, logged_knows, plain_first, say_leaves, tell_leaves}
use Rattle.fw_types.specs.Name.{name_of}
use Rattle.ftp_gate.proofs.BaseLemmas.{Base, Silent, asked_base, even_of, logged_base}

and_true : (b : Bool) → (b && true) ≡ b
and_true true = refl
and_true false = refl

-- a login failed by what was asked last
record Failing (order : Order) (name : List ℕ) (denial : Denial) (k : Known) : Type 0 where
  request : Request
  reply : Reply
  failed : fails request reply ≡ true
  about : IsAbout request name order k.user
  earlier : List Deed
  since : k.since ≡ earlier ++ asked_so request reply ∷ []
  reason : reason_of reply ≡ denial

module _ (Origin : Type 0) (gate : Gate) (order : Order) (silent : Silent gate order) where
  abbrev watch : Watch (acts Origin) Place
  watch = ftp_watch Origin gate

  failed_leaves : (n : Noted) (name : List ℕ) (denial : Denial) (state : State) → Base order n → Knows gate state n.k → Failing order name denial n.k → Leaves watch (rows.failed_row gate name denial state) n
  failed_leaves n name denial state base knows failing =
      let line = fail_line gate name denial in
      let even = even_of gate order n base silent in
      let after = note gate n (Log line) (Ok tt) in
      let is : after.k.since ≡ failing.earlier ++ asked_so failing.request failing.reply ∷ line_logged (fail_line gate name (reason_of failing.reply)) ∷ [] =
      ap (λ (d : List Deed). d ++ line_logged line ∷ []) failing.since
      ∙ append_assoc failing.earlier (asked_so failing.request failing.reply ∷ []) (line_logged line ∷ [])
      ∙ ap (λ (why : Denial). failing.earlier ++ asked_so failing.request failing.reply ∷ line_logged (fail_line gate name why) ∷ []) (sym failing.reason) in
      let failure : IsFailure gate after.k = record {
        order = order;
        heard = base.heard;
        request = failing.request;
        reply = failing.reply;
        failed = failing.failed;
        name = name;
        about = failing.about;
        earlier = failing.earlier;
        logged = is;
      } in
      let first : IsLoggedFirst gate texts.login_denied after.k = record { verb = λ it. clash it; login = λ it. clash it; dest = λ it. clash it; failed = λ it. inl failure } in
      (behind gate n even, λ logged. say_leaves Origin gate after texts.login_denied state refl first (calm refl refl refl refl refl refl) (logged_holds Origin gate n line state (knows, even)))

  named_leaves : (n : Noted) (state : State) (name : List ℕ) (stands : Bool) (reply : Reply) → Base order n → Knows gate (with_account (Opened name stands) state) n.k
      → (earlier : List Deed) → n.k.since ≡ earlier ++ asked_so (requests.Authenticate name) reply ∷ [] → Leaves watch (rows.named_row gate state name stands reply) n
  named_leaves n state name stands replies.Password base knows earlier since =
      tell_leaves Origin gate n texts.password_asked (with_account (Opened name stands) state) (record { other = refl; verb = refl; login = refl; dest = refl; failed = refl }) (calm refl refl refl refl refl refl) (knows, even_of gate order n base silent)
  named_leaves n state name stands (replies.Challenge number word_seed) base knows earlier since =
      tell_leaves Origin gate n (texts.challenge_asked number word_seed) (with_account (Opened name stands) state) (record { other = refl; verb = refl; login = refl; dest = refl; failed = refl }) (calm refl refl refl refl refl refl) (knows, even_of gate order n base silent)
  named_leaves n state name stands (replies.Denied denial) base knows earlier since =
      failed_leaves n name denial (with_account (Opened name stands) state) base knows (record { request = requests.Authenticate name; reply = replies.Denied denial; failed = refl; about = refl; earlier = earlier; since = since; reason = refl })
  named_leaves n state name stands (replies.Opened sid) base knows earlier since =
      failed_leaves n name NotIn (with_account (Opened name stands) state) base knows (record { request = requests.Authenticate name; reply = replies.Opened sid; failed = refl; about = refl; earlier = earlier; since = since; reason = refl })
  named_leaves n state name stands replies.Ok base knows earlier since =
      failed_leaves n name NotIn (with_account (Opened name stands) state) base knows (record { request = requests.Authenticate name; reply = replies.Ok; failed = refl; about = refl; earlier = earlier; since = since; reason = refl })
  named_leaves n state name stands (replies.Shown summary) base knows earlier since =
      failed_leaves n name NotIn (with_account (Opened name stands) state) base knows (record { request = requests.Authenticate name; reply = replies.Shown summary; failed = refl; about = refl; earlier = earlier; since = since; reason = refl })

  authenticate_leaves : (n : Noted) (state : State) (name : List ℕ) (stood : Bool) → Names name order → (n.k.since ≡ []) ⊎ WasOpened n.k.since → Base order n → n.k.login ≡ stood → n.k.link ≡ state.dest → n.k.dialed ≡ state.dest → n.k.setting ≡ state.setting → IsOwnSetting gate state.setting
      → Leaves watch (rows.authenticate_row gate state name stood) n
  authenticate_leaves n state name stood names may base login link up setting own = (
    (record { order = order; heard = base.heard; asks = (names, may) }, behind gate n (even_of gate order n base silent)),
    λ reply. named_leaves (note gate n (Ask (requests.Authenticate name)) (Ok reply)) state name (stood && is_full reply) reply (asked_base gate order n (requests.Authenticate name) reply base)
        (record { login = ap (λ (b : Bool). login_then b (requests.Authenticate name, reply)) login ∙ named_login stood name reply; user = refl; link = link; up = up; setting = setting; own = own }) n.k.since refl,
  )

  module _ (state : State) (name : List ℕ) (names : Names name order) (unopened : state.account ≡ Unopened) where
    -- behind an opening no login stands
    none_stands : (k : Known) (reply : Reply) → k.login ≡ is_in state.account → login_then k.login (requests.Open false, reply) ≡ false
    none_stands k reply login = ap (λ (b : Bool). login_then b (requests.Open false, reply)) (login ∙ ap is_in unopened)

    still : (n : Noted) (reply : Reply) → Knows gate state n.k → Knows gate state (note gate n (Ask (requests.Open false)) (Ok reply)).k
    still n reply knows = record {
      login = none_stands n.k reply knows.login ∙ sym (ap is_in unopened);
      user = knows.user;
      link = knows.link;
      up = knows.up;
      setting = knows.setting;
      own = knows.own;
    }

    not_opened : (n : Noted) (reply : Reply) (denial : Denial) → fails (requests.Open false) reply ≡ true → reason_of reply ≡ denial → Base order n → Knows gate state n.k
        → Leaves watch (rows.failed_row gate name denial state) (note gate n (Ask (requests.Open false)) (Ok reply))
    not_opened n reply denial failed reason base knows =
        failed_leaves (note gate n (Ask (requests.Open false)) (Ok reply)) name denial state (asked_base gate order n (requests.Open false) reply base) (still n reply knows)
        (record { request = requests.Open false; reply = reply; failed = failed; about = names.is; earlier = n.k.since; since = refl; reason = reason })

    opened_leaves : (n : Noted) (reply : Reply) → n.k.since ≡ [] → Base order n → Knows gate state n.k → Leaves watch (rows.opened_row gate state name reply) (note gate n (Ask (requests.Open false)) (Ok reply))
    opened_leaves n (replies.Opened sid) since base knows =
        authenticate_leaves (note gate n (Ask (requests.Open false)) (Ok (replies.Opened sid))) state name false names (inr (record { sid = sid; is = ap (λ (d : List Deed). d ++ asked_so (requests.Open false) (replies.Opened sid) ∷ []) since })) (asked_base gate order n (requests.Open false) (replies.Opened sid) base)
        (none_stands n.k (replies.Opened sid) knows.login) knows.link knows.up knows.setting knows.own
    opened_leaves n (replies.Denied denial) since base knows = not_opened n (replies.Denied denial) denial refl refl base knows
    opened_leaves n replies.Password since base knows = not_opened n replies.Password NotIn refl refl base knows
    opened_leaves n (replies.Challenge number word_seed) since base knows = not_opened n (replies.Challenge number word_seed) NotIn refl refl base knows
    opened_leaves n replies.Ok since base knows = not_opened n replies.Ok NotIn refl refl base knows
    opened_leaves n (replies.Shown summary) since base knows = not_opened n (replies.Shown summary) NotIn refl refl base knows

  name_leaves : (n : Noted) (state : State) (account : Account) (name : List ℕ) → state.account ≡ account → Names name order → n.k.since ≡ [] → Base order n → Knows gate state n.k → Leaves watch (rows.name_row gate state account name) n
  name_leaves n state Unopened name is names since base knows = (
    (record { order = order; heard = base.heard; asks = (refl, since, name, names) }, behind gate n (even_of gate order n base silent)),
    λ reply. opened_leaves state name names is n reply since base knows,
  )
  name_leaves n state (Opened other stood) name is names since base knows =
      authenticate_leaves n state name stood names (inl since) base (knows.login ∙ ap is_in is) knows.link knows.up knows.setting knows.own

  pub authorize_leaves : (n : Noted) (state : State) (name : Option (List ℕ)) → kind_of order.verb ≡ kinds.Authorize → name_of order.arg ≡ name → n.k.since ≡ [] → Base order n → Knows gate state n.k
      → Leaves watch (rows.authorize_row gate state name) n
  authorize_leaves n state None kind is since base knows =
      let none : IsNoName n.k = record { order = order; heard = base.heard; kind = kind; none = is; since = since } in
      let first : IsLoggedFirst gate texts.login_denied n.k = record { verb = λ it. clash it; login = λ it. clash it; dest = λ it. clash it; failed = λ it. inr none } in
      say_leaves Origin gate n texts.login_denied state refl first (calm refl refl refl refl refl refl) (knows, even_of gate order n base silent)
  authorize_leaves n state (Some name) kind is since base knows = name_leaves n state state.account name refl (record { kind = kind; is = is }) since base knows

  -- ---- responses

  module _ (state : State) (name text : List ℕ) where
    abbrev response : Request
    response = requests.Response (md5 text) (read_of text)

    -- a response that isn't right changes no login
    wrong_stands : (b : Bool) (reply : Reply) → is_ok reply ≡ false → login_then b (response, reply) ≡ b
    wrong_stands b reply bad = ap (λ (t : Bool). t || (b && true)) bad ∙ and_true b

    wrong_leaves : (n : Noted) (reply : Reply) (denial : Denial) → is_ok reply ≡ false → fails response reply ≡ true → reason_of reply ≡ denial → n.k.user ≡ Some name → Base order n → Knows gate state n.k
        → Leaves watch (rows.failed_row gate name denial state) (note gate n (Ask response) (Ok reply))
    wrong_leaves n reply denial bad failed reason user base knows =
        failed_leaves (note gate n (Ask response) (Ok reply)) name denial state (asked_base gate order n response reply base)
        (record { login = wrong_stands n.k.login reply bad ∙ knows.login; user = knows.user; link = knows.link; up = knows.up; setting = knows.setting; own = knows.own })
        (record { request = response; reply = reply; failed = failed; about = user; earlier = n.k.since; since = refl; reason = reason })

    answered_leaves : (n : Noted) (reply : Reply) → n.k.user ≡ Some name → Base order n → Knows gate state n.k → Leaves watch (rows.answered_row gate state name reply) (note gate n (Ask response) (Ok reply))
    answered_leaves n replies.Ok user base knows =
        let asked = note gate n (Ask response) (Ok replies.Ok) in
        let after = with_account (Opened name true) state in
        let even = even_of gate order asked (asked_base gate order n response replies.Ok base) silent in
        let knows_now : Knows gate after asked.k = record { login = refl; user = user; link = knows.link; up = knows.up; setting = knows.setting; own = knows.own } in (
          behind gate asked even,
          λ logged. tell_leaves Origin gate (note gate asked (Log (login_line gate name)) (Ok tt)) texts.login_ok after (record { other = refl; verb = refl; login = refl; dest = refl; failed = refl }) (calm refl refl refl refl refl refl)
              (logged_holds Origin gate asked (login_line gate name) after (knows_now, even)),
        )
    answered_leaves n (replies.Denied denial) user base knows = wrong_leaves n (replies.Denied denial) denial refl refl refl user base knows
    answered_leaves n (replies.Opened sid) user base knows = wrong_leaves n (replies.Opened sid) NotIn refl refl refl user base knows
    answered_leaves n replies.Password user base knows = wrong_leaves n replies.Password NotIn refl refl refl user base knows
    answered_leaves n (replies.Challenge number word_seed) user base knows = wrong_leaves n (replies.Challenge number word_seed) NotIn refl refl refl user base knows
    answered_leaves n (replies.Shown summary) user base knows = wrong_leaves n (replies.Shown summary) NotIn refl refl refl user base knows

  pub response_leaves : (n : Noted) (state : State) (account : Account) → kind_of order.verb ≡ kinds.Response → state.account ≡ account → n.k.since ≡ [] → Base order n → Knows gate state n.k → Leaves watch (rows.response_row gate state account order.arg) n
  response_leaves n state Unopened kind is since base knows =
      tell_leaves Origin gate n texts.authorize_first state (record { other = refl; verb = refl; login = refl; dest = refl; failed = refl }) (calm refl refl refl refl refl refl) (knows, even_of gate order n base silent)
  response_leaves n state (Opened name stood) kind is since base knows =
      let user : n.k.user ≡ Some name = subst (λ (a : Account). IsUser a n.k.user) is knows.user in
      ((record { order = order; heard = base.heard; asks = (record { kind = kind; digest = refl; read = refl }, since, name, user) }, behind gate n (even_of gate order n base silent)), λ reply. answered_leaves state name order.arg n reply user base knows)
