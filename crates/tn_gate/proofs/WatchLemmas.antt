-- What the rows keep: which line of the client asks for which destination, and when a destination is dialed.
use Rattle.std.proofs.Common.{◌≡◌, refl, sym, ap, subst, ◌∙◌, ℕ, Bool, true, false, not, ◌&&◌, ◌||◌, List, [], ◌∷◌, ◌++◌, Option, Some, None, Result, Ok, Err, inl, inr, codes, append_assoc, append-nil}
use mathlib.Core.Bool.{true≢false}
use Rattle.std.specs.Prelude.{cond, filter, is_some, if◌then◌else◌}
use Rattle.std.specs.List.{list_any}
use Rattle.std.specs.Str.{bytes_eq}
use Rattle.std.proofs.lemmas.Slice.Eq.{bytes_eq-Decides}
use Rattle.auth_events.specs.Login.{gives_login, is_ok, login_in}
use Rattle.auth_events.proofs.LoginLemmas.{then_stands}
use Rattle.auth_events.specs.declared.denial.Denial.{Denial}
use Rattle.auth_events.specs.declared.denial.Denial.TheVariants.{NotIn}
use Rattle.auth_events.specs.declared.reply.Reply.{Reply}
use Rattle.auth_events.specs.declared.reply.Reply.TheVariants as replies
use Rattle.auth_events.specs.declared.request.OpService.TheVariants as services
use Rattle.auth_events.specs.declared.request.Request.{Request}
use Rattle.auth_events.specs.declared.request.Request.TheVariants as requests
use Rattle.fw_acts.specs.Acts.{PlaceTable}
use Rattle.fw_acts.specs.Acts.Row.{Do, At, Over}
use Rattle.fw_acts.specs.Histories.{Keeps, Leaves, Watch}
use Rattle.fw_outside.specs.declared.heard.Heard.{Heard}
use Rattle.fw_outside.specs.declared.heard.Heard.TheVariants.{Line, TooLong, Stopped}
use Rattle.fw_types.specs.Name.{name_of}
use Rattle.fw_types.specs.declared.dest.Dest.{Dest}
use Rattle.fw_types.specs.declared.host.Host.{Host}
use Rattle.fw_types.specs.declared.host.Host.TheVariants as hosts
use Rattle.gate_rules.specs.Verdict.{allows}
use Rattle.md5.specs.Md5.{md5}
use Rattle.otp_md5.specs.Hexadecimal.{read_of}
use Rattle.session_acts.specs.Acts.{Act, Outcome}
use Rattle.session_acts.specs.Acts.Act.{Hear, Say, Log, Ask, Dial}
use Rattle.session_acts.specs.Client.{line_logged}
use Rattle.session_acts.specs.Deeds.{Deed}
use Rattle.session_acts.specs.Met.{acts}
use Rattle.tn_gate.specs.Asked.{Role, Turn, asked_in, asks_back, dest_of, first_role, grants, is_asked, is_same_host, line_dest, role_after}
use Rattle.tn_gate.specs.Asked.Role.{IsName, IsResponse, IsCommand}
use Rattle.tn_gate.specs.Command.{command_of}
use Rattle.tn_gate.specs.Dialogue.{answered_row, answering_row, ask_command, ask_name, authenticate_row, command_row, commanding_row, connect_row, dest_row, dialed_row, failed_row, first_by, heard_form, name_row, named_row, naming_row, opened_row, operated_row, permitted_row, reason_of, refuse_row, refusing_line, respond_row, response_row, tn_row, tn_rows}
use Rattle.tn_gate.specs.Gate.{Gate, asks_login}
use Rattle.tn_gate.specs.Laws.{EndsWith, IsWanted, clearing, granted, granted_if}
use Rattle.tn_gate.specs.LogLines.{connect_line, fail_line, login_line, refuse_line}
use Rattle.tn_gate.specs.Texts.{challenge_asked, command_prompt, connected, goodbye, help, login_denied, name_prompt, no_route, password_asked, password_ended, refusal, unknown_command}
use Rattle.tn_gate.specs.declared.command.Command.{Command}
use Rattle.tn_gate.specs.declared.command.Command.TheVariants.{Nothing, Connect, Quit, Help, Unknown}
use Rattle.tn_gate.specs.declared.place.Place.{Place}
use Rattle.tn_gate.specs.declared.place.Place.TheVariants.{Naming, Answering, Commanding}
use Rattle.tn_gate.proofs.AccountLemmas.{Noted, Talk, asks_now, at_start, deed_of, next_role, note, total, turn}

pub clash : {A : Type 0} → false ≡ true → A
clash is = absurd (true≢false (sym is))

-- ---- the watch

-- what was dialed is a front of what is asked for
pub record Behind (gate : Gate) (n : Noted) : Type 0 where
  pub rest : List Dest
  pub is : total gate n ≡ n.calls ++ rest

pub record MayDial (gate : Gate) (dest : Dest) (n : Noted) : Type 0 where
  pub earlier : List Deed
  pub stands : n.deeds ≡ earlier ++ clearing gate dest
  pub wanted : IsWanted dest earlier
  pub allowed : allows gate.options dest ≡ true
  pub login : asks_login gate.options ≡ true → login_in (n.talk ++ n.said) ≡ true

abbrev pub May : Gate → Noted → Act → Type 0
May gate n (Say text) = Behind gate n
May gate n (Dial dest) = MayDial gate dest n × Behind gate n
May gate n (Hear form) = (form ≡ heard_form) × Behind gate n
May gate n (Log text) = Behind gate n
May gate n (Ask request) = (asks_login gate.options ≡ true) × Behind gate n
May gate n act = ⊥

abbrev role_at : Place → Role
role_at (Naming open_) = IsName
role_at (Answering name hidden) = IsResponse
role_at Commanding = IsCommand

abbrev LoginAt : Gate → Place → Talk → Type 0
LoginAt gate (Naming open_) talk = asks_login gate.options ≡ true
LoginAt gate (Answering name hidden) talk = asks_login gate.options ≡ true
LoginAt gate Commanding talk = asks_login gate.options ≡ true → login_in talk ≡ true

pub record StandsAt (gate : Gate) (n : Noted) (place : Place) : Type 0 where
  pub even : total gate n ≡ n.calls
  pub role : next_role n.heard n.role n.said ≡ role_at place
  pub login : LoginAt gate place (n.talk ++ n.said)

abbrev pub tn_watch : (Origin : Type 0) → Gate → Watch (acts Origin) Place
tn_watch Origin gate = record {
  Noted = Noted;
  note = λ n act answer. note gate n act (Ok answer);
  may = λ n act. May gate n act;
  holds = λ n place. StandsAt gate n place;
  over = λ n. total gate n ≡ n.calls;
}

-- ---- tests

or_false : (b : Bool) → (b || false) ≡ b
or_false true = refl
or_false false = refl

or_true : (b : Bool) → (b || true) ≡ true
or_true true = refl
or_true false = refl

pub and_false : (b : Bool) → (b && false) ≡ false
and_false true = refl
and_false false = refl

pub or_last : (p q x : Bool) → x ≡ true → (p || q || x) ≡ true
or_last true q x is = refl
or_last false true x is = refl
or_last false false x is = is

passes : (a l s x g : Bool) → a ≡ true → (l ≡ true → s ≡ true) → (not x || g) ≡ true → (a && (not l || (s && (not x || g)))) ≡ true
passes a false s x g allowed login clear = rw allowed refl
passes a true s x g allowed login clear = rw (allowed, login refl, clear) refl

refuses : (l s x g : Bool) → ((false && (not l || (s && (not x || g)))) ≡ false)
refuses l s x g = refl

lacks : (a l s x g : Bool) → l ≡ true → x ≡ true → g ≡ false → (a && (not l || (s && (not x || g)))) ≡ false
lacks a l s x g asks extnd none = rw (asks, extnd, none) (ap (λ (b : Bool). a && b) (and_false s) ∙ and_false a)

same_host : (host : Host) → is_same_host host host ≡ true
same_host (hosts.Addr addr) = (bytes_eq-Decides addr addr).1 refl
same_host (hosts.Name name) = (bytes_eq-Decides name name).1 refl

-- ---- the rows of one line

module _ (Origin : Type 0) (gate : Gate) (asks calls : List Dest) (even : asks ≡ calls) (heard : Heard) (talk : Talk) where
  abbrev watch : Watch (acts Origin) Place
  watch = tn_watch Origin gate

  abbrev at : Role → List Deed → Talk → Noted
  at role deeds said = record { deeds = deeds; asks = asks; calls = calls; role = role; heard = Some heard; talk = talk; said = said }

  abbrev AsksNothing : Role → Talk → Type 0
  AsksNothing role said = asked_in gate role talk (turn heard said) ≡ []

  behind : (role : Role) (deeds : List Deed) (said : Talk) → Behind gate (at role deeds said)
  behind role deeds said = record { rest = asked_in gate role talk (turn heard said); is = ap (λ (z : List Dest). z ++ asked_in gate role talk (turn heard said)) even }

  settled : (role : Role) (deeds : List Deed) (said : Talk) → AsksNothing role said → total gate (at role deeds said) ≡ calls
  settled role deeds said none = ap (λ (z : List Dest). asks ++ z) none ∙ append-nil asks ∙ even

  ask_command_leaves : (role : Role) (deeds : List Deed) (said : Talk) (words : List ℕ) → AsksNothing role said → role_after role (turn heard said) ≡ IsCommand → (asks_login gate.options ≡ true → login_in (talk ++ said) ≡ true)
      → Leaves watch (ask_command words) (at role deeds said)
  ask_command_leaves role deeds said words none next login =
      (behind role deeds said, λ done. record { even = settled role deeds said none; role = next; login = login })

  -- ---- the login

  module _ (wants : asks_login gate.options ≡ true) where
    ask_name_leaves : (role : Role) (deeds : List Deed) (said : Talk) (words : List ℕ) (open_ : Bool) → AsksNothing role said → role_after role (turn heard said) ≡ IsName
        → Leaves watch (ask_name words open_) (at role deeds said)
    ask_name_leaves role deeds said words open_ none next =
        (behind role deeds said, λ done. record { even = settled role deeds said none; role = next; login = wants })

    failed_leaves : (role : Role) (deeds : List Deed) (said : Talk) (name : List ℕ) (denial : Denial) (open_ : Bool) → AsksNothing role said → role_after role (turn heard said) ≡ IsName
        → Leaves watch (failed_row gate name denial open_) (at role deeds said)
    failed_leaves role deeds said name denial open_ none next =
        (behind role deeds said, λ logged. ask_name_leaves role (deeds ++ line_logged (fail_line gate name denial) ∷ []) said login_denied open_ none next)

    abbrev back_if : Bool → Role
    back_if b = if b then IsResponse else IsName

    abbrev AsksLast : Talk → Type 0
    AsksLast said = (one : Request × Reply) → list_any asks_back (said ++ one ∷ []) ≡ asks_back one

    named_leaves : (said : Talk) → AsksLast said → (deeds : List Deed) (name : List ℕ) (reply : Reply) → Leaves watch (named_row gate name reply) (at IsName deeds (said ++ (requests.Authenticate name, reply) ∷ []))
    named_leaves said last deeds name replies.Password = (
      behind IsName deeds (said ++ (requests.Authenticate name, replies.Password) ∷ []),
      λ done. record { even = settled IsName deeds (said ++ (requests.Authenticate name, replies.Password) ∷ []) refl; role = ap back_if (last (requests.Authenticate name, replies.Password)); login = wants },
    )
    named_leaves said last deeds name (replies.Challenge number word_seed) = (
      behind IsName deeds (said ++ (requests.Authenticate name, replies.Challenge number word_seed) ∷ []),
      λ done. record { even = settled IsName deeds (said ++ (requests.Authenticate name, replies.Challenge number word_seed) ∷ []) refl; role = ap back_if (last (requests.Authenticate name, replies.Challenge number word_seed)); login = wants },
    )
    named_leaves said last deeds name (replies.Denied denial) = failed_leaves IsName deeds (said ++ (requests.Authenticate name, replies.Denied denial) ∷ []) name denial true refl (ap back_if (last (requests.Authenticate name, replies.Denied denial)))
    named_leaves said last deeds name (replies.Opened sid) = failed_leaves IsName deeds (said ++ (requests.Authenticate name, replies.Opened sid) ∷ []) name NotIn true refl (ap back_if (last (requests.Authenticate name, replies.Opened sid)))
    named_leaves said last deeds name replies.Ok = failed_leaves IsName deeds (said ++ (requests.Authenticate name, replies.Ok) ∷ []) name NotIn true refl (ap back_if (last (requests.Authenticate name, replies.Ok)))
    named_leaves said last deeds name (replies.Shown summary) = failed_leaves IsName deeds (said ++ (requests.Authenticate name, replies.Shown summary) ∷ []) name NotIn true refl (ap back_if (last (requests.Authenticate name, replies.Shown summary)))

    authenticate_leaves : (said : Talk) → AsksLast said → (deeds : List Deed) (name : List ℕ) → Leaves watch (authenticate_row gate name) (at IsName deeds said)
    authenticate_leaves said last deeds name =
        ((wants, behind IsName deeds said), λ reply. named_leaves said last (deeds ++ deed_of (Ask (requests.Authenticate name)) (Ok reply) ∷ []) name reply)

    opened_leaves : (deeds : List Deed) (name : List ℕ) (reply : Reply) → Leaves watch (opened_row gate name reply) (at IsName deeds ((requests.Open false, reply) ∷ []))
    opened_leaves deeds name (replies.Opened sid) = authenticate_leaves ((requests.Open false, replies.Opened sid) ∷ []) (λ one. or_false (asks_back one)) deeds name
    opened_leaves deeds name (replies.Denied denial) = failed_leaves IsName deeds ((requests.Open false, replies.Denied denial) ∷ []) name denial false refl refl
    opened_leaves deeds name replies.Password = failed_leaves IsName deeds ((requests.Open false, replies.Password) ∷ []) name NotIn false refl refl
    opened_leaves deeds name (replies.Challenge number word_seed) = failed_leaves IsName deeds ((requests.Open false, replies.Challenge number word_seed) ∷ []) name NotIn false refl refl
    opened_leaves deeds name replies.Ok = failed_leaves IsName deeds ((requests.Open false, replies.Ok) ∷ []) name NotIn false refl refl
    opened_leaves deeds name (replies.Shown summary) = failed_leaves IsName deeds ((requests.Open false, replies.Shown summary) ∷ []) name NotIn false refl refl

    name_leaves : (deeds : List Deed) (open_ : Bool) (name : List ℕ) → Leaves watch (name_row gate open_ (Some name)) (at IsName deeds [])
    name_leaves deeds true name = authenticate_leaves [] (λ one. or_false (asks_back one)) deeds name
    name_leaves deeds false name = ((wants, behind IsName deeds []), λ reply. opened_leaves (deeds ++ deed_of (Ask (requests.Open false)) (Ok reply) ∷ []) name reply)

    -- a line that is no name was heard last
    no_name_leaves : (deeds : List Deed) (open_ : Bool) → Leaves watch (name_row gate open_ None) (at IsName (deeds ++ deed_of (Hear heard_form) (Ok heard) ∷ []) [])
    no_name_leaves deeds open_ = ask_name_leaves IsName (deeds ++ deed_of (Hear heard_form) (Ok heard) ∷ []) [] login_denied open_ refl refl

    -- ---- the response

    answered_leaves : (deeds : List Deed) (name text : List ℕ) (reply : Reply) → Leaves watch (answered_row gate name reply) (at IsResponse deeds ((requests.Response (md5 text) (read_of text), reply) ∷ []))
    answered_leaves deeds name text replies.Ok =
        let said : Talk = (requests.Response (md5 text) (read_of text), replies.Ok) ∷ [] in (
          behind IsResponse deeds said,
          λ logged. ask_command_leaves IsResponse (deeds ++ line_logged (login_line gate name) ∷ []) said [] refl refl
              (λ asked. then_stands talk (requests.Response (md5 text) (read_of text), replies.Ok)),
        )
    answered_leaves deeds name text (replies.Denied denial) = failed_leaves IsResponse deeds ((requests.Response (md5 text) (read_of text), replies.Denied denial) ∷ []) name denial true refl refl
    answered_leaves deeds name text (replies.Opened sid) = failed_leaves IsResponse deeds ((requests.Response (md5 text) (read_of text), replies.Opened sid) ∷ []) name NotIn true refl refl
    answered_leaves deeds name text replies.Password = failed_leaves IsResponse deeds ((requests.Response (md5 text) (read_of text), replies.Password) ∷ []) name NotIn true refl refl
    answered_leaves deeds name text (replies.Challenge number word_seed) = failed_leaves IsResponse deeds ((requests.Response (md5 text) (read_of text), replies.Challenge number word_seed) ∷ []) name NotIn true refl refl
    answered_leaves deeds name text (replies.Shown summary) = failed_leaves IsResponse deeds ((requests.Response (md5 text) (read_of text), replies.Shown summary) ∷ []) name NotIn true refl refl

    respond_leaves : (deeds : List Deed) (name text : List ℕ) → Leaves watch (respond_row gate name text) (at IsResponse deeds [])
    respond_leaves deeds name text =
        ((wants, behind IsResponse deeds []), λ reply. answered_leaves (deeds ++ deed_of (Ask (requests.Response (md5 text) (read_of text))) (Ok reply) ∷ []) name text reply)

    response_leaves : (deeds : List Deed) (name : List ℕ) (hidden : Bool) (text : List ℕ) → Leaves watch (response_row gate name hidden text) (at IsResponse deeds [])
    response_leaves deeds name true text =
        (behind IsResponse deeds [], λ done. respond_leaves (deeds ++ deed_of (Say password_ended) (Ok done) ∷ []) name text)
    response_leaves deeds name false text = respond_leaves deeds name text

  -- ---- destinations

  refuse_leaves : (deeds : List Deed) (said : Talk) (dest : Dest) (number : ℕ) → AsksNothing IsCommand said → (asks_login gate.options ≡ true → login_in (talk ++ said) ≡ true)
      → Leaves watch (refuse_row gate dest number) (at IsCommand deeds said)
  refuse_leaves deeds said dest number none login = (
    behind IsCommand deeds said,
    λ logged. ask_command_leaves IsCommand (deeds ++ line_logged (refuse_line gate dest number) ∷ []) said (refusal number) none refl login,
  )

  module _ (dest : Dest) (said : Talk) (one : asked_in gate IsCommand talk (turn heard said) ≡ dest ∷ []) (login : asks_login gate.options ≡ true → login_in (talk ++ said) ≡ true) where
    abbrev past : List Deed → Noted
    past deeds = record { deeds = deeds; asks = asks; calls = calls ++ dest ∷ []; role = IsCommand; heard = Some heard; talk = talk; said = said }

    all_dialed : (deeds : List Deed) → total gate (past deeds) ≡ calls ++ dest ∷ []
    all_dialed deeds = ap (λ (z : List Dest). asks ++ z) one ∙ ap (λ (z : List Dest). z ++ dest ∷ []) even

    nothing_left : (deeds : List Deed) → Behind gate (past deeds)
    nothing_left deeds = record { rest = []; is = all_dialed deeds ∙ sym (append-nil (calls ++ dest ∷ [])) }

    dialed_leaves : (deeds : List Deed) (up : Bool) → Leaves watch (dialed_row up) (past deeds)
    dialed_leaves deeds true = (nothing_left deeds, λ done. all_dialed deeds)
    dialed_leaves deeds false =
        (nothing_left deeds, λ done. record { even = all_dialed deeds; role = refl; login = login })

    connect_leaves : (deeds earlier : List Deed) → deeds ++ line_logged (connect_line gate dest) ∷ [] ≡ earlier ++ clearing gate dest → IsWanted dest earlier → allows gate.options dest ≡ true → Leaves watch (connect_row gate dest) (at IsCommand deeds said)
    connect_leaves deeds earlier stands wanted allowed = (
      behind IsCommand deeds said,
      λ logged. (
        (record { earlier = earlier; stands = stands; wanted = wanted; allowed = allowed; login = login }, behind IsCommand (deeds ++ line_logged (connect_line gate dest) ∷ []) said),
        λ up. dialed_leaves ((deeds ++ line_logged (connect_line gate dest) ∷ []) ++ deed_of (Dial dest) (Ok up) ∷ []) up,
      ),
    )

  module _ (login : asks_login gate.options ≡ true → login_in talk ≡ true) where
    login_nil : asks_login gate.options ≡ true → login_in (talk ++ []) ≡ true
    login_nil asked = ap login_in (append-nil talk) ∙ login asked

    module _ (dest : Dest) (is : line_dest heard ≡ dest ∷ []) where
      abbrev is_one : Talk → Bool
      is_one said = is_asked gate talk (turn heard said) dest

      one_of_line : (said : Talk) (b : Bool) → is_one said ≡ b → asked_in gate IsCommand talk (turn heard said) ≡ cond b (dest ∷ []) []
      one_of_line said b test = ap (λ (z : List Dest). filter (is_asked gate talk (turn heard said)) z) is ∙ ap (λ (t : Bool). cond t (dest ∷ []) []) test

      abbrev operation : Request
      operation = requests.Operation services.Telnet dest.host

      -- behind a reply to the operation the login stands as before
      still : (reply : Reply) → asks_login gate.options ≡ true → login_in (talk ++ (operation, reply) ∷ []) ≡ true
      still reply asked = then_stands talk (operation, reply) ∙ rw (login asked) refl

      abbrev test_with : Bool → Bool → Bool
      test_with allowed granted = allowed && (not (asks_login gate.options) || (login_in talk && (not gate.options.extnd || granted)))

      not_granted : (reply : Reply) → gate.options.extnd ≡ true → is_ok reply ≡ false → is_one ((operation, reply) ∷ []) ≡ false
      not_granted reply extnd bad =
          lacks (allows gate.options dest) (asks_login gate.options) (login_in talk) gate.options.extnd (grants dest.host (operation, reply) || false)
          (or_last (is_some gate.options.auth) gate.options.authall gate.options.extnd extnd) extnd (ap (λ (b : Bool). (is_same_host dest.host dest.host && b) || false) bad ∙ ap (λ (b : Bool). b || false) (and_false (is_same_host dest.host dest.host)))

      refused_leaves : (deeds : List Deed) (reply : Reply) → gate.options.extnd ≡ true → is_ok reply ≡ false → Leaves watch (refuse_row gate dest (refusing_line gate.line reply)) (at IsCommand deeds ((operation, reply) ∷ []))
      refused_leaves deeds reply extnd bad =
          refuse_leaves deeds ((operation, reply) ∷ []) dest (refusing_line gate.line reply) (one_of_line ((operation, reply) ∷ []) false (not_granted reply extnd bad)) (still reply)

      operated_leaves : (deeds : List Deed) (reply : Reply) → IsWanted dest deeds → allows gate.options dest ≡ true → gate.options.extnd ≡ true
          → Leaves watch (operated_row gate dest reply) (at IsCommand (deeds ++ deed_of (Ask operation) (Ok reply) ∷ []) ((operation, reply) ∷ []))
      operated_leaves deeds replies.Ok wanted allowed extnd =
          let said : Talk = (operation, replies.Ok) ∷ [] in
          let clear : (not gate.options.extnd || ((is_same_host dest.host dest.host && true) || false)) ≡ true = rw (same_host dest.host) (or_true (not gate.options.extnd)) in
          let test = passes (allows gate.options dest) (asks_login gate.options) (login_in talk) gate.options.extnd ((is_same_host dest.host dest.host && true) || false) allowed login clear in
          connect_leaves dest said (one_of_line said true test) (still replies.Ok) (deeds ++ granted dest.host ∷ []) deeds
          (append_assoc deeds (granted dest.host ∷ []) (line_logged (connect_line gate dest) ∷ []) ∙ ap (λ (b : Bool). deeds ++ (granted_if b dest.host ++ line_logged (connect_line gate dest) ∷ [])) (sym extnd)) wanted allowed
      operated_leaves deeds (replies.Denied denial) wanted allowed extnd = refused_leaves (deeds ++ deed_of (Ask operation) (Ok (replies.Denied denial)) ∷ []) (replies.Denied denial) extnd refl
      operated_leaves deeds (replies.Opened sid) wanted allowed extnd = refused_leaves (deeds ++ deed_of (Ask operation) (Ok (replies.Opened sid)) ∷ []) (replies.Opened sid) extnd refl
      operated_leaves deeds replies.Password wanted allowed extnd = refused_leaves (deeds ++ deed_of (Ask operation) (Ok replies.Password) ∷ []) replies.Password extnd refl
      operated_leaves deeds (replies.Challenge number word_seed) wanted allowed extnd = refused_leaves (deeds ++ deed_of (Ask operation) (Ok (replies.Challenge number word_seed)) ∷ []) (replies.Challenge number word_seed) extnd refl
      operated_leaves deeds (replies.Shown summary) wanted allowed extnd = refused_leaves (deeds ++ deed_of (Ask operation) (Ok (replies.Shown summary)) ∷ []) (replies.Shown summary) extnd refl

      permitted_leaves : (deeds : List Deed) (extnd : Bool) → gate.options.extnd ≡ extnd → IsWanted dest deeds → allows gate.options dest ≡ true → Leaves watch (permitted_row extnd gate dest) (at IsCommand deeds [])
      permitted_leaves deeds true extnd wanted allowed =
          ((or_last (is_some gate.options.auth) gate.options.authall gate.options.extnd extnd, behind IsCommand deeds []), λ reply. operated_leaves deeds reply wanted allowed extnd)
      permitted_leaves deeds false extnd wanted allowed =
          let clear : (not gate.options.extnd || false) ≡ true = rw extnd refl in
          let test = passes (allows gate.options dest) (asks_login gate.options) (login_in talk) gate.options.extnd false allowed login clear in
          connect_leaves dest [] (one_of_line [] true test) login_nil deeds deeds (ap (λ (b : Bool). deeds ++ (granted_if b dest.host ++ line_logged (connect_line gate dest) ∷ [])) (sym extnd)) wanted allowed

      dest_leaves : (deeds : List Deed) (allowed : Bool) → IsWanted dest deeds → allows gate.options dest ≡ allowed → Leaves watch (dest_row allowed gate dest) (at IsCommand deeds [])
      dest_leaves deeds true wanted allowed = permitted_leaves deeds gate.options.extnd refl wanted allowed
      dest_leaves deeds false wanted allowed =
          refuse_leaves deeds [] dest gate.line (one_of_line [] false (ap (λ (b : Bool). test_with b false) allowed)) login_nil

    -- ---- commands

    no_dest : (is : line_dest heard ≡ []) → AsksNothing IsCommand []
    no_dest is = ap (λ (z : List Dest). filter (is_asked gate talk (turn heard [])) z) is

    words_leaves : (deeds : List Deed) (words : List ℕ) → line_dest heard ≡ [] → Leaves watch (ask_command words) (at IsCommand deeds [])
    words_leaves deeds words is = ask_command_leaves IsCommand deeds [] words (no_dest is) refl login_nil

    command_leaves : (deeds : List Deed) (command : Command) → EndsWith (deed_of (Hear heard_form) (Ok heard)) deeds → line_dest heard ≡ dest_of command → Leaves watch (command_row gate command) (at IsCommand deeds [])
    command_leaves deeds Nothing last is = words_leaves deeds [] is
    command_leaves deeds (Connect dest) last is =
        dest_leaves dest is deeds (allows gate.options dest) (record { heard = heard; wants = is; last = last }) refl
    command_leaves deeds Quit last is = (behind IsCommand deeds [], λ done. settled IsCommand deeds [] (no_dest is))
    command_leaves deeds Help last is = words_leaves deeds help is
    command_leaves deeds Unknown last is = words_leaves deeds unknown_command is

-- ---- the table

module _ (Origin : Type 0) (gate : Gate) where
  abbrev own : PlaceTable (acts Origin) Place
  own = tn_rows gate

  naming_leaves : (open_ : Bool) (deeds : List Deed) (asks calls : List Dest) (even : asks ≡ calls) (heard : Heard) (talk : Talk) → asks_login gate.options ≡ true
      → Leaves (tn_watch Origin gate) (naming_row gate open_ heard) (at Origin gate asks calls even heard talk IsName (deeds ++ deed_of (Hear heard_form) (Ok heard) ∷ []) [])
  naming_leaves open_ deeds asks calls even (Line line) talk wants = choose (name_of line.items) refl
    where
      choose : (name : Option (List ℕ)) → name_of line.items ≡ name → Leaves (tn_watch Origin gate) (name_row gate open_ name) (at Origin gate asks calls even (Line line) talk IsName (deeds ++ deed_of (Hear heard_form) (Ok (Line line)) ∷ []) [])
      choose None is = no_name_leaves Origin gate asks calls even (Line line) talk wants deeds open_
      choose (Some name) is = name_leaves Origin gate asks calls even (Line line) talk wants (deeds ++ deed_of (Hear heard_form) (Ok (Line line)) ∷ []) open_ name
  naming_leaves open_ deeds asks calls even TooLong talk wants = no_name_leaves Origin gate asks calls even TooLong talk wants deeds open_
  naming_leaves open_ deeds asks calls even (Stopped stop) talk wants = settled Origin gate asks calls even (Stopped stop) talk IsName deeds [] refl

  answering_leaves : (name : List ℕ) (hidden : Bool) (deeds : List Deed) (asks calls : List Dest) (even : asks ≡ calls) (heard : Heard) (talk : Talk) → asks_login gate.options ≡ true
      → Leaves (tn_watch Origin gate) (answering_row gate name hidden heard) (at Origin gate asks calls even heard talk IsResponse deeds [])
  answering_leaves name hidden deeds asks calls even (Line line) talk wants = response_leaves Origin gate asks calls even (Line line) talk wants deeds name hidden line.items
  answering_leaves name hidden deeds asks calls even TooLong talk wants = response_leaves Origin gate asks calls even TooLong talk wants deeds name hidden []
  answering_leaves name hidden deeds asks calls even (Stopped stop) talk wants = settled Origin gate asks calls even (Stopped stop) talk IsResponse deeds [] refl

  commanding_leaves : (deeds : List Deed) (asks calls : List Dest) (even : asks ≡ calls) (heard : Heard) (talk : Talk) → (asks_login gate.options ≡ true → login_in talk ≡ true)
      → Leaves (tn_watch Origin gate) (commanding_row gate heard) (at Origin gate asks calls even heard talk IsCommand (deeds ++ deed_of (Hear heard_form) (Ok heard) ∷ []) [])
  commanding_leaves deeds asks calls even (Line line) talk login = command_leaves Origin gate asks calls even (Line line) talk login (deeds ++ deed_of (Hear heard_form) (Ok (Line line)) ∷ []) (command_of line.items) (deeds, refl) refl
  commanding_leaves deeds asks calls even TooLong talk login = command_leaves Origin gate asks calls even TooLong talk login (deeds ++ deed_of (Hear heard_form) (Ok TooLong) ∷ []) Unknown (deeds, refl) refl
  commanding_leaves deeds asks calls even (Stopped stop) talk login = settled Origin gate asks calls even (Stopped stop) talk IsCommand (deeds ++ deed_of (Hear heard_form) (Ok (Stopped stop)) ∷ []) [] refl

  place_leaves : (place : Place) (n : Noted) (heard : Heard) → StandsAt gate n place → Leaves (tn_watch Origin gate) (own.go place heard) (note gate n (Hear heard_form) (Ok heard))
  place_leaves (Naming open_) n heard stands =
      let Leaves_so : Role → Type 0 = λ role. Leaves (tn_watch Origin gate) (naming_row gate open_ heard) (at Origin gate (total gate n) n.calls stands.even heard (n.talk ++ n.said) role (n.deeds ++ deed_of (Hear heard_form) (Ok heard) ∷ []) []) in
      subst Leaves_so (sym stands.role) (naming_leaves open_ n.deeds (total gate n) n.calls stands.even heard (n.talk ++ n.said) stands.login)
  place_leaves (Answering name hidden) n heard stands =
      let Leaves_so : Role → Type 0 = λ role. Leaves (tn_watch Origin gate) (answering_row gate name hidden heard) (at Origin gate (total gate n) n.calls stands.even heard (n.talk ++ n.said) role (n.deeds ++ deed_of (Hear heard_form) (Ok heard) ∷ []) []) in
      subst Leaves_so (sym stands.role) (answering_leaves name hidden (n.deeds ++ deed_of (Hear heard_form) (Ok heard) ∷ []) (total gate n) n.calls stands.even heard (n.talk ++ n.said) stands.login)
  place_leaves Commanding n heard stands =
      let Leaves_so : Role → Type 0 = λ role. Leaves (tn_watch Origin gate) (commanding_row gate heard) (at Origin gate (total gate n) n.calls stands.even heard (n.talk ++ n.said) role (n.deeds ++ deed_of (Hear heard_form) (Ok heard) ∷ []) []) in
      subst Leaves_so (sym stands.role) (commanding_leaves n.deeds (total gate n) n.calls stands.even heard (n.talk ++ n.said) stands.login)

  even_behind : (n : Noted) → total gate n ≡ n.calls → Behind gate n
  even_behind n even = record { rest = []; is = even ∙ sym (append-nil n.calls) }

  pub rows_keep : Keeps own (tn_watch Origin gate)
  rows_keep place n stands = ((refl, even_behind n stands.even), λ heard. place_leaves place n heard stands)

  first_leaves : (asked : Bool) → asks_login gate.options ≡ asked → Leaves (tn_watch Origin gate) (first_by asked) (at_start gate)
  first_leaves true asked =
      (even_behind (at_start gate) refl, λ done. record { even = refl; role = ap (λ (b : Bool). if b then IsName else IsCommand) asked; login = asked })
  first_leaves false asked = (
    even_behind (at_start gate) refl,
    λ done. record { even = refl; role = ap (λ (b : Bool). if b then IsName else IsCommand) asked; login = λ asks. clash (sym asked ∙ asks) },
  )

  pub first_keeps : Leaves (tn_watch Origin gate) (tn_row gate) (at_start gate)
  first_keeps = first_leaves (asks_login gate.options) refl
