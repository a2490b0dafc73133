-- What a step makes of the record under a name.
use Rattle.std.proofs.Common.{◌≡◌, ◌≢◌, ℕ, ◌+◌, Bool, true, false, cond, List, [], ◌∷◌, ◌++◌, length, Option, Some, None, is_some, option_map, refl, sym, ap, subst, ◌∙◌}
use Rattle.std.proofs.Common as common
use Rattle.std.specs.Str.{bytes_eq}
use Rattle.std.proofs.lemmas.Slice.Eq.{bytes_eq-Decides}
use Rattle.fw_types.specs.Keyed.{under, without}
use Rattle.fw_types.proofs.KeyedLemmas.{under_placed, under_without}
use Rattle.auth_records.specs.Spelling.{Fields, OtpFields}
use Rattle.auth_records.specs.declared.record.Proto.TheVariants as protos
use Rattle.auth_events.specs.Port.{session_at}
use Rattle.auth_events.specs.declared.denial.Denial.TheVariants as denials
use Rattle.auth_events.specs.declared.entry.Entry.{Entry}
use Rattle.auth_events.specs.declared.reply.Reply.TheVariants as replies
use Rattle.auth_events.specs.declared.request.Request.{Request}
use Rattle.auth_events.specs.declared.request.Request.TheVariants as requests
use Rattle.auth_machine.specs.Answer.{Answer, answer_of}
use Rattle.auth_machine.specs.Answer.Answer.{Denied, Ok}
use Rattle.auth_machine.specs.History.{IsLegal, IsStep, Origin, after, after_entry}
use Rattle.auth_machine.specs.Logins.{is_response, phase_of}
use Rattle.auth_machine.specs.Chains.{response_word}
use Rattle.auth_machine.specs.Login.{failed, logged_in, refusal, used}
use Rattle.auth_machine.specs.Policy.{PolicyView}
use Rattle.auth_machine.specs.Powers.{new_user, power_of, reachable}
use Rattle.auth_machine.specs.State.{Change, State, at_moment, changed, records_after, record_name, record_at, session_of, first_state}
use Rattle.auth_machine.specs.Step.{is_record_change}
use Rattle.auth_machine.specs.declared.record_change.RecordChange.TheVariants.{Put, Delete}
use Rattle.auth_machine.specs.declared.session.Phase.{Phase}
use Rattle.auth_machine.specs.declared.session.Phase.TheVariants.{Waiting}
use Rattle.auth_machine.specs.declared.session.Session.{Session}
use Rattle.auth_machine.proofs.ActLemmas.{AddsTo, Administers, Happens, altered, is_other, power_for, target}
use Rattle.auth_machine.proofs.LoginActs.{Asks, Awaits, IsWord, Responds}
use Rattle.auth_machine.proofs.ActLemmas.Administers.{alters, makes, nothing, removes}
use Rattle.auth_machine.proofs.LoginActs.Asks.{asks_a_word, asks_denied, asks_nobody, asks_password}
use Rattle.auth_machine.proofs.ActLemmas.Happens.{absent, administering, asking, closing, opening, responding}
use Rattle.auth_machine.proofs.LoginActs.Responds.{dropped, right_password, right_word, stays, turned_down, wrong_one}
use Rattle.auth_machine.proofs.EntriesLemmas.{after_joined}
use Rattle.auth_machine.proofs.OrderLemmas.{itself}
use Rattle.auth_machine.proofs.PhaseLemmas.{edits, no_edit, ok_reply, other_no_response, proposed_happens}
use Rattle.auth_machine.proofs.StepLemmas.{last_step, proposed_at, refused_at}

-- ---- records by their names

pub found_name : (k : List ℕ) (xs : List Fields) (f : Fields) → record_at k xs ≡ Some f → f.name ≡ k
found_name k [] f is = absurd (cc)
found_name k (x ∷ xs) f is = choose (bytes_eq x.name k) refl is (found_name k xs f)
  where
    choose : (b : Bool) → bytes_eq x.name k ≡ b → cond b (Some x) (record_at k xs) ≡ Some f → (record_at k xs ≡ Some f → f.name ≡ k) → f.name ≡ k
    choose true e is rest = let same : x ≡ f = cc in subst (λ (z : Fields). z.name ≡ k) same ((bytes_eq-Decides x.name k).0 e)
    choose false e is rest = rest is

twice : (b : Bool) (x : Fields) (found : Option Fields) → cond b (Some x) (cond b None found) ≡ cond b (Some x) found
twice true x found = refl
twice false x found = refl

pub put_at : (g : Fields) (xs : List Fields) (k : List ℕ) → record_at k (records_after (Put g) xs) ≡ cond (bytes_eq k g.name) (Some g) (record_at k xs)
put_at g xs k =
    let none : under record_name g.name (without record_name g.name xs) ≡ None =
    under_without record_name g.name xs g.name ∙ ap (λ (b : Bool). cond b None (under record_name g.name xs)) (itself g.name) in
    under_placed record_name g (without record_name g.name xs) k (ap is_some none)
    ∙ ap (λ (found : Option Fields). cond (bytes_eq k g.name) (Some g) found) (under_without record_name g.name xs k)
    ∙ twice (bytes_eq k g.name) g (record_at k xs)

pub delete_at : (name : List ℕ) (xs : List Fields) (k : List ℕ) → record_at k (records_after (Delete name) xs) ≡ cond (bytes_eq k name) None (record_at k xs)
delete_at name xs k = under_without record_name name xs k

-- ---- moves

-- the session waits for this user, whose record can be used, and responds
pub record Awaited (policy : PolicyView) (s : State) (k : List ℕ) (entry : Entry) (f : Fields) : Type 0 where
  pub phase : phase_of entry.sid s ≡ Some (Waiting k)
  pub usable : refusal policy s.moment f ≡ None
  pub responds : is_response entry.request ≡ true

-- the session waited for this user, and its response was answered Ok
abbrev pub LogsInAs : State → List ℕ → Entry → Type 0
LogsInAs s k entry = (phase_of entry.sid s ≡ Some (Waiting k)) × (is_response entry.request ≡ true) × (entry.reply ≡ replies.Ok)

-- the record under the name before and after an entry; the state is that before, at the entry's moment
pub data RecordMoves (policy : PolicyView) (s : State) (k : List ℕ) (entry : Entry) : Option Fields → Option Fields → Type 0 where
  same : (found : Option Fields) → (LogsInAs s k entry → ⊥) → RecordMoves policy s k entry found found
  made : (long : List ℕ) (group : Option (List ℕ)) (session : Session) → entry.request ≡ requests.Adduser k long → session_of entry.sid s.sessions ≡ Some session
      → AddsTo (power_of s session) group → RecordMoves policy s k entry None (Some (new_user k long group))
  removed : (f : Fields) (session : Session) → entry.request ≡ requests.Deluser k → entry.reply ≡ replies.Ok → session_of entry.sid s.sessions ≡ Some session
      → reachable (power_of s session) (Some f) ≡ common.Ok f → RecordMoves policy s k entry (Some f) None
  becomes : (f : Fields) (session : Session) → target entry.request ≡ Some k → entry.reply ≡ replies.Ok → session_of entry.sid s.sessions ≡ Some session
      → reachable (power_for s session entry.request k) (Some f) ≡ common.Ok f → RecordMoves policy s k entry (Some f) (Some (altered entry.request f))
  fails : (f : Fields) → Awaited policy s k entry f → (LogsInAs s k entry → ⊥) → RecordMoves policy s k entry (Some f) (Some (failed s.moment f))
  enters : (f : Fields) → Awaited policy s k entry f → entry.reply ≡ replies.Ok → f.proto ≡ protos.Plain → RecordMoves policy s k entry (Some f) (Some (logged_in s.moment f))
  uses : (f : Fields) (otp : OtpFields) (w : ℕ) → Awaited policy s k entry f → entry.reply ≡ replies.Ok → response_word entry.request ≡ Some w → IsWord f otp w
      → RecordMoves policy s k entry (Some f) (Some (used s.moment f otp w))

altered_name : (request : Request) (f : Fields) → (altered request f).name ≡ f.name
altered_name (requests.Enable name) f = refl
altered_name (requests.Disable name) f = refl
altered_name (requests.Group name group) f = refl
altered_name (requests.Proto name proto) f = refl
altered_name (requests.Password name salt hash) f = refl
altered_name (requests.Otp name number word_seed kept) f = refl
altered_name (requests.Wiz name) f = refl
altered_name (requests.Unwiz name) f = refl
altered_name (requests.Superwiz name) f = refl
altered_name (requests.Expire name until) f = refl
altered_name _ f = refl

module _ (policy : PolicyView) (s : State) (k : List ℕ) (entry : Entry) where
  no_login : (a : Answer) → answer_of entry.reply ≡ a → a ≢ Ok → LogsInAs s k entry → ⊥
  no_login a reply not login = not (sym reply ∙ ap answer_of login.2)

  no_response : (request : Request) → entry.request ≡ request → is_response request ≡ false → LogsInAs s k entry → ⊥
  no_response request is none login =
      let e : is_response entry.request ≡ false = ap is_response is ∙ none in
      let f = login.1 in
      cc

  waits : (session : Session) (n : List ℕ) → session_of entry.sid s.sessions ≡ Some session → session.phase ≡ Waiting n → phase_of entry.sid s ≡ Some (Waiting n)
  waits session n there phase = ap (λ (found : Option Session). option_map (λ x. x.phase) found) there ∙ ap (λ (p : Phase). Some p) phase

  another : (session : Session) (n : List ℕ) → session_of entry.sid s.sessions ≡ Some session → session.phase ≡ Waiting n → bytes_eq k n ≡ false → LogsInAs s k entry → ⊥
  another session n there phase other login =
      let e = waits session n there phase in
      let f = login.0 in
      let one : k ≡ n = cc in
      let b : bytes_eq k n ≡ true = (bytes_eq-Decides k n).1 one in
      cc

  -- the record under a name is put anew
  put_move : (n : List ℕ) (old : Option Fields) (g : Fields) → record_at n s.records ≡ old → g.name ≡ n → (k ≡ n → RecordMoves policy s k entry old (Some g))
      → (bytes_eq k n ≡ false → LogsInAs s k entry → ⊥) → RecordMoves policy s k entry (record_at k s.records) (record_at k (records_after (Put g) s.records))
  put_move n old g there named here elsewhere =
      subst (λ found. RecordMoves policy s k entry (record_at k s.records) found) (sym (put_at g s.records k)) (choose (bytes_eq k g.name) refl)
    where
      choose : (b : Bool) → bytes_eq k g.name ≡ b → RecordMoves policy s k entry (record_at k s.records) (cond b (Some g) (record_at k s.records))
      choose true e =
          let one : k ≡ n = (bytes_eq-Decides k g.name).0 e ∙ named in
          subst (λ found. RecordMoves policy s k entry found (Some g)) (sym (ap (λ (name : List ℕ). record_at name s.records) one ∙ there)) (here one)
      choose false e = same (record_at k s.records) (elsewhere (subst (λ (name : List ℕ). bytes_eq k name ≡ false) named e))

  delete_move : (n : List ℕ) (f : Fields) → record_at n s.records ≡ Some f → (k ≡ n → RecordMoves policy s k entry (Some f) None)
      → (LogsInAs s k entry → ⊥) → RecordMoves policy s k entry (record_at k s.records) (record_at k (records_after (Delete f.name) s.records))
  delete_move n f there here elsewhere =
      subst (λ found. RecordMoves policy s k entry (record_at k s.records) found) (sym (delete_at f.name s.records k)) (choose (bytes_eq k f.name) refl)
    where
      choose : (b : Bool) → bytes_eq k f.name ≡ b → RecordMoves policy s k entry (record_at k s.records) (cond b None (record_at k s.records))
      choose true e =
          let one : k ≡ n = (bytes_eq-Decides k f.name).0 e ∙ found_name n s.records f there in
          subst (λ found. RecordMoves policy s k entry found None) (sym (ap (λ (name : List ℕ). record_at name s.records) one ∙ there)) (here one)
      choose false e = same (record_at k s.records) elsewhere

  awaited : (session : Session) (n : List ℕ) (f : Fields) → session_of entry.sid s.sessions ≡ Some session → Awaits policy s session n f → is_response entry.request ≡ true → k ≡ n
      → Awaited policy s k entry f
  awaited session n f there awaits responds one =
      record { phase = waits session n there awaits.phase ∙ ap (λ (name : List ℕ). Some (Waiting name)) (sym one); usable = awaits.usable; responds = responds }

  on_asks : (name : List ℕ) (session : Session) (change : Change) (j : ℕ) → Asks policy s session name change → entry.request ≡ requests.Authenticate name
      → (refused : Bool) → (refused ≡ true → is_record_change change.records s.records ≡ true)
      → RecordMoves policy s k entry (record_at k s.records) (record_at k (cond refused s (changed j change s)).records)
  on_asks name session change j (asks_denied d) is true edit = no_edit edit
  on_asks name session change j (asks_denied d) is false edit = same _ (no_response (requests.Authenticate name) is refl)
  on_asks name session change j asks_nobody is true edit = no_edit edit
  on_asks name session change j asks_nobody is false edit = same _ (no_response (requests.Authenticate name) is refl)
  on_asks name session change j asks_password is true edit = no_edit edit
  on_asks name session change j asks_password is false edit = same _ (no_response (requests.Authenticate name) is refl)
  on_asks name session change j (asks_a_word otp) is true edit = no_edit edit
  on_asks name session change j (asks_a_word otp) is false edit = same _ (no_response (requests.Authenticate name) is refl)

  on_responds : (hash : List ℕ) (word : Option ℕ) (session : Session) (change : Change) (j : ℕ) → session_of entry.sid s.sessions ≡ Some session → Responds policy s session word change
      → entry.request ≡ requests.Response hash word → (refused : Bool) → answer_of entry.reply ≡ cond refused (Denied denials.NotKept) change.answer
      → RecordMoves policy s k entry (record_at k s.records) (record_at k (cond refused s (changed j change s)).records)
  on_responds hash word session change j there responds is true reply = same _ (no_login _ reply (λ e. absurd (cc)))
  on_responds hash word session change j there stays is false reply = same _ (no_login _ reply (λ e. absurd (cc)))
  on_responds hash word session change j there (turned_down d out) is false reply = same _ (no_login _ reply (λ e. absurd (cc)))
  on_responds hash word session change j there (dropped d out) is false reply = same _ (no_login _ reply (λ e. absurd (cc)))
  on_responds hash word session change j there (wrong_one n f awaits) is false reply =
      put_move n (Some f) (failed s.moment f) awaits.there (found_name n s.records f awaits.there)
      (λ one. fails f (awaited session n f there awaits (ap is_response is) one) (no_login _ reply (λ e. absurd (cc)))) (λ other. no_login _ reply (λ e. absurd (cc)))
  on_responds hash word session change j there (right_password n f awaits proto) is false reply =
      put_move n (Some f) (logged_in s.moment f) awaits.there (found_name n s.records f awaits.there)
      (λ one. enters f (awaited session n f there awaits (ap is_response is) one) (ok_reply entry.reply reply) proto) (another session n there awaits.phase)
  on_responds hash word session change j there (right_word n f otp w awaits given chain) is false reply =
      put_move n (Some f) (used s.moment f otp w) awaits.there (found_name n s.records f awaits.there)
      (λ one. uses f otp w (awaited session n f there awaits (ap is_response is) one) (ok_reply entry.reply reply) (ap response_word is ∙ given) chain) (another session n there awaits.phase)

  on_administers : (request : Request) (session : Session) (change : Change) (j : ℕ) → session_of entry.sid s.sessions ≡ Some session → is_other request ≡ true
      → Administers s session request change → entry.request ≡ request → (refused : Bool) → answer_of entry.reply ≡ cond refused (Denied denials.NotKept) change.answer
      → RecordMoves policy s k entry (record_at k s.records) (record_at k (cond refused s (changed j change s)).records)
  on_administers request session change j there other administers is true reply = same _ (no_login _ reply (λ e. absurd (cc)))
  on_administers request session change j there other (nothing _ a) is false reply = same _ (no_response request is (other_no_response request other))
  on_administers request session change j there other (makes n long group none to) is false reply =
      put_move n None (new_user n long group) none refl
      (λ one. subst (λ (name : List ℕ). RecordMoves policy s name entry None (Some (new_user n long group))) (sym one) (made long group session is there to))
      (λ e. no_response (requests.Adduser n long) is refl)
  on_administers request session change j there other (removes n f found power) is false reply =
      delete_move n f found
      (λ one. subst (λ (name : List ℕ). RecordMoves policy s name entry (Some f) None) (sym one)
      (removed f session is (ok_reply entry.reply reply) there (subst (λ r. reachable (power_of s session) r ≡ common.Ok f) found power)))
      (no_response (requests.Deluser n) is refl)
  on_administers request session change j there other (alters _ n f to found power) is false reply =
      put_move n (Some f) (altered request f) found (altered_name request f ∙ found_name n s.records f found)
      (λ one. subst (λ (name : List ℕ). RecordMoves policy s name entry (Some f) (Some (altered request f))) (sym one)
      (subst (λ r. RecordMoves policy s n entry (Some f) (Some (altered r f))) is
      (becomes f session (ap target is ∙ to) (ok_reply entry.reply reply) there
      (subst (λ r. reachable (power_for s session r n) (Some f) ≡ common.Ok f) (sym is) (subst (λ r. reachable (power_for s session request n) r ≡ common.Ok f) found power)))))
      (λ e. no_response request is (other_no_response request other))

  on_happens : (place j : ℕ) (request : Request) (change : Change) → Happens policy s place entry.sid request change → entry.request ≡ request
      → (refused : Bool) → (refused ≡ true → is_record_change change.records s.records ≡ true) → answer_of entry.reply ≡ cond refused (Denied denials.NotKept) change.answer
      → RecordMoves policy s k entry (record_at k s.records) (record_at k (cond refused s (changed j change s)).records)
  on_happens place j request change (opening console) is true edit reply = no_edit edit
  on_happens place j request change (opening console) is false edit reply = same _ (no_response (requests.Open console) is refl)
  on_happens place j request change (absent _ none) is true edit reply = no_edit edit
  on_happens place j request change (absent _ none) is false edit reply = same _ (no_login _ reply (λ e. absurd (cc)))
  on_happens place j request change (asking name session _ there asks) is refused edit reply = on_asks name session change j asks is refused edit
  on_happens place j request change (responding hash word session _ there responds) is refused edit reply = on_responds hash word session change j there responds is refused reply
  on_happens place j request change (administering _ session _ there other administers) is refused edit reply = on_administers request session change j there other administers is refused reply
  on_happens place j request change (closing session there) is true edit reply = no_edit edit
  on_happens place j request change (closing session there) is false edit reply = same _ (no_response requests.Close is refl)

pub record_moves : (policy : PolicyView) (s : State) (place : ℕ) (entry : Entry) → IsStep policy s place entry → (k : List ℕ)
    → RecordMoves policy (at_moment entry.at s) k entry (record_at k s.records) (record_at k (after_entry policy s place entry).records)
record_moves policy s place entry step k =
    on_happens policy (at_moment entry.at s) k entry place (session_at entry.request place entry.sid) entry.request (proposed_at policy s place entry)
    (proposed_happens policy s place entry step) refl (refused_at policy s place entry) (edits policy s place entry step) step.reply

-- the last entry of a legal history
pub last_moves : (origin : Origin) (before : List Entry) (entry : Entry) (k : List ℕ) → IsLegal origin (before ++ entry ∷ [])
    → RecordMoves origin.policy (at_moment entry.at (after origin before)) k entry (record_at k (after origin before).records) (record_at k (after origin (before ++ entry ∷ [])).records)
last_moves origin before entry k legal =
    subst (λ (t : State). RecordMoves origin.policy (at_moment entry.at (after origin before)) k entry (record_at k (after origin before).records) (record_at k t.records))
    (sym (after_joined origin.policy (first_state origin.records) 0 before (entry ∷ [])))
    (record_moves origin.policy (after origin before) (0 + length before) entry (last_step origin before entry legal) k)
