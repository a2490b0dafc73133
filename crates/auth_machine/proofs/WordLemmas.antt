-- Accepted one-time passwords go down the chain.
use Rattle.std.proofs.Common.{◌≡◌, ◌≢◌, ℕ, suc, ◌+◌, ◌-◌, ◌≤◌, Bool, true, false, cond, ◌&&◌, List, [], ◌∷◌, ◌++◌, length, Option, Some, None, nat_eq, refl, sym, ap, subst, ◌∙◌, arith}
use Rattle.std.proofs.lemmas.Bool.{eqb-false}
use Rattle.std.proofs.lemmas.Slice.Eq.{bytes_eq-Decides}
use Rattle.auth_records.specs.Spelling.{Fields, OtpFields}
use Rattle.auth_records.specs.declared.record.Proto.TheVariants as protos
use Rattle.auth_events.specs.declared.entry.Entry.{Entry}
use Rattle.auth_events.specs.declared.reply.Reply.{Reply}
use Rattle.auth_events.specs.declared.reply.Reply.TheVariants as replies
use Rattle.auth_events.specs.declared.request.Request.{Request}
use Rattle.auth_events.specs.declared.request.Request.TheVariants as requests
use Rattle.otp_md5.specs.Passwords.{next_of}
use Rattle.auth_machine.specs.History.{AreSteps, IsLegal, Origin, after, after_entry}
use Rattle.auth_machine.specs.Logins.{is_ok, is_response, phase_of}
use Rattle.auth_machine.specs.Chains.{AreLeft, GoesDown, SetsNone, accepted, asks_words, is_about, is_by_words, is_setting, later_word, waits_for, with_first, response_word, otp_in_record}
use Rattle.auth_machine.specs.Login.{lowered}
use Rattle.auth_machine.specs.Policy.{PolicyView}
use Rattle.auth_machine.specs.State.{State, at_moment, record_at, first_state}
use Rattle.auth_machine.specs.declared.session.Phase.{Phase}
use Rattle.auth_machine.specs.declared.session.Phase.TheVariants.{Bogus, Idle, In, Waiting}
use Rattle.auth_machine.proofs.ActLemmas.{altered, target}
use Rattle.auth_machine.proofs.EntriesLemmas.{parts_behind}
use Rattle.auth_machine.proofs.OrderLemmas.{itself}
use Rattle.auth_machine.proofs.RecordLemmas.{LogsInAs, RecordMoves, record_moves}
use Rattle.auth_machine.proofs.RecordLemmas.RecordMoves.{becomes, enters, fails, made, removed, same, uses}

-- ---- which entries accept

ok_is : (reply : Reply) → is_ok reply ≡ true → reply ≡ replies.Ok
ok_is replies.Ok h = refl
ok_is _ h = absurd (cc)

waiting_is : (name : List ℕ) (p : Option Phase) → waits_for name p ≡ true → p ≡ Some (Waiting name)
waiting_is name (Some (Waiting one)) h = ap (λ (n : List ℕ). Some (Waiting n)) ((bytes_eq-Decides one name).0 h)
waiting_is name (Some Idle) h = absurd (cc)
waiting_is name (Some Bogus) h = absurd (cc)
waiting_is name (Some (In one)) h = absurd (cc)
waiting_is name None h = absurd (cc)

word_responds : (request : Request) (w : ℕ) → response_word request ≡ Some w → is_response request ≡ true
word_responds (requests.Response hash word) w h = refl
word_responds _ w h = absurd (cc)

none_unless : (a b c : Bool) (word : Option ℕ) → ((w : ℕ) → a ≡ true → b ≡ true → word ≡ Some w → ⊥) → cond (a && (b && c)) word None ≡ None
none_unless false b c word h = refl
none_unless true false c word h = refl
none_unless true true false word h = refl
none_unless true true true None h = refl
none_unless true true true (Some w) h = absurd (h w refl refl refl)

pub target_no_response : (request : Request) (k : List ℕ) → target request ≡ Some k → is_response request ≡ false
target_no_response (requests.Response hash word) k h = absurd (cc)
target_no_response _ k h = refl

pub altered_words : (request : Request) (k : List ℕ) (f : Fields) → target request ≡ Some k → is_about k request ≡ false → (altered request f).otp ≡ f.otp
altered_words (requests.Otp name number word_seed kept) k f to none =
    let one : name ≡ k = cc in
    let e = (bytes_eq-Decides name k).1 one in
    absurd (cc)
altered_words (requests.Enable name) k f to none = refl
altered_words (requests.Disable name) k f to none = refl
altered_words (requests.Group name group) k f to none = refl
altered_words (requests.Proto name proto) k f to none = refl
altered_words (requests.Password name salt hash) k f to none = refl
altered_words (requests.Wiz name) k f to none = refl
altered_words (requests.Unwiz name) k f to none = refl
altered_words (requests.Superwiz name) k f to none = refl
altered_words (requests.Expire name until) k f to none = refl
altered_words _ k f to none = refl

nothing_left : (otp : Option OtpFields) → AreLeft otp []
nothing_left None = refl
nothing_left (Some otp) = (tt, omega arith)

one_less : (otp : OtpFields) (w : ℕ) (words : List ℕ) → nat_eq otp.number 0 ≡ false → next_of w ≡ otp.kept → AreLeft (Some (lowered otp w)) words → AreLeft (Some otp) (w ∷ words)
one_less otp w words left chain h =
    let some : otp.number ≢ 0 = eqb-false otp.number 0 left in
    let below : length words ≤ otp.number - 1 = h.1 in
    let most : suc (length words) ≤ otp.number = omega arith in
    ((chain, h.0), most)

module _ (s : State) (k : List ℕ) (entry : Entry) where
  abbrev pub accepted_of : Option Fields → Option ℕ
  accepted_of found = cond (is_ok entry.reply && (waits_for k (phase_of entry.sid s) && asks_words found)) (response_word entry.request) None

  pub not_accepted : (found : Option Fields) → (LogsInAs s k entry → ⊥) → accepted_of found ≡ None
  not_accepted found out =
      none_unless (is_ok entry.reply) (waits_for k (phase_of entry.sid s)) (asks_words found) (response_word entry.request)
      (λ w ok waits word. out (waiting_is k (phase_of entry.sid s) waits, word_responds entry.request w word, ok_is entry.reply ok))

  pub not_by_words : (f : Fields) → f.proto ≡ protos.Plain → accepted_of (Some f) ≡ None
  not_by_words f proto =
      ap (λ p. cond (is_ok entry.reply && (waits_for k (phase_of entry.sid s) && is_by_words p)) (response_word entry.request) None) proto
      ∙ choose (is_ok entry.reply) (waits_for k (phase_of entry.sid s)) (response_word entry.request)
    where
      choose : (a b : Bool) (word : Option ℕ) → cond (a && (b && false)) word None ≡ None
      choose false b word = refl
      choose true false word = refl
      choose true true word = refl

  pub is_accepted : (f : Fields) (w : ℕ) → entry.reply ≡ replies.Ok → phase_of entry.sid s ≡ Some (Waiting k) → f.proto ≡ protos.Otp → response_word entry.request ≡ Some w → accepted_of (Some f) ≡ Some w
  is_accepted f w reply phase proto word =
      let a : is_ok entry.reply ≡ true = ap is_ok reply in
      let b : waits_for k (phase_of entry.sid s) ≡ true = ap (waits_for k) phase ∙ itself k in
      let c : is_by_words f.proto ≡ true = ap is_by_words proto in
      choose (is_ok entry.reply) (waits_for k (phase_of entry.sid s)) (is_by_words f.proto) a b c ∙ word
    where
      choose : (a b c : Bool) → a ≡ true → b ≡ true → c ≡ true → cond (a && (b && c)) (response_word entry.request) None ≡ response_word entry.request
      choose true true true ea eb ec = refl
      choose true true false ea eb ec = absurd (cc)
      choose true false c ea eb ec = absurd (cc)
      choose false b c ea eb ec = absurd (cc)

  none_first : (found : Option Fields) (otp : Option OtpFields) (words : List ℕ) → accepted_of found ≡ None → AreLeft otp words → AreLeft otp (with_first (accepted_of found) words)
  none_first found otp words none left = subst (λ w. AreLeft otp (with_first w words)) (sym none) left

  pub unanswered : (request : Request) → entry.request ≡ request → is_response request ≡ false → LogsInAs s k entry → ⊥
  unanswered request is none login =
      let e : is_response entry.request ≡ false = ap is_response is ∙ none in
      let f = login.1 in
      cc

  left_before : (policy : PolicyView) (old new : Option Fields) (words : List ℕ) → RecordMoves policy (at_moment entry.at s) k entry old new → is_setting k entry ≡ false
      → AreLeft (otp_in_record new) words → AreLeft (otp_in_record old) (with_first (accepted_of old) words)
  left_before policy old new words (same _ out) none left = none_first old (otp_in_record old) words (not_accepted old out) left
  left_before policy old new words (made long group session is there to) none left =
      none_first None None words (not_accepted None (unanswered (requests.Adduser k long) is refl)) left
  left_before policy old new words (removed f session is reply there power) none left =
      let gone : words ≡ [] = left in
      subst (λ ws. AreLeft f.otp (with_first (accepted_of (Some f)) ws)) (sym gone)
      (none_first (Some f) f.otp [] (not_accepted (Some f) (unanswered (requests.Deluser k) is refl)) (nothing_left f.otp))
  left_before policy old new words (becomes f session to reply there power) none left =
      let about : is_about k entry.request ≡ false = ap (λ r. is_ok r && is_about k entry.request) (sym reply) ∙ none in
      none_first (Some f) f.otp words (not_accepted (Some f) (unanswered entry.request refl (target_no_response entry.request k to)))
      (subst (λ otp. AreLeft otp words) (altered_words entry.request k f to about) left)
  left_before policy old new words (fails f awaited out) none left = none_first (Some f) f.otp words (not_accepted (Some f) out) left
  left_before policy old new words (enters f awaited reply proto) none left = none_first (Some f) f.otp words (not_by_words f proto) left
  left_before policy old new words (uses f otp w awaited reply word chain) none left =
      subst (λ o. AreLeft o (with_first (accepted_of (Some f)) words)) (sym chain.otp_is)
      (subst (λ a. AreLeft (Some otp) (with_first a words)) (sym (is_accepted f w reply awaited.phase chain.proto word))
      (one_less otp w words chain.left chain.chained left))

left_after : (policy : PolicyView) (k : List ℕ) (entries : List Entry) (place : ℕ) (s : State) → AreSteps policy s place entries → SetsNone k entries
    → AreLeft (otp_in_record (record_at k s.records)) (accepted policy k s place entries)
left_after policy k [] place s steps none = nothing_left (otp_in_record (record_at k s.records))
left_after policy k (entry ∷ entries) place s steps none =
    left_before s k entry policy (record_at k s.records) (record_at k (after_entry policy s place entry).records) (accepted policy k (after_entry policy s place entry) (suc place) entries)
    (record_moves policy s place entry steps.0 k) none.0 (left_after policy k entries (suc place) (after_entry policy s place entry) steps.1 none.1)

pub words_go_down : (origin : Origin) (before during : List Entry) (name : List ℕ) → IsLegal origin (before ++ during) → SetsNone name during
    → AreLeft (otp_in_record (record_at name (after origin before).records)) (accepted origin.policy name (after origin before) (length before) during)
words_go_down origin before during name legal none =
    let zero_first : 0 + length before ≡ length before = omega arith in
    let steps = subst (λ (n : ℕ). AreSteps origin.policy (after origin before) n during) zero_first (parts_behind origin.policy (first_state origin.records) 0 before during legal) in
    left_after origin.policy name during (length before) (after origin before) steps none

-- ---- once

leads_back : (kept : ℕ) (words : List ℕ) (w : ℕ) (rest : List ℕ) → GoesDown kept (words ++ (w ∷ rest)) → later_word (suc (length words)) w ≡ kept
leads_back kept [] w rest down = down.0
leads_back kept (v ∷ words) w rest down = ap next_of (leads_back v words w rest down.1) ∙ down.0

down_from : (kept : ℕ) (first : List ℕ) (w : ℕ) (more : List ℕ) → GoesDown kept (first ++ (w ∷ more)) → GoesDown w more
down_from kept [] w more down = down.1
down_from kept (v ∷ first) w more down = down_from v first w more down.1

left_once : (otp : Option OtpFields) (first between rest : List ℕ) (w : ℕ) → AreLeft otp (first ++ (w ∷ (between ++ (w ∷ rest)))) → later_word (suc (length between)) w ≡ w
left_once None [] between rest w left = absurd (cc)
left_once None (v ∷ first) between rest w left = absurd (cc)
left_once (Some otp) first between rest w left = leads_back w between w rest (down_from otp.kept first w (between ++ (w ∷ rest)) left.0)

pub words_once : (origin : Origin) (before during : List Entry) (name : List ℕ) → IsLegal origin (before ++ during) → SetsNone name during
    → (first between rest : List ℕ) (word : ℕ) → accepted origin.policy name (after origin before) (length before) during ≡ first ++ (word ∷ (between ++ (word ∷ rest)))
    → later_word (suc (length between)) word ≡ word
words_once origin before during name legal none first between rest word is =
    left_once (otp_in_record (record_at name (after origin before).records)) first between rest word
    (subst (AreLeft (otp_in_record (record_at name (after origin before).records))) is (words_go_down origin before during name legal none))
