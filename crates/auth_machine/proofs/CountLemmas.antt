-- Each acceptance of a one-time password lowers their number by one.
use Rattle.std.proofs.Common.{◌≡◌, ◌≢◌, ℕ, suc, ◌+◌, ◌-◌, true, false, ◌&&◌, List, [], ◌∷◌, ◌++◌, length, Option, Some, None, refl, sym, ap, subst, ◌∙◌, arith}
use Rattle.std.proofs.lemmas.Bool.{eqb-false}
use Rattle.auth_records.specs.Spelling.{Fields, OtpFields}
use Rattle.auth_events.specs.declared.entry.Entry.{Entry}
use Rattle.auth_events.specs.declared.request.Request.{Request}
use Rattle.auth_events.specs.declared.request.Request.TheVariants as requests
use Rattle.auth_machine.specs.History.{AreSteps, IsLegal, Origin, after, after_entries, after_entry}
use Rattle.auth_machine.specs.Logins.{is_ok, is_response}
use Rattle.auth_machine.specs.Chains.{IsAcceptance, Lowers, SetsNone, accepted, accepted_in, asks_words, is_about, is_by_words, is_setting, with_first, otp_in_record}
use Rattle.auth_machine.specs.Login.{lowered}
use Rattle.auth_machine.specs.Policy.{PolicyView}
use Rattle.auth_machine.specs.State.{State, at_moment, record_at, first_state}
use Rattle.auth_machine.proofs.EntriesLemmas.{after_joined, parts_behind}
use Rattle.auth_machine.proofs.RecordLemmas.{LogsInAs, RecordMoves, last_moves, record_moves}
use Rattle.auth_machine.proofs.RecordLemmas.RecordMoves.{becomes, enters, fails, made, removed, same, uses}
use Rattle.auth_machine.proofs.WordLemmas.{accepted_of, altered_words, is_accepted, not_accepted, not_by_words, target_no_response, unanswered}

-- ---- how many

-- so many more were left
record IsMoreBy (count : ℕ) (old : Option OtpFields) (new : OtpFields) : Type 0 where
  otp : OtpFields
  is : old ≡ Some otp
  sum : new.number + count ≡ otp.number

-- how many words come first
abbrev first_count : Option ℕ → ℕ
first_count None = 0
first_count (Some word) = 1

first_length : (found : Option ℕ) (words : List ℕ) → length (with_first found words) ≡ first_count found + length words
first_length None words = omega arith
first_length (Some word) words = omega arith

module _ (s : State) (k : List ℕ) (entry : Entry) where
  as_many : (found : Option Fields) (old : Option OtpFields) (new : OtpFields) → accepted_of s k entry found ≡ None → old ≡ Some new → IsMoreBy (first_count (accepted_of s k entry found)) old new
  as_many found old new none is =
      let e : first_count (accepted_of s k entry found) ≡ 0 = ap first_count none in
      record { otp = new; is = is; sum = omega arith }

  more_before : (policy : PolicyView) (old new : Option Fields) (n : OtpFields) → RecordMoves policy (at_moment entry.at s) k entry old new → is_setting k entry ≡ false → otp_in_record new ≡ Some n
      → IsMoreBy (first_count (accepted_of s k entry old)) (otp_in_record old) n
  more_before policy old new n (same _ out) none is = as_many old (otp_in_record old) n (not_accepted s k entry old out) is
  more_before policy old new n (made long group session request there to) none is = absurd (cc)
  more_before policy old new n (removed f session request reply there power) none is = absurd (cc)
  more_before policy old new n (becomes f session to reply there power) none is =
      let about : is_about k entry.request ≡ false = ap (λ r. is_ok r && is_about k entry.request) (sym reply) ∙ none in
      as_many (Some f) f.otp n (not_accepted s k entry (Some f) (unanswered s k entry entry.request refl (target_no_response entry.request k to))) (sym (altered_words entry.request k f to about) ∙ is)
  more_before policy old new n (fails f awaited out) none is = as_many (Some f) f.otp n (not_accepted s k entry (Some f) out) is
  more_before policy old new n (enters f awaited reply proto) none is = as_many (Some f) f.otp n (not_by_words s k entry f proto) is
  more_before policy old new n (uses f otp w awaited reply word chain) none is =
      let e : first_count (accepted_of s k entry (Some f)) ≡ 1 = ap first_count (is_accepted s k entry f w reply awaited.phase chain.proto word) in
      let some : otp.number ≢ 0 = eqb-false otp.number 0 chain.left in
      let same_words : lowered otp w ≡ n = cc in
      let less : otp.number - 1 ≡ n.number = ap (λ (o : OtpFields). o.number) same_words in
      record { otp = otp; is = chain.otp_is; sum = omega arith }

more_after : (policy : PolicyView) (k : List ℕ) (entries : List Entry) (place : ℕ) (s : State) (n : OtpFields) → AreSteps policy s place entries → SetsNone k entries
    → otp_in_record (record_at k (after_entries policy s place entries).records) ≡ Some n → IsMoreBy (length (accepted policy k s place entries)) (otp_in_record (record_at k s.records)) n
more_after policy k [] place s n steps none is = record { otp = n; is = is; sum = omega arith }
more_after policy k (entry ∷ entries) place s n steps none is =
    let rest = more_after policy k entries (suc place) (after_entry policy s place entry) n steps.1 none.1 is in
    let first = more_before s k entry policy (record_at k s.records) (record_at k (after_entry policy s place entry).records) rest.otp (record_moves policy s place entry steps.0 k) none.0 rest.is in
    let total = first_length (accepted_in k s entry) (accepted policy k (after_entry policy s place entry) (suc place) entries) in
    let a : n.number + length (accepted policy k (after_entry policy s place entry) (suc place) entries) ≡ rest.otp.number = rest.sum in
    let b : rest.otp.number + first_count (accepted_in k s entry) ≡ first.otp.number = first.sum in
    record { otp = first.otp; is = first.is; sum = omega arith }

pub words_counted : (origin : Origin) (before during : List Entry) (name : List ℕ) (old new : OtpFields) → IsLegal origin (before ++ during) → SetsNone name during
    → otp_in_record (record_at name (after origin before).records) ≡ Some old → otp_in_record (record_at name (after origin (before ++ during)).records) ≡ Some new
    → new.number + length (accepted origin.policy name (after origin before) (length before) during) ≡ old.number
words_counted origin before during name old new legal none was is =
    let zero_first : 0 + length before ≡ length before = omega arith in
    let steps = subst (λ (n : ℕ). AreSteps origin.policy (after origin before) n during) zero_first (parts_behind origin.policy (first_state origin.records) 0 before during legal) in
    let joined : after origin (before ++ during) ≡ after_entries origin.policy (after origin before) (length before) during =
    after_joined origin.policy (first_state origin.records) 0 before during ∙ ap (λ (n : ℕ). after_entries origin.policy (after origin before) n during) zero_first in
    let more = more_after origin.policy name during (length before) (after origin before) new steps none (sym (ap (λ (s : State). otp_in_record (record_at name s.records)) joined) ∙ is) in
    let e : old ≡ more.otp = some_same (sym was ∙ more.is) in
    more.sum ∙ sym (ap (λ (o : OtpFields). o.number) e)
  where
    some_same : {a b : OtpFields} → Some a ≡ Some b → a ≡ b
    some_same h = cc

-- ---- each acceptance

module _ (policy : PolicyView) (s : State) (k : List ℕ) (entry : Entry) (login : LogsInAs s k entry) where
  no_request : {A : Type 0} → (request : Request) → entry.request ≡ request → is_response request ≡ false → A
  no_request request is none =
      let e : is_response entry.request ≡ false = ap is_response is ∙ none in
      let f = login.1 in
      absurd (cc)

  lowers : (old new : Option Fields) → RecordMoves policy s k entry old new → asks_words old ≡ true → Lowers entry.request (otp_in_record old) (otp_in_record new)
  lowers old new (same _ out) asks = absurd (out login)
  lowers old new (made long group session is there to) asks = no_request (requests.Adduser k long) is refl
  lowers old new (removed f session is reply there power) asks = no_request (requests.Deluser k) is refl
  lowers old new (becomes f session to reply there power) asks = no_request entry.request refl (target_no_response entry.request k to)
  lowers old new (fails f awaited out) asks = absurd (out login)
  lowers old new (enters f awaited reply proto) asks =
      let e : is_by_words f.proto ≡ false = ap is_by_words proto in
      absurd (cc)
  lowers old new (uses f otp w awaited reply word chain) asks =
      record { word = w; given = word; otp = otp; old_is = chain.otp_is; left = eqb-false otp.number 0 chain.left; chained = chain.chained; new_is = refl }

pub word_lowers : (origin : Origin) (before : List Entry) (entry : Entry) (name : List ℕ) → IsLegal origin (before ++ entry ∷ []) → IsAcceptance name (after origin before) entry
    → Lowers entry.request (otp_in_record (record_at name (after origin before).records)) (otp_in_record (record_at name (after origin (before ++ entry ∷ [])).records))
word_lowers origin before entry name legal acceptance =
    lowers origin.policy (at_moment entry.at (after origin before)) name entry (acceptance.waits, acceptance.responds, acceptance.reply) _ _
    (last_moves origin before entry name legal) acceptance.by_words
