-- One-time passwords that are accepted one after another.
use Rattle.std.specs.Prelude.{◌≡◌, ◌≢◌, ℕ, zero, suc, ◌-◌, ◌≤◌, Bool, true, false, ◌&&◌, List, [], ◌∷◌, length, Option, Some, None, if◌then◌else◌}
use Rattle.std.specs.List.{AllByRecursion}
use Rattle.std.specs.Str.{bytes_eq}
use Rattle.auth_records.specs.Spelling.{Fields, OtpFields}
use Rattle.auth_records.specs.declared.record.Proto.{Proto}
use Rattle.auth_records.specs.declared.record.Proto.TheVariants as protos
use Rattle.auth_events.specs.declared.entry.Entry.{Entry}
use Rattle.auth_events.specs.declared.reply.Reply.TheVariants as replies
use Rattle.auth_events.specs.declared.request.Request.{Request}
use Rattle.auth_events.specs.declared.request.Request.TheVariants as requests
use Rattle.otp_md5.specs.Passwords.{next_of}
use Rattle.auth_machine.specs.History.{after_entry}
use Rattle.auth_machine.specs.Policy.{PolicyView}
use Rattle.auth_machine.specs.State.{State, record_at}
use Rattle.auth_machine.specs.declared.session.Phase.{Phase}
use Rattle.auth_machine.specs.declared.session.Phase.TheVariants.{Waiting}
use Rattle.auth_machine.specs.Logins.{is_ok, is_response, phase_of}

-- ---- one-time passwords

-- the one-time password of a response, if it was one
abbrev pub response_word : Request → Option ℕ
response_word (requests.Response hash word) = word
response_word _ = None

abbrev pub waits_for : List ℕ → Option Phase → Bool
waits_for name (Some (Waiting one)) = bytes_eq one name
waits_for name _ = false

abbrev pub is_by_words : Proto → Bool
is_by_words protos.Otp = true
is_by_words protos.None = false
is_by_words protos.Plain = false

-- the record asks for one-time passwords
abbrev pub asks_words : Option Fields → Bool
asks_words None = false
asks_words (Some f) = is_by_words f.proto

-- the one-time password of this user that an entry accepts, if it does
abbrev pub accepted_in : List ℕ → State → Entry → Option ℕ
accepted_in name s entry =
    if is_ok entry.reply && (waits_for name (phase_of entry.sid s) && asks_words (record_at name s.records)) then response_word entry.request else None

abbrev pub with_first : Option ℕ → List ℕ → List ℕ
with_first None words = words
with_first (Some word) words = word ∷ words

-- the one-time passwords of this user that these entries accept, in their order
abbrev pub accepted : PolicyView → List ℕ → State → ℕ → List Entry → List ℕ
accepted policy name s place [] = []
accepted policy name s place (entry ∷ entries) = with_first (accepted_in name s entry) (accepted policy name (after_entry policy s place entry) (suc place) entries)

-- the entry sets new one-time passwords of this user
abbrev pub is_about : List ℕ → Request → Bool
is_about name (requests.Otp one number word_seed kept) = bytes_eq one name
is_about name _ = false

abbrev pub is_setting : List ℕ → Entry → Bool
is_setting name entry = is_ok entry.reply && is_about name entry.request

abbrev pub SetsNone : List ℕ → List Entry → Type 0
SetsNone name entries = AllByRecursion (λ entry. is_setting name entry ≡ false) entries

-- the one-time passwords that are kept for a user
abbrev pub otp_in_record : Option Fields → Option OtpFields
otp_in_record None = None
otp_in_record (Some f) = f.otp

-- each is the one before the last: the next of the first is the kept one, and the next of each other is the one accepted
-- before it
abbrev pub GoesDown : ℕ → List ℕ → Type 0
GoesDown kept [] = Unit {0}
GoesDown kept (word ∷ words) = (next_of word ≡ kept) × GoesDown word words

-- they go down from the kept one, and there are no more than are left
abbrev pub AreLeft : Option OtpFields → List ℕ → Type 0
AreLeft None words = words ≡ []
AreLeft (Some otp) words = GoesDown otp.kept words × (length words ≤ otp.number)

-- a response to one that was asked for was answered Ok
pub record IsAcceptance (name : List ℕ) (s : State) (entry : Entry) : Type 0 where
  pub waits : phase_of entry.sid s ≡ Some (Waiting name)
  pub by_words : asks_words (record_at name s.records) ≡ true
  pub responds : is_response entry.request ≡ true
  pub reply : entry.reply ≡ replies.Ok

-- it was a one-time password whose next is the kept one; it is kept now, and the number of those left fell by one
pub record Lowers (request : Request) (old new : Option OtpFields) : Type 0 where
  pub word : ℕ
  pub given : response_word request ≡ Some word
  pub otp : OtpFields
  pub old_is : old ≡ Some otp
  pub left : otp.number ≢ 0
  pub chained : next_of word ≡ otp.kept
  pub new_is : new ≡ Some (record { number = otp.number - 1; word_seed = otp.word_seed; kept = word })

-- so many times the next one
abbrev pub later_word : ℕ → ℕ → ℕ
later_word zero word = word
later_word (suc n) word = next_of (later_word n word)
