-- The machine, computed on runs.
use Rattle.std.proofs.Common.{◌≡◌, ℕ, List, ◌++◌, [], ◌∷◌, Bool, true, false, Some, None, refl, sym}
use Rattle.std.specs.Prelude.{codes}
use Rattle.md5.specs.Md5.{md5, digest_bytes, hash_after, compress, rounds, block_words}
use Rattle.otp_md5.specs.Passwords.{next_of, folded}
use Rattle.auth_records.specs.Spelling.{Fields, spelling}
use Rattle.auth_records.specs.declared.record.Proto.TheVariants as protos
use Rattle.auth_records.specs.declared.record.Wiz.TheVariants as wizards
use Rattle.auth_events.specs.declared.denial.Denial.TheVariants.{Wrong, Sleeping, Busy, Exhausted, NoChallenge, NotIn, NotWizard, NoSuch, NotKept}
use Rattle.auth_events.specs.declared.entry.Entry.{Entry}
use Rattle.auth_events.specs.declared.reply.Reply.{Reply}
use Rattle.auth_events.specs.declared.reply.Reply.TheVariants as replies
use Rattle.auth_events.specs.declared.request.Request.{Request}
use Rattle.auth_events.specs.declared.request.Request.TheVariants.{Adduser, Close, Display, Enable, Wiz}
use Rattle.auth_events.specs.declared.request.Request.TheVariants as requests
use Rattle.auth_machine.specs.Answer.Answer.{Opened, Password, Challenged, Ok, Shown, Denied}
use Rattle.auth_machine.specs.Answer.{Answer, profile_of}
use Rattle.auth_machine.specs.History.{IsLegal, unkept}
use Rattle.auth_machine.specs.Login.{authenticate, respond}
use Rattle.auth_machine.specs.Powers.{add_user, list}
use Rattle.auth_machine.specs.Step.{proposed}
use Rattle.auth_machine.proofs.Runs.{Ask, answers, ask, bad_sleep, bare, calls, failing, in_group, last_word, left, mjr, names, no_lines, opens, other, otp1, says, says_word, secret, with_secret}

-- ---- plain passwords

-- five wrong responses: the record sleeps
abbrev wrong_once : ℕ → List Ask
wrong_once at = ask 0 at (names (codes "mjr")) ∷ ask 0 at (says other) ∷ []

abbrev wrong_five_times : List Ask
wrong_five_times = ask 0 100 opens ∷ wrong_once 101 ++ wrong_once 102 ++ wrong_once 103 ++ wrong_once 104 ++ wrong_once 105

abbrev wrong_answers : List Answer
wrong_answers = Password ∷ Denied Wrong ∷ []

lockout : answers (bad_sleep 1200) (mjr ∷ []) (wrong_five_times ++ ask 0 1304 (names (codes "mjr")) ∷ ask 0 1305 (names (codes "mjr"))
    ∷ ask 0 1305 (says secret) ∷ [])
    ≡ Opened 0 ∷ wrong_answers ++ wrong_answers ++ wrong_answers ++ wrong_answers ++ wrong_answers
    ++ Denied (Sleeping 1305) ∷ Password ∷ Ok ∷ []
unfolding proposed authenticate respond md5 digest_bytes hash_after compress rounds block_words spelling
lockout = refl

-- the keeper is called for each response, a wrong one and the right one
lockout_calls : calls (bad_sleep 1200) (mjr ∷ []) (wrong_five_times ++ ask 0 1305 (names (codes "mjr")) ∷ ask 0 1305 (says secret) ∷ [])
    ≡ false ∷ false ∷ true ∷ false ∷ true ∷ false ∷ true ∷ false ∷ true ∷ false ∷ true ∷ false ∷ true ∷ []
unfolding proposed authenticate respond md5 digest_bytes hash_after compress rounds block_words spelling
lockout_calls = refl

-- the moment doesn't go back with the clock
clock_goes_back : answers (bad_sleep 1200) (mjr ∷ []) (wrong_five_times ++ ask 0 5 (names (codes "mjr")) ∷ [])
    ≡ Opened 0 ∷ wrong_answers ++ wrong_answers ++ wrong_answers ++ wrong_answers ++ wrong_answers ++ Denied (Sleeping 1305) ∷ []
unfolding proposed authenticate respond md5 digest_bytes hash_after compress rounds block_words spelling
clock_goes_back = refl

clock_stands : (left (bad_sleep 1200) (mjr ∷ []) (wrong_five_times ++ ask 0 5 (names (codes "mjr")) ∷ [])).moment ≡ 105
unfolding proposed authenticate respond md5 digest_bytes hash_after compress rounds block_words spelling
clock_stands = refl

-- a wrong response that isn't kept counts nothing, and the session goes on waiting; the right one then is kept with its moment
wrong_not_kept : answers no_lines (mjr ∷ []) (ask 0 10 opens ∷ ask 0 10 (names (codes "mjr")) ∷ failing 0 11 (says other) ∷ ask 0 12 (says secret)
    ∷ ask 0 12 Close ∷ [])
    ≡ Opened 0 ∷ Password ∷ Denied NotKept ∷ Ok ∷ Ok ∷ []
unfolding proposed authenticate respond md5 digest_bytes hash_after compress rounds block_words spelling
wrong_not_kept = refl

wrong_not_kept_calls : calls no_lines (mjr ∷ []) (ask 0 10 opens ∷ ask 0 10 (names (codes "mjr")) ∷ failing 0 11 (says other)
    ∷ ask 0 12 (says secret) ∷ ask 0 12 Close ∷ [])
    ≡ false ∷ false ∷ true ∷ true ∷ false ∷ []
unfolding proposed authenticate respond md5 digest_bytes hash_after compress rounds block_words spelling
wrong_not_kept_calls = refl

-- ---- one-time passwords

-- the last password, and then none is left
last_password : answers no_lines (otp1 ∷ []) (ask 0 10 opens ∷ ask 0 10 (names (codes "otp1")) ∷ ask 0 11 (says_word last_word)
    ∷ ask 0 12 (names (codes "otp1")) ∷ [])
    ≡ Opened 0 ∷ Challenged 0 (codes "test") ∷ Ok ∷ Denied Exhausted ∷ []
unfolding proposed authenticate respond next_of folded md5 digest_bytes hash_after compress rounds block_words spelling
last_password = refl

-- this password is kept from now on, with its moment, and the wrong responses are forgotten
last_password_kept : (left no_lines (record otp1 { fails = 3 } ∷ []) (ask 0 10 opens ∷ ask 0 10 (names (codes "otp1")) ∷ ask 0 11 (says_word last_word) ∷ [])).records
    ≡ record otp1 { last = 11; otp = Some (record { number = 0; word_seed = codes "test"; kept = last_word }) } ∷ []
unfolding proposed authenticate respond next_of folded md5 digest_bytes hash_after compress rounds block_words spelling
last_password_kept = refl

-- for 60 seconds nobody else is challenged, and then the other one's challenge is lost
guard : answers no_lines (otp1 ∷ []) (ask 0 100 opens ∷ ask 0 100 opens ∷ ask 0 200 (names (codes "otp1")) ∷ ask 1 230 (names (codes "otp1"))
    ∷ ask 1 260 (names (codes "otp1")) ∷ ask 0 261 (says_word last_word) ∷ [])
    ≡ Opened 0 ∷ Opened 1 ∷ Challenged 0 (codes "test") ∷ Denied (Busy 0 260) ∷ Challenged 0 (codes "test") ∷ Denied NoChallenge ∷ []
unfolding proposed authenticate respond spelling
guard = refl

-- a session that is closed keeps nobody out
guard_ends : answers no_lines (otp1 ∷ []) (ask 0 100 opens ∷ ask 0 100 opens ∷ ask 0 200 (names (codes "otp1"))
    ∷ ask 1 230 (names (codes "otp1")) ∷ ask 0 240 Close ∷ ask 1 241 (names (codes "otp1")) ∷ [])
    ≡ Opened 0 ∷ Opened 1 ∷ Challenged 0 (codes "test") ∷ Denied (Busy 0 260) ∷ Ok ∷ Challenged 0 (codes "test") ∷ []
unfolding proposed authenticate respond spelling
guard_ends = refl

-- a right password that isn't kept logs nobody in, and is right once more
word_not_kept : answers no_lines (otp1 ∷ []) (ask 0 10 opens ∷ ask 0 10 (names (codes "otp1")) ∷ failing 0 11 (says_word last_word)
    ∷ ask 0 12 (says_word last_word) ∷ [])
    ≡ Opened 0 ∷ Challenged 0 (codes "test") ∷ Denied NotKept ∷ Ok ∷ []
unfolding proposed authenticate respond next_of folded md5 digest_bytes hash_after compress rounds block_words spelling
word_not_kept = refl

-- ---- requests about records

abbrev ann : Fields
ann = record (in_group (codes "staff") wizards.Group (with_secret (codes "ann"))) { long = codes "Ann" }

abbrev root : Fields
root = record (bare (codes "root")) { wiz = wizards.Super }

-- whom ann adds
abbrev bob : Fields
bob = record (bare (codes "bob")) { long = codes "Bob"; group = Some (codes "staff") }

abbrev ann_logs_in : List Ask
ann_logs_in = ask 0 10 opens ∷ ask 0 10 (names (codes "ann")) ∷ ask 0 10 (says secret) ∷ []

group_wizard : answers no_lines (ann ∷ root ∷ []) (ann_logs_in
    ++ ask 0 11 (Adduser (codes "bob") (codes "Bob")) ∷ ask 0 11 (Display (codes "bob")) ∷ ask 0 11 (Wiz (codes "bob"))
    ∷ ask 0 11 (Display (codes "root")) ∷ ask 0 11 (Enable (codes "x")) ∷ ask 0 12 (requests.List None)
    ∷ ask 0 12 (requests.List (Some (codes "ann"))) ∷ ask 0 12 (requests.List (Some (codes "bob"))) ∷ [])
    ≡ Opened 0 ∷ Password ∷ Ok ∷ Ok ∷ Shown (profile_of bob) ∷ Denied NotWizard ∷ Denied NotWizard ∷ Denied NoSuch
    ∷ Shown (profile_of (record ann { last = 10 })) ∷ Shown (profile_of bob) ∷ Denied NoSuch ∷ []
unfolding proposed authenticate respond add_user list md5 digest_bytes hash_after compress rounds block_words spelling
group_wizard = refl

-- what is shown of a user who was just added
shown : profile_of bob ≡ record { name = codes "bob"; group = Some (codes "staff"); proto = protos.None; enabled = false; wiz = wizards.None; fails = 0; number = 0; last = 0; expires = 0; long = codes "Bob" }
shown = refl

nobody_in : answers no_lines (bob ∷ []) (ask 0 10 opens ∷ ask 0 10 (Enable (codes "bob")) ∷ []) ≡ Opened 0 ∷ Denied NotIn ∷ []
unfolding proposed
nobody_in = refl

-- ---- histories

abbrev entry : ℕ → ℕ → Request → Bool → Reply → Entry
entry sid at request kept reply = record { sid = sid; at = at; request = request; kept = kept; reply = reply }

-- a response that isn't kept, and then the right one
abbrev history : List Entry
history = entry 0 10 opens true (replies.Opened 0) ∷ entry 0 10 (names (codes "mjr")) true replies.Password
    ∷ entry 0 11 (says other) false (replies.Denied NotKept) ∷ entry 0 12 (says secret) true replies.Ok ∷ []

legal : IsLegal (record { policy = no_lines; records = mjr ∷ [] }) history
unfolding proposed authenticate respond md5 digest_bytes hash_after compress rounds block_words spelling
legal = (
  record { reply = refl; kept = λ _. refl; sid = refl },
  (
    record { reply = refl; kept = λ _. refl; sid = refl },
    (record { reply = refl; kept = λ e. sym e; sid = refl }, (record { reply = refl; kept = λ _. refl; sid = refl }, tt)),
  ),
)

one_unkept : unkept history ≡ 1
one_unkept = refl
