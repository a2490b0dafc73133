-- Logging in, computed on runs that seldom come.
use Rattle.std.proofs.Common.{◌≡◌, ℕ, List, ◌++◌, ◌∷◌, [], ◌^◌, ◌-◌, true, false, refl}
use Rattle.std.specs.Prelude.{codes}
use Rattle.md5.specs.Md5.{md5, digest_bytes, hash_after, compress, rounds, block_words}
use Rattle.otp_md5.specs.Passwords.{next_of, folded}
use Rattle.auth_records.specs.Spelling.{Fields, spelling}
use Rattle.auth_records.specs.declared.record.Proto.TheVariants as protos
use Rattle.auth_events.specs.declared.denial.Denial.TheVariants.{Unknown, Wrong, Disabled, Sleeping, Busy, NoChallenge, Closed, NotKept}
use Rattle.auth_events.specs.declared.request.Request.TheVariants.{Adduser, Close, Deluser, Disable, Enable, Otp, Proto}
use Rattle.auth_machine.specs.Answer.Answer.{Opened, Password, Challenged, Ok, Denied}
use Rattle.auth_machine.specs.Login.{authenticate, respond}
use Rattle.auth_machine.specs.Powers.{add_user}
use Rattle.auth_machine.specs.Step.{proposed}
use Rattle.auth_machine.proofs.Runs.{Ask, answers, ask, bad_sleep, console, failing, last_word, left, mjr, names, no_lines, opens, other, otp1, says, says_word, secret}

-- ---- sessions

-- a session's number is its place, whatever number was handed in; a closed one answers nothing more
closed : answers no_lines (mjr ∷ []) (ask 7 10 opens ∷ ask 7 10 Close ∷ ask 0 10 Close ∷ ask 0 10 Close ∷ ask 0 11 (names (codes "mjr"))
    ∷ ask 9 12 opens ∷ ask 5 12 Close ∷ [])
    ≡ Opened 0 ∷ Denied Closed ∷ Ok ∷ Denied Closed ∷ Denied Closed ∷ Opened 5 ∷ Ok ∷ []
unfolding proposed authenticate
closed = refl

-- also what is refused moves the moment
refused_moves : (left no_lines [] (ask 3 10 Close ∷ ask 3 4 Close ∷ [])).moment ≡ 10
unfolding proposed
refused_moves = refl

-- ---- nobody there

-- who isn't there is asked for a password like anybody, even if added meanwhile, and no response is right
nobody : answers no_lines [] (ask 0 10 console ∷ ask 0 10 (names (codes "ann")) ∷ ask 0 10 (Adduser (codes "ann") []) ∷ ask 0 10 (says other)
    ∷ ask 0 10 (says other) ∷ [])
    ≡ Opened 0 ∷ Password ∷ Ok ∷ Denied Wrong ∷ Denied NoChallenge ∷ []
unfolding proposed authenticate respond add_user spelling
nobody = refl

told_nobody : answers (record no_lines { no_bogus = true }) [] (ask 0 10 opens ∷ ask 0 10 (names (codes "ann")) ∷ ask 0 10 (says other) ∷ [])
    ≡ Opened 0 ∷ Denied Unknown ∷ Denied NoChallenge ∷ []
unfolding proposed authenticate respond
told_nobody = refl

-- ---- who can't log in

-- the password of the record's protocol isn't set, whatever else is; or the record has no protocol
not_set : answers no_lines
    (record otp1 { name = codes "a"; proto = protos.Plain } ∷ record mjr { name = codes "b"; proto = protos.Otp }
    ∷ record mjr { name = codes "c"; proto = protos.None } ∷ [])
    (ask 0 10 opens ∷ ask 0 10 (names (codes "a")) ∷ ask 0 10 (names (codes "b")) ∷ ask 0 10 (names (codes "c")) ∷ [])
    ≡ Opened 0 ∷ Denied Disabled ∷ Denied Disabled ∷ Denied Disabled ∷ []
unfolding proposed authenticate
not_set = refl

-- ---- five wrong responses

abbrev failed_five_times : ℕ → Fields
failed_five_times since = record mjr { fails = 5; since = since }

abbrev logs_in : ℕ → List Ask
logs_in at = ask 0 at opens ∷ ask 0 at (names (codes "mjr")) ∷ []

-- without a line about it nothing but a wizard helps
locked : answers no_lines (failed_five_times 10 ∷ []) (logs_in 999999 ++ ask 0 999999 (says secret) ∷ []) ≡ Opened 0 ∷ Denied Disabled ∷ Denied NoChallenge ∷ []
unfolding proposed authenticate respond
locked = refl

enabled_again : answers no_lines (failed_five_times 10 ∷ []) (ask 0 20 console ∷ ask 0 20 (Enable (codes "mjr"))
    ∷ ask 0 20 (names (codes "mjr")) ∷ ask 0 20 (says secret) ∷ [])
    ≡ Opened 0 ∷ Ok ∷ Password ∷ Ok ∷ []
unfolding proposed authenticate respond md5 digest_bytes hash_after compress rounds block_words spelling
enabled_again = refl

-- the sleep begins where the record says, even in the future
asleep_early : answers (bad_sleep 1200) (failed_five_times 1000 ∷ []) (logs_in 10) ≡ Opened 0 ∷ Denied (Sleeping 2200) ∷ []
unfolding proposed authenticate
asleep_early = refl

-- it ends by the greatest number of 64 bits
asleep_late : answers (bad_sleep 1200) (failed_five_times (2 ^ 64 - 10) ∷ []) (logs_in (2 ^ 64 - 2) ++ ask 0 (2 ^ 64 - 1) (names (codes "mjr")) ∷ [])
    ≡ Opened 0 ∷ Denied (Sleeping (2 ^ 64 - 1)) ∷ Password ∷ []
unfolding proposed authenticate
asleep_late = refl

-- no sleep at all: the count goes on from 1
sleepless : answers (bad_sleep 0) (failed_five_times 1000 ∷ []) (logs_in 10 ++ ask 0 10 (says other) ∷ []) ≡ Opened 0 ∷ Password ∷ Denied Wrong ∷ []
unfolding proposed authenticate respond md5 digest_bytes hash_after compress rounds block_words spelling
sleepless = refl

sleepless_count : (left (bad_sleep 0) (failed_five_times 1000 ∷ []) (logs_in 10 ++ ask 0 10 (says other) ∷ [])).records ≡ record mjr { fails = 1; since = 1000 } ∷ []
unfolding proposed authenticate respond md5 digest_bytes hash_after compress rounds block_words spelling
sleepless_count = refl

-- the record falls asleep while a second session waits: its response isn't looked at, nor counted
asleep_meanwhile : answers (bad_sleep 60) (record mjr { fails = 4 } ∷ [])
    (ask 0 10 opens ∷ ask 0 10 opens ∷ ask 0 10 (names (codes "mjr")) ∷ ask 1 10 (names (codes "mjr")) ∷ ask 0 11 (says other)
    ∷ ask 1 12 (says secret) ∷ ask 1 71 (says secret) ∷ [])
    ≡ Opened 0 ∷ Opened 1 ∷ Password ∷ Password ∷ Denied Wrong ∷ Denied (Sleeping 71) ∷ Denied NoChallenge ∷ []
unfolding proposed authenticate respond md5 digest_bytes hash_after compress rounds block_words spelling
asleep_meanwhile = refl

-- ---- challenges

-- a session that asks again has its time anew; for another user it lets its challenge go
asked_again : answers no_lines (mjr ∷ otp1 ∷ [])
    (ask 0 10 opens ∷ ask 0 10 opens ∷ ask 0 10 (names (codes "otp1")) ∷ ask 0 50 (names (codes "otp1")) ∷ ask 1 70 (names (codes "otp1"))
    ∷ ask 0 71 (names (codes "mjr")) ∷ ask 1 71 (names (codes "otp1")) ∷ ask 0 72 (names (codes "nobody")) ∷ ask 1 73 (says_word last_word) ∷ [])
    ≡ Opened 0 ∷ Opened 1 ∷ Challenged 0 (codes "test") ∷ Challenged 0 (codes "test") ∷ Denied (Busy 0 110)
    ∷ Password ∷ Challenged 0 (codes "test") ∷ Password ∷ Ok ∷ []
unfolding proposed authenticate respond next_of folded md5 digest_bytes hash_after compress rounds block_words spelling
asked_again = refl

-- a refusal lets the session's own challenge go as well
let_go : (left no_lines (record mjr { enabled = false } ∷ otp1 ∷ []) (ask 0 10 opens ∷ ask 0 10 (names (codes "otp1"))
    ∷ ask 0 11 (names (codes "mjr")) ∷ [])).challenges ≡ []
unfolding proposed authenticate
let_go = refl

let_go_for_nobody : (left no_lines (otp1 ∷ []) (ask 0 10 opens ∷ ask 0 10 (names (codes "otp1")) ∷ ask 0 11 (names (codes "nobody")) ∷ [])).challenges ≡ []
unfolding proposed authenticate
let_go_for_nobody = refl

-- a session has one challenge: another one takes its place, and one that is refused leaves none
abbrev otp2 : Fields
otp2 = record otp1 { name = codes "otp2" }

one_challenge : answers no_lines (otp1 ∷ otp2 ∷ [])
    (ask 0 10 opens ∷ ask 0 10 opens ∷ ask 0 10 (names (codes "otp1")) ∷ ask 0 11 (names (codes "otp2")) ∷ ask 1 12 (names (codes "otp1"))
    ∷ ask 1 13 (names (codes "otp2")) ∷ ask 0 14 (names (codes "otp1")) ∷ [])
    ≡ Opened 0 ∷ Opened 1 ∷ Challenged 0 (codes "test") ∷ Challenged 0 (codes "test") ∷ Challenged 0 (codes "test")
    ∷ Denied (Busy 0 71) ∷ Challenged 0 (codes "test") ∷ []
unfolding proposed authenticate
one_challenge = refl

-- a wrong response ends the guard, and one that isn't kept doesn't
guard_after_wrong : answers no_lines (otp1 ∷ [])
    (ask 0 10 opens ∷ ask 0 10 opens ∷ ask 0 10 (names (codes "otp1")) ∷ failing 0 11 (says other) ∷ ask 1 12 (names (codes "otp1"))
    ∷ ask 0 13 (says other) ∷ ask 1 14 (names (codes "otp1")) ∷ [])
    ≡ Opened 0 ∷ Opened 1 ∷ Challenged 0 (codes "test") ∷ Denied NotKept ∷ Denied (Busy 0 70) ∷ Denied Wrong ∷ Challenged 0 (codes "test") ∷ []
unfolding proposed authenticate respond spelling
guard_after_wrong = refl

-- no guard at the end of all moments
guard_late : answers no_lines (otp1 ∷ []) (ask 0 10 opens ∷ ask 0 10 opens ∷ ask 0 (2 ^ 64 - 1) (names (codes "otp1")) ∷ ask 1 3 (names (codes "otp1")) ∷ [])
    ≡ Opened 0 ∷ Opened 1 ∷ Challenged 0 (codes "test") ∷ Challenged 0 (codes "test") ∷ []
unfolding proposed authenticate
guard_late = refl

-- ---- changes while a session waits

abbrev both_users : List Fields
both_users = mjr ∷ otp1 ∷ []

-- a console, and a session that waits for a response of the user
abbrev waits : List ℕ → List Ask
waits name = ask 0 10 console ∷ ask 1 10 opens ∷ ask 1 10 (names name) ∷ []

-- the user is gone
gone : answers no_lines both_users (waits (codes "otp1") ++ ask 0 11 (Deluser (codes "otp1")) ∷ ask 1 12 (says_word last_word)
    ∷ ask 1 13 (says_word last_word) ∷ [])
    ≡ Opened 0 ∷ Opened 1 ∷ Challenged 0 (codes "test") ∷ Ok ∷ Denied Wrong ∷ Denied NoChallenge ∷ []
unfolding proposed authenticate respond spelling
gone = refl

-- the user went and came back: the challenge is lost, and another session has one at once
came_back : answers no_lines both_users (waits (codes "otp1")
    ++ ask 0 11 (Deluser (codes "otp1")) ∷ ask 0 11 (Adduser (codes "otp1") []) ∷ ask 0 11 (Proto (codes "otp1") protos.Otp)
    ∷ ask 0 11 (Otp (codes "otp1") 1 (codes "test") 0x7965E05436F5029F) ∷ ask 0 11 (Enable (codes "otp1"))
    ∷ ask 1 12 (says_word last_word) ∷ ask 0 12 (names (codes "otp1")) ∷ [])
    ≡ Opened 0 ∷ Opened 1 ∷ Challenged 0 (codes "test") ∷ Ok ∷ Ok ∷ Ok ∷ Ok ∷ Ok ∷ Denied NoChallenge ∷ Challenged 0 (codes "test") ∷ []
unfolding proposed authenticate respond add_user spelling
came_back = refl

-- the response is compared by the protocol that stands when it comes
to_plain : answers no_lines (record otp1 { plain = mjr.plain } ∷ []) (waits (codes "otp1") ++ ask 0 11 (Proto (codes "otp1") protos.Plain)
    ∷ ask 1 12 (says secret) ∷ [])
    ≡ Opened 0 ∷ Opened 1 ∷ Challenged 0 (codes "test") ∷ Ok ∷ Ok ∷ []
unfolding proposed authenticate respond md5 digest_bytes hash_after compress rounds block_words spelling
to_plain = refl

to_plain_challenge : (left no_lines (record otp1 { plain = mjr.plain } ∷ []) (waits (codes "otp1")
    ++ ask 0 11 (Proto (codes "otp1") protos.Plain) ∷ ask 1 12 (says secret) ∷ [])).challenges ≡ []
unfolding proposed authenticate respond md5 digest_bytes hash_after compress rounds block_words spelling
to_plain_challenge = refl

to_otp : answers no_lines (record mjr { otp = otp1.otp } ∷ []) (waits (codes "mjr") ++ ask 0 11 (Proto (codes "mjr") protos.Otp)
    ∷ ask 1 12 (says_word last_word) ∷ ask 0 13 (Proto (codes "mjr") protos.Plain) ∷ ask 1 13 (says secret) ∷ [])
    ≡ Opened 0 ∷ Opened 1 ∷ Password ∷ Ok ∷ Denied NoChallenge ∷ Ok ∷ Denied NoChallenge ∷ []
unfolding proposed authenticate respond spelling
to_otp = refl

-- a user who is disabled meanwhile loses the challenge
disabled : answers no_lines both_users (waits (codes "otp1") ++ ask 0 11 (Disable (codes "otp1")) ∷ ask 1 12 (says_word last_word)
    ∷ ask 0 13 (Enable (codes "otp1")) ∷ ask 0 13 (names (codes "otp1")) ∷ [])
    ≡ Opened 0 ∷ Opened 1 ∷ Challenged 0 (codes "test") ∷ Ok ∷ Denied Disabled ∷ Ok ∷ Challenged 0 (codes "test") ∷ []
unfolding proposed authenticate respond spelling
disabled = refl
