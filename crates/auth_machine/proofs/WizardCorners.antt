-- Requests about records, computed on runs that seldom come.
use Rattle.std.proofs.Common.{◌≡◌, List, ◌++◌, ◌∷◌, [], true, false, Some, None, refl}
use Rattle.std.specs.Prelude.{codes}
use Rattle.md5.specs.Md5.{md5, digest_bytes, hash_after, compress, rounds, block_words}
use Rattle.auth_records.specs.Spelling.{Fields, spelling}
use Rattle.auth_records.specs.declared.record.Proto.TheVariants as protos
use Rattle.auth_records.specs.declared.record.Wiz.TheVariants as wizards
use Rattle.auth_events.specs.declared.denial.Denial.TheVariants.{NoChallenge, NotIn, NotWizard, Exists, NoSuch, NotKept}
use Rattle.auth_events.specs.declared.request.OpService.TheVariants.{Telnet}
use Rattle.auth_events.specs.declared.request.Request.TheVariants.{Adduser, Deluser, Disable, Display, Enable, Expire, Group, Operation, Proto, Superwiz, Unwiz}
use Rattle.auth_events.specs.declared.request.Request.TheVariants as requests
use Rattle.fw_types.specs.declared.host.Host.TheVariants.{Addr}
use Rattle.auth_machine.specs.Answer.Answer.{Opened, Password, Ok, Shown, Denied}
use Rattle.auth_machine.specs.Answer.{Answer, profile_of}
use Rattle.auth_machine.specs.Login.{authenticate, respond}
use Rattle.auth_machine.specs.Powers.{add_user, list, asks_operation}
use Rattle.auth_machine.specs.Step.{proposed}
use Rattle.auth_machine.proofs.Runs.{Ask, answers, ask, bare, calls, console, failing, in_group, left, mjr, names, no_lines, opens, other, otp1, salt, says, secret, with_secret}

-- ---- power

abbrev mjr_logs_in : List Ask
mjr_logs_in = ask 0 10 opens ∷ ask 0 10 (names (codes "mjr")) ∷ ask 0 10 (says secret) ∷ []

abbrev mjr_in : List Answer
mjr_in = Opened 0 ∷ Password ∷ Ok ∷ []

-- users may see and change their own passwords, and nothing else
own_record : answers no_lines (mjr ∷ otp1 ∷ []) (mjr_logs_in
    ++ ask 0 11 (Display (codes "mjr")) ∷ ask 0 11 (requests.Password (codes "mjr") salt other) ∷ ask 0 11 (Enable (codes "mjr"))
    ∷ ask 0 11 (requests.Wiz (codes "mjr")) ∷ ask 0 11 (Display (codes "otp1")) ∷ ask 0 11 (Display (codes "nobody")) ∷ ask 0 11 (requests.List None) ∷ [])
    ≡ mjr_in ++ Shown (profile_of (record mjr { last = 10 })) ∷ Ok ∷ Denied NotWizard ∷ Denied NotWizard ∷ Denied NotWizard ∷ Denied NotWizard ∷ Denied NotWizard ∷ []
unfolding proposed authenticate respond list md5 digest_bytes hash_after compress rounds block_words spelling
own_record = refl

-- one more response is refused, and the user stays logged in; asking again logs the user out
still_in : answers no_lines (mjr ∷ []) (mjr_logs_in
    ++ ask 0 11 (says secret) ∷ ask 0 11 (Display (codes "mjr")) ∷ ask 0 12 (names (codes "mjr")) ∷ ask 0 12 (Display (codes "mjr")) ∷ [])
    ≡ mjr_in ++ Denied NoChallenge ∷ Shown (profile_of (record mjr { last = 10 })) ∷ Password ∷ Denied NotIn ∷ []
unfolding proposed authenticate respond md5 digest_bytes hash_after compress rounds block_words spelling
still_in = refl

-- who is deleted isn't logged in; at the console that doesn't matter
own_record_gone : answers no_lines (mjr ∷ []) (mjr_logs_in
    ++ ask 9 11 console ∷ ask 3 11 (Deluser (codes "mjr")) ∷ ask 0 11 (Display (codes "mjr"))
    ∷ ask 0 11 (Operation Telnet (Addr (10 ∷ 0 ∷ 0 ∷ 1 ∷ []))) ∷ ask 3 11 (Display (codes "mjr")) ∷ [])
    ≡ mjr_in ++ Opened 3 ∷ Ok ∷ Denied NotIn ∷ Denied NotIn ∷ Denied NoSuch ∷ []
unfolding proposed authenticate respond asks_operation md5 digest_bytes hash_after compress rounds block_words spelling
own_record_gone = refl

-- who is deleted and added again is logged in as the new user
new_user_in : answers no_lines (record mjr { wiz = wizards.Super } ∷ []) (mjr_logs_in
    ++ ask 9 11 console ∷ ask 3 11 (Deluser (codes "mjr")) ∷ ask 3 11 (Adduser (codes "mjr") []) ∷ ask 0 11 (Display (codes "mjr"))
    ∷ ask 0 11 (Enable (codes "mjr")) ∷ [])
    ≡ mjr_in ++ Opened 3 ∷ Ok ∷ Ok ∷ Shown (profile_of (bare (codes "mjr"))) ∷ Denied NotWizard ∷ []
unfolding proposed authenticate respond add_user md5 digest_bytes hash_after compress rounds block_words spelling
new_user_in = refl

-- a group's wizard and a wizard over all of that group: listed, but not displayed; and no wizard of a group raises one
abbrev ann : Fields
ann = in_group (codes "mail") wizards.Group (with_secret (codes "ann"))

abbrev zoe : Fields
zoe = in_group (codes "mail") wizards.Super (bare (codes "zoe"))

abbrev ann_logs_in : List Ask
ann_logs_in = ask 0 10 opens ∷ ask 0 10 (names (codes "ann")) ∷ ask 0 10 (says secret) ∷ []

super_of_group : answers no_lines (ann ∷ zoe ∷ []) (ann_logs_in
    ++ ask 0 11 (requests.List (Some (codes "ann"))) ∷ ask 0 11 (Display (codes "zoe")) ∷ ask 0 11 (Deluser (codes "zoe"))
    ∷ ask 0 11 (Adduser (codes "zoe") []) ∷ ask 0 11 (Expire (codes "zoe") 500) ∷ ask 0 11 (Unwiz (codes "ann"))
    ∷ ask 0 11 (Superwiz (codes "ann")) ∷ ask 0 11 (Group (codes "ann") None) ∷ [])
    ≡ mjr_in ++ Shown (profile_of zoe) ∷ Denied NotWizard ∷ Denied NotWizard ∷ Denied Exists ∷ Denied NotWizard ∷ Denied NotWizard ∷ Denied NotWizard ∷ Denied NotWizard ∷ []
unfolding proposed authenticate respond add_user list md5 digest_bytes hash_after compress rounds block_words spelling
super_of_group = refl

-- a group's wizard without a group: over nobody, not even over those without a group
no_group : answers no_lines (record ann { group = None } ∷ mjr ∷ []) (ann_logs_in
    ++ ask 0 11 (requests.List None) ∷ ask 0 11 (Display (codes "mjr")) ∷ ask 0 11 (Display (codes "ann")) ∷ ask 0 11 (Disable (codes "ann"))
    ∷ ask 0 11 (Adduser (codes "bob") []) ∷ ask 0 11 (Display (codes "bob")) ∷ [])
    ≡ mjr_in ++ Denied NoSuch ∷ Denied NotWizard ∷ Shown (profile_of (record ann { group = None; last = 10 })) ∷ Denied NotWizard ∷ Ok ∷ Denied NotWizard ∷ []
unfolding proposed authenticate respond add_user list md5 digest_bytes hash_after compress rounds block_words spelling
no_group = refl

-- ---- lists

-- in the order of their names, byte by byte, whatever the order in which they came
listed : answers no_lines (bare (codes "b") ∷ []) (ask 0 10 console ∷ ask 0 10 (Adduser (codes "ab") []) ∷ ask 0 10 (Adduser (codes "a") [])
    ∷ ask 0 10 (Adduser (codes "B") [])
    ∷ ask 0 11 (requests.List None) ∷ ask 0 11 (requests.List (Some (codes "B"))) ∷ ask 0 11 (requests.List (Some (codes "a")))
    ∷ ask 0 11 (requests.List (Some (codes "aa"))) ∷ ask 0 11 (requests.List (Some (codes "ab"))) ∷ ask 0 11 (requests.List (Some (codes "b"))) ∷ [])
    ≡ Opened 0 ∷ Ok ∷ Ok ∷ Ok ∷ Shown (profile_of (bare (codes "B"))) ∷ Shown (profile_of (bare (codes "a"))) ∷ Shown (profile_of (bare (codes "ab")))
    ∷ Shown (profile_of (bare (codes "ab"))) ∷ Shown (profile_of (bare (codes "b"))) ∷ Denied NoSuch ∷ []
unfolding proposed add_user list spelling
listed = refl

-- ---- the keeper

-- it is called where a record is made, changes or is deleted, and not where it stays as it is
kept_anew : calls no_lines [] (ask 0 10 console ∷ ask 0 10 (Adduser (codes "bob") []) ∷ ask 0 10 (Adduser (codes "bob") [])
    ∷ ask 0 10 (Enable (codes "bob")) ∷ ask 0 10 (Enable (codes "bob"))
    ∷ ask 0 10 (requests.Password (codes "bob") salt other) ∷ ask 0 10 (requests.Password (codes "bob") salt other)
    ∷ ask 0 10 (Group (codes "bob") None) ∷ ask 0 10 (Group (codes "bob") (Some (codes "staff")))
    ∷ ask 0 10 (Proto (codes "bob") protos.None) ∷ ask 0 10 (Unwiz (codes "bob")) ∷ ask 0 10 (Deluser (codes "bob")) ∷ ask 0 10 (Deluser (codes "bob")) ∷ [])
    ≡ false ∷ true ∷ false ∷ true ∷ false ∷ true ∷ false ∷ false ∷ true ∷ false ∷ false ∷ true ∷ false ∷ []
unfolding proposed add_user md5 digest_bytes hash_after compress rounds block_words spelling
kept_anew = refl

-- what isn't kept doesn't happen
deletion_not_kept : answers no_lines (mjr ∷ []) (ask 0 10 console ∷ failing 0 10 (Deluser (codes "mjr")) ∷ ask 0 10 (Display (codes "mjr")) ∷ [])
    ≡ Opened 0 ∷ Denied NotKept ∷ Shown (profile_of mjr) ∷ []
unfolding proposed spelling
deletion_not_kept = refl

-- but its moment counts
moment_counts : (left no_lines (mjr ∷ []) (ask 0 10 console ∷ failing 0 11 (Deluser (codes "mjr")) ∷ [])).moment ≡ 11
unfolding proposed spelling
moment_counts = refl
