-- Expiry and hours, computed on runs.
use Rattle.std.proofs.Common.{◌≡◌, List, ◌++◌, ◌∷◌, [], true, false, Some, None, refl}
use Rattle.std.specs.Prelude.{codes}
use Rattle.md5.specs.Md5.{md5, digest_bytes, hash_after, compress, rounds, block_words}
use Rattle.auth_records.specs.Spelling.{Fields, spelling}
use Rattle.auth_events.specs.declared.denial.Denial.TheVariants.{Disabled, Expired, NoChallenge, NoRule, NoSuch, NotKept, Sleeping}
use Rattle.auth_events.specs.declared.request.OpService.TheVariants.{Telnet}
use Rattle.auth_events.specs.declared.request.Request.TheVariants.{Disable, Enable, Expire, Operation}
use Rattle.auth_machine.specs.Answer.Answer.{Opened, Password, Ok, Denied}
use Rattle.auth_machine.specs.Login.{authenticate, respond}
use Rattle.auth_machine.specs.Operations.{operation_verdict}
use Rattle.auth_machine.specs.Policy.{PolicyView}
use Rattle.auth_machine.specs.Powers.{asks_operation}
use Rattle.auth_machine.specs.Step.{proposed}
use Rattle.auth_machine.specs.declared.operation.Holder.TheVariants.{User}
use Rattle.auth_machine.specs.declared.operation.OperationLine.{OperationLine}
use Rattle.fw_types.specs.declared.host.Host.TheVariants.{Addr}
use Rattle.gate_rules.specs.declared.hours.Hours.{Hours}
use Rattle.host_pattern.specs.Party.{body_matches}
use Rattle.host_pattern.specs.PatternList.{list_matches}
use Rattle.auth_machine.proofs.Runs.{answers, ask, bad_sleep, calls, console, failing, left, mjr, names, no_lines, opens, other, says, secret}

-- ---- expiry

-- a user may be asked for a password until the last second, and may not send it from then on
expires : answers no_lines (mjr ∷ []) (ask 0 10 console ∷ ask 0 10 (Expire (codes "mjr") 500) ∷ ask 0 499 (names (codes "mjr")) ∷ ask 0 500 (says secret)
    ∷ ask 0 501 (says secret) ∷ ask 0 502 (names (codes "mjr")) ∷ [])
    ≡ Opened 0 ∷ Ok ∷ Password ∷ Denied (Expired 500) ∷ Denied NoChallenge ∷ Denied (Expired 500) ∷ []
unfolding proposed authenticate respond spelling
expires = refl

-- 0 is never, and the keeper is called where the moment changes
never : answers no_lines (record mjr { expires = 5 } ∷ []) (ask 0 10 console ∷ ask 0 10 (Expire (codes "mjr") 0) ∷ ask 0 10 (Expire (codes "nobody") 0)
    ∷ ask 0 11 (names (codes "mjr")) ∷ [])
    ≡ Opened 0 ∷ Ok ∷ Denied NoSuch ∷ Password ∷ []
unfolding proposed authenticate spelling
never = refl

kept_anew : calls no_lines (mjr ∷ []) (ask 0 10 console ∷ ask 0 10 (Expire (codes "mjr") 0) ∷ ask 0 10 (Expire (codes "mjr") 500) ∷ ask 0 10 (Expire (codes "mjr") 500) ∷ [])
    ≡ false ∷ false ∷ true ∷ false ∷ []
unfolding proposed spelling
kept_anew = refl

-- what a user who has expired is told where there is another cause: disabled comes first, and sleeping last
abbrev failed_five_times : Fields
failed_five_times = record mjr { fails = 5; since = 10; expires = 20 }

disabled_first : answers (bad_sleep 1200) (record failed_five_times { enabled = false } ∷ []) (ask 0 30 opens ∷ ask 0 30 (names (codes "mjr")) ∷ [])
    ≡ Opened 0 ∷ Denied Disabled ∷ []
unfolding proposed authenticate
disabled_first = refl

locked_first : answers no_lines (failed_five_times ∷ []) (ask 0 30 opens ∷ ask 0 30 (names (codes "mjr")) ∷ []) ≡ Opened 0 ∷ Denied Disabled ∷ []
unfolding proposed authenticate
locked_first = refl

expired_first : answers (bad_sleep 1200) (failed_five_times ∷ []) (ask 0 19 opens ∷ ask 0 19 (names (codes "mjr")) ∷ ask 0 20 (names (codes "mjr")) ∷ [])
    ≡ Opened 0 ∷ Denied (Sleeping 1210) ∷ Denied (Expired 20) ∷ []
unfolding proposed authenticate
expired_first = refl

-- ---- the moment of the last success

-- a second right response in the same second changes nothing, and one in the next second does; a wrong one leaves it
last_kept : calls no_lines (mjr ∷ []) (ask 0 10 opens ∷ ask 0 10 (names (codes "mjr")) ∷ ask 0 10 (says secret) ∷ ask 0 10 (names (codes "mjr"))
    ∷ ask 0 10 (says secret) ∷ ask 0 10 (names (codes "mjr")) ∷ ask 0 11 (says secret) ∷ [])
    ≡ false ∷ false ∷ true ∷ false ∷ false ∷ false ∷ true ∷ []
unfolding proposed authenticate respond md5 digest_bytes hash_after compress rounds block_words spelling
last_kept = refl

last_stands : (left no_lines (mjr ∷ []) (ask 0 10 opens ∷ ask 0 10 (names (codes "mjr")) ∷ ask 0 11 (says secret) ∷ ask 0 12 (names (codes "mjr")) ∷ ask 0 13 (says other) ∷ [])).records
    ≡ record mjr { fails = 1; last = 11 } ∷ []
unfolding proposed authenticate respond md5 digest_bytes hash_after compress rounds block_words spelling
last_stands = refl

-- a right response that isn't kept logs nobody in
not_kept : answers no_lines (mjr ∷ []) (ask 0 10 opens ∷ ask 0 10 (names (codes "mjr")) ∷ failing 0 10 (says secret) ∷ ask 0 11 (says secret) ∷ [])
    ≡ Opened 0 ∷ Password ∷ Denied NotKept ∷ Ok ∷ []
unfolding proposed authenticate respond md5 digest_bytes hash_after compress rounds block_words spelling
not_kept = refl

-- ---- hours

-- from 09:00 to 17:00 the user may go anywhere by Telnet
abbrev in_the_day : OperationLine
in_the_day = record { number = 7; permits = true; holder = User; name = Some (codes "mjr"); service = Some Telnet; hosts = record { negated = false; body = codes "*" } ∷ []; hours = Some (record { from = 540; to = 1020 }) }

abbrev by_day : PolicyView
by_day = record no_lines { operations = in_the_day ∷ [] }

asks_at : answers by_day (mjr ∷ []) (ask 0 10 opens ∷ ask 0 10 (names (codes "mjr")) ∷ ask 0 10 (says secret)
    ∷ ask 0 32399 (Operation Telnet (Addr (10 ∷ 0 ∷ 0 ∷ 1 ∷ []))) ∷ ask 0 32400 (Operation Telnet (Addr (10 ∷ 0 ∷ 0 ∷ 1 ∷ [])))
    ∷ ask 0 61199 (Operation Telnet (Addr (10 ∷ 0 ∷ 0 ∷ 1 ∷ []))) ∷ ask 0 61200 (Operation Telnet (Addr (10 ∷ 0 ∷ 0 ∷ 1 ∷ []))) ∷ [])
    ≡ Opened 0 ∷ Password ∷ Ok ∷ Denied (NoRule 0) ∷ Ok ∷ Ok ∷ Denied (NoRule 0) ∷ []
unfolding proposed authenticate respond asks_operation operation_verdict list_matches body_matches md5 digest_bytes hash_after compress rounds block_words spelling
asks_at = refl
