-- The words of the laws, computed on runs.
use Rattle.std.proofs.Common.{◌≡◌, ℕ, ◌<◌, List, [], ◌∷◌, Bool, true, false, Some, refl, arith}
use Rattle.std.specs.Prelude.{codes}
use Rattle.md5.specs.Md5.{md5, digest_bytes, hash_after, compress, rounds, block_words}
use Rattle.otp_md5.specs.Passwords.{next_of, folded}
use Rattle.auth_records.specs.Spelling.{Fields, spelling}
use Rattle.auth_records.specs.declared.record.Wiz.TheVariants as wizards
use Rattle.auth_events.specs.declared.denial.Denial.TheVariants.{NotKept}
use Rattle.auth_events.specs.declared.entry.Entry.{Entry}
use Rattle.auth_events.specs.declared.reply.Reply.{Reply}
use Rattle.auth_events.specs.declared.reply.Reply.TheVariants as replies
use Rattle.auth_events.specs.declared.request.Request.{Request}
use Rattle.auth_machine.specs.Laws.{IsGroupWizard}
use Rattle.auth_machine.specs.Logins.{IsLocked, LoginStands, phase_of}
use Rattle.auth_machine.specs.Chains.{accepted}
use Rattle.auth_machine.specs.Login.{authenticate, respond}
use Rattle.auth_machine.specs.State.{first_state}
use Rattle.auth_machine.specs.Step.{proposed}
use Rattle.auth_machine.specs.declared.session.Phase.TheVariants.{In}
use Rattle.auth_machine.proofs.Runs.{ask, bad_sleep, in_group, last_word, left, mjr, names, no_lines, opens, other, otp1, says, says_word, secret, with_secret}

abbrev entry : ℕ → ℕ → Request → Bool → Reply → Entry
entry sid at request kept reply = record { sid = sid; at = at; request = request; kept = kept; reply = reply }

-- a response that isn't kept logs nobody in, and the next one does
login : LoginStands 0 (codes "mjr") (entry 0 10 opens true (replies.Opened 0) ∷ entry 0 10 (names (codes "mjr")) true replies.Password
    ∷ entry 0 11 (says other) false (replies.Denied NotKept) ∷ entry 0 12 (says secret) true replies.Ok ∷ [])
login = record {
  before = entry 0 10 opens true (replies.Opened 0) ∷ [];
  naming = entry 0 10 (names (codes "mjr")) true replies.Password;
  between = entry 0 11 (says other) false (replies.Denied NotKept) ∷ [];
  response = entry 0 12 (says secret) true replies.Ok;
  since = [];
  is = refl;
  named = (refl, refl);
  named_last = (refl, tt);
  answered = (refl, refl, refl);
  stands = tt;
}

in_then : phase_of 0 (left no_lines (mjr ∷ []) (ask 0 10 opens ∷ ask 0 10 (names (codes "mjr")) ∷ ask 0 12 (says secret) ∷ [])) ≡ Some (In (codes "mjr"))
unfolding proposed authenticate respond md5 digest_bytes hash_after compress rounds block_words spelling
in_then = refl

-- one one-time password is accepted, and not for another user
abbrev word_run : List Entry
word_run = entry 0 10 opens true (replies.Opened 0) ∷ entry 0 10 (names (codes "otp1")) true (replies.Challenge 0 (codes "test"))
    ∷ entry 0 11 (says_word last_word) true replies.Ok ∷ []

one_word : accepted no_lines (codes "otp1") (first_state (otp1 ∷ [])) 0 word_run ≡ last_word ∷ []
unfolding proposed authenticate respond next_of folded md5 digest_bytes hash_after compress rounds block_words spelling
one_word = refl

no_word : accepted no_lines (codes "mjr") (first_state (otp1 ∷ mjr ∷ [])) 0 word_run ≡ []
unfolding proposed authenticate respond next_of folded md5 digest_bytes hash_after compress rounds block_words spelling
no_word = refl

-- five wrong responses lock a record up to its moment, and not then
abbrev five : Fields
five = record mjr { fails = 5; since = 105 }

locked : IsLocked (bad_sleep 1200) 1304 five
locked = record { five = refl; locks = (omega arith, omega arith) }

not_then : IsLocked (bad_sleep 1200) 1305 five → ⊥
not_then h = let below : 1305 < 1305 = h.locks.1 in omega arith

never_with_0 : IsLocked (bad_sleep 0) 105 five → ⊥
never_with_0 h = let below : 0 < 0 = h.locks.0 in omega arith

for_ever : IsLocked no_lines 1000000 five
for_ever = record { five = refl; locks = tt }

-- a wizard of a group who is logged in
abbrev ann : Fields
ann = in_group (codes "mail") wizards.Group (with_secret (codes "ann"))

wizard : IsGroupWizard (left no_lines (ann ∷ []) (ask 0 10 opens ∷ ask 0 10 (names (codes "ann")) ∷ ask 0 10 (says secret) ∷ [])) 0 (codes "ann") (Some (codes "mail"))
unfolding proposed authenticate respond md5 digest_bytes hash_after compress rounds block_words spelling
wizard = record { session = record { sid = 0; console = false; phase = In (codes "ann") }; there = refl; console = refl; phase = refl; own = record ann { last = 10 }; own_there = refl; wiz = refl; group_is = refl }
