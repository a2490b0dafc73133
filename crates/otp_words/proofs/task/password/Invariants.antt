use Rattle.std.proofs.Common.{◌≡◌}
use Rattle.otp_md5.specs.Passwords.{password}
use Rattle.otp_words.proofs.task.password.Given as goal

abbrev pub invariant-loop-count : goal.invariant-loop-count
invariant-loop-count l = l.password ≡ password l.word_seed l.phrase l._count
