use Rattle.std.proofs.Common.{◌≡◌, ◌++◌, drop}
use Rattle.otp_md5.specs.Hexadecimal.{unblanked}
use Rattle.otp_md5.proofs.digits.unblanked.Given as goal

abbrev pub invariant-loop-byte : goal.invariant-loop-byte
invariant-loop-byte l = l.left.items ++ unblanked (drop l.byte-index l.text) ≡ unblanked l.text
