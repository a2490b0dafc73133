use Rattle.std.proofs.Common.{◌≡◌, take}
use Rattle.std.specs.Str.{str_to_ascii_uppercase}
use Rattle.fw_types.proofs.verb.upper_copy_of.Given as goal

abbrev pub invariant-loop-byte : goal.invariant-loop-byte
invariant-loop-byte l = l.out.items ≡ str_to_ascii_uppercase (take l.byte-index l.bytes)
