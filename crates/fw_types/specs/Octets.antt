-- Where bytes are kept: in the value itself, or in memory of their own.
use Rattle.std.specs.Prelude.{ℕ, List, [], ◌∷◌, take}
use Rattle.fw_types.specs.declared.octets.Storage.{Storage}
use Rattle.fw_types.specs.declared.octets.Storage.TheVariants.{Short, Long}

-- the bytes that are kept
abbrev pub stored_bytes : Storage → List ℕ
stored_bytes (Short short) = take short.len short.bytes
stored_bytes (Long bytes) = bytes.items
