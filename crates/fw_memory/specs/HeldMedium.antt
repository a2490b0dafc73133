-- The bytes as read of a disk in memory.
use Rattle.std.specs.Prelude.{ℕ, List}
use Rattle.fw_memory.specs.declared.medium.Seen.{Seen}
use Rattle.fw_memory.specs.declared.medium.Seen.TheVariants.{Synced, Changed}

abbrev pub seen_of : Seen → List ℕ → List ℕ
seen_of Synced synced = synced
seen_of (Changed bytes) synced = bytes.items
