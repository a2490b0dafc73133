-- The media that a disk in memory had.
use Rattle.std.specs.Prelude.{List, [], ◌∷◌, Option, Some, None}
use Rattle.fw_disk.specs.Medium.{Medium}
use Rattle.fw_memory.specs.declared.past.Link.{Link}

abbrev pub media_of : Option Link → List Medium
media_of None = []
media_of (Some link) = link.latest.value ∷ link.older.value
