-- The messages that a program accepted.
use Rattle.std.specs.Prelude.{List, [], ◌∷◌, ◌++◌, Option, Some, None}
use Rattle.fw_types.specs.declared.message.Message.{Message}
use Rattle.real_links.specs.declared.taken.Link.{Link}

abbrev pub messages_of : Option Link → List Message
messages_of None = []
messages_of (Some link) = link.older.value ++ link.latest.value ∷ []
