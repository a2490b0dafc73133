-- How many bytes of a client may still be heard: by this a dialogue that hears lines comes nearer to its end.
use Rattle.std.specs.Prelude.{ℕ, ◌+◌, length, Option, Some, None}
use Rattle.session_acts.specs.World.{Speaker, World}

abbrev pub ahead : Speaker → ℕ
ahead speaker = length speaker.reader.pending + speaker.reader.room

-- the bytes of the client that may still be heard
abbrev pub ahead_of_client : {Origin : Type 0} → World Origin → ℕ
ahead_of_client world = ahead world.client

abbrev pub ahead_of_link : Option Speaker → ℕ
ahead_of_link None = 0
ahead_of_link (Some link) = ahead link

-- and of the server, if a link is up
abbrev pub ahead_of_server : {Origin : Type 0} → World Origin → ℕ
ahead_of_server world = ahead_of_link world.server.link
