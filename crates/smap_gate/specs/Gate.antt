-- What a session of `smap` knows of its client, and how much it takes of it.
use Rattle.std.specs.Prelude.{ℕ, ◌≤◌}
use Rattle.fw_types.specs.declared.peer.Peer.{Peer}

-- who the client is, how many bytes the body of a message has at most, and how many recipients it has at most
pub record Gate : Type 0 where
  pub peer : Peer
  pub most_bytes : ℕ
  pub most_rcpts : ℕ

-- a slot has room for so many bytes and recipients
pub record Fits (gate : Gate) : Type 0 where
  pub bytes : gate.most_bytes ≤ 67108864
  pub rcpts : gate.most_rcpts ≤ 1000
