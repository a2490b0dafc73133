-- The line of the log.
use Rattle.std.specs.Prelude.{ℕ, List, ◌++◌, codes}
use Rattle.std.specs.Fmt.{decimal}
use Rattle.fw_types.specs.Peer.{peer_text}
use Rattle.fw_types.specs.declared.peer.Peer.{Peer}

-- `mail smap PEER slot N recipients R bytes B`
abbrev pub mail_line : Peer → (slot rcpts bytes : ℕ) → List ℕ
mail_line peer slot rcpts bytes =
    codes "mail smap " ++ peer_text peer ++ codes " slot " ++ decimal slot ++ codes " recipients " ++ decimal rcpts ++ codes " bytes " ++ decimal bytes ++ codes "\n"
