-- Whom the argument of `USER` names, and where: NAME@HOST, or NAME@HOST:PORT.
use Rattle.std.specs.Prelude.{ℕ, Bool, true, false, ◌&&◌, ◌==◌, nat_lt, List, [], ◌∷◌, length, Option, Some, None, if◌then◌else◌}
use Rattle.std.specs.List.{list_any, before_first, after_first, position_or_len}
use Rattle.std.specs.Str.{bytes_eq}
use Rattle.fw_types.specs.Host.{host_of}
use Rattle.fw_types.specs.Port.{port_of}
use Rattle.fw_types.specs.declared.dest.Dest.{Dest}
use Rattle.fw_types.specs.declared.host.Host.{Host}
use Rattle.fw_types.specs.declared.host.Host.TheVariants as hosts

abbrev pub is_at : ℕ → Bool
is_at b = b == 64

abbrev pub is_colon : ℕ → Bool
is_colon b = b == 58

-- what stands before the last `@` of a text, and what stands behind it
abbrev pub behind_byte : ℕ → List ℕ → Option (List ℕ × List ℕ) → Option (List ℕ × List ℕ)
behind_byte b rest (Some cut) = Some (b ∷ cut.0, cut.1)
behind_byte b rest None = if is_at b then Some ([], rest) else None

abbrev pub cut_at_last : List ℕ → Option (List ℕ × List ℕ)
cut_at_last [] = None
cut_at_last (b ∷ rest) = behind_byte b rest (cut_at_last rest)

abbrev pub dest_at : Option Host → Option ℕ → Option Dest
dest_at (Some host) (Some port) = Some (record { host = host; port = port })
dest_at _ _ = None

-- the port behind a colon, and that of FTP where there is none
abbrev pub port_or_ftp : Bool → List ℕ → Option ℕ
port_or_ftp true text = port_of text
port_or_ftp false text = Some 21

-- a colon stands in a text
abbrev pub has_colon : List ℕ → Bool
has_colon text = nat_lt (position_or_len is_colon text) (length text)

-- HOST, or HOST:PORT
abbrev pub dest_of : List ℕ → Option Dest
dest_of text = dest_at (host_of (before_first is_colon text)) (port_or_ftp (has_colon text) (after_first is_colon text))

abbrev pub with_name : List ℕ → Option Dest → Option (List ℕ × Dest)
with_name [] dest = None
with_name (b ∷ name) None = None
with_name (b ∷ name) (Some dest) = Some (b ∷ name, dest)

abbrev pub user_cut : Option (List ℕ × List ℕ) → Option (List ℕ × Dest)
user_cut None = None
user_cut (Some cut) = with_name cut.0 (dest_of cut.1)

-- a name that isn't empty, and a destination
unfoldable pub user_of : List ℕ → Option (List ℕ × Dest)
user_of arg = user_cut (cut_at_last arg)

abbrev pub is_same_host : Host → Host → Bool
is_same_host (hosts.Addr one) (hosts.Addr other) = bytes_eq one other
is_same_host (hosts.Name one) (hosts.Name other) = bytes_eq one other
is_same_host _ _ = false

abbrev pub is_same_dest : Dest → Dest → Bool
is_same_dest one other = is_same_host one.host other.host && one.port == other.port

abbrev pub name_if_same : Dest → Option (List ℕ × Dest) → Option (List ℕ)
name_if_same dest None = None
name_if_same dest (Some user) = if is_same_dest dest user.1 then Some user.0 else None

-- With a link to this destination: the name that is passed there, which is all of an argument without `@`.
unfoldable pub name_there : Dest → List ℕ → Option (List ℕ)
name_there dest arg = if list_any is_at arg then name_if_same dest (user_of arg) else Some arg
