-- Whom the second text of a hello names, and at which host: NAME@HOST. RFC 1282 has the name alone there; the host is how a
-- client tells this gateway where it wants to go.
use Rattle.std.specs.Prelude.{◌≡◌, ◌≢◌, ℕ, Bool, false, ◌==◌, List, [], ◌∷◌, ◌++◌, Option, Some, None, if◌then◌else◌}
use Rattle.std.specs.List.{list_any}
use Rattle.fw_types.specs.Host.{host_of}
use Rattle.fw_types.specs.declared.host.Host.{Host}

abbrev pub is_at : ℕ → Bool
is_at b = b == 64

-- a byte before a text that is cut, or that has no `@`
abbrev pub before_cut : ℕ → List ℕ → Option (List ℕ × List ℕ) → Option (List ℕ × List ℕ)
before_cut b text (Some cut) = Some (b ∷ cut.0, cut.1)
before_cut b text None = if is_at b then Some ([], text) else None

-- what stands before the last `@` of a text, and what stands after it
abbrev pub cut_at_last : List ℕ → Option (List ℕ × List ℕ)
cut_at_last [] = None
cut_at_last (b ∷ text) = before_cut b text (cut_at_last text)

-- a user of a host
pub record UserAt : Type 0 where
  pub user : List ℕ
  pub host : Host

abbrev pub with_host : List ℕ → Option Host → Option UserAt
with_host [] host = None
with_host (b ∷ user) None = None
with_host (b ∷ user) (Some host) = Some (record { user = b ∷ user; host = host })

abbrev pub user_of_cut : Option (List ℕ × List ℕ) → Option UserAt
user_of_cut None = None
user_of_cut (Some cut) = with_host cut.0 (host_of cut.1)

-- a name that isn't empty, and a host alone after the last `@`
unfoldable pub user_at : List ℕ → Option UserAt
user_at text = user_of_cut (cut_at_last text)

-- the same, said of the whole text
pub record NamesUser (text : List ℕ) (at : UserAt) : Type 0 where
  pub host_text : List ℕ
  pub whole : text ≡ at.user ++ 64 ∷ host_text
  pub last : list_any is_at host_text ≡ false
  pub some : at.user ≢ []
  pub host : host_of host_text ≡ Some at.host
