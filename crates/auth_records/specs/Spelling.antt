-- The fields of a record, and its spelling as bytes, from left to right. A record is written in version 2. Version 1 has no
-- dates, so it spells only records whose dates are both 0.
use Rattle.std.specs.Prelude.{◌≡◌, ℕ, ◌+◌, ◌<◌, ◌≤◌, ◌^◌, ◌⊎◌, Bool, IsTrue, List, [], ◌∷◌, ◌++◌, length, Option, Some, None, is_some, option_map, IfSome, if◌then◌else◌}
use Rattle.std.specs.Int.{w32, w64, to_be_bytes}
pub use Rattle.byte_reader.specs.Reading.{IsBytes}
pub use Rattle.byte_reader.specs.Exact.{with_length}
use Rattle.fw_types.specs.Name.{is_name}
use Rattle.auth_records.specs.Texts.{is_long_name, is_seed}
use Rattle.auth_records.specs.declared.record.Proto.{Proto}
use Rattle.auth_records.specs.declared.record.Proto.TheVariants as protos
use Rattle.auth_records.specs.declared.record.Wiz.{Wiz}
use Rattle.auth_records.specs.declared.record.Wiz.TheVariants as wizards
use Rattle.auth_records.specs.declared.record.Plain.{Plain}
use Rattle.auth_records.specs.declared.record.Otp.{Otp}
use Rattle.auth_records.specs.declared.record.Record.{Record}

-- ---- a record's fields, without what its type says of them

pub record OtpFields : Type 0 where
  pub number : ℕ
  pub word_seed : List ℕ
  pub kept : ℕ

pub record Fields : Type 0 where
  pub name : List ℕ
  pub long : List ℕ
  pub group : Option (List ℕ)
  pub proto : Proto
  pub enabled : Bool
  pub wiz : Wiz
  pub fails : ℕ
  pub since : ℕ
  pub last : ℕ
  pub expires : ℕ
  pub plain : Option Plain
  pub otp : Option OtpFields

abbrev pub otp_fields : Otp → OtpFields
otp_fields o = record { number = o.number; word_seed = o.word_seed; kept = o.kept }

abbrev pub fields : Record → Fields
fields r = record { name = r.name; long = r.long; group = r.group; proto = r.proto; enabled = r.enabled; wiz = r.wiz; fails = r.fails; since = r.since; last = r.last; expires = r.expires; plain = r.plain; otp = option_map otp_fields r.otp }

-- ---- what the type says of them

abbrev pub IsGroup : Option (List ℕ) → Type 0
IsGroup group = IfSome group (λ name. IsTrue (is_name name))

pub record IsPlain (p : Plain) : Type 0 where
  pub salt_len : length p.salt ≡ 8
  pub salt : IsBytes p.salt
  pub hash_len : length p.hash ≡ 16
  pub hash : IsBytes p.hash

pub record IsOtp (o : OtpFields) : Type 0 where
  pub number : o.number ≤ 9999
  pub word_seed : IsTrue (is_seed o.word_seed)
  pub kept : o.kept < 2 ^ 64

pub record HasForm (f : Fields) : Type 0 where
  pub name : IsTrue (is_name f.name)
  pub long : IsTrue (is_long_name f.long)
  pub group : IsGroup f.group
  pub fails : f.fails ≤ 5
  pub since : f.since < 2 ^ 64
  pub last : f.last < 2 ^ 64
  pub expires : f.expires < 2 ^ 64
  pub plain : IfSome f.plain IsPlain
  pub otp : IfSome f.otp IsOtp

-- what every value of the type `Record` is
abbrev pub IsRecord : Record → Type 0
IsRecord r = HasForm (fields r)

-- ---- the bytes

abbrev pub proto_byte : Proto → ℕ
proto_byte protos.None = 0
proto_byte protos.Plain = 1
proto_byte protos.Otp = 2

abbrev pub wiz_byte : Wiz → ℕ
wiz_byte wizards.None = 0
wiz_byte wizards.Group = 1
wiz_byte wizards.Super = 2

-- 1 for a user who is enabled, 2 where a plain password follows, and 4 where one-time passwords follow, added up
abbrev pub flags : Bool → Bool → Bool → ℕ
flags enabled has_plain has_otp = (if enabled then 1 else 0) + (if has_plain then 2 else 0) + (if has_otp then 4 else 0)

-- no group is spelled as an empty name
abbrev pub or_empty : Option (List ℕ) → List ℕ
or_empty None = []
or_empty (Some name) = name

abbrev pub plain_bytes : Option Plain → List ℕ
plain_bytes None = []
plain_bytes (Some p) = p.salt ++ p.hash

abbrev pub otp_bytes : Option OtpFields → List ℕ
otp_bytes None = []
otp_bytes (Some o) = to_be_bytes w32 o.number ++ with_length o.word_seed ++ to_be_bytes w64 o.kept

-- what follows the number of the version
abbrev pub head : Fields → List ℕ
head f = flags f.enabled (is_some f.plain) (is_some f.otp) ∷ proto_byte f.proto ∷ wiz_byte f.wiz ∷ f.fails ∷ to_be_bytes w64 f.since

-- the last right response, and the end: version 2 alone has them
abbrev pub dates : Fields → List ℕ
dates f = to_be_bytes w64 f.last ++ to_be_bytes w64 f.expires

abbrev pub names : Fields → List ℕ
names f = with_length f.name ++ with_length f.long ++ with_length (or_empty f.group)

-- version 2
unfoldable pub spelling : Fields → List ℕ
spelling f = 2 ∷ head f ++ dates f ++ names f ++ plain_bytes f.plain ++ otp_bytes f.otp

-- version 1
unfoldable pub old_spelling : Fields → List ℕ
old_spelling f = 1 ∷ head f ++ names f ++ plain_bytes f.plain ++ otp_bytes f.otp

-- no response was right yet, and there is no end
pub record IsUndated (f : Fields) : Type 0 where
  pub last : f.last ≡ 0
  pub expires : f.expires ≡ 0

-- the bytes of a record
abbrev pub record_bytes : Record → List ℕ
record_bytes r = spelling (fields r)

-- the bytes that version 1 has for it, but for its dates
abbrev pub old_record_bytes : Record → List ℕ
old_record_bytes r = old_spelling (fields r)

-- the bytes spell the record: in version 2, or in version 1 where both dates are 0
abbrev pub Spells : List ℕ → Record → Type 0
Spells bytes r = (bytes ≡ record_bytes r) ⊎ (IsUndated (fields r) × (bytes ≡ old_record_bytes r))
