-- Reading a record from left to right, by the readers of `byte_reader`.
use Rattle.std.specs.Prelude.{◌≡◌, ℕ, zero, suc, ◌+◌, ◌-◌, ◌*◌, Bool, true, false, ◌&&◌, not, ◌==◌, List, [], ◌∷◌, length, Option, Some, None, Result, Ok, Err, bit_and, if◌then◌else◌}
use Rattle.byte_reader.specs.Reading.{Read, ◌>>=◌, byte_at, bytes_at, long_number_at, counted_at}
use Rattle.fw_types.specs.Bytes.{is_name_byte}
use Rattle.auth_records.specs.Texts.{is_printable, is_seed_byte}
use Rattle.auth_records.specs.Spelling.{OtpFields, Fields}
use Rattle.auth_records.specs.declared.record.Proto.{Proto}
use Rattle.auth_records.specs.declared.record.Proto.TheVariants as protos
use Rattle.auth_records.specs.declared.record.Wiz.{Wiz}
use Rattle.auth_records.specs.declared.record.Wiz.TheVariants as wizards
use Rattle.auth_records.specs.declared.record.Plain.{Plain}

-- a number of at most 9,999 in four bytes, the greatest first
unfoldable pub small_number_at : List ℕ → Read ℕ
small_number_at bytes = do
  first ← byte_at 0 0 bytes
  second ← byte_at 0 0 first.1
  third ← byte_at 0 39 second.1
  fourth ← byte_at 0 (if third.0 == 39 then 15 else 255) third.1
  Ok (256 * third.0 + fourth.0, fourth.1)

-- ---- the head

-- a byte of a name of n bytes: a dash is no name
abbrev pub name_byte : ℕ → ℕ → Bool
name_byte n b = is_name_byte b && not (n == 1 && b == 45)

abbrev pub proto_of : ℕ → Proto
proto_of zero = protos.None
proto_of (suc zero) = protos.Plain
proto_of (suc (suc n)) = protos.Otp

abbrev pub wiz_of : ℕ → Wiz
wiz_of zero = wizards.None
wiz_of (suc zero) = wizards.Group
wiz_of (suc (suc n)) = wizards.Super

pub record Head : Type 0 where
  pub enabled : Bool
  pub has_plain : Bool
  pub has_otp : Bool
  pub proto : Proto
  pub wiz : Wiz
  pub fails : ℕ
  pub since : ℕ

abbrev pub head_of : ℕ → ℕ → ℕ → ℕ → ℕ → Head
head_of flags proto wiz fails since = record {
  enabled = bit_and flags 1 == 1;
  has_plain = bit_and flags 2 == 2;
  has_otp = bit_and flags 4 == 4;
  proto = proto_of proto;
  wiz = wiz_of wiz;
  fails = fails;
  since = since;
}

unfoldable pub head_at : List ℕ → Read Head
head_at bytes = do
  flags ← byte_at 0 7 bytes
  proto ← byte_at 0 2 flags.1
  wiz ← byte_at 0 2 proto.1
  fails ← byte_at 0 5 wiz.1
  since ← long_number_at fails.1
  Ok (head_of flags.0 proto.0 wiz.0 fails.0 since.0, since.1)

-- ---- the dates

pub record Dates : Type 0 where
  pub last : ℕ
  pub expires : ℕ

unfoldable pub dates_at : List ℕ → Read Dates
dates_at bytes = do
  last ← long_number_at bytes
  expires ← long_number_at last.1
  Ok (record { last = last.0; expires = expires.0 }, expires.1)

-- where there are none both are 0
abbrev pub last_of : Option Dates → ℕ
last_of None = 0
last_of (Some dates) = dates.last

abbrev pub expires_of : Option Dates → ℕ
expires_of None = 0
expires_of (Some dates) = dates.expires

-- ---- the names

abbrev pub group_of : List ℕ → Option (List ℕ)
group_of [] = None
group_of (b ∷ rest) = Some (b ∷ rest)

pub record Names : Type 0 where
  pub name : List ℕ
  pub long : List ℕ
  pub group : Option (List ℕ)

abbrev pub name_at : List ℕ → Read (List ℕ)
name_at bytes = counted_at 1 32 name_byte bytes

abbrev pub long_at : List ℕ → Read (List ℕ)
long_at bytes = counted_at 0 64 (λ n. is_printable) bytes

unfoldable pub group_at : List ℕ → Read (Option (List ℕ))
group_at bytes = do
  text ← counted_at 0 32 name_byte bytes
  Ok (group_of text.0, text.1)

abbrev pub seed_at : List ℕ → Read (List ℕ)
seed_at bytes = counted_at 1 16 (λ n. is_seed_byte) bytes

unfoldable pub names_at : List ℕ → Read Names
names_at bytes = do
  name ← name_at bytes
  long ← long_at name.1
  group ← group_at long.1
  Ok (record { name = name.0; long = long.0; group = group.0 }, group.1)

-- ---- the passwords

unfoldable pub plain_at : List ℕ → Read Plain
plain_at bytes = do
  salt ← bytes_at 8 bytes
  hash ← bytes_at 16 salt.1
  Ok (record { salt = salt.0; hash = hash.0 }, hash.1)

unfoldable pub otp_at : List ℕ → Read OtpFields
otp_at bytes = do
  number ← small_number_at bytes
  word_seed ← seed_at number.1
  kept ← long_number_at word_seed.1
  Ok (record { number = number.0; word_seed = word_seed.0; kept = kept.0 }, kept.1)

-- a field that stands only where a flag says so
unfoldable pub optional_at : {A : Type 0} → Bool → (List ℕ → Read A) → List ℕ → Read (Option A)
optional_at false read bytes = Ok (None, bytes)
optional_at true read bytes = do
  x ← read bytes
  Ok (Some x.0, x.1)

-- ---- the record

abbrev pub fields_of : Head → Option Dates → Names → Option Plain → Option OtpFields → Fields
fields_of h d n plain otp = record { name = n.name; long = n.long; group = n.group; proto = h.proto; enabled = h.enabled; wiz = h.wiz; fails = h.fails; since = h.since; last = last_of d; expires = expires_of d; plain = plain; otp = otp }

unfoldable pub whole_record_at : List ℕ → Read Fields
whole_record_at bytes = do
  version ← byte_at 1 2 bytes
  head ← head_at version.1
  dates ← optional_at (version.0 == 2) dates_at head.1
  names ← names_at dates.1
  plain ← optional_at head.0.has_plain plain_at names.1
  otp ← optional_at head.0.has_otp otp_at plain.1
  Ok (fields_of head.0 dates.0 names.0 plain.0 otp.0, otp.1)

-- all of the bytes
unfoldable pub whole : List ℕ → Result Fields ℕ
whole bytes = do
  x ← whole_record_at bytes
  if length x.1 == 0 then Ok x.0 else Err (length x.1)

-- the record's fields, or the place of the first bad byte
abbrev pub record_or_place : ℕ → Result Fields ℕ → Result Fields ℕ
record_or_place len (Ok f) = Ok f
record_or_place len (Err left) = Err (len - left)

unfoldable pub decoded : List ℕ → Result Fields ℕ
decoded bytes = record_or_place (length bytes) (whole bytes)
