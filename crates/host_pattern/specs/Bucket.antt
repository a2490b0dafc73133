-- Buckets: which addresses a body can match, by their first octet. A period is the byte 46.
use Rattle.std.specs.Prelude.{ℕ, ◌==◌, ◌&&◌, nat_lt, List, get_or, slice_index, length, map, take, Bool, true, false, Option, Some, None, if◌then◌else◌}
use Rattle.std.specs.List.{list_any, position}
use Rattle.fw_types.specs.Quad.{octet_of}
use Rattle.host_pattern.specs.declared.bucket.Bucket.{Bucket}
use Rattle.host_pattern.specs.declared.bucket.Bucket.TheVariants.{Octet, Every}
use Rattle.host_pattern.specs.declared.mask.Masked.{Masked}
use Rattle.host_pattern.specs.Mask.{masked_of}
use Rattle.host_pattern.specs.Party.{is_for_addresses}
use Rattle.host_pattern.specs.Pattern.{Written}

-- the octet whose decimal stands before the first period
abbrev pub octet_before : Option ℕ → List ℕ → Option ℕ
octet_before None body = None
octet_before (Some at) body = octet_of (take at body)

-- a zero stands before other bytes
abbrev pub is_padded : List ℕ → Bool
is_padded text = nat_lt 1 (length text) && get_or text 0 0 == 48

abbrev pub bucket_with : Option ℕ → Bucket
bucket_with None = Every
bucket_with (Some octet) = Octet octet

-- the first octet of the address, where the mask begins with 255
abbrev pub octet_masked : Option Masked → Option ℕ
octet_masked None = None
octet_masked (Some masked) = if slice_index masked.mask 0 == 255 then Some (slice_index masked.address 0) else None

-- the octet with which the addresses begin that the body can match
abbrev pub octet_of_body : List ℕ → Option ℕ
octet_of_body body =
    if is_for_addresses body then octet_before (position (λ b. b == 46) body) body
    else octet_masked (masked_of body)

-- A body of digits, periods and stars that begins with the decimal of an octet and a period belongs to this octet, and so
-- does an address that begins with it and has a mask that begins with 255; every other body belongs to every octet. Kept
-- by `Pattern::bucket`; body: src/bucket.rt.
unfoldable pub bucket_of : List ℕ → Bucket
bucket_of body = bucket_with (octet_of_body body)

-- the buckets of a list's patterns
abbrev pub buckets : List Written → List Bucket
buckets patterns = map (λ pattern. bucket_of pattern.body) patterns

abbrev pub is_every : Bucket → Bool
is_every Every = true
is_every (Octet other) = false

abbrev pub is_octet : ℕ → Bucket → Bool
is_octet octet Every = false
is_octet octet (Octet other) = other == octet

-- whether the bucket has parties whose address begins with the octet
abbrev pub reaches : ℕ → Bucket → Bool
reaches octet Every = true
reaches octet (Octet other) = other == octet

-- some pattern of the list belongs to the octet or to every one
abbrev pub list_reaches : ℕ → List Written → Bool
list_reaches octet patterns = list_any (reaches octet) (buckets patterns)
