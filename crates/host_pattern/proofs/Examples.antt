-- The definitions, computed.
use Rattle.std.proofs.Common.{◌≡◌, List, [], ◌∷◌, true, false, Some, None, Ok, Err, refl}
use Rattle.std.specs.Prelude.{codes}
use Rattle.std.specs.Fmt.{digits}
use Rattle.fw_types.specs.declared.peer.Peer.{Peer}
use Rattle.host_pattern.specs.declared.fault.PatternFault.TheVariants.{Empty, BadByte, BadMask}
use Rattle.host_pattern.specs.declared.fault.ListFault.TheVariants as fault
use Rattle.host_pattern.specs.declared.bucket.Bucket.TheVariants.{Octet, Every}
use Rattle.host_pattern.specs.Bucket.{bucket_of}
use Rattle.host_pattern.specs.Glob.{glob}
use Rattle.host_pattern.specs.Mask.{agree, masked_of}
use Rattle.host_pattern.specs.Party.{body_matches}
use Rattle.host_pattern.specs.Pattern.{Written, parsed}
use Rattle.host_pattern.specs.PatternList.{list_matches, patterns_tested, list_parsed}

empty_run : glob (codes "a*b") (codes "ab") ≡ true
unfolding glob
empty_run = refl

goes_back : glob (codes "*a*ab") (codes "xaaab") ≡ true
unfolding glob
goes_back = refl

ends_early : glob (codes "a*b") (codes "abc") ≡ false
unfolding glob
ends_early = refl

two_stars : glob (codes "**") [] ≡ true
unfolding glob
two_stars = refl

abbrev by_address : Peer
by_address = record { addr = Some (192 ∷ 33 ∷ 112 ∷ 7 ∷ []); name = None }

abbrev by_both : Peer
by_both = record { addr = Some (192 ∷ 33 ∷ 112 ∷ 7 ∷ []); name = Some (codes "relay.tis.com") }

nameless_is_unknown : body_matches (codes "UnKnown") by_address ≡ true
unfolding body_matches
nameless_is_unknown = refl

nameless_has_no_domain : body_matches (codes "*.tis.com") by_address ≡ false
unfolding body_matches
nameless_has_no_domain = refl

upper_case_matches : body_matches (codes "*.TIS.com") by_both ≡ true
unfolding body_matches glob
upper_case_matches = refl

subnet : glob (codes "192.33.112.*") (codes "192.33.112.7") ≡ true
unfolding glob
subnet = refl

name_is_no_address : body_matches (codes "1*") record { addr = None; name = Some (codes "1host") } ≡ false
unfolding body_matches
name_is_no_address = refl

abbrev not_this_one : List Written
not_this_one = record { negated = true; body = codes "mail.*" } ∷ record { negated = true; body = codes "relay.*" } ∷ record { negated = false; body = codes "*.tis.com" } ∷ []

second_decides : list_matches not_this_one by_both ≡ false
unfolding list_matches body_matches glob
second_decides = refl

two_tests : patterns_tested not_this_one by_both ≡ 2
unfolding patterns_tested body_matches glob
two_tests = refl

none_decides : list_matches not_this_one by_address ≡ false
unfolding list_matches body_matches glob
none_decides = refl

no_body : parsed (codes "!") ≡ Err Empty
unfolding parsed
no_body = refl

second_mark : parsed (codes "!!a") ≡ Err (BadByte 0)
unfolding parsed
second_mark = refl

kept_case : parsed (codes "!A.b") ≡ Ok record { negated = true; body = codes "A.b" }
unfolding parsed
kept_case = refl

bad_word : list_parsed (record { text = codes "a"; quoted = false } ∷ record { text = codes "b c"; quoted = true } ∷ []) ≡ Err (fault.Bad 1 (BadByte 1))
unfolding list_parsed parsed
bad_word = refl

no_octet : bucket_of (codes "256.*") ≡ Every
unfolding bucket_of
no_octet = refl

no_period : bucket_of (codes "1*") ≡ Every
unfolding bucket_of
no_period = refl

name_everywhere : bucket_of (codes "10.relay.org") ≡ Every
unfolding bucket_of masked_of
name_everywhere = refl

within_mask : body_matches (codes "192.33.112.0:255.255.255.0") by_address ≡ true
unfolding body_matches masked_of digits
within_mask = refl

outside_mask : body_matches (codes "192.33.113.0:255.255.255.0") by_address ≡ false
unfolding body_matches masked_of digits
outside_mask = refl

-- bits that the mask lacks count nowhere, not in the pattern's address either
no_bit : body_matches (codes "10.0.0.1:0.0.0.0") by_address ≡ true
unfolding body_matches masked_of digits
no_bit = refl

mask_with_a_hole : body_matches (codes "192.7.112.9:255.0.255.0") by_address ≡ true
unfolding body_matches masked_of digits
mask_with_a_hole = refl

-- 112 is 0111 0000, and the mask has the lower half of the octet alone
half_an_octet : agree (255 ∷ 255 ∷ 15 ∷ 0 ∷ []) (192 ∷ 33 ∷ 0 ∷ 0 ∷ []) (192 ∷ 33 ∷ 112 ∷ 7 ∷ []) ≡ true
half_an_octet = refl

other_half : agree (255 ∷ 255 ∷ 240 ∷ 0 ∷ []) (192 ∷ 33 ∷ 0 ∷ 0 ∷ []) (192 ∷ 33 ∷ 112 ∷ 7 ∷ []) ≡ false
other_half = refl

three_octets : parsed (codes "10.0.0.0:255.0.0") ≡ Err BadMask
unfolding parsed masked_of digits
three_octets = refl

two_colons : parsed (codes "!1.2.3.4:1.2.3.4:") ≡ Err BadMask
unfolding parsed masked_of digits
two_colons = refl

padded_mask : parsed (codes "1.2.3.4:255.00.0.0") ≡ Err BadMask
unfolding parsed masked_of digits
padded_mask = refl

star_in_mask : parsed (codes "1.2.3.*:255.0.0.0") ≡ Err BadMask
unfolding parsed masked_of digits
star_in_mask = refl

byte_before_mask : parsed (codes "a:/") ≡ Err (BadByte 2)
unfolding parsed masked_of digits
byte_before_mask = refl

octet_of_mask : bucket_of (codes "10.0.0.0:255.0.0.0") ≡ Octet 10
unfolding bucket_of masked_of digits
octet_of_mask = refl

every_octet_of_mask : bucket_of (codes "10.0.0.0:254.255.255.0") ≡ Every
unfolding bucket_of masked_of digits
every_octet_of_mask = refl
