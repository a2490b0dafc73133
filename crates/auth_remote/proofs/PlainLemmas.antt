-- The lines of requests and of replies have no end of a line within them, and no CR.
use Rattle.std.proofs.Common.{arith, ◌≡◌, refl, sym, ap, ◌∙◌, subst, ℕ, zero, suc, ◌-◌, ◌<◌, ◌^◌, ◌==◌, nat_le, Bool, true, false, List, [], ◌∷◌, ◌++◌, length, Option, Some, None}
use Rattle.std.specs.Prelude.{◌&&◌, IsTrue, IfSome, codes, slice_index}
use Rattle.std.specs.Char.{digit_value}
use Rattle.std.specs.Fmt.{decimal}
use Rattle.std.specs.Int.{w64, to_be_bytes}
use Rattle.std.specs.List.{list_all, list_any}
use Rattle.std.specs.Str.Lines.{strip_carriage_return}
use Rattle.std.specs.Str.Parse.{AllDigits}
use Rattle.std.proofs.lemmas.Bool.Decides.{nat_tests}
use Rattle.std.proofs.lemmas.Fmt.{decimal_is_IsNumeral}
use Rattle.std.proofs.lemmas.List.Sums.{list_all-from_AllPass}
use Rattle.hex.specs.Hex.{IsBytes, encode_lower, is_hex_digit}
use Rattle.hex.proofs.HexLemmas.{decode_of-encode_lower, decode_of-ok}
use Rattle.fw_outside.specs.Lines.{first_line, is_lf}
use Rattle.fw_outside.proofs.LineLemmas.{first_line_is}
use Rattle.fw_types.specs.Bytes.{is_name_byte}
use Rattle.fw_types.specs.Host.{host_text}
use Rattle.fw_types.specs.HostName.{is_host_name}
use Rattle.fw_types.specs.Name.{is_name}
use Rattle.fw_types.specs.Quad.{dotted}
use Rattle.fw_types.specs.declared.host.Host.{Host}
use Rattle.fw_types.specs.declared.host.Host.TheVariants as hosts
use Rattle.auth_records.specs.Texts.{is_long_name, is_printable, is_seed, is_seed_byte}
use Rattle.auth_records.specs.declared.record.Proto.{Proto}
use Rattle.auth_records.specs.declared.record.Proto.TheVariants as protos
use Rattle.auth_records.specs.declared.record.Wiz.{Wiz}
use Rattle.auth_records.specs.declared.record.Wiz.TheVariants as wizards
use Rattle.otp_md5.specs.Challenge.{challenge}
use Rattle.auth_events.specs.declared.denial.Denial.{Denial}
use Rattle.auth_events.specs.declared.denial.Denial.TheVariants as denials
use Rattle.auth_events.specs.declared.reply.Reply.{Reply}
use Rattle.auth_events.specs.declared.reply.Reply.TheVariants as replies
use Rattle.auth_events.specs.declared.reply.Summary.{Summary}
use Rattle.auth_events.specs.declared.request.OpService.{OpService}
use Rattle.auth_events.specs.declared.request.OpService.TheVariants as services
use Rattle.auth_events.specs.declared.request.Request.{Request}
use Rattle.auth_events.specs.declared.request.Request.TheVariants as requests
use Rattle.authsrv_lines.specs.Reply.{IsDenial, IsReply, IsSummary, cause, group_text, proto_text, reply_line, state_text, summary_line, wiz_text}
use Rattle.authsrv_lines.specs.RequestLine.{IsAsked, IsHash, IsHost, request_line, service_text, word_text}

abbrev is_plain : ℕ → Bool
is_plain b = nat_le 32 b

-- each byte is a space or a later one
pub record IsPlain (text : List ℕ) : Type 0 where
  pub are : list_all is_plain text ≡ true

both : (a b : Bool) → (a && b) ≡ true → (a ≡ true) × (b ≡ true)
both true b h = (refl, h)
both false b h = absurd (cc)

more_plain : (b : ℕ) (text : List ℕ) → is_plain b ≡ true → list_all is_plain text ≡ true → list_all is_plain (b ∷ text) ≡ true
more_plain b text h k = rw (h, k) refl

joined_plain : (a b : List ℕ) → list_all is_plain a ≡ true → list_all is_plain b ≡ true → list_all is_plain (a ++ b) ≡ true
joined_plain [] b h k = k
joined_plain (x ∷ a) b h k =
    let parts = both (is_plain x) (list_all is_plain a) h in
    more_plain x (a ++ b) parts.0 (joined_plain a b parts.1 k)

plus : {a b : List ℕ} → IsPlain a → IsPlain b → IsPlain (a ++ b)
plus {a} {b} h k = record { are = joined_plain a b h.are k.are }

by_bytes : (p : ℕ → Bool) → ((b : ℕ) → p b ≡ true → is_plain b ≡ true) → (text : List ℕ) → list_all p text ≡ true → list_all is_plain text ≡ true
by_bytes p plain [] h = refl
by_bytes p plain (b ∷ text) h =
    let parts = both (p b) (list_all p text) h in
    more_plain b text (plain b parts.0) (by_bytes p plain text parts.1)

-- ---- lines

other_lf : (b : ℕ) → is_plain b ≡ true → is_lf b ≡ false
other_lf b h = grind (arith, nat_tests)

other_cr : (b : ℕ) → is_plain b ≡ true → (b == 13) ≡ false
other_cr b h = grind (arith, nat_tests)

none_lf : (text : List ℕ) → list_all is_plain text ≡ true → list_any is_lf text ≡ false
none_lf [] h = refl
none_lf (b ∷ text) h =
    let parts = both (is_plain b) (list_all is_plain text) h in
    rw (other_lf b parts.0, none_lf text parts.1) refl

none_cr : (text : List ℕ) (at : ℕ) → list_all is_plain text ≡ true → (slice_index text at == 13) ≡ false
none_cr [] at h = refl
none_cr (b ∷ text) zero h = other_cr b (both (is_plain b) (list_all is_plain text) h).0
none_cr (b ∷ text) (suc at) h = none_cr text at (both (is_plain b) (list_all is_plain text) h).1

unstripped : (text : List ℕ) → list_all is_plain text ≡ true → strip_carriage_return text ≡ text
unstripped text h = rw (none_cr text (length text - 1) h) refl

abbrev pub Cut : Type 0
Cut = List ℕ × List ℕ

-- a plain text and LF are one line
pub plain_line : (text more : List ℕ) → IsPlain text → first_line (text ++ 10 ∷ more) ≡ Some (text, more)
plain_line text more h = first_line_is text more (none_lf text h.are) ∙ ap (λ (t : List ℕ). Some (t, more)) (unstripped text h.are)

-- ---- pieces

digit_plain : (d : ℕ) → digit_value d < 10 → is_plain d ≡ true
digit_plain d h = grind (arith, nat_tests)

digits_plain : (ds : List ℕ) → AllDigits 10 ds → list_all is_plain ds ≡ true
digits_plain [] h = refl
digits_plain (d ∷ ds) h = more_plain d ds (digit_plain d h.0) (digits_plain ds h.1)

number_plain : (n : ℕ) → n < 2 ^ 64 → IsPlain (decimal n)
number_plain n small = record { are = digits_plain (decimal n) (decimal_is_IsNumeral n small).0.1 }

name_byte_plain : (b : ℕ) → is_name_byte b ≡ true → is_plain b ≡ true
name_byte_plain b h = grind (arith, nat_tests)

name_plain : (name : List ℕ) → IsTrue (is_name name) → IsPlain name
name_plain name h = record { are = by_bytes is_name_byte name_byte_plain name (both _ _ (both _ _ h).0).1 }

host_name_plain : (name : List ℕ) → IsTrue (is_host_name name) → IsPlain name
host_name_plain name h = record { are = by_bytes is_name_byte name_byte_plain name (both _ _ (both _ _ h).0).1 }

printable_plain : (b : ℕ) → is_printable b ≡ true → is_plain b ≡ true
printable_plain b h = grind (arith, nat_tests)

long_name_plain : (long : List ℕ) → IsTrue (is_long_name long) → IsPlain long
long_name_plain long h = record { are = by_bytes is_printable printable_plain long (both _ _ h).1 }

seed_byte_plain : (b : ℕ) → is_seed_byte b ≡ true → is_plain b ≡ true
seed_byte_plain b h = grind (arith, nat_tests)

seed_plain : (word_seed : List ℕ) → IsTrue (is_seed word_seed) → IsPlain word_seed
seed_plain word_seed h = record { are = by_bytes is_seed_byte seed_byte_plain word_seed (both _ _ h).1 }

hex_plain : (b : ℕ) → is_hex_digit b ≡ true → is_plain b ≡ true
hex_plain b h = grind (arith, nat_tests)

digest_plain : (bytes : List ℕ) → IsBytes bytes → IsPlain (encode_lower bytes)
digest_plain bytes fits =
    let ok = decode_of-ok (encode_lower bytes) bytes (decode_of-encode_lower bytes fits) in
    record { are = by_bytes is_hex_digit hex_plain (encode_lower bytes) (list_all-from_AllPass is_hex_digit (encode_lower bytes) ok.1) }

long_bytes : (n i : ℕ) → slice_index (to_be_bytes w64 n) i < 256
long_bytes n zero = omega arith
long_bytes n (suc zero) = omega arith
long_bytes n (suc (suc zero)) = omega arith
long_bytes n (suc (suc (suc zero))) = omega arith
long_bytes n (suc (suc (suc (suc zero)))) = omega arith
long_bytes n (suc (suc (suc (suc (suc zero))))) = omega arith
long_bytes n (suc (suc (suc (suc (suc (suc zero)))))) = omega arith
long_bytes n (suc (suc (suc (suc (suc (suc (suc zero))))))) = omega arith
long_bytes n (suc (suc (suc (suc (suc (suc (suc (suc i)))))))) = omega arith

octet_plain : (n : ℕ) → n < 256 → IsPlain (decimal n)
octet_plain n small = number_plain n (omega (arith, small))

period : (x y : List ℕ) → IsPlain x → IsPlain y → IsPlain (x ++ 46 ∷ y)
period x y h k = plus {a = x} {b = 46 ∷ y} h (record { are = k.are })

quad_plain : (a b c d : ℕ) → a < 256 → b < 256 → c < 256 → d < 256 → IsPlain (dotted (a ∷ b ∷ c ∷ d ∷ []))
quad_plain a b c d sa sb sc sd =
    period (decimal a) (decimal b ++ 46 ∷ (decimal c ++ 46 ∷ decimal d)) (octet_plain a sa)
    (period (decimal b) (decimal c ++ 46 ∷ decimal d) (octet_plain b sb) (period (decimal c) (decimal d) (octet_plain c sc) (octet_plain d sd)))

addr_plain : (addr : List ℕ) → length addr ≡ 4 → IsBytes addr → IsPlain (dotted addr)
addr_plain [] len bytes = absurd (omega (arith, len))
addr_plain (a ∷ []) len bytes = absurd (omega (arith, len))
addr_plain (a ∷ b ∷ []) len bytes = absurd (omega (arith, len))
addr_plain (a ∷ b ∷ c ∷ []) len bytes = absurd (omega (arith, len))
addr_plain (a ∷ b ∷ c ∷ d ∷ []) len bytes = quad_plain a b c d (bytes 0) (bytes 1) (bytes 2) (bytes 3)
addr_plain (a ∷ b ∷ c ∷ d ∷ e ∷ more) len bytes = absurd (omega (arith, len))

-- ---- requests

host_plain : (host : Host) → IsHost host → IsPlain (host_text host)
host_plain (hosts.Addr addr) h = addr_plain addr h.0 h.1
host_plain (hosts.Name name) h = host_name_plain name h.0

service_plain : (service : OpService) → IsPlain (service_text service)
service_plain services.Telnet = record { are = refl }
service_plain services.Rlogin = record { are = refl }
service_plain services.Ftp = record { are = refl }

word_plain : (word : Option ℕ) → IsPlain (word_text word)
word_plain None = record { are = refl }
word_plain (Some word) = plus {a = codes " "} (record { are = refl }) (digest_plain (to_be_bytes w64 word) (long_bytes word))

digest_line_plain : (hash : List ℕ) (word : Option ℕ) → IsHash hash → IsPlain (codes "digest " ++ encode_lower hash ++ word_text word)
digest_line_plain hash word h = plus (plus {a = codes "digest "} (record { are = refl }) (digest_plain hash h.1)) (word_plain word)

operation_plain : (service : OpService) (host : Host) → IsHost host → IsPlain (codes "operation " ++ service_text service ++ codes " " ++ host_text host)
operation_plain service host h =
    plus (plus {b = codes " "} (plus {a = codes "operation "} (record { are = refl }) (service_plain service)) (record { are = refl })) (host_plain host h)

some_is : (x y : List ℕ) → Some x ≡ Some y → x ≡ y
some_is x y e = cc

pub request_plain : (request : Request) (line : List ℕ) → IsAsked request → request_line request ≡ Some line → IsPlain line
unfolding request_line
request_plain (requests.Authenticate name) line h is =
    subst IsPlain (some_is (codes "authenticate " ++ name) line is) (plus {a = codes "authenticate "} (record { are = refl }) (name_plain name h))
request_plain (requests.Response hash word) line h is =
    subst IsPlain (some_is (codes "digest " ++ encode_lower hash ++ word_text word) line is) (digest_line_plain hash word h.0)
request_plain (requests.Operation service host) line h is =
    subst IsPlain (some_is (codes "operation " ++ service_text service ++ codes " " ++ host_text host) line is) (operation_plain service host h)
request_plain requests.Close line h is = subst IsPlain (some_is (codes "quit") line is) (record { are = refl })
request_plain request line h is = absurd (cc)

-- ---- replies

cause_plain : (denial : Denial) → IsDenial denial → IsPlain (cause denial)
cause_plain (denials.Expired at) h = plus {a = codes "expired "} (record { are = refl }) (number_plain at h)
cause_plain (denials.Sleeping until) h = plus {a = codes "sleeping until "} (record { are = refl }) (number_plain until h)
cause_plain (denials.Busy sid until) h =
    plus (plus {b = codes " until "} (plus {a = codes "busy "} (record { are = refl }) (number_plain sid h.0)) (record { are = refl })) (number_plain until h.1)
cause_plain (denials.NoRule line) h = plus {a = codes "no rule line "} (record { are = refl }) (number_plain line (omega (arith, h)))
cause_plain (denials.Full limit) h = plus {a = codes "full "} (record { are = refl }) (number_plain limit h)
cause_plain denials.Unknown h = record { are = refl }
cause_plain denials.Wrong h = record { are = refl }
cause_plain denials.Disabled h = record { are = refl }
cause_plain denials.Exhausted h = record { are = refl }
cause_plain denials.NoChallenge h = record { are = refl }
cause_plain denials.NotIn h = record { are = refl }
cause_plain denials.NotWizard h = record { are = refl }
cause_plain denials.Exists h = record { are = refl }
cause_plain denials.NoSuch h = record { are = refl }
cause_plain denials.Closed h = record { are = refl }
cause_plain denials.NotKept h = record { are = refl }

group_plain : (group : Option (List ℕ)) → IfSome group (λ g. IsTrue (is_name g)) → IsPlain (group_text group)
group_plain None h = record { are = refl }
group_plain (Some group) h = name_plain group h

proto_plain : (proto : Proto) → IsPlain (proto_text proto)
proto_plain protos.None = record { are = refl }
proto_plain protos.Plain = record { are = refl }
proto_plain protos.Otp = record { are = refl }

state_plain : (enabled : Bool) → IsPlain (state_text enabled)
state_plain true = record { are = refl }
state_plain false = record { are = refl }

wiz_plain : (wiz : Wiz) → IsPlain (wiz_text wiz)
wiz_plain wizards.None = record { are = refl }
wiz_plain wizards.Group = record { are = refl }
wiz_plain wizards.Super = record { are = refl }

-- a word of a line, and what is told with it
told : (word text : List ℕ) → list_all is_plain word ≡ true → IsPlain text → IsPlain (word ++ text)
told word text h k = plus {a = word} (record { are = h }) k

pair_plain : (w v x y : List ℕ) → list_all is_plain w ≡ true → IsPlain v → list_all is_plain x ≡ true → IsPlain y → IsPlain (w ++ v ++ x ++ y)
pair_plain w v x y h v_is k y_is = plus (plus {b = x} (told w v h v_is) (record { are = k })) y_is

summary_plain : (s : Summary) → IsSummary s → IsPlain (summary_line s)
unfolding summary_line
summary_plain s h =
    let identity = pair_plain (codes "user ") s.name (codes " group ") (group_text s.group) refl (name_plain s.name h.name) refl (group_plain s.group h.group) in
    let first = pair_plain (codes " proto ") (proto_text s.proto) (codes " state ") (state_text s.enabled) refl (proto_plain s.proto) refl (state_plain s.enabled) in
    let rights = plus (plus {b = codes " wiz "} first (record { are = refl })) (wiz_plain s.wiz) in
    let counts = pair_plain (codes " fails ") (decimal s.fails) (codes " number ") (decimal s.number) refl (number_plain s.fails (omega (arith, h.fails))) refl (number_plain s.number (omega (arith, h.number))) in
    let dates = pair_plain (codes " last ") (decimal s.last) (codes " expires ") (decimal s.expires) refl (number_plain s.last h.last) refl (number_plain s.expires h.expires) in
    plus (plus (plus (plus identity rights) counts) dates) (told (codes " long ") s.long refl (long_name_plain s.long h.long))

challenge_plain : (number : ℕ) (word_seed : List ℕ) → number < 2 ^ 32 → IsTrue (is_seed word_seed) → IsPlain (challenge number word_seed)
unfolding challenge
challenge_plain number word_seed small h = pair_plain (codes "otp-md5 ") (decimal number) (codes " ") word_seed refl (number_plain number (omega (arith, small))) refl (seed_plain word_seed h)

pub reply_plain : (reply : Reply) → IsReply reply → IsPlain (reply_line reply)
reply_plain (replies.Opened sid) h = record { are = refl }
reply_plain replies.Password h = record { are = refl }
reply_plain (replies.Challenge number word_seed) h = told (codes "challenge ") (challenge number word_seed) refl (challenge_plain number word_seed h.0 h.1)
reply_plain replies.Ok h = record { are = refl }
reply_plain (replies.Shown summary) h = summary_plain summary h
reply_plain (replies.Denied denial) h = told (codes "denied ") (cause denial) refl (cause_plain denial h)
