-- Names and hosts are words, and a host is read from its text.
use Rattle.std.proofs.Common.{◌≡◌, ℕ, ◌+◌, ◌<◌, ◌≤◌, Bool, true, false, List, [], ◌∷◌, ◌++◌, length, refl, ap, ◌∙◌, length-append, arith}
use Rattle.std.specs.Prelude.{IsTrue, not, Option, Some, None}
use Rattle.std.specs.Char.{digit_value}
use Rattle.std.specs.Fmt.{decimal}
use Rattle.std.specs.List.{list_all}
use Rattle.std.specs.Str.{str_to_ascii_lowercase}
use Rattle.std.specs.Str.Parse.{AllDigits}
use Rattle.std.proofs.lemmas.Bool.{leb-true, ltb-true}
use Rattle.std.proofs.lemmas.Bool.Decides.{nat_tests}
use Rattle.std.proofs.lemmas.Fmt.{decimal_is_IsNumeral}
use Rattle.std.proofs.lemmas.List.Folds.{list_all-append}
use Rattle.hex.specs.Hex.{IsBytes}
use Rattle.fw_types.specs.Bytes.{is_name_byte}
use Rattle.fw_types.specs.Host.{host_by, host_of, host_text}
use Rattle.fw_types.specs.HostName.{host_name_of, is_address_byte, is_host_name}
use Rattle.fw_types.specs.Name.{is_name}
use Rattle.fw_types.specs.Quad.{dotted, quad_of}
use Rattle.fw_types.specs.declared.host.Host.{Host}
use Rattle.fw_types.specs.declared.host.Host.TheVariants as hosts
use Rattle.fw_types.proofs.QuadLemmas.{dotted_joined, octet_short, quad_of-dotted, quad_of-none}
use Rattle.otp_md5.specs.Hexadecimal.{is_blank}
use Rattle.authsrv_lines.specs.RequestLine.{IsHost}
use Rattle.authsrv_lines.specs.Words.{is_some_bytes}
use Rattle.authsrv_lines.proofs.SpaceLemmas.{both}

abbrev pub is_solid : ℕ → Bool
is_solid b = not (is_blank b)

-- no byte is a blank
abbrev pub IsToken : List ℕ → Type 0
IsToken text = list_all is_solid text ≡ true

-- a text of bytes that aren't blanks
pub token_by : (p : ℕ → Bool) → ((b : ℕ) → p b ≡ true → is_solid b ≡ true) → (text : List ℕ) → list_all p text ≡ true → IsToken text
token_by p solid [] h = refl
token_by p solid (b ∷ text) h =
    let parts = both (p b) (list_all p text) h in
    rw (solid b parts.0, token_by p solid text parts.1) refl

some_bytes : (text : List ℕ) → 0 < length text → is_some_bytes text ≡ true
some_bytes text h = grind (arith, nat_tests)

-- ---- names

name_solid : (b : ℕ) → is_name_byte b ≡ true → is_solid b ≡ true
name_solid b h = grind (arith, nat_tests)

pub name_token : (name : List ℕ) → IsTrue (is_name name) → IsToken name
name_token name h = token_by is_name_byte name_solid name (both _ _ (both _ _ h).0).1

pub name_some : (name : List ℕ) → IsTrue (is_name name) → (is_some_bytes name ≡ true) × (length name ≤ 32)
name_some name h =
    let sizes = both _ _ (both _ _ (both _ _ h).0).0 in
    (some_bytes name (ltb-true 0 (length name) sizes.0), leb-true (length name) 32 sizes.1)

-- ---- addresses

digit_address : (d : ℕ) → digit_value d < 10 → is_address_byte d ≡ true
digit_address d h = grind (arith, nat_tests)

digits_address : (ds : List ℕ) → AllDigits 10 ds → list_all is_address_byte ds ≡ true
digits_address [] h = refl
digits_address (d ∷ ds) h = rw (digit_address d h.0, digits_address ds h.1) refl

decimal_address : (n : ℕ) → n < 256 → list_all is_address_byte (decimal n) ≡ true
decimal_address n small = digits_address (decimal n) (decimal_is_IsNumeral n (omega arith)).0.1

joined : (x y : List ℕ) → list_all is_address_byte x ≡ true → list_all is_address_byte y ≡ true → list_all is_address_byte (x ++ 46 ∷ y) ≡ true
joined x y h k = list_all-append is_address_byte x (46 ∷ y) ∙ rw (h, k) refl

quad_address : (a b c d : ℕ) → a < 256 → b < 256 → c < 256 → d < 256 → list_all is_address_byte (dotted (a ∷ b ∷ c ∷ d ∷ [])) ≡ true
quad_address a b c d sa sb sc sd =
    joined (decimal a) (decimal b ++ 46 ∷ (decimal c ++ 46 ∷ decimal d)) (decimal_address a sa)
    (joined (decimal b) (decimal c ++ 46 ∷ decimal d) (decimal_address b sb) (joined (decimal c) (decimal d) (decimal_address c sc) (decimal_address d sd)))

address_solid : (b : ℕ) → is_address_byte b ≡ true → is_solid b ≡ true
address_solid b h = grind (arith, nat_tests)

-- what is said of the text of four bytes
record IsQuad (addr : List ℕ) : Type 0 where
  token : IsToken (dotted addr)
  some : is_some_bytes (dotted addr) ≡ true
  short : length (dotted addr) ≤ 15
  read : quad_of (dotted addr) ≡ Some addr

joined_length : (x y : List ℕ) → length (x ++ 46 ∷ y) ≡ length x + (1 + length y)
joined_length x y = length-append x (46 ∷ y) ∙ omega arith

quad : (a b c d : ℕ) → a < 256 → b < 256 → c < 256 → d < 256 → IsQuad (a ∷ b ∷ c ∷ d ∷ [])
quad a b c d sa sb sc sd =
    let third = joined_length (decimal c) (decimal d) in
    let second = joined_length (decimal b) (decimal c ++ 46 ∷ decimal d) in
    let first : length (dotted (a ∷ b ∷ c ∷ d ∷ [])) ≡ length (decimal a) + (1 + length (decimal b ++ 46 ∷ (decimal c ++ 46 ∷ decimal d))) = joined_length (decimal a) (decimal b ++ 46 ∷ (decimal c ++ 46 ∷ decimal d)) in
    record {
      token = token_by is_address_byte address_solid (dotted (a ∷ b ∷ c ∷ d ∷ [])) (quad_address a b c d sa sb sc sd);
      some = some_bytes (dotted (a ∷ b ∷ c ∷ d ∷ [])) (omega (arith, first));
      short = omega (arith, first, second, third, octet_short a sa, octet_short b sb, octet_short c sc, octet_short d sd);
      read = quad_of-dotted a b c d sa sb sc sd;
    }

addr_quad : (addr : List ℕ) → length addr ≡ 4 → IsBytes addr → IsQuad addr
addr_quad [] len bytes = absurd (omega (arith, len))
addr_quad (a ∷ []) len bytes = absurd (omega (arith, len))
addr_quad (a ∷ b ∷ []) len bytes = absurd (omega (arith, len))
addr_quad (a ∷ b ∷ c ∷ []) len bytes = absurd (omega (arith, len))
addr_quad (a ∷ b ∷ c ∷ d ∷ []) len bytes = quad a b c d (bytes 0) (bytes 1) (bytes 2) (bytes 3)
addr_quad (a ∷ b ∷ c ∷ d ∷ e ∷ more) len bytes = absurd (omega (arith, len))

-- ---- names of hosts

-- what a host's name is
record IsHostText (name : List ℕ) : Type 0 where
  some : 0 < length name
  short : length name ≤ 255
  bytes : list_all is_name_byte name ≡ true
  other : list_all is_address_byte name ≡ false

not_true : (v : Bool) → not v ≡ true → v ≡ false
not_true true h = absurd (cc)
not_true false h = refl

host_name_is : (name : List ℕ) → IsTrue (is_host_name name) → IsHostText name
host_name_is name h =
    let p = both _ _ h in
    let q = both _ _ p.0 in
    let r = both _ _ q.0 in
    record { some = ltb-true 0 (length name) r.0; short = leb-true (length name) 255 r.1; bytes = q.1; other = not_true _ p.1 }

no_quad : (name : List ℕ) → IsTrue (is_host_name name) → quad_of name ≡ None
no_quad name h =
    quad_of-none name (λ addr d.
    let is = host_name_is name h in
    let text : name ≡ dotted (d.a ∷ d.b ∷ d.c ∷ d.d ∷ []) = d.spelled ∙ dotted_joined d.a d.b d.c d.d in
    let all : list_all is_address_byte name ≡ true = ap (list_all is_address_byte) text ∙ quad_address d.a d.b d.c d.d d.fit.0 d.fit.1 d.fit.2 d.fit.3 in
    let other = is.other in
    absurd (cc (all, other)))

name_read : (name : List ℕ) → IsTrue (is_host_name name) → str_to_ascii_lowercase name ≡ name → host_name_of name ≡ Some name
name_read name h lower = rw (h, lower) refl

by_quad : (addr : List ℕ) (x y : Option (List ℕ)) → x ≡ Some addr → host_by x y ≡ Some (hosts.Addr addr)
by_quad addr x y e = rw e refl

by_name : (name : List ℕ) (x y : Option (List ℕ)) → x ≡ None → y ≡ Some name → host_by x y ≡ Some (hosts.Name name)
by_name name x y e f = rw (e, f) refl

-- ---- hosts

pub host_read : (host : Host) → IsHost host → host_of (host_text host) ≡ Some host
host_read (hosts.Addr addr) is = by_quad addr (quad_of (dotted addr)) (host_name_of (dotted addr)) (addr_quad addr is.0 is.1).read
host_read (hosts.Name name) is = by_name name (quad_of name) (host_name_of name) (no_quad name is.0) (name_read name is.0 is.1)

pub host_token : (host : Host) → IsHost host → IsToken (host_text host)
host_token (hosts.Addr addr) is = (addr_quad addr is.0 is.1).token
host_token (hosts.Name name) is = token_by is_name_byte name_solid name (host_name_is name is.0).bytes

pub host_some : (host : Host) → IsHost host → is_some_bytes (host_text host) ≡ true
host_some (hosts.Addr addr) is = (addr_quad addr is.0 is.1).some
host_some (hosts.Name name) is = some_bytes name (host_name_is name is.0).some

pub host_short : (host : Host) → IsHost host → length (host_text host) ≤ 255
host_short (hosts.Addr addr) is = let short = (addr_quad addr is.0 is.1).short in omega (arith, short)
host_short (hosts.Name name) is = (host_name_is name is.0).short
