-- What is written of a request is read as that request.
use Rattle.std.proofs.Common.{◌≡◌, ℕ, zero, suc, ◌+◌, ◌<◌, ◌≤◌, ◌^◌, Bool, true, false, List, [], ◌∷◌, ◌++◌, length, refl, ap, subst, ◌∙◌, append_assoc, length-append, arith}
use Rattle.std.specs.Prelude.{IsTrue, IfSome, not, nat_lt, filter, Option, Some, None, Ok, codes, is_some, unwrap_or, slice_index}
use Rattle.std.specs.Int.{w64, to_be_bytes}
use Rattle.std.specs.List.{list_all, slice_split, onto_first}
use Rattle.std.specs.Result.{result_ok}
use Rattle.std.proofs.lemmas.Bool.{le-ltb}
use Rattle.std.proofs.lemmas.Bool.Decides.{nat_tests}
use Rattle.std.proofs.lemmas.List.{append-nil}
use Rattle.std.proofs.lemmas.List.Sums.{list_all-from_AllPass}
use Rattle.std.proofs.lemmas.List.Splits.{slice_split-cons_yes, slice_split-cons_no}
use Rattle.std.proofs.lemmas.Nat.{from_be_bytes-to_be_bytes_8}
use Rattle.hex.specs.Hex.{IsBytes, encode_lower, is_hex_digit, lower_digits}
use Rattle.hex.proofs.HexLemmas.{decode_of-encode_lower, decode_of-ok, decode_sized-encode_lower, length-encode_with}
use Rattle.fw_types.specs.Host.{host_of, host_text}
use Rattle.fw_types.specs.Name.{is_name}
use Rattle.fw_types.specs.declared.host.Host.{Host}
use Rattle.otp_md5.specs.Hexadecimal.{is_blank, read_of, unblanked, hex_word_of}
use Rattle.otp_md5.proofs.DigitLemmas.{decoded_word}
use Rattle.auth_events.specs.declared.request.OpService.{OpService}
use Rattle.auth_events.specs.declared.request.OpService.TheVariants as services
use Rattle.auth_events.specs.declared.request.Request.{Request}
use Rattle.auth_events.specs.declared.request.Request.TheVariants as requests
use Rattle.authsrv_lines.specs.declared.wire.Wire.TheVariants as wires
use Rattle.authsrv_lines.specs.Command.{named_of, other_of, wire_command_of}
use Rattle.authsrv_lines.specs.Request.{ReadRequest, by_command, digest_word, hash_of, request_of}
use Rattle.authsrv_lines.specs.RequestLine.{IsAsked, IsHash, IsHost, request_line, service_text, wire_of, word_text}
use Rattle.authsrv_lines.specs.Words.{after_word, is_some_bytes, words}
use Rattle.authsrv_lines.proofs.SpaceLemmas.{both}
use Rattle.authsrv_lines.proofs.HostLemmas.{IsToken, host_read, host_short, host_some, host_token, is_solid, name_some, name_token, token_by}

-- ---- the words of a text

solid_is : (b : ℕ) → is_solid b ≡ true → is_blank b ≡ false
solid_is b h = by (is_blank b) h
  where
    by : (v : Bool) → not v ≡ true → v ≡ false
    by true k = absurd (cc)
    by false k = refl

split_word : (w rest : List ℕ) → IsToken w → slice_split is_blank (w ++ 32 ∷ rest) ≡ w ∷ slice_split is_blank rest
split_word [] rest h = slice_split-cons_yes is_blank 32 rest refl
split_word (b ∷ w) rest h =
    let p = both (is_solid b) (list_all is_solid w) h in
    slice_split-cons_no is_blank b (w ++ 32 ∷ rest) (solid_is b p.0) ∙ ap (onto_first b) (split_word w rest p.1)

split_last : (w : List ℕ) → IsToken w → slice_split is_blank w ≡ w ∷ []
split_last [] h = refl
split_last (b ∷ w) h =
    let p = both (is_solid b) (list_all is_solid w) h in
    slice_split-cons_no is_blank b w (solid_is b p.0) ∙ ap (onto_first b) (split_last w p.1)

kept : (w : List ℕ) (more : List (List ℕ)) → is_some_bytes w ≡ true → filter is_some_bytes (w ∷ more) ≡ w ∷ filter is_some_bytes more
kept w more h = rw h refl

first_word : (w rest : List ℕ) → IsToken w → is_some_bytes w ≡ true → words (w ++ 32 ∷ rest) ≡ w ∷ words rest
unfolding words
first_word w rest h k = ap (filter is_some_bytes) (split_word w rest h) ∙ kept w (slice_split is_blank rest) k

last_word : (w : List ℕ) → IsToken w → is_some_bytes w ≡ true → words w ≡ w ∷ []
unfolding words
last_word w h k = ap (filter is_some_bytes) (split_last w h) ∙ kept w [] k

two_words : (v w : List ℕ) → IsToken v → is_some_bytes v ≡ true → IsToken w → is_some_bytes w ≡ true → words (v ++ 32 ∷ w) ≡ v ∷ w ∷ []
two_words v w hv kv hw kw = first_word v w hv kv ∙ ap (λ ws. v ∷ ws) (last_word w hw kw)

-- what a line of at most 512 bytes asks for, by its words
by_line : (line word : List ℕ) (parts : List (List ℕ)) (answer : ReadRequest) → length line ≤ 512 → words line ≡ word ∷ parts → by_command (wire_command_of word) parts (after_word line) ≡ answer → request_of line ≡ answer
by_line line word parts answer short is asked =
    let fits : nat_lt 512 (length line) ≡ false = le-ltb 512 (length line) short in
    rw (fits, is) asked

-- ---- digits

hex_solid : (b : ℕ) → is_hex_digit b ≡ true → is_solid b ≡ true
hex_solid b h = grind (arith, nat_tests)

hex_token : (bytes : List ℕ) → IsBytes bytes → IsToken (encode_lower bytes)
hex_token bytes fits =
    let ok = decode_of-ok (encode_lower bytes) bytes (decode_of-encode_lower bytes fits) in
    token_by is_hex_digit hex_solid (encode_lower bytes) (list_all-from_AllPass is_hex_digit (encode_lower bytes) ok.1)

hex_some : (bytes : List ℕ) → 0 < length bytes → is_some_bytes (encode_lower bytes) ≡ true
hex_some bytes h = let len = length-encode_with lower_digits bytes in grind (arith, nat_tests)

hash_read : (hash : List ℕ) → IsHash hash → hash_of (encode_lower hash) ≡ Some hash
hash_read hash fits = ap result_ok (decode_sized-encode_lower hash 16 fits.0 fits.1)

unblanked_same : (w : List ℕ) → IsToken w → unblanked w ≡ w
unblanked_same [] h = refl
unblanked_same (b ∷ w) h =
    let p = both (is_solid b) (list_all is_solid w) h in
    rw p.0 (ap (λ v. b ∷ v) (unblanked_same w p.1))

long_bytes : (n i : ℕ) → slice_index (to_be_bytes w64 n) i < 256
long_bytes n zero = omega arith
long_bytes n (suc zero) = omega arith
long_bytes n (suc (suc zero)) = omega arith
long_bytes n (suc (suc (suc zero))) = omega arith
long_bytes n (suc (suc (suc (suc zero)))) = omega arith
long_bytes n (suc (suc (suc (suc (suc zero))))) = omega arith
long_bytes n (suc (suc (suc (suc (suc (suc zero)))))) = omega arith
long_bytes n (suc (suc (suc (suc (suc (suc (suc zero))))))) = omega arith
long_bytes n (suc (suc (suc (suc (suc (suc (suc (suc i)))))))) = omega arith

word_read : (word : ℕ) → word < 2 ^ 64 → read_of (encode_lower (to_be_bytes w64 word)) ≡ Some word
unfolding read_of
word_read word small =
    let bytes = to_be_bytes w64 word in
    let token = hex_token bytes (long_bytes word) in
    let decoded = decode_sized-encode_lower bytes 8 refl (long_bytes word) in
    ap hex_word_of (unblanked_same (encode_lower bytes) token)
    ∙ decoded_word (encode_lower bytes) bytes (Ok bytes) (Ok tt) decoded (refl, refl) refl
    ∙ ap (λ (n : ℕ). Some n) (from_be_bytes-to_be_bytes_8 word small)

-- ---- the lines

some_is : (x y : List ℕ) → Some x ≡ Some y → x ≡ y
some_is x y e = cc

name_line : (name : List ℕ) → IsTrue (is_name name) → request_of (codes "authenticate " ++ name) ≡ Ok (wires.Ask (requests.Authenticate name))
unfolding named_of
name_line name is =
    let short = length-append (codes "authenticate ") name in
    by_line (codes "authenticate " ++ name) (codes "authenticate") (name ∷ []) (Ok (wires.Ask (requests.Authenticate name)))
    (let few = (name_some name is).1 in omega (arith, short, few))
    (two_words (codes "authenticate") name refl refl (name_token name is) (name_some name is).0)
    (rw is refl)

digest_line : (hash : List ℕ) → IsHash hash → request_of (codes "digest " ++ encode_lower hash) ≡ Ok (wires.Ask (requests.Response hash None))
unfolding named_of other_of
digest_line hash is =
    let digits = encode_lower hash in
    let len = length-encode_with lower_digits hash in
    let short = length-append (codes "digest ") digits in
    by_line (codes "digest " ++ digits) (codes "digest") (digits ∷ []) (Ok (wires.Ask (requests.Response hash None)))
    (omega (arith, short, len, is.0))
    (two_words (codes "digest") digits refl refl (hex_token hash is.1) (hex_some hash (omega (arith, is.0))))
    (rw (hash_read hash is) refl)

digest_both : (hash : List ℕ) (word : ℕ) (x : Option (List ℕ)) (y : Option ℕ) → x ≡ Some hash → y ≡ Some word → digest_word x y ≡ Ok (wires.Ask (requests.Response hash (Some word)))
digest_both hash word x y e f = rw (e, f) refl

word_line : (hash : List ℕ) (word : ℕ) → IsHash hash → word < 2 ^ 64 → request_of (codes "digest " ++ encode_lower hash ++ (codes " " ++ encode_lower (to_be_bytes w64 word))) ≡ Ok (wires.Ask (requests.Response hash (Some word)))
unfolding named_of other_of
word_line hash word is small =
    let digits = encode_lower hash in
    let bytes = to_be_bytes w64 word in
    let more = encode_lower bytes in
    let len = length-encode_with lower_digits hash in
    let more_len = length-encode_with lower_digits bytes in
    let eight : length bytes ≡ 8 = refl in
    let tail : length (digits ++ 32 ∷ more) ≡ length digits + (1 + length more) = length-append digits (32 ∷ more) ∙ omega arith in
    let short : length (codes "digest " ++ (digits ++ 32 ∷ more)) ≡ 7 + length (digits ++ 32 ∷ more) = length-append (codes "digest ") (digits ++ 32 ∷ more) ∙ omega arith in
    ap request_of (append_assoc (codes "digest ") digits (codes " " ++ more))
    ∙ by_line (codes "digest " ++ (digits ++ 32 ∷ more)) (codes "digest") (digits ∷ more ∷ []) (Ok (wires.Ask (requests.Response hash (Some word))))
    (omega (arith, short, tail, len, more_len, eight, is.0))
    (first_word (codes "digest") (digits ++ 32 ∷ more) refl refl ∙ ap (λ ws. codes "digest" ∷ ws) (two_words digits more (hex_token hash is.1) (hex_some hash (omega (arith, is.0))) (hex_token bytes (long_bytes word)) (hex_some bytes (omega (arith, eight)))))
    (digest_both hash word _ _ (hash_read hash is) (word_read word small))

-- a service is one word, which names it
record IsServiceText (service : OpService) (text : List ℕ) : Type 0 where
  short : length text ≤ 9
  token : IsToken text
  some : is_some_bytes text ≡ true
  reads : (host : List ℕ) (h : Host) → host_of host ≡ Some h → (rest : List ℕ) → by_command (wire_command_of (codes "operation")) (text ∷ host ∷ []) rest ≡ Ok (wires.Ask (requests.Operation service h))

service_is : (service : OpService) → IsServiceText service (service_text service)
unfolding named_of other_of
service_is services.Telnet = record { short = omega arith; token = refl; some = refl; reads = λ host h e rest. rw e refl }
service_is services.Rlogin = record { short = omega arith; token = refl; some = refl; reads = λ host h e rest. rw e refl }
service_is services.Ftp = record { short = omega arith; token = refl; some = refl; reads = λ host h e rest. rw e refl }

operation_line : (service : OpService) (host : Host) → IsHost host → request_of (codes "operation " ++ service_text service ++ codes " " ++ host_text host) ≡ Ok (wires.Ask (requests.Operation service host))
operation_line service host is =
    let s = service_text service in
    let h = host_text host in
    let of = service_is service in
    let few = host_short host is in
    let tail : length (s ++ 32 ∷ h) ≡ length s + (1 + length h) = length-append s (32 ∷ h) ∙ omega arith in
    let short : length (codes "operation " ++ (s ++ 32 ∷ h)) ≡ 10 + length (s ++ 32 ∷ h) = length-append (codes "operation ") (s ++ 32 ∷ h) ∙ omega arith in
    let parts : codes "operation " ++ s ++ codes " " ++ h ≡ codes "operation " ++ (s ++ 32 ∷ h) = append_assoc (codes "operation " ++ s) (codes " ") h ∙ append_assoc (codes "operation ") s (32 ∷ h) in
    ap request_of parts
    ∙ by_line (codes "operation " ++ (s ++ 32 ∷ h)) (codes "operation") (s ∷ h ∷ []) (Ok (wires.Ask (requests.Operation service host)))
    (omega (arith, short, tail, few, of.short))
    (first_word (codes "operation") (s ++ 32 ∷ h) refl refl ∙ ap (λ ws. codes "operation" ∷ ws) (two_words s h of.token of.some (host_token host is) (host_some host is)))
    (of.reads h host (host_read host is) (after_word (codes "operation " ++ (s ++ 32 ∷ h))))

quit_line : request_of (codes "quit") ≡ Ok wires.Quit
unfolding named_of other_of
quit_line = by_line (codes "quit") (codes "quit") [] (Ok wires.Quit) (omega arith) (last_word (codes "quit") refl refl) refl

response_line : (hash : List ℕ) (word : Option ℕ) → IsHash hash → IfSome word (λ w. w < 2 ^ 64) → request_of (codes "digest " ++ encode_lower hash ++ word_text word) ≡ Ok (wires.Ask (requests.Response hash word))
response_line hash None is small = ap request_of (append-nil (codes "digest " ++ encode_lower hash)) ∙ digest_line hash is
response_line hash (Some word) is small = word_line hash word is small

-- what is written of a request is read as it
pub line_read : (request : Request) → IsAsked request → (line : List ℕ) → request_line request ≡ Some line → request_of line ≡ Ok (wire_of request)
unfolding request_line
line_read (requests.Authenticate name) is line e = subst (λ text. request_of text ≡ Ok (wires.Ask (requests.Authenticate name))) (some_is (codes "authenticate " ++ name) line e) (name_line name is)
line_read (requests.Response hash word) is line e = subst (λ text. request_of text ≡ Ok (wires.Ask (requests.Response hash word))) (some_is (codes "digest " ++ encode_lower hash ++ word_text word) line e) (response_line hash word is.0 is.1)
line_read (requests.Operation service host) is line e = subst (λ text. request_of text ≡ Ok (wires.Ask (requests.Operation service host))) (some_is (codes "operation " ++ service_text service ++ codes " " ++ host_text host) line e) (operation_line service host is)
line_read requests.Close is line e = subst (λ text. request_of text ≡ Ok wires.Quit) (some_is (codes "quit") line e) quit_line
line_read (requests.Open console) is line e = absurd (cc (e))
line_read (requests.Adduser name long) is line e = absurd (cc (e))
line_read (requests.Deluser name) is line e = absurd (cc (e))
line_read (requests.Enable name) is line e = absurd (cc (e))
line_read (requests.Disable name) is line e = absurd (cc (e))
line_read (requests.Group name group) is line e = absurd (cc (e))
line_read (requests.Proto name proto) is line e = absurd (cc (e))
line_read (requests.Password name salt hash) is line e = absurd (cc (e))
line_read (requests.Otp name number word_seed kept) is line e = absurd (cc (e))
line_read (requests.Wiz name) is line e = absurd (cc (e))
line_read (requests.Unwiz name) is line e = absurd (cc (e))
line_read (requests.Superwiz name) is line e = absurd (cc (e))
line_read (requests.Expire name until) is line e = absurd (cc (e))
line_read (requests.Display name) is line e = absurd (cc (e))
line_read (requests.List after) is line e = absurd (cc (e))

-- the same of what a buffer holds, where the request has a line
pub line_reads : (request : Request) (text : List ℕ) (told : Bool) → IsAsked request → told ≡ is_some (request_line request) → text ≡ unwrap_or (request_line request) [] → IsTrue told → request_of text ≡ Ok (wire_of request)
line_reads request text told is e t yes_ = by (request_line request) refl
  where
    by : (o : Option (List ℕ)) → request_line request ≡ o → request_of text ≡ Ok (wire_of request)
    by None line = let clash : told ≡ false = e ∙ ap (λ (o : Option (List ℕ)). is_some o) line in absurd (cc (clash, yes_))
    by (Some own) line =
        let same : text ≡ own = t ∙ ap (λ (o : Option (List ℕ)). unwrap_or o []) line in
        ap request_of same ∙ line_read request is own line
