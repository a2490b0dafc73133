-- What hexadecimal digits are as a number.
use Rattle.std.proofs.Common.{◌≡◌, ℕ, ◌+◌, ◌*◌, Bool, true, false, ◌&&◌, cond, nat_eq, List, [], ◌∷◌, length, Option, Some, None, unwrap_or, Result, Ok, Err, refl, sym, ap, subst, ◌∙◌, arith}
use Rattle.std.specs.Prelude.{IsOk, MatchResult, IsSome, ◌↔◌, fold}
use Rattle.std.specs.List.{list_all, AllPass}
use Rattle.std.specs.Int.{w64, from_be_bytes}
use Rattle.std.proofs.lemmas.Bool.{eqb-true, eq-eqb}
use Rattle.std.proofs.lemmas.List.Sums.{AllPass-from_list_all, list_all-from_AllPass}
use Rattle.hex.specs.Hex.{decode_of, decode_pairs, decode_sized, digit_or_error, hex_digit_value, is_hex_digit, pair_value, value_at, ◌>>=◌}
use Rattle.hex.specs.declared.error.FromHexError.{FromHexError}
use Rattle.hex.proofs.HexLemmas.{decode_of-even, decode_of-ok, decode_sized-ok, decode_sized-twice, IsOk-decode_sized}
use Rattle.otp_md5.specs.Hexadecimal.{are_digits, hex_number_of, hex_word_of}

abbrev digit_step : ℕ → ℕ → ℕ
digit_step n digit = 16 * n + unwrap_or (hex_digit_value digit) 0

abbrev byte_step : ℕ → ℕ → ℕ
byte_step n byte = 256 * n + byte

bind_ok : (A B : Type 0) (r : Result A FromHexError) (f : A → Result B FromHexError) (y : B) → (r >>= f) ≡ Ok y → (x : A) × (r ≡ Ok x) × (f x ≡ Ok y)
bind_ok A B (Ok x) f y e = (x, refl, e)
bind_ok A B (Err d) f y e = absurd cc

value_is : (c v i : ℕ) (o : Option ℕ) → digit_or_error c i o ≡ Ok v → unwrap_or o 0 ≡ v
value_is c v i (Some w) e = cc
value_is c v i None e = absurd cc

-- two digits are one byte
pair_is : (n a b i v : ℕ) → pair_value a b i ≡ Ok v → digit_step (digit_step n a) b ≡ byte_step n v
pair_is n a b i v e =
    let h = bind_ok ℕ ℕ (value_at a i) (λ h. value_at b (i + 1) >>= λ l. Ok (h * 16 + l)) v e in
    let l = bind_ok ℕ ℕ (value_at b (i + 1)) (λ l. Ok (h.0 * 16 + l)) v h.2 in
    let high : unwrap_or (hex_digit_value a) 0 ≡ h.0 = value_is a h.0 i (hex_digit_value a) h.1 in
    let low : unwrap_or (hex_digit_value b) 0 ≡ l.0 = value_is b l.0 (i + 1) (hex_digit_value b) l.1 in
    let sum : h.0 * 16 + l.0 ≡ v = cc (l.2) in
    omega (arith, high, low, sum)

pairs_are : (i : ℕ) (s bytes : List ℕ) (n : ℕ) → decode_pairs i s ≡ Ok bytes → fold digit_step n s ≡ fold byte_step n bytes
unfolding decode_pairs
pairs_are i [] bytes n e = let same : [] ≡ bytes = cc in ap (fold byte_step n) same
pairs_are i (a ∷ []) bytes n e = absurd cc
pairs_are i (a ∷ b ∷ rest) bytes n e =
    let p = bind_ok ℕ (List ℕ) (pair_value a b i) (λ byte. decode_pairs (i + 2) rest >>= λ more. Ok (byte ∷ more)) bytes e in
    let q = bind_ok (List ℕ) (List ℕ) (decode_pairs (i + 2) rest) (λ more. Ok (p.0 ∷ more)) bytes p.2 in
    let same : p.0 ∷ q.0 ≡ bytes = cc (q.2) in
    let front : digit_step (digit_step n a) b ≡ byte_step n p.0 = pair_is n a b i p.0 p.1 in
    ap (λ (m : ℕ). fold digit_step m rest) front ∙ pairs_are (i + 2) rest q.0 (byte_step n p.0) q.1 ∙ ap (fold byte_step n) same

eight_are : (bytes : List ℕ) → length bytes ≡ 8 → fold byte_step 0 bytes ≡ from_be_bytes w64 bytes
eight_are [] h = omega arith
eight_are (a ∷ []) h = omega arith
eight_are (a ∷ b ∷ []) h = omega arith
eight_are (a ∷ b ∷ c ∷ []) h = omega arith
eight_are (a ∷ b ∷ c ∷ d ∷ []) h = omega arith
eight_are (a ∷ b ∷ c ∷ d ∷ e ∷ []) h = omega arith
eight_are (a ∷ b ∷ c ∷ d ∷ e ∷ f ∷ []) h = omega arith
eight_are (a ∷ b ∷ c ∷ d ∷ e ∷ f ∷ g ∷ []) h = omega arith
eight_are (a ∷ b ∷ c ∷ d ∷ e ∷ f ∷ g ∷ i ∷ []) h = omega arith
eight_are (a ∷ b ∷ c ∷ d ∷ e ∷ f ∷ g ∷ i ∷ j ∷ rest) h = omega arith

decoded_is : (s bytes : List ℕ) → decode_sized s 8 ≡ Ok bytes → (are_digits s ≡ true) × (hex_number_of s ≡ from_be_bytes w64 bytes)
decoded_is s bytes e =
    let len : length s ≡ 16 = decode_sized-ok s 8 bytes e in
    let whole : decode_of s ≡ Ok bytes = sym (decode_sized-twice s 8 len) ∙ e in
    let ok = decode_of-ok s bytes whole in
    let eight : length bytes ≡ 8 = omega (arith, ok.2, len) in
    let pairs : decode_pairs 0 s ≡ Ok bytes = sym (decode_of-even s ok.0) ∙ whole in
    let digits : list_all is_hex_digit s ≡ true = list_all-from_AllPass is_hex_digit s ok.1 in
    let sixteen : nat_eq (length s) 16 ≡ true = eq-eqb (length s) 16 len in
    (rw (sixteen, digits) refl, pairs_are 0 s bytes 0 pairs ∙ eight_are bytes eight)

and_both : (a b : Bool) → (a && b) ≡ true → (a ≡ true) × (b ≡ true)
and_both true b h = (refl, h)
and_both false b h = absurd cc

digits_are : (s : List ℕ) → are_digits s ≡ true → (length s ≡ 16) × AllPass is_hex_digit s
digits_are s h =
    let parts = and_both (nat_eq (length s) 16) (list_all is_hex_digit s) h in
    (eqb-true (length s) 16 parts.0, AllPass-from_list_all is_hex_digit s parts.1)

are_digits_from : (s : List ℕ) → length s ≡ 16 → AllPass is_hex_digit s → are_digits s ≡ true
are_digits_from s len digits = rw (eq-eqb (length s) 16 len, list_all-from_AllPass is_hex_digit s digits) refl

-- a text that isn't decoded is no digits
refused_is : (s : List ℕ) (e : FromHexError) (b : Bool) → are_digits s ≡ b → decode_sized s 8 ≡ Err e → b ≡ false
refused_is s e false h refused = refl
refused_is s e true h refused =
    let digits = digits_are s h in
    let fine : IsOk (decode_sized s 8) = (IsOk-decode_sized s 8).1 digits in
    let P : Result (List ℕ) FromHexError → Type 0 = λ r. IsOk r in
    let bad = subst P refused fine in
    absurd (cc (bad))

-- what a slice's decoding shows of the text
pub decoded_word : (s out : List ℕ) (d : Result (List ℕ) FromHexError) (r : Result Unit FromHexError) → decode_sized s 8 ≡ d → MatchResult d (λ bytes. (r ≡ Ok tt) × (out ≡ bytes)) (λ e. r ≡ Err e) → r ≡ Ok tt → hex_word_of s ≡ Some (from_be_bytes w64 out)
decoded_word s out (Ok bytes) r e told fine =
    let is = decoded_is s bytes e in
    rw (is.0, is.1, told.1) refl
decoded_word s out (Err bad) r e told fine = absurd (cc (told, fine))

pub refused_word : (s out : List ℕ) (d : Result (List ℕ) FromHexError) (r : Result Unit FromHexError) (bad : FromHexError) → decode_sized s 8 ≡ d → MatchResult d (λ bytes. (r ≡ Ok tt) × (out ≡ bytes)) (λ e. r ≡ Err e) → r ≡ Err bad → hex_word_of s ≡ None
refused_word s out (Ok bytes) r bad e told refused = absurd (cc (told.0, refused))
refused_word s out (Err other) r bad e told refused = rw (refused_is s other (are_digits s) refl e) refl

-- which texts are a password
some_true : (b : Bool) (n : ℕ) (r : Option ℕ) → r ≡ cond b (Some n) None → IsSome r → b ≡ true
some_true true n r e h = refl
some_true false n r e h =
    let P : Option ℕ → Type 0 = λ o. IsSome o in
    let none = subst P e h in
    absurd (cc (none))

true_some : (b : Bool) (n : ℕ) (r : Option ℕ) → r ≡ cond b (Some n) None → b ≡ true → IsSome r
true_some true n r e h = rw e refl
true_some false n r e h = absurd cc

pub some_word : (s : List ℕ) (r : Option ℕ) → r ≡ hex_word_of s → IsSome r ↔ ((length s ≡ 16) × AllPass is_hex_digit s)
some_word s r e = (λ h. digits_are s (some_true (are_digits s) (hex_number_of s) r e h), λ h. true_some (are_digits s) (hex_number_of s) r e (are_digits_from s h.0 h.1))
