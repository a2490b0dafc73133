-- Hexadecimal digits in groups.
use Rattle.std.proofs.Common.{◌≡◌, ℕ, ◌/◌, ◌%◌, ◌<◌, ◌^◌, List, [], ◌∷◌, ◌++◌, refl, ap, arith, append_assoc}
use Rattle.otp_words.specs.Groups.{group_of, groups_of, hex_digit}
use Rattle.otp_words.specs.SixWords.{digits}

four_digits : (base n : ℕ) → digits base 4 n ≡ (n / base / base / base % base) ∷ (n / base / base % base) ∷ (n / base % base) ∷ (n % base) ∷ []
unfolding digits
four_digits base n = refl

top_digit : (n : ℕ) → n < 65536 → n / 16 / 16 / 16 % 16 ≡ n / 16 / 16 / 16
top_digit n small = omega arith

top_group : (n : ℕ) → n < 2 ^ 64 → n / 65536 / 65536 / 65536 % 65536 ≡ n / 65536 / 65536 / 65536
top_group n small = omega arith

pub group_pushed : (out : List ℕ) (n a b c d : ℕ) → n < 65536 → a ≡ hex_digit (n / 16 / 16 / 16) → b ≡ hex_digit (n / 16 / 16 % 16) → c ≡ hex_digit (n / 16 % 16) → d ≡ hex_digit (n % 16)
    → (((out ++ a ∷ []) ++ b ∷ []) ++ c ∷ []) ++ d ∷ [] ≡ out ++ group_of n
group_pushed out n a b c d small ha hb hc hd =
    simp append_assoc (ap (λ ds. out ++ ds) (rw (ha, hb, hc, hd, four_digits 16 n, top_digit n small) refl))

pub groups_pushed : (out : List ℕ) (n : ℕ) → n < 2 ^ 64
    → ((((((out ++ group_of (n / 65536 / 65536 / 65536)) ++ 32 ∷ []) ++ group_of (n / 65536 / 65536 % 65536)) ++ 32 ∷ []) ++ group_of (n / 65536 % 65536)) ++ 32 ∷ []) ++ group_of (n % 65536) ≡ out ++ groups_of n
unfolding groups_of
groups_pushed out n small = simp append_assoc (ap (λ ds. out ++ ds) (rw (four_digits 65536 n, top_group n small) refl))
