-- Readers of bytes and texts.
use Rattle.std.proofs.Common.{◌≡◌, ℕ, zero, suc, ◌+◌, ◌-◌, ◌<◌, ◌≤◌, Bool, true, false, ◌&&◌, cond, nat_le, nat_lt, lit<, List, [], ◌∷◌, ◌++◌, length, take, drop, Result, Ok, Err, refl, sym, ap, subst, ◌∙◌, length-append, length-drop, arith, ◌⊎◌, inl, inr}
use Rattle.std.specs.List.{prefix_len}
use Rattle.std.proofs.lemmas.Bool.{ltb-false, ltb-true, le-ltb}
use Rattle.std.proofs.lemmas.Bool.Decides.{nat_tests}
use Rattle.std.proofs.lemmas.List.{take_at, drop_at, take-append-drop}
use Rattle.std.proofs.lemmas.List.Sums.{prefix_len-le-length}
use Rattle.byte_reader.specs.Reading.{IsBytes, Read, byte_at, text_at, bytes_at}
use Rattle.byte_reader.specs.Exact.{Begins, StopsAtFirstBad, ReadsExactly, InRange, one, itself, Passes, IsTextOf, IsBytesOf}
use Rattle.byte_reader.proofs.ReaderLemmas.{ok_is, reads_same}

-- which way a test went
pub chosen : (A : Type 0) (b : Bool) (x y z : A) → cond b x y ≡ z → ((b ≡ true) × (x ≡ z)) ⊎ ((b ≡ false) × (y ≡ z))
chosen A true x y z e = inl (refl, e)
chosen A false x y z e = inr (refl, e)

abbrev ok : {X : Type 0} → X → Result X ℕ
ok x = Ok x

abbrev err : {X : Type 0} → ℕ → Result X ℕ
err left = Err left

pub err_is : (X : Type 0) (m n : ℕ) → err {X = X} m ≡ err n → m ≡ n
err_is X m n e = cc

-- ---- a byte

range_true : (least most b : ℕ) → (nat_le least b && nat_le b most) ≡ true → InRange least most b
range_true least most b h = (grind (arith, nat_tests), grind (arith, nat_tests))

true_range : (least most b : ℕ) → InRange least most b → (nat_le least b && nat_le b most) ≡ true
true_range least most b h = let low : least ≤ b = h.0 in let high : b ≤ most = h.1 in grind (arith, nat_tests)

byte_sound : (least most : ℕ) (bytes : List ℕ) (x : ℕ × List ℕ) → IsBytes bytes → byte_at least most bytes ≡ Ok x → InRange least most x.0 × (bytes ≡ one x.0 ++ x.1)
byte_sound least most [] x fits e = absurd cc
byte_sound least most (b ∷ rest) x fits e =
    elim (chosen (Read ℕ) (nat_le least b && nat_le b most) (Ok (b, rest)) (Err (length rest + 1)) (Ok x) e) [
      | inl h ↦
          let made : ℕ × List ℕ = (b, rest) in
          subst (λ (y : ℕ × List ℕ). InRange least most y.0 × (b ∷ rest ≡ one y.0 ++ y.1)) (ok_is (ℕ × List ℕ) made x h.1) (range_true least most b h.0, refl)
      | inr h ↦ absurd (cc (h.1))
    ]

byte_longest : (least most b : ℕ) (rest p q : List ℕ) → (nat_le least b && nat_le b most) ≡ false → b ∷ rest ≡ p ++ q → Begins ℕ (InRange least most) one p → length rest + 1 ≤ length q
byte_longest least most b rest [] q bad cut begun = omega (arith, ap length cut)
byte_longest least most b rest (c ∷ p) q bad cut begun =
    let first : begun.0 ≡ c = cc (begun.3) in
    let second : b ≡ c = cc in
    let same : begun.0 ≡ b = first ∙ sym second in
    let good = true_range least most b (subst (InRange least most) same begun.1) in
    absurd (cc (good, bad))

byte_stops : (least most : ℕ) → least ≤ most → (bytes : List ℕ) (left : ℕ) → IsBytes bytes → byte_at least most bytes ≡ Err left → StopsAtFirstBad ℕ (InRange least most) one bytes left
byte_stops least most le [] left fits e =
    let none : 0 ≡ left = err_is (ℕ × List ℕ) 0 left e in
    record {
      front = [];
      tail = [];
      parts = refl;
      len = none;
      begins = (least, (omega arith, le), one least, refl);
      longest = λ p q cut begun. omega (arith, none);
    }
byte_stops least most le (b ∷ rest) left fits e =
    elim (chosen (Read ℕ) (nat_le least b && nat_le b most) (Ok (b, rest)) (Err (length rest + 1)) (Err left) e) [
      | inl h ↦ absurd (cc (h.1))
      | inr h ↦
          let all : length rest + 1 ≡ left = err_is (ℕ × List ℕ) (length rest + 1) left h.1 in
          record {
            front = [];
            tail = b ∷ rest;
            parts = refl;
            len = omega (arith, all);
            begins = (least, (omega arith, le), one least, refl);
            longest = λ p q cut begun. omega (arith, all, byte_longest least most b rest p q h.0 cut begun);
          }
    ]

pub reads_byte : (least most : ℕ) → least ≤ most → ReadsExactly ℕ (byte_at least most) (InRange least most) one
reads_byte least most le = record {
  sound = byte_sound least most;
  again = λ b rest h. rw (true_range least most b h) refl;
  stops = byte_stops least most le;
  some = (least, (omega arith, le));
}

-- ---- a text

front_step : (test : ℕ → Bool) (n : ℕ) (b : ℕ) (rest : List ℕ) (v : Bool) → test b ≡ v → suc n ≤ cond v (1 + prefix_len test rest) 0 → (v ≡ true) × (n ≤ prefix_len test rest)
front_step test n b rest true h le = (refl, omega arith)
front_step test n b rest false h le = absurd (omega arith)

-- the front that passes
front_passes : (test : ℕ → Bool) (n : ℕ) (bytes : List ℕ) → IsBytes bytes → n ≤ prefix_len test bytes → IsTextOf test n (take n bytes)
front_passes test zero bytes fits le = record { len = refl; passes = tt; bytes = tt }
front_passes test (suc n) [] fits le = absurd (omega arith)
front_passes test (suc n) (b ∷ rest) fits le =
    let s = front_step test n b rest (test b) refl le in
    let t = front_passes test n rest fits.1 s.1 in
    record { len = ap suc t.len; passes = (s.0, t.passes); bytes = (fits.0, t.bytes) }

passes_front : (test : ℕ → Bool) (text rest : List ℕ) → Passes test text → length text ≤ prefix_len test (text ++ rest)
passes_front test [] rest h = omega arith
passes_front test (b ∷ text) rest h = let more = passes_front test text rest h.1 in rw h.0 (omega arith)

passes_append : (test : ℕ → Bool) (x y : List ℕ) → Passes test x → Passes test y → Passes test (x ++ y)
passes_append test [] y h k = k
passes_append test (b ∷ x) y h k = (h.0, passes_append test x y h.1 k)

passes_left : (test : ℕ → Bool) (x y : List ℕ) → Passes test (x ++ y) → Passes test x
passes_left test [] y h = tt
passes_left test (b ∷ x) y h = (h.0, passes_left test x y h.1)

bytes_append : (x y : List ℕ) → IsBytes x → IsBytes y → IsBytes (x ++ y)
bytes_append [] y h k = k
bytes_append (b ∷ x) y h k = (h.0, bytes_append x y h.1 k)

-- n times a byte that passes
filler : (test : ℕ → Bool) (c : ℕ) → test c ≡ true → c < 256 → (n : ℕ) → (text : List ℕ) × IsTextOf test n text
filler test c h lt zero = ([], record { len = refl; passes = tt; bytes = tt })
filler test c h lt (suc n) =
    let more = filler test c h lt n in
    (c ∷ more.0, record { len = ap suc more.1.len; passes = (h, more.1.passes); bytes = (lt, more.1.bytes) })

text_sound : (test : ℕ → Bool) (n : ℕ) (bytes : List ℕ) (x : List ℕ × List ℕ) → IsBytes bytes → text_at test n bytes ≡ Ok x → IsTextOf test n x.0 × (bytes ≡ itself x.0 ++ x.1)
text_sound test n bytes x fits e =
    elim (chosen (Read (List ℕ)) (nat_lt (prefix_len test bytes) n) (Err (length bytes - prefix_len test bytes)) (Ok (take n bytes, drop n bytes)) (Ok x) e) [
      | inl h ↦ absurd (cc (h.1))
      | inr h ↦
          let made : List ℕ × List ℕ = (take n bytes, drop n bytes) in
          let le : n ≤ prefix_len test bytes = ltb-false _ _ h.0 in
          subst (λ (y : List ℕ × List ℕ). IsTextOf test n y.0 × (bytes ≡ itself y.0 ++ y.1)) (ok_is (List ℕ × List ℕ) made x h.1) (front_passes test n bytes fits le, sym (take-append-drop n bytes))
    ]

text_again : (test : ℕ → Bool) (n : ℕ) (text rest : List ℕ) → IsTextOf test n text → text_at test n (itself text ++ rest) ≡ Ok (text, rest)
text_again test n text rest t =
    let len : length text ≡ n = t.len in
    let long : nat_lt (prefix_len test (text ++ rest)) n ≡ false = le-ltb _ _ (omega (arith, passes_front test text rest t.passes, len)) in
    rw (long, take_at text rest n len, drop_at text rest n len) refl

text_stops : (test : ℕ → Bool) (c : ℕ) → test c ≡ true → c < 256 → (n : ℕ) (bytes : List ℕ) (left : ℕ) → IsBytes bytes → text_at test n bytes ≡ Err left → StopsAtFirstBad (List ℕ) (IsTextOf test n) itself bytes left
text_stops test c passes small n bytes left fits e =
    elim (chosen (Read (List ℕ)) (nat_lt (prefix_len test bytes) n) (Err (length bytes - prefix_len test bytes)) (Ok (take n bytes, drop n bytes)) (Err left) e) [
      | inr h ↦ absurd (cc (h.1))
      | inl h ↦
          let k : ℕ = prefix_len test bytes in
          let lt : prefix_len test bytes < n = ltb-true _ _ h.0 in
          let within : prefix_len test bytes ≤ length bytes = prefix_len-le-length test bytes in
          let all : length bytes - prefix_len test bytes ≡ left = err_is (List ℕ × List ℕ) (length bytes - prefix_len test bytes) left h.1 in
          let good = front_passes test (prefix_len test bytes) bytes fits (omega arith) in
          let more = filler test c passes small (n - prefix_len test bytes) in
          let text : List ℕ = take (prefix_len test bytes) bytes ++ more.0 in
          let is : IsTextOf test n (take (prefix_len test bytes) bytes ++ more.0) = record {
            len = omega (arith, length-append (take (prefix_len test bytes) bytes) more.0, good.len, more.1.len);
            passes = passes_append test (take (prefix_len test bytes) bytes) more.0 good.passes more.1.passes;
            bytes = bytes_append (take (prefix_len test bytes) bytes) more.0 good.bytes more.1.bytes;
          } in
          record {
            front = take (prefix_len test bytes) bytes;
            tail = drop (prefix_len test bytes) bytes;
            parts = sym (take-append-drop (prefix_len test bytes) bytes);
            len = omega (arith, length-drop (prefix_len test bytes) bytes, all);
            begins = (text, is, more.0, refl);
            longest = λ p q cut begun.
                let front : Passes test p = passes_left test p begun.2 (subst (Passes test) begun.3 begun.1.passes) in
                let le : length p ≤ prefix_len test bytes = subst (λ (w : List ℕ). length p ≤ prefix_len test w) (sym cut) (passes_front test p q front) in
                omega (arith, all, ap length cut, length-append p q, le);
          }
    ]

pub reads_text : (test : ℕ → Bool) (c : ℕ) → test c ≡ true → c < 256 → (n : ℕ) → ReadsExactly (List ℕ) (text_at test n) (IsTextOf test n) itself
reads_text test c passes small n = record {
  sound = text_sound test n;
  again = text_again test n;
  stops = text_stops test c passes small n;
  some = filler test c passes small n;
}

-- ---- so many bytes

abbrev any : ℕ → Bool
any b = true

any_len : (bytes : List ℕ) → prefix_len any bytes ≡ length bytes
any_len [] = refl
any_len (b ∷ bytes) = let more = any_len bytes in omega (arith, more)

any_passes : (text : List ℕ) → Passes any text
any_passes [] = tt
any_passes (b ∷ text) = (refl, any_passes text)

same_any : (n : ℕ) (bytes : List ℕ) → bytes_at n bytes ≡ text_at any n bytes
same_any n bytes =
    let none : length bytes - length bytes ≡ 0 = omega arith in
    rw (any_len bytes, none) refl

pub reads_bytes : (n : ℕ) → ReadsExactly (List ℕ) (bytes_at n) (IsBytesOf n) itself
reads_bytes n =
    let texts : ReadsExactly (List ℕ) (bytes_at n) (IsTextOf any n) itself = reads_same (List ℕ) (text_at any n) (bytes_at n) (IsTextOf any n) itself (same_any n) (reads_text any 0 refl (lit< tt) n) in
    record {
      sound = λ bytes x fits e.
          let t = texts.sound bytes x fits e in
          (record { len = t.0.len; bytes = t.0.bytes }, t.1);
      again = λ text rest t. texts.again text rest (record { len = t.len; passes = any_passes text; bytes = t.bytes });
      stops = λ bytes left fits e.
          let s = texts.stops bytes left fits e in
          record {
            front = s.front;
            tail = s.tail;
            parts = s.parts;
            len = s.len;
            begins = (s.begins.0, record { len = s.begins.1.len; bytes = s.begins.1.bytes }, s.begins.2, s.begins.3);
            longest = λ p q cut begun. s.longest p q cut (begun.0, record { len = begun.1.len; passes = any_passes begun.0; bytes = begun.1.bytes }, begun.2, begun.3);
          };
      some = (texts.some.0, record { len = texts.some.1.len; bytes = texts.some.1.bytes });
    }
