-- Readers of names, long names, groups and seeds.
use Rattle.std.proofs.Common.{◌≡◌, ℕ, ◌<◌, ◌≤◌, Bool, true, false, ◌&&◌, not, nat_le, nat_lt, nat_eq, lit<, lit≤, IsTrue, List, [], ◌∷◌, length, get_or, Bor, Option, Some, None, Result, Ok, Err, refl, arith}
use Rattle.std.specs.Prelude.{IfOk}
use Rattle.std.specs.List.{list_all}
use Rattle.std.specs.Str.{bytes_eq}
use Rattle.std.proofs.lemmas.Bool.Decides.{nat_tests}
use Rattle.fw_types.specs.Bytes.{is_name_byte}
use Rattle.fw_types.specs.Name.{is_name}
use Rattle.byte_reader.specs.Reading.{Read, counted_at, IsReadAs}
use Rattle.byte_reader.specs.Exact.{with_length, ReadsExactly, Passes, IsTextWithin, HasBytes}
use Rattle.byte_reader.proofs.ReaderLemmas.{reads_same, through, reads_through}
use Rattle.byte_reader.proofs.CountedLemmas.{reads_counted}
use Rattle.byte_reader.proofs.NumberLemmas.{all_bytes}
use Rattle.byte_reader.specs.declared.stop.Stop.{Stop}
use Rattle.auth_records.specs.Texts.{is_printable, is_long_name, is_seed_byte, is_seed}
use Rattle.auth_records.specs.Spelling.{IsGroup, or_empty}
use Rattle.auth_records.specs.Reading.{name_byte, name_at, long_at, group_at, group_of, seed_at}
use Rattle.auth_records.proofs.SeedLemmas.{and_both, and_all}

-- ---- tests of whole texts

pub all_is : (test : ℕ → Bool) (text : List ℕ) → list_all test text ≡ true → Passes test text
all_is test [] h = tt
all_is test (b ∷ text) h = let both = and_both (test b) (list_all test text) h in (both.0, all_is test text both.1)

pub is_all : (test : ℕ → Bool) (text : List ℕ) → Passes test text → list_all test text ≡ true
is_all test [] h = refl
is_all test (b ∷ text) h = rw (h.0, is_all test text h.1) refl

-- ---- long names

long_has : HasBytes (λ n. is_printable)
long_has = record {
  some = 97;
  small = lit< tt;
  passes = λ n. refl;
  bytes = λ n b h. grind (arith, nat_tests);
}

abbrev pub IsLongName : List ℕ → Type 0
IsLongName text = IsTrue (is_long_name text)

pub long_to : (text : List ℕ) → IsTextWithin 0 64 (λ n. is_printable) text → IsLongName text
long_to text is =
    let all = is_all is_printable text is.passes in
    let len : length text ≤ 64 = is.high in
    grind (arith, nat_tests)

pub long_from : (text : List ℕ) → IsLongName text → IsTextWithin 0 64 (λ n. is_printable) text
long_from text is =
    let parts = and_both (nat_le (length text) 64) (list_all is_printable text) is in
    let len : nat_le (length text) 64 ≡ true = parts.0 in
    record { low = omega arith; high = grind (arith, nat_tests); passes = all_is is_printable text parts.1 }

-- the same reader, with another word for what fits
reads_as : (least most : ℕ) (test : ℕ → ℕ → Bool) (Fits : List ℕ → Type 0) → ReadsExactly (List ℕ) (counted_at least most test) (IsTextWithin least most test) with_length
    → ((text : List ℕ) → IsTextWithin least most test text → Fits text) → ((text : List ℕ) → Fits text → IsTextWithin least most test text) → ReadsExactly (List ℕ) (counted_at least most test) Fits with_length
reads_as least most test Fits r to from = record {
  sound = λ bytes x fits e. let t = r.sound bytes x fits e in (to x.0 t.0, t.1);
  again = λ text rest fits. r.again text rest (from text fits);
  stops = λ bytes left fits e.
      let s = r.stops bytes left fits e in
      record {
        front = s.front;
        tail = s.tail;
        parts = s.parts;
        len = s.len;
        begins = (s.begins.0, to s.begins.0 s.begins.1, s.begins.2, s.begins.3);
        longest = λ p q cut begun. s.longest p q cut (begun.0, from begun.0 begun.1, begun.2, begun.3);
      };
  some = (r.some.0, to r.some.0 r.some.1);
}

pub reads_long : ReadsExactly (List ℕ) long_at IsLongName with_length
reads_long = reads_as 0 64 (λ n. is_printable) IsLongName (reads_counted 0 64 (λ n. is_printable) (lit≤ tt) long_has) long_to long_from

-- ---- seeds

seed_has : HasBytes (λ n. is_seed_byte)
seed_has = record {
  some = 97;
  small = lit< tt;
  passes = λ n. refl;
  bytes = λ n b h. grind (arith, nat_tests);
}

abbrev pub IsSeed : List ℕ → Type 0
IsSeed text = IsTrue (is_seed text)

pub seed_to : (text : List ℕ) → IsTextWithin 1 16 (λ n. is_seed_byte) text → IsSeed text
seed_to text is =
    let all = is_all is_seed_byte text is.passes in
    let low : 1 ≤ length text = is.low in
    let high : length text ≤ 16 = is.high in
    grind (arith, nat_tests)

pub seed_from : (text : List ℕ) → IsSeed text → IsTextWithin 1 16 (λ n. is_seed_byte) text
seed_from text is =
    let parts = and_both (nat_lt 0 (length text) && nat_le (length text) 16) (list_all is_seed_byte text) is in
    let len : (nat_lt 0 (length text) && nat_le (length text) 16) ≡ true = parts.0 in
    record { low = grind (arith, nat_tests); high = grind (arith, nat_tests); passes = all_is is_seed_byte text parts.1 }

pub reads_seed : ReadsExactly (List ℕ) seed_at IsSeed with_length
reads_seed = reads_as 1 16 (λ n. is_seed_byte) IsSeed (reads_counted 1 16 (λ n. is_seed_byte) (lit≤ tt) seed_has) seed_to seed_from

-- ---- names

name_has : HasBytes name_byte
name_has = record {
  some = 97;
  small = lit< tt;
  passes = λ n. grind (arith, nat_tests);
  bytes = λ n b h. grind (arith, nat_tests);
}

abbrev pub IsName : List ℕ → Type 0
IsName text = IsTrue (is_name text)

name_passes : (n : ℕ) (text : List ℕ) → Passes (name_byte n) text → Passes is_name_byte text
name_passes n [] h = tt
name_passes n (b ∷ text) h = ((and_both (is_name_byte b) (not (nat_eq n 1 && nat_eq b 45)) h.0).0, name_passes n text h.1)

-- the test of a dash alone, by length
dash : (text : List ℕ) → Passes (name_byte (length text)) text → not (bytes_eq text (45 ∷ [])) ≡ true
dash [] h = refl
dash (b ∷ []) h = let test : name_byte 1 b ≡ true = h.0 in grind (arith, nat_tests)
dash (b ∷ c ∷ text) h = grind (arith, nat_tests)

passes_name : (n : ℕ) → nat_eq n 1 ≡ false → (text : List ℕ) → Passes is_name_byte text → Passes (name_byte n) text
passes_name n other [] h = tt
passes_name n other (b ∷ text) h = let first = h.0 in (rw (first, other) refl, passes_name n other text h.1)

not_dash : (text : List ℕ) → Passes is_name_byte text → not (bytes_eq text (45 ∷ [])) ≡ true → Passes (name_byte (length text)) text
not_dash [] h other = tt
not_dash (b ∷ []) h other = let first = h.0 in let test : name_byte 1 b ≡ true = grind (arith, nat_tests) in (test, tt)
not_dash (b ∷ c ∷ text) h other = passes_name (length (b ∷ c ∷ text)) (grind (arith, nat_tests)) (b ∷ c ∷ text) h

pub name_to : (text : List ℕ) → IsTextWithin 1 32 name_byte text → IsName text
name_to text is =
    let all = is_all is_name_byte text (name_passes (length text) text is.passes) in
    let alone = dash text is.passes in
    let low : 1 ≤ length text = is.low in
    let high : length text ≤ 32 = is.high in
    let len : (nat_lt 0 (length text) && nat_le (length text) 32) ≡ true = grind (arith, nat_tests) in
    and_all _ _ (and_all _ _ len all) alone

pub name_from : (text : List ℕ) → IsName text → IsTextWithin 1 32 name_byte text
name_from text is =
    let outer = and_both (nat_lt 0 (length text) && nat_le (length text) 32 && list_all is_name_byte text) (not (bytes_eq text (45 ∷ []))) is in
    let inner = and_both (nat_lt 0 (length text) && nat_le (length text) 32) (list_all is_name_byte text) outer.0 in
    let len : (nat_lt 0 (length text) && nat_le (length text) 32) ≡ true = inner.0 in
    record { low = grind (arith, nat_tests); high = grind (arith, nat_tests); passes = not_dash text (all_is is_name_byte text inner.1) outer.1 }

pub reads_name : ReadsExactly (List ℕ) name_at IsName with_length
reads_name = reads_as 1 32 name_byte IsName (reads_counted 1 32 name_byte (lit≤ tt) name_has) name_to name_from

-- ---- groups

abbrev pub group_bytes : Option (List ℕ) → List ℕ
group_bytes group = with_length (or_empty group)

group_to : (text : List ℕ) → IsTextWithin 0 32 name_byte text → IsGroup (group_of text) × (group_bytes (group_of text) ≡ with_length text)
group_to [] is = (tt, refl)
group_to (b ∷ text) is = (name_to (b ∷ text) (record { low = omega arith; high = is.high; passes = is.passes }), refl)

some_name : (text : List ℕ) → IsName text → group_of text ≡ Some text
some_name [] is = absurd cc
some_name (b ∷ text) is = refl

group_from : (group : Option (List ℕ)) → IsGroup group → (text : List ℕ) × IsTextWithin 0 32 name_byte text × (group_of text ≡ group)
group_from None is = ([], record { low = omega arith; high = lit≤ tt; passes = tt }, refl)
group_from (Some text) is =
    let named = name_from text is in
    (text, record { low = omega arith; high = named.high; passes = named.passes }, some_name text is)

group_same : (bytes : List ℕ) → group_at bytes ≡ through (List ℕ) (Option (List ℕ)) (counted_at 0 32 name_byte) group_of bytes
unfolding group_at
group_same bytes = refl

pub reads_group : ReadsExactly (Option (List ℕ)) group_at IsGroup group_bytes
reads_group = reads_same (Option (List ℕ)) (through (List ℕ) (Option (List ℕ)) (counted_at 0 32 name_byte) group_of) group_at IsGroup group_bytes group_same
    (reads_through (List ℕ) (Option (List ℕ)) (counted_at 0 32 name_byte) (IsTextWithin 0 32 name_byte) with_length group_of IsGroup group_bytes (reads_counted 0 32 name_byte (lit≤ tt) name_has) (record { to = group_to; from = group_from }))

-- ---- what a function that returns a text and the rest has read

pub text_form : (read : List ℕ → Read (List ℕ)) (IsA : List ℕ → Type 0) → ReadsExactly (List ℕ) read IsA with_length → (bytes : List ℕ) (r : Result (Bor (List ℕ) × Bor (List ℕ)) Stop) → ((i : ℕ) → get_or bytes i 0 < 256)
    → IsReadAs (λ x. (x.0.now, x.1.now)) r (read bytes) → IfOk r (λ x. IsA x.0.now)
text_form read IsA reads bytes (Ok x) fits given = (reads.sound bytes (x.0.now, x.1.now) (all_bytes bytes fits) given).0
text_form read IsA reads bytes (Err stop) fits given = tt

pub name_form : (least : ℕ) → least ≤ 32 → (bytes : List ℕ) (r : Result (Bor (List ℕ) × Bor (List ℕ)) Stop) → ((i : ℕ) → get_or bytes i 0 < 256)
    → IsReadAs (λ x. (x.0.now, x.1.now)) r (counted_at least 32 name_byte bytes) → IfOk r (λ x. 0 < length x.0.now → IsTrue (is_name x.0.now))
name_form least le bytes (Ok x) fits given =
    let is = ((reads_counted least 32 name_byte le name_has).sound bytes (x.0.now, x.1.now) (all_bytes bytes fits) given).0 in
    λ some. name_to x.0.now (record { low = omega arith; high = is.high; passes = is.passes })
name_form least le bytes (Err stop) fits given = tt
