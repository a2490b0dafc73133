-- Readers of the head, the dates, the names and the passwords.
use Rattle.std.proofs.Common.{◌≡◌, ℕ, zero, suc, ◌<◌, ◌≤◌, ◌^◌, Bool, true, false, nat_eq, lit≤, List, [], ◌∷◌, ◌++◌, Option, Some, None, Result, Ok, refl, subst, ◌∙◌, arith, bit_and}
use Rattle.std.specs.Prelude.{IfSome, is_some}
use Rattle.std.specs.Int.{w32, w64, to_be_bytes}
use Rattle.byte_reader.specs.Reading.{IsBytes, Read, ◌>>=◌, byte_at, bytes_at, long_number_at}
use Rattle.byte_reader.specs.Exact.{with_length, ReadsExactly, InRange, one, IsBytesOf, itself, IsLong, long_bytes}
use Rattle.byte_reader.proofs.ReaderLemmas.{ok_is, reads_same, through, reads_through, both, FitBoth, spell_both, reads_both, bind_both}
use Rattle.byte_reader.proofs.FieldLemmas.{reads_byte, reads_bytes}
use Rattle.byte_reader.proofs.NumberLemmas.{reads_long_number}
use Rattle.auth_records.specs.declared.record.Proto.{Proto}
use Rattle.auth_records.specs.declared.record.Proto.TheVariants as protos
use Rattle.auth_records.specs.declared.record.Wiz.{Wiz}
use Rattle.auth_records.specs.declared.record.Wiz.TheVariants as wizards
use Rattle.auth_records.specs.declared.record.Plain.{Plain}
use Rattle.auth_records.specs.Spelling.{OtpFields, IsGroup, IsPlain, IsOtp, flags, proto_byte, wiz_byte, or_empty}
use Rattle.auth_records.specs.Reading.{Head, Dates, Names, small_number_at, name_at, long_at, group_at, seed_at, head_at, dates_at, names_at, plain_at, otp_at, optional_at, head_of, proto_of, wiz_of}
use Rattle.auth_records.proofs.NumberLemmas.{IsSmall, small_bytes, reads_small_number}
use Rattle.auth_records.proofs.TextLemmas.{IsName, IsLongName, IsSeed, group_bytes, reads_name, reads_long, reads_group, reads_seed}

-- ---- a field that stands only where a flag says so

abbrev pub FitsWhere : (A : Type 0) → (A → Type 0) → Bool → Option A → Type 0
FitsWhere A IsA flag x = (is_some x ≡ flag) × IfSome x IsA

abbrev pub spell_where : (A : Type 0) → (A → List ℕ) → Option A → List ℕ
spell_where A spell None = []
spell_where A spell (Some x) = spell x

abbrev ok : {X : Type 0} → X → Result X ℕ
ok x = Ok x

none_sound : (A : Type 0) (IsA : A → Type 0) (spell : A → List ℕ) (bytes : List ℕ) (x : Option A × List ℕ) → IsBytes bytes → ok {X = Option A × List ℕ} (None, bytes) ≡ ok x → FitsWhere A IsA false x.0 × (bytes ≡ spell_where A spell x.0 ++ x.1)
none_sound A IsA spell bytes x fits e =
    let made : Option A × List ℕ = (None, bytes) in
    subst (λ (y : Option A × List ℕ). FitsWhere A IsA false y.0 × (bytes ≡ spell_where A spell y.0 ++ y.1)) (ok_is (Option A × List ℕ) made x e) ((refl, tt), refl)

none_again : (A : Type 0) (IsA : A → Type 0) (spell : A → List ℕ) (x : Option A) (rest : List ℕ) → FitsWhere A IsA false x → ok {X = Option A × List ℕ} (None, spell_where A spell x ++ rest) ≡ ok (x, rest)
none_again A IsA spell None rest fits = refl
none_again A IsA spell (Some a) rest fits = absurd (cc (fits.0))

pub reads_none : (A : Type 0) (read : List ℕ → Read A) (IsA : A → Type 0) (spell : A → List ℕ) → ReadsExactly (Option A) (optional_at false read) (FitsWhere A IsA false) (spell_where A spell)
unfolding optional_at
reads_none A read IsA spell = record {
  sound = none_sound A IsA spell;
  again = none_again A IsA spell;
  stops = λ bytes left fits e. absurd cc;
  some = (None, (refl, tt));
}

some_to : (A : Type 0) (IsA : A → Type 0) (spell : A → List ℕ) (a : A) → IsA a → FitsWhere A IsA true (Some a) × (spell_where A spell (Some a) ≡ spell a)
some_to A IsA spell a fits = ((refl, fits), refl)

some_from : (A : Type 0) (IsA : A → Type 0) (x : Option A) → FitsWhere A IsA true x → (a : A) × IsA a × (Some a ≡ x)
some_from A IsA None fits = absurd (cc (fits.0))
some_from A IsA (Some a) fits = (a, fits.1, refl)

some_same : (A : Type 0) (read : List ℕ → Read A) (bytes : List ℕ) → optional_at true read bytes ≡ through A (Option A) read (λ a. Some a) bytes
unfolding optional_at
some_same A read bytes = refl

pub reads_where : (A : Type 0) (read : List ℕ → Read A) (IsA : A → Type 0) (spell : A → List ℕ) → ReadsExactly A read IsA spell → (flag : Bool) → ReadsExactly (Option A) (optional_at flag read) (FitsWhere A IsA flag) (spell_where A spell)
reads_where A read IsA spell r false = reads_none A read IsA spell
reads_where A read IsA spell r true = reads_same (Option A) (through A (Option A) read (λ a. Some a)) (optional_at true read) (FitsWhere A IsA true) (spell_where A spell) (some_same A read)
    (reads_through A (Option A) read IsA spell (λ a. Some a) (FitsWhere A IsA true) (spell_where A spell) r (record { to = some_to A IsA spell; from = some_from A IsA }))

-- ---- the head

pub record FitsHead (h : Head) : Type 0 where
  pub fails : h.fails ≤ 5
  pub since : h.since < 2 ^ 64

abbrev pub head_bytes : Head → List ℕ
head_bytes h = flags h.enabled h.has_plain h.has_otp ∷ proto_byte h.proto ∷ wiz_byte h.wiz ∷ h.fails ∷ to_be_bytes w64 h.since

abbrev H2 : Type 0
H2 = ℕ × ℕ

abbrev H3 : Type 0
H3 = H2 × ℕ

abbrev H4 : Type 0
H4 = H3 × ℕ

abbrev H5 : Type 0
H5 = H4 × ℕ

abbrev h2 : List ℕ → Read H2
h2 = both ℕ ℕ (byte_at 0 7) (λ a. byte_at 0 2)

abbrev h3 : List ℕ → Read H3
h3 = both H2 ℕ h2 (λ p. byte_at 0 2)

abbrev h4 : List ℕ → Read H4
h4 = both H3 ℕ h3 (λ p. byte_at 0 5)

abbrev h5 : List ℕ → Read H5
h5 = both H4 ℕ h4 (λ p. long_number_at)

abbrev Fits2 : H2 → Type 0
Fits2 = FitBoth ℕ ℕ (InRange 0 7) (λ a. InRange 0 2)

abbrev Fits3 : H3 → Type 0
Fits3 = FitBoth H2 ℕ Fits2 (λ p. InRange 0 2)

abbrev Fits4 : H4 → Type 0
Fits4 = FitBoth H3 ℕ Fits3 (λ p. InRange 0 5)

abbrev Fits5 : H5 → Type 0
Fits5 = FitBoth H4 ℕ Fits4 (λ p. IsLong)

abbrev spell2 : H2 → List ℕ
spell2 = spell_both ℕ ℕ one (λ a. one)

abbrev spell3 : H3 → List ℕ
spell3 = spell_both H2 ℕ spell2 (λ p. one)

abbrev spell4 : H4 → List ℕ
spell4 = spell_both H3 ℕ spell3 (λ p. one)

abbrev spell5 : H5 → List ℕ
spell5 = spell_both H4 ℕ spell4 (λ p. long_bytes)

reads_h5 : ReadsExactly H5 h5 Fits5 spell5
reads_h5 =
    let two = reads_both ℕ ℕ (byte_at 0 7) (λ a. byte_at 0 2) (InRange 0 7) one (λ a. InRange 0 2) (λ a. one) (reads_byte 0 7 (lit≤ tt)) (λ a h. reads_byte 0 2 (lit≤ tt)) in
    let three = reads_both H2 ℕ h2 (λ p. byte_at 0 2) Fits2 spell2 (λ p. InRange 0 2) (λ p. one) two (λ p h. reads_byte 0 2 (lit≤ tt)) in
    let four = reads_both H3 ℕ h3 (λ p. byte_at 0 5) Fits3 spell3 (λ p. InRange 0 5) (λ p. one) three (λ p h. reads_byte 0 5 (lit≤ tt)) in
    reads_both H4 ℕ h4 (λ p. long_number_at) Fits4 spell4 (λ p. IsLong) (λ p. long_bytes) four (λ p h. reads_long_number)

abbrev head_in : H5 → Head
head_in x = head_of x.0.0.0.0 x.0.0.0.1 x.0.0.1 x.0.1 x.1

proto_back : (n : ℕ) → n ≤ 2 → proto_byte (proto_of n) ≡ n
proto_back zero h = refl
proto_back (suc zero) h = refl
proto_back (suc (suc n)) h = omega arith

wiz_back : (n : ℕ) → n ≤ 2 → wiz_byte (wiz_of n) ≡ n
wiz_back zero h = refl
wiz_back (suc zero) h = refl
wiz_back (suc (suc n)) h = omega arith

abbrev flags_of : ℕ → ℕ
flags_of n = flags (nat_eq (bit_and n 1) 1) (nat_eq (bit_and n 2) 2) (nat_eq (bit_and n 4) 4)

flags_back : (n : ℕ) → n ≤ 7 → flags_of n ≡ n
flags_back zero h = refl
flags_back (suc zero) h = refl
flags_back (suc (suc zero)) h = refl
flags_back (suc (suc (suc zero))) h = refl
flags_back (suc (suc (suc (suc zero)))) h = refl
flags_back (suc (suc (suc (suc (suc zero))))) h = refl
flags_back (suc (suc (suc (suc (suc (suc zero)))))) h = refl
flags_back (suc (suc (suc (suc (suc (suc (suc zero))))))) h = refl
flags_back (suc (suc (suc (suc (suc (suc (suc (suc n)))))))) h = absurd (omega arith)

proto_again : (p : Proto) → proto_of (proto_byte p) ≡ p
proto_again protos.None = refl
proto_again protos.Plain = refl
proto_again protos.Otp = refl

wiz_again : (w : Wiz) → wiz_of (wiz_byte w) ≡ w
wiz_again wizards.None = refl
wiz_again wizards.Group = refl
wiz_again wizards.Super = refl

proto_small : (p : Proto) → proto_byte p ≤ 2
proto_small protos.None = lit≤ tt
proto_small protos.Plain = lit≤ tt
proto_small protos.Otp = lit≤ tt

wiz_small : (w : Wiz) → wiz_byte w ≤ 2
wiz_small wizards.None = lit≤ tt
wiz_small wizards.Group = lit≤ tt
wiz_small wizards.Super = lit≤ tt

pub record FlagsAgain (a b c : Bool) : Type 0 where
  pub small : flags a b c ≤ 7
  pub enabled : nat_eq (bit_and (flags a b c) 1) 1 ≡ a
  pub has_plain : nat_eq (bit_and (flags a b c) 2) 2 ≡ b
  pub has_otp : nat_eq (bit_and (flags a b c) 4) 4 ≡ c

flags_again : (a b c : Bool) → FlagsAgain a b c
flags_again false false false = record { small = lit≤ tt; enabled = refl; has_plain = refl; has_otp = refl }
flags_again false false true = record { small = lit≤ tt; enabled = refl; has_plain = refl; has_otp = refl }
flags_again false true false = record { small = lit≤ tt; enabled = refl; has_plain = refl; has_otp = refl }
flags_again false true true = record { small = lit≤ tt; enabled = refl; has_plain = refl; has_otp = refl }
flags_again true false false = record { small = lit≤ tt; enabled = refl; has_plain = refl; has_otp = refl }
flags_again true false true = record { small = lit≤ tt; enabled = refl; has_plain = refl; has_otp = refl }
flags_again true true false = record { small = lit≤ tt; enabled = refl; has_plain = refl; has_otp = refl }
flags_again true true true = record { small = lit≤ tt; enabled = refl; has_plain = refl; has_otp = refl }

front_cells : (a b c d e f : ℕ) (rest : List ℕ) → a ≡ d → b ≡ e → c ≡ f → a ∷ b ∷ c ∷ rest ≡ d ∷ e ∷ f ∷ rest
front_cells a b c d e f rest p q r = cc

head_to : (x : H5) → Fits5 x → FitsHead (head_in x) × (head_bytes (head_in x) ≡ spell5 x)
head_to x fits = (
  record { fails = fits.0.1.1; since = fits.1 },
  front_cells _ _ _ x.0.0.0.0 x.0.0.0.1 x.0.0.1 (x.0.1 ∷ to_be_bytes w64 x.1) (flags_back x.0.0.0.0 fits.0.0.0.0.1) (proto_back x.0.0.0.1 fits.0.0.0.1.1) (wiz_back x.0.0.1 fits.0.0.1.1),
)

head_same_parts : (a b c a' b' c' : Bool) (p p' : Proto) (w w' : Wiz) (fails since : ℕ) → a' ≡ a → b' ≡ b → c' ≡ c → p' ≡ p → w' ≡ w
    → (let h : Head = record { enabled = a'; has_plain = b'; has_otp = c'; proto = p'; wiz = w'; fails = fails; since = since } in h) ≡ record { enabled = a; has_plain = b; has_otp = c; proto = p; wiz = w; fails = fails; since = since }
head_same_parts a b c a' b' c' p p' w w' fails since e1 e2 e3 e4 e5 = cc

head_from : (h : Head) → FitsHead h → (x : H5) × Fits5 x × (head_in x ≡ h)
head_from h fits =
    let f = flags_again h.enabled h.has_plain h.has_otp in (
      ((((flags h.enabled h.has_plain h.has_otp, proto_byte h.proto), wiz_byte h.wiz), h.fails), h.since),
      (((((omega arith, f.small), (omega arith, proto_small h.proto)), (omega arith, wiz_small h.wiz)), (omega arith, fits.fails)), fits.since),
      head_same_parts h.enabled h.has_plain h.has_otp _ _ _ h.proto _ h.wiz _ h.fails h.since f.enabled f.has_plain f.has_otp (proto_again h.proto) (wiz_again h.wiz),
    )

head_same : (bytes : List ℕ) → head_at bytes ≡ through H5 Head h5 head_in bytes
unfolding head_at
head_same bytes =
    bind_both ℕ ℕ (Head × List ℕ) (byte_at 0 7) (λ a. byte_at 0 2) (λ x rest. byte_at 0 2 rest >>= λ wiz. (byte_at 0 5 wiz.1 >>= λ fails. (long_number_at fails.1 >>= λ since. Ok (head_of x.0 x.1 wiz.0 fails.0 since.0, since.1)))) bytes
    ∙ bind_both H2 ℕ (Head × List ℕ) h2 (λ p. byte_at 0 2) (λ x rest. byte_at 0 5 rest >>= λ fails. (long_number_at fails.1 >>= λ since. Ok (head_of x.0.0 x.0.1 x.1 fails.0 since.0, since.1))) bytes
    ∙ bind_both H3 ℕ (Head × List ℕ) h3 (λ p. byte_at 0 5) (λ x rest. long_number_at rest >>= λ since. Ok (head_of x.0.0.0 x.0.0.1 x.0.1 x.1 since.0, since.1)) bytes
    ∙ bind_both H4 ℕ (Head × List ℕ) h4 (λ p. long_number_at) (λ x rest. Ok (head_in x, rest)) bytes

pub reads_head : ReadsExactly Head head_at FitsHead head_bytes
reads_head = reads_same Head (through H5 Head h5 head_in) head_at FitsHead head_bytes head_same (reads_through H5 Head h5 Fits5 spell5 head_in FitsHead head_bytes reads_h5 (record { to = head_to; from = head_from }))

-- ---- the dates

pub record FitsDates (d : Dates) : Type 0 where
  pub last : IsLong d.last
  pub expires : IsLong d.expires

abbrev pub dates_bytes : Dates → List ℕ
dates_bytes d = to_be_bytes w64 d.last ++ to_be_bytes w64 d.expires

abbrev d2 : List ℕ → Read H2
d2 = both ℕ ℕ long_number_at (λ a. long_number_at)

abbrev FitsD2 : H2 → Type 0
FitsD2 = FitBoth ℕ ℕ IsLong (λ a. IsLong)

abbrev spell_d2 : H2 → List ℕ
spell_d2 = spell_both ℕ ℕ long_bytes (λ a. long_bytes)

abbrev dates_in : H2 → Dates
dates_in x = record { last = x.0; expires = x.1 }

dates_same : (bytes : List ℕ) → dates_at bytes ≡ through H2 Dates d2 dates_in bytes
unfolding dates_at
dates_same bytes = bind_both ℕ ℕ (Dates × List ℕ) long_number_at (λ a. long_number_at) (λ x rest. Ok (dates_in x, rest)) bytes

pub reads_dates : ReadsExactly Dates dates_at FitsDates dates_bytes
reads_dates = reads_same Dates (through H2 Dates d2 dates_in) dates_at FitsDates dates_bytes dates_same (reads_through H2 Dates d2 FitsD2 spell_d2 dates_in FitsDates dates_bytes
    (reads_both ℕ ℕ long_number_at (λ a. long_number_at) IsLong long_bytes (λ a. IsLong) (λ a. long_bytes) reads_long_number (λ a h. reads_long_number)) (record {
      to = λ x fits. (record { last = fits.0; expires = fits.1 }, refl);
      from = λ d fits. ((d.last, d.expires), (fits.last, fits.expires), refl);
    }))

-- ---- the names

pub record FitsNames (n : Names) : Type 0 where
  pub name : IsName n.name
  pub long : IsLongName n.long
  pub group : IsGroup n.group

abbrev pub names_bytes : Names → List ℕ
names_bytes n = with_length n.name ++ with_length n.long ++ with_length (or_empty n.group)

abbrev N2 : Type 0
N2 = List ℕ × List ℕ

abbrev N3 : Type 0
N3 = N2 × Option (List ℕ)

abbrev n2 : List ℕ → Read N2
n2 = both (List ℕ) (List ℕ) name_at (λ a. long_at)

abbrev n3 : List ℕ → Read N3
n3 = both N2 (Option (List ℕ)) n2 (λ p. group_at)

abbrev FitsN2 : N2 → Type 0
FitsN2 = FitBoth (List ℕ) (List ℕ) IsName (λ a. IsLongName)

abbrev FitsN3 : N3 → Type 0
FitsN3 = FitBoth N2 (Option (List ℕ)) FitsN2 (λ p. IsGroup)

abbrev spell_n2 : N2 → List ℕ
spell_n2 = spell_both (List ℕ) (List ℕ) with_length (λ a. with_length)

abbrev spell_n3 : N3 → List ℕ
spell_n3 = spell_both N2 (Option (List ℕ)) spell_n2 (λ p. group_bytes)

reads_n3 : ReadsExactly N3 n3 FitsN3 spell_n3
reads_n3 =
    let two = reads_both (List ℕ) (List ℕ) name_at (λ a. long_at) IsName with_length (λ a. IsLongName) (λ a. with_length) reads_name (λ a h. reads_long) in
    reads_both N2 (Option (List ℕ)) n2 (λ p. group_at) FitsN2 spell_n2 (λ p. IsGroup) (λ p. group_bytes) two (λ p h. reads_group)

abbrev names_in : N3 → Names
names_in x = record { name = x.0.0; long = x.0.1; group = x.1 }

names_same : (bytes : List ℕ) → names_at bytes ≡ through N3 Names n3 names_in bytes
unfolding names_at
names_same bytes =
    bind_both (List ℕ) (List ℕ) (Names × List ℕ) name_at (λ a. long_at) (λ x rest. group_at rest >>= λ group. Ok (record { name = x.0; long = x.1; group = group.0 }, group.1)) bytes
    ∙ bind_both N2 (Option (List ℕ)) (Names × List ℕ) n2 (λ p. group_at) (λ x rest. Ok (names_in x, rest)) bytes

pub reads_names : ReadsExactly Names names_at FitsNames names_bytes
reads_names = reads_same Names (through N3 Names n3 names_in) names_at FitsNames names_bytes names_same (reads_through N3 Names n3 FitsN3 spell_n3 names_in FitsNames names_bytes reads_n3 (record {
  to = λ x fits. (record { name = fits.0.0; long = fits.0.1; group = fits.1 }, refl);
  from = λ n fits. (((n.name, n.long), n.group), ((fits.name, fits.long), fits.group), refl);
}))

-- ---- a plain password

abbrev pub one_plain : Plain → List ℕ
one_plain p = p.salt ++ p.hash

abbrev P2 : Type 0
P2 = List ℕ × List ℕ

abbrev p2 : List ℕ → Read P2
p2 = both (List ℕ) (List ℕ) (bytes_at 8) (λ a. bytes_at 16)

abbrev FitsP2 : P2 → Type 0
FitsP2 = FitBoth (List ℕ) (List ℕ) (IsBytesOf 8) (λ a. IsBytesOf 16)

abbrev spell_p2 : P2 → List ℕ
spell_p2 = spell_both (List ℕ) (List ℕ) itself (λ a. itself)

abbrev plain_in : P2 → Plain
plain_in x = record { salt = x.0; hash = x.1 }

plain_same : (bytes : List ℕ) → plain_at bytes ≡ through P2 Plain p2 plain_in bytes
unfolding plain_at
plain_same bytes = bind_both (List ℕ) (List ℕ) (Plain × List ℕ) (bytes_at 8) (λ a. bytes_at 16) (λ x rest. Ok (plain_in x, rest)) bytes

pub reads_plain : ReadsExactly Plain plain_at IsPlain one_plain
reads_plain = reads_same Plain (through P2 Plain p2 plain_in) plain_at IsPlain one_plain plain_same (reads_through P2 Plain p2 FitsP2 spell_p2 plain_in IsPlain one_plain
    (reads_both (List ℕ) (List ℕ) (bytes_at 8) (λ a. bytes_at 16) (IsBytesOf 8) itself (λ a. IsBytesOf 16) (λ a. itself) (reads_bytes 8) (λ a h. reads_bytes 16)) (record {
      to = λ x fits. (record { salt_len = fits.0.len; salt = fits.0.bytes; hash_len = fits.1.len; hash = fits.1.bytes }, refl);
      from = λ p fits. ((p.salt, p.hash), (record { len = fits.salt_len; bytes = fits.salt }, record { len = fits.hash_len; bytes = fits.hash }), refl);
    }))

-- ---- one-time passwords

abbrev pub one_otp : OtpFields → List ℕ
one_otp o = to_be_bytes w32 o.number ++ with_length o.word_seed ++ to_be_bytes w64 o.kept

abbrev O2 : Type 0
O2 = ℕ × List ℕ

abbrev O3 : Type 0
O3 = O2 × ℕ

abbrev o2 : List ℕ → Read O2
o2 = both ℕ (List ℕ) small_number_at (λ a. seed_at)

abbrev o3 : List ℕ → Read O3
o3 = both O2 ℕ o2 (λ p. long_number_at)

abbrev FitsO2 : O2 → Type 0
FitsO2 = FitBoth ℕ (List ℕ) IsSmall (λ a. IsSeed)

abbrev FitsO3 : O3 → Type 0
FitsO3 = FitBoth O2 ℕ FitsO2 (λ p. IsLong)

abbrev spell_o2 : O2 → List ℕ
spell_o2 = spell_both ℕ (List ℕ) small_bytes (λ a. with_length)

abbrev spell_o3 : O3 → List ℕ
spell_o3 = spell_both O2 ℕ spell_o2 (λ p. long_bytes)

abbrev otp_in : O3 → OtpFields
otp_in x = record { number = x.0.0; word_seed = x.0.1; kept = x.1 }

otp_same : (bytes : List ℕ) → otp_at bytes ≡ through O3 OtpFields o3 otp_in bytes
unfolding otp_at
otp_same bytes =
    bind_both ℕ (List ℕ) (OtpFields × List ℕ) small_number_at (λ a. seed_at) (λ x rest. long_number_at rest >>= λ kept. Ok (record { number = x.0; word_seed = x.1; kept = kept.0 }, kept.1)) bytes
    ∙ bind_both O2 ℕ (OtpFields × List ℕ) o2 (λ p. long_number_at) (λ x rest. Ok (otp_in x, rest)) bytes

pub reads_otp : ReadsExactly OtpFields otp_at IsOtp one_otp
reads_otp =
    let two = reads_both ℕ (List ℕ) small_number_at (λ a. seed_at) IsSmall small_bytes (λ a. IsSeed) (λ a. with_length) reads_small_number (λ a h. reads_seed) in
    let three = reads_both O2 ℕ o2 (λ p. long_number_at) FitsO2 spell_o2 (λ p. IsLong) (λ p. long_bytes) two (λ p h. reads_long_number) in
    reads_same OtpFields (through O3 OtpFields o3 otp_in) otp_at IsOtp one_otp otp_same (reads_through O3 OtpFields o3 FitsO3 spell_o3 otp_in IsOtp one_otp three (record {
      to = λ x fits. (record { number = fits.0.0; word_seed = fits.0.1; kept = fits.1 }, refl);
      from = λ o fits. (((o.number, o.word_seed), o.kept), ((fits.number, fits.word_seed), fits.kept), refl);
    }))
