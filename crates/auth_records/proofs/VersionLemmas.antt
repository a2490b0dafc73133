-- Reading a whole record with its version.
use Rattle.std.proofs.Common.{◌≡◌, ℕ, zero, suc, ◌<◌, ◌≤◌, ◌^◌, Bool, true, false, nat_eq, lit≤, lit<, List, [], ◌++◌, Option, Some, None, Result, Ok, Err, refl, sym, ap, ◌∙◌, arith}
use Rattle.std.specs.Prelude.{IfSome, is_some}
use Rattle.std.proofs.lemmas.List.{append-nil}
use Rattle.byte_reader.specs.Reading.{Read, ◌>>=◌, byte_at}
use Rattle.byte_reader.specs.Exact.{ReadsExactly, InRange, one}
use Rattle.byte_reader.proofs.ReaderLemmas.{through, reads_through, both, FitBoth, spell_both, reads_both, bind_both}
use Rattle.byte_reader.proofs.FieldLemmas.{reads_byte}
use Rattle.auth_records.specs.declared.record.Plain.{Plain}
use Rattle.auth_records.specs.Spelling.{Fields, OtpFields, HasForm, IsUndated, IsPlain, IsOtp, plain_bytes, otp_bytes, spelling, old_spelling}
use Rattle.auth_records.specs.Reading.{Head, Dates, Names, head_at, dates_at, names_at, plain_at, otp_at, optional_at, last_of, expires_of, whole_record_at, fields_of}
use Rattle.auth_records.proofs.RecordLemmas.{FitsWhere, spell_where, reads_where, FitsHead, head_bytes, reads_head, FitsDates, dates_bytes, reads_dates, FitsNames, names_bytes, reads_names, one_plain, reads_plain, one_otp, reads_otp}

-- ---- a record with its version

-- whether the version has dates, and the record's fields
abbrev pub Versioned : Type 0
Versioned = Bool × Fields

pub record FitsVersion (x : Versioned) : Type 0 where
  pub form : HasForm x.1
  pub undated : x.0 ≡ false → IsUndated x.1

abbrev pub spelled_in : Bool → Fields → List ℕ
spelled_in true f = spelling f
spelled_in false f = old_spelling f

abbrev pub spell_version : Versioned → List ℕ
spell_version x = spelled_in x.0 x.1

-- ---- its parts

abbrev After2 : Type 0
After2 = ℕ × Head

abbrev After3 : Type 0
After3 = After2 × Option Dates

abbrev After4 : Type 0
After4 = After3 × Names

abbrev After5 : Type 0
After5 = After4 × Option Plain

abbrev After6 : Type 0
After6 = After5 × Option OtpFields

abbrev r2 : List ℕ → Read After2
r2 = both ℕ Head (byte_at 1 2) (λ a. head_at)

abbrev r3 : List ℕ → Read After3
r3 = both After2 (Option Dates) r2 (λ p. optional_at (nat_eq p.0 2) dates_at)

abbrev r4 : List ℕ → Read After4
r4 = both After3 Names r3 (λ p. names_at)

abbrev r5 : List ℕ → Read After5
r5 = both After4 (Option Plain) r4 (λ p. optional_at p.0.0.1.has_plain plain_at)

abbrev r6 : List ℕ → Read After6
r6 = both After5 (Option OtpFields) r5 (λ p. optional_at p.0.0.0.1.has_otp otp_at)

abbrev FitsR2 : After2 → Type 0
FitsR2 = FitBoth ℕ Head (InRange 1 2) (λ a. FitsHead)

abbrev FitsR3 : After3 → Type 0
FitsR3 = FitBoth After2 (Option Dates) FitsR2 (λ p. FitsWhere Dates FitsDates (nat_eq p.0 2))

abbrev FitsR4 : After4 → Type 0
FitsR4 = FitBoth After3 Names FitsR3 (λ p. FitsNames)

abbrev FitsR5 : After5 → Type 0
FitsR5 = FitBoth After4 (Option Plain) FitsR4 (λ p. FitsWhere Plain IsPlain p.0.0.1.has_plain)

abbrev FitsR6 : After6 → Type 0
FitsR6 = FitBoth After5 (Option OtpFields) FitsR5 (λ p. FitsWhere OtpFields IsOtp p.0.0.0.1.has_otp)

abbrev spell_r2 : After2 → List ℕ
spell_r2 = spell_both ℕ Head one (λ a. head_bytes)

abbrev spell_r3 : After3 → List ℕ
spell_r3 = spell_both After2 (Option Dates) spell_r2 (λ p. spell_where Dates dates_bytes)

abbrev spell_r4 : After4 → List ℕ
spell_r4 = spell_both After3 Names spell_r3 (λ p. names_bytes)

abbrev spell_r5 : After5 → List ℕ
spell_r5 = spell_both After4 (Option Plain) spell_r4 (λ p. spell_where Plain one_plain)

abbrev spell_r6 : After6 → List ℕ
spell_r6 = spell_both After5 (Option OtpFields) spell_r5 (λ p. spell_where OtpFields one_otp)

reads_r6 : ReadsExactly After6 r6 FitsR6 spell_r6
reads_r6 =
    let two = reads_both ℕ Head (byte_at 1 2) (λ a. head_at) (InRange 1 2) one (λ a. FitsHead) (λ a. head_bytes) (reads_byte 1 2 (lit≤ tt)) (λ a h. reads_head) in
    let three = reads_both After2 (Option Dates) r2 (λ p. optional_at (nat_eq p.0 2) dates_at) FitsR2 spell_r2 (λ p. FitsWhere Dates FitsDates (nat_eq p.0 2)) (λ p. spell_where Dates dates_bytes) two (λ p h. reads_where Dates dates_at FitsDates dates_bytes reads_dates (nat_eq p.0 2)) in
    let four = reads_both After3 Names r3 (λ p. names_at) FitsR3 spell_r3 (λ p. FitsNames) (λ p. names_bytes) three (λ p h. reads_names) in
    let five = reads_both After4 (Option Plain) r4 (λ p. optional_at p.0.0.1.has_plain plain_at) FitsR4 spell_r4 (λ p. FitsWhere Plain IsPlain p.0.0.1.has_plain) (λ p. spell_where Plain one_plain) four (λ p h. reads_where Plain plain_at IsPlain one_plain reads_plain p.0.0.1.has_plain) in
    reads_both After5 (Option OtpFields) r5 (λ p. optional_at p.0.0.0.1.has_otp otp_at) FitsR5 spell_r5 (λ p. FitsWhere OtpFields IsOtp p.0.0.0.1.has_otp) (λ p. spell_where OtpFields one_otp) five (λ p h. reads_where OtpFields otp_at IsOtp one_otp reads_otp p.0.0.0.1.has_otp)

abbrev fields_in : After6 → Fields
fields_in x = fields_of x.0.0.0.0.1 x.0.0.0.1 x.0.0.1 x.0.1 x.1

abbrev version_in : After6 → Versioned
version_in x = (nat_eq x.0.0.0.0.0 2, fields_in x)

-- ---- what they spell

plain_is : (x : Option Plain) → plain_bytes x ≡ spell_where Plain one_plain x
plain_is None = refl
plain_is (Some p) = refl

otp_is : (x : Option OtpFields) → otp_bytes x ≡ spell_where OtpFields one_otp x
otp_is None = refl
otp_is (Some o) = refl

-- what follows the dates
abbrev followed : Names → Option Plain → Option OtpFields → List ℕ → List ℕ
followed n plain otp front = front ++ names_bytes n ++ spell_where Plain one_plain plain ++ spell_where OtpFields one_otp otp

old_spelled : (h : Head) (n : Names) (plain : Option Plain) (otp : Option OtpFields) → is_some plain ≡ h.has_plain → is_some otp ≡ h.has_otp
    → old_spelling (fields_of h None n plain otp) ≡ followed n plain otp (one 1 ++ head_bytes h)
unfolding old_spelling
old_spelled h n plain otp e1 e2 = rw (e1, e2, plain_is plain, otp_is otp) refl

new_spelled : (h : Head) (d : Dates) (n : Names) (plain : Option Plain) (otp : Option OtpFields) → is_some plain ≡ h.has_plain → is_some otp ≡ h.has_otp
    → spelling (fields_of h (Some d) n plain otp) ≡ followed n plain otp (one 2 ++ head_bytes h ++ dates_bytes d)
unfolding spelling
new_spelled h d n plain otp e1 e2 = rw (e1, e2, plain_is plain, otp_is otp) refl

spelled : (version : ℕ) (h : Head) (d : Option Dates) (n : Names) (plain : Option Plain) (otp : Option OtpFields) → InRange 1 2 version → is_some d ≡ nat_eq version 2 → is_some plain ≡ h.has_plain → is_some otp ≡ h.has_otp
    → spelled_in (nat_eq version 2) (fields_of h d n plain otp) ≡ followed n plain otp (one version ++ head_bytes h ++ spell_where Dates dates_bytes d)
spelled zero h d n plain otp fits e e1 e2 = absurd (omega (arith, fits.0))
spelled (suc zero) h None n plain otp fits e e1 e2 = old_spelled h n plain otp e1 e2 ∙ ap (followed n plain otp) (sym (append-nil (one 1 ++ head_bytes h)))
spelled (suc zero) h (Some d) n plain otp fits e e1 e2 = absurd (cc e)
spelled (suc (suc zero)) h None n plain otp fits e e1 e2 = absurd (cc e)
spelled (suc (suc zero)) h (Some d) n plain otp fits e e1 e2 = new_spelled h d n plain otp e1 e2
spelled (suc (suc (suc k))) h d n plain otp fits e e1 e2 = absurd (omega (arith, fits.1))

-- ---- they are a record with its version, and back

dates_fit : (d : Option Dates) → IfSome d FitsDates → (last_of d < 2 ^ 64) × (expires_of d < 2 ^ 64)
dates_fit None fits = (lit< tt, lit< tt)
dates_fit (Some d) fits = (fits.last, fits.expires)

no_dates : (d : Option Dates) → is_some d ≡ false → (last_of d ≡ 0) × (expires_of d ≡ 0)
no_dates None e = (refl, refl)
no_dates (Some d) e = absurd (cc e)

version_to : (x : After6) → FitsR6 x → FitsVersion (version_in x) × (spell_version (version_in x) ≡ spell_r6 x)
version_to x fits =
    let head_fits : FitsHead x.0.0.0.0.1 = fits.0.0.0.0.1 in
    let dates = fits.0.0.0.1 in
    let names_fit : FitsNames x.0.0.1 = fits.0.0.1 in (
      record {
        form = record {
          name = names_fit.name;
          long = names_fit.long;
          group = names_fit.group;
          fails = head_fits.fails;
          since = head_fits.since;
          last = (dates_fit x.0.0.0.1 dates.1).0;
          expires = (dates_fit x.0.0.0.1 dates.1).1;
          plain = fits.0.1.1;
          otp = fits.1.1;
        };
        undated = λ old.
            let none = no_dates x.0.0.0.1 (dates.0 ∙ old) in
            record { last = none.0; expires = none.1 };
      },
      spelled x.0.0.0.0.0 x.0.0.0.0.1 x.0.0.0.1 x.0.0.1 x.0.1 x.1 fits.0.0.0.0.0 dates.0 fits.0.1.0 fits.1.0,
    )

abbrev head_in : Fields → Head
head_in f = record { enabled = f.enabled; has_plain = is_some f.plain; has_otp = is_some f.otp; proto = f.proto; wiz = f.wiz; fails = f.fails; since = f.since }

abbrev names_in : Fields → Names
names_in f = record { name = f.name; long = f.long; group = f.group }

head_fits : (f : Fields) → HasForm f → FitsHead (head_in f)
head_fits f form = record { fails = form.fails; since = form.since }

names_fit : (f : Fields) → HasForm f → FitsNames (names_in f)
names_fit f form = record { name = form.name; long = form.long; group = form.group }

undated_same : (f : Fields) → IsUndated f → (let g : Fields = record f { last = 0; expires = 0 } in g) ≡ f
undated_same f none =
    ap (λ (n : ℕ). let g : Fields = record f { last = n; expires = 0 } in g) (sym none.last)
    ∙ ap (λ (n : ℕ). let g : Fields = record f { expires = n } in g) (sym none.expires)

version_from : (y : Versioned) → FitsVersion y → (x : After6) × FitsR6 x × (version_in x ≡ y)
version_from (true, f) fits =
    let form = fits.form in
    let d : Dates = record { last = f.last; expires = f.expires } in (
      (((((2, head_in f), Some d), names_in f), f.plain), f.otp),
      ((((((lit≤ tt, lit≤ tt), head_fits f form), (refl, record { last = form.last; expires = form.expires })), names_fit f form), (refl, form.plain)), (refl, form.otp)),
      refl,
    )
version_from (false, f) fits =
    let form = fits.form in (
      (((((1, head_in f), None), names_in f), f.plain), f.otp),
      ((((((lit≤ tt, lit≤ tt), head_fits f form), (refl, tt)), names_fit f form), (refl, form.plain)), (refl, form.otp)),
      ap (λ (g : Fields). let y : Versioned = (false, g) in y) (undated_same f (fits.undated refl)),
    )

abbrev pub versioned_at : List ℕ → Read Versioned
versioned_at = through After6 Versioned r6 version_in

pub reads_versioned : ReadsExactly Versioned versioned_at FitsVersion spell_version
reads_versioned = reads_through After6 Versioned r6 FitsR6 spell_r6 version_in FitsVersion spell_version reads_r6 (record { to = version_to; from = version_from })

-- ---- what a record is read from

in_parts : (bytes : List ℕ) → whole_record_at bytes ≡ through After6 Fields r6 fields_in bytes
unfolding whole_record_at
in_parts bytes =
    bind_both ℕ Head (Fields × List ℕ) (byte_at 1 2) (λ a. head_at) (λ x rest. optional_at (nat_eq x.0 2) dates_at rest >>= λ d. (names_at d.1 >>= λ n. (optional_at x.1.has_plain plain_at n.1 >>= λ plain. (optional_at x.1.has_otp otp_at plain.1 >>= λ otp. Ok (fields_of x.1 d.0 n.0 plain.0 otp.0, otp.1))))) bytes
    ∙ bind_both After2 (Option Dates) (Fields × List ℕ) r2 (λ p. optional_at (nat_eq p.0 2) dates_at) (λ x rest. names_at rest >>= λ n. (optional_at x.0.1.has_plain plain_at n.1 >>= λ plain. (optional_at x.0.1.has_otp otp_at plain.1 >>= λ otp. Ok (fields_of x.0.1 x.1 n.0 plain.0 otp.0, otp.1)))) bytes
    ∙ bind_both After3 Names (Fields × List ℕ) r3 (λ p. names_at) (λ x rest. optional_at x.0.0.1.has_plain plain_at rest >>= λ plain. (optional_at x.0.0.1.has_otp otp_at plain.1 >>= λ otp. Ok (fields_of x.0.0.1 x.0.1 x.1 plain.0 otp.0, otp.1))) bytes
    ∙ bind_both After4 (Option Plain) (Fields × List ℕ) r4 (λ p. optional_at p.0.0.1.has_plain plain_at) (λ x rest. optional_at x.0.0.0.1.has_otp otp_at rest >>= λ otp. Ok (fields_of x.0.0.0.1 x.0.0.1 x.0.1 x.1 otp.0, otp.1)) bytes
    ∙ bind_both After5 (Option OtpFields) (Fields × List ℕ) r5 (λ p. optional_at p.0.0.0.1.has_otp otp_at) (λ x rest. Ok (fields_in x, rest)) bytes

seen : (r : Read After6) → (r >>= λ x. (let y : Read Fields = Ok (fields_in x.0, x.1) in y)) ≡ ((r >>= λ x. (let y : Read Versioned = Ok (version_in x.0, x.1) in y)) >>= λ y. Ok (y.0.1, y.1))
seen (Ok x) = refl
seen (Err left) = refl

pub record_same : (bytes : List ℕ) → whole_record_at bytes ≡ through Versioned Fields versioned_at (λ y. y.1) bytes
record_same bytes = in_parts bytes ∙ seen (r6 bytes)
