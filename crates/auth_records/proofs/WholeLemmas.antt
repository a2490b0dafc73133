-- Reading all of the bytes, a record's bytes, and the first bad byte.
use Rattle.std.proofs.Common.{◌≡◌, ℕ, ◌+◌, ◌-◌, ◌≤◌, Bool, true, false, cond, nat_eq, List, [], ◌++◌, length, take, drop, Option, Some, None, Result, Ok, Err, refl, sym, ap, subst, ◌∙◌, append_assoc, length-append, length-drop, arith, inl, inr}
use Rattle.std.specs.Prelude.{IfSome, option_map}
use denote.Struct.Props.{props}
use Rattle.std.proofs.lemmas.Bool.{eqb-true}
use Rattle.std.proofs.lemmas.List.{append-nil, nil_from_length, take-append-drop, take_at}
use Rattle.byte_reader.specs.Reading.{IsBytes, Read, ◌>>=◌}
use Rattle.byte_reader.specs.Exact.{StopsAtFirstBad, Begins}
use Rattle.byte_reader.proofs.ReaderLemmas.{ok_is, bind_ok, bind_err, cut_either}
use Rattle.byte_reader.proofs.FieldLemmas.{chosen}
use Rattle.auth_records.specs.declared.record.Otp.{Otp}
use Rattle.auth_records.specs.declared.record.Record.{Record}
use Rattle.auth_records.specs.Spelling.{Fields, OtpFields, HasForm, IsOtp, IsRecord, Spells, fields, otp_fields, record_bytes}
use Rattle.auth_records.specs.Reading.{whole, record_or_place, decoded}
use Rattle.auth_records.specs.Fault.{BeginsRecord, IsLongestBeginning}
use Rattle.auth_records.proofs.VersionLemmas.{Versioned, FitsVersion, spelled_in, spell_version, versioned_at, reads_versioned, record_same}

-- ---- all of the bytes

abbrev end_of : Versioned × List ℕ → Result Versioned ℕ
end_of x = cond (nat_eq (length x.1) 0) (Ok x.0) (Err (length x.1))

abbrev all_of : List ℕ → Result Versioned ℕ
all_of bytes = versioned_at bytes >>= end_of

all_sound : (bytes : List ℕ) (y : Versioned) → IsBytes bytes → all_of bytes ≡ Ok y → FitsVersion y × (bytes ≡ spell_version y)
all_sound bytes y fits e =
    let b = bind_ok (Versioned × List ℕ) Versioned (versioned_at bytes) end_of y e in
    let t = reads_versioned.sound bytes b.0 fits b.1 in
    elim (chosen (Result Versioned ℕ) (nat_eq (length b.0.1) 0) (Ok b.0.0) (Err (length b.0.1)) (Ok y) b.2) [
      | inr h ↦ absurd (cc (h.1))
      | inl h ↦
          let nothing : b.0.1 ≡ [] = nil_from_length b.0.1 (eqb-true _ _ h.0) in
          let all : bytes ≡ spell_version b.0.0 = t.1 ∙ ap (λ (w : List ℕ). spell_version b.0.0 ++ w) nothing ∙ append-nil (spell_version b.0.0) in
          subst (λ (g : Versioned). FitsVersion g × (bytes ≡ spell_version g)) (ok_is Versioned b.0.0 y h.1) (t.0, all)
    ]

all_again : (y : Versioned) → FitsVersion y → all_of (spell_version y) ≡ Ok y
all_again y fits =
    let read : versioned_at (spell_version y) ≡ Ok (y, []) = ap versioned_at (sym (append-nil (spell_version y))) ∙ reads_versioned.again y [] fits in
    rw read refl

ending : (b : Bool) (y : Versioned) (left : ℕ) → cond b (let r : Result Fields ℕ = Ok y.1 in r) (Err left) ≡ ((cond b (let r : Result Versioned ℕ = Ok y in r) (Err left)) >>= λ z. Ok z.1)
ending true y left = refl
ending false y left = refl

abbrev fields_end : Fields × List ℕ → Result Fields ℕ
fields_end x = cond (nat_eq (length x.1) 0) (Ok x.0) (Err (length x.1))

all_seen : (r : Read Versioned) → ((r >>= λ y. (let z : Read Fields = Ok (y.0.1, y.1) in z)) >>= fields_end) ≡ ((r >>= end_of) >>= λ z. Ok z.1)
all_seen (Ok y) = ending (nat_eq (length y.1) 0) y.0 (length y.1)
all_seen (Err left) = refl

whole_same : (bytes : List ℕ) → whole bytes ≡ (all_of bytes >>= λ z. Ok z.1)
unfolding whole
whole_same bytes = ap (λ (r : Read Fields). r >>= fields_end) (record_same bytes) ∙ all_seen (versioned_at bytes)

-- what is read has a version in which the bytes are its spelling
pub record HasVersion (bytes : List ℕ) (f : Fields) : Type 0 where
  pub dated : Bool
  pub fits : FitsVersion (dated, f)
  pub is : bytes ≡ spelled_in dated f

whole_version : (bytes : List ℕ) (f : Fields) → IsBytes bytes → whole bytes ≡ Ok f → HasVersion bytes f
whole_version bytes f fits e =
    let b = bind_ok Versioned Fields (all_of bytes) (λ z. Ok z.1) f (sym (whole_same bytes) ∙ e) in
    let t = all_sound bytes b.0 fits b.1 in
    subst (HasVersion bytes) (ok_is Fields b.0.1 f b.2) (record { dated = b.0.0; fits = t.0; is = t.1 })

version_whole : (bytes : List ℕ) (f : Fields) → HasVersion bytes f → whole bytes ≡ Ok f
version_whole bytes f h =
    let all : all_of (spelled_in h.dated f) ≡ Ok (h.dated, f) = all_again (h.dated, f) h.fits in
    ap whole h.is ∙ whole_same (spelled_in h.dated f) ∙ ap (λ (r : Result Versioned ℕ). r >>= λ z. (let y : Result Fields ℕ = Ok z.1 in y)) all

-- ---- the first bad byte

-- where one spelling begins another, both are of one record, and the rest is empty
same_pair : (y g : Versioned) (rest : List ℕ) → FitsVersion y → FitsVersion g → spell_version g ++ [] ≡ spell_version y ++ rest → (g.1 ≡ y.1) × ([] ≡ rest)
same_pair y g rest fits_y fits_g same =
    let read_g : versioned_at (spell_version g ++ []) ≡ Ok (g, []) = reads_versioned.again g [] fits_g in
    let read_y : versioned_at (spell_version y ++ rest) ≡ Ok (y, rest) = reads_versioned.again y rest fits_y in
    let pair_g : Versioned × List ℕ = (g, []) in
    let pair_y : Versioned × List ℕ = (y, rest) in
    let pairs : pair_g ≡ pair_y = ok_is (Versioned × List ℕ) pair_g pair_y (sym read_g ∙ ap versioned_at same ∙ read_y) in
    (ap (λ (x : Versioned × List ℕ). x.0.1) pairs, ap (λ (x : Versioned × List ℕ). x.1) pairs)

abbrev err : ℕ → Result Versioned ℕ
err left = Err left

err_is : (m n : ℕ) → err m ≡ err n → m ≡ n
err_is m n e = cc

trailing_stops : (bytes : List ℕ) (y : Versioned) (rest : List ℕ) → FitsVersion y → bytes ≡ spell_version y ++ rest → StopsAtFirstBad Versioned FitsVersion spell_version bytes (length rest)
trailing_stops bytes y rest fits parts = record {
  front = spell_version y;
  tail = rest;
  parts = parts;
  len = refl;
  begins = (y, fits, [], sym (append-nil (spell_version y)));
  longest = λ p q cut begun.
      elim (cut_either (spell_version y) rest p q (sym parts ∙ cut)) [
        | inl r ↦ omega (arith, ap length r.2, length-append r.0 rest)
        | inr r ↦
            let g = begun.0 in
            let same : spell_version g ++ [] ≡ spell_version y ++ (r.0 ++ begun.2) = append-nil (spell_version g) ∙ begun.3 ∙ ap (λ (w : List ℕ). w ++ begun.2) r.1 ∙ append_assoc (spell_version y) r.0 begun.2 in
            let second : [] ≡ r.0 ++ begun.2 = (same_pair y g (r.0 ++ begun.2) fits begun.1 same).1 in
            omega (arith, ap length second, length-append r.0 begun.2, ap length r.2, length-append r.0 q)
      ];
}

all_stops : (bytes : List ℕ) (left : ℕ) → IsBytes bytes → all_of bytes ≡ Err left → StopsAtFirstBad Versioned FitsVersion spell_version bytes left
all_stops bytes left fits e =
    elim (bind_err (Versioned × List ℕ) Versioned (versioned_at bytes) end_of left e) [
      | inl stop ↦ reads_versioned.stops bytes left fits stop
      | inr b ↦
          elim (chosen (Result Versioned ℕ) (nat_eq (length b.0.1) 0) (Ok b.0.0) (Err (length b.0.1)) (Err left) b.2) [
            | inl h ↦ absurd (cc (h.1))
            | inr h ↦
                let t = reads_versioned.sound bytes b.0 fits b.1 in
                subst (λ (n : ℕ). StopsAtFirstBad Versioned FitsVersion spell_version bytes n) (err_is (length b.0.1) left h.1) (trailing_stops bytes b.0.0 b.0.1 t.0 t.1)
          ]
    ]

pub whole_stops : (bytes : List ℕ) (left : ℕ) → IsBytes bytes → whole bytes ≡ Err left → StopsAtFirstBad Versioned FitsVersion spell_version bytes left
whole_stops bytes left fits e =
    elim (bind_err Versioned Fields (all_of bytes) (λ z. Ok z.1) left (sym (whole_same bytes) ∙ e)) [
      | inl stop ↦ all_stops bytes left fits stop
      | inr b ↦ absurd (cc (b.2))
    ]

-- ---- records and their fields

abbrev NumberFits : Option OtpFields → Type 0
NumberFits o = IfSome o (λ x. x.number ≤ 9999)

abbrev RangesFit : Fields → Type 0
RangesFit f = (f.fails ≤ 5) × NumberFits f.otp

pub otp_made : (o : Option OtpFields) → NumberFits o → Option Otp
otp_made None fits = None
otp_made (Some o) fits = Some (record { number = o.number; word_seed = o.word_seed; kept = o.kept; in_range = fits })

abbrev made : (f : Fields) → RangesFit f → Record
made f fits = record { name = f.name; long = f.long; group = f.group; proto = f.proto; enabled = f.enabled; wiz = f.wiz; fails = f.fails; since = f.since; last = f.last; expires = f.expires; plain = f.plain; otp = otp_made f.otp fits.1; in_range = fits.0 }

otp_seen : (o : Option OtpFields) (fits : NumberFits o) → option_map otp_fields (otp_made o fits) ≡ o
unfolding otp_made
otp_seen None fits = refl
otp_seen (Some o) fits = refl

pub made_seen : (f : Fields) (fits : RangesFit f) → fields (made f fits) ≡ f
made_seen f fits = ap (λ (o : Option OtpFields). record f { otp = o }) (otp_seen f.otp fits.1)

number_ranges : (o : Option Otp) → NumberFits (option_map otp_fields o)
number_ranges None = tt
number_ranges (Some o) = o.in_range

otp_remade : (o : Option Otp) → otp_made (option_map otp_fields o) (number_ranges o) ≡ o
unfolding otp_made number_ranges
otp_remade None = refl
otp_remade (Some o) = refl

abbrev ranges : (r : Record) → RangesFit (fields r)
ranges r = (r.in_range, number_ranges r.otp)

remade : (r : Record) → made (fields r) (ranges r) ≡ r
remade r = ap (λ (o : Option Otp). record r { otp = o }) (otp_remade r.otp)

number_one : (o : Option OtpFields) → IsProp (NumberFits o)
number_one None = hlevel props
number_one (Some o) = hlevel props

ranges_one : (f : Fields) → IsProp (RangesFit f)
ranges_one f = hlevel (props, number_one f.otp)

-- records with the same fields are the same
pub same_record : (r s : Record) → fields r ≡ fields s → r ≡ s
same_record r s e =
    let P : Fields → Type 0 = λ f. (fits : RangesFit f) → made f fits ≡ s in
    let base : P (fields s) = λ fits. ap (made (fields s)) (ranges_one (fields s) fits (ranges s)) ∙ remade s in
    sym (remade r) ∙ subst P (sym e) base (ranges r)

otp_ranges : (o : Option OtpFields) → IfSome o IsOtp → NumberFits o
otp_ranges None fits = tt
otp_ranges (Some o) fits = fits.number

-- some record has these fields
pub has_record : (f : Fields) → HasForm f → (r : Record) × (fields r ≡ f)
has_record f fits =
    let ranges_fit : RangesFit f = (fits.fails, otp_ranges f.otp fits.otp) in
    (made f ranges_fit, made_seen f ranges_fit)

-- ---- a record's bytes

spelled_record : (dated : Bool) (bytes : List ℕ) (r : Record) → FitsVersion (dated, fields r) → bytes ≡ spelled_in dated (fields r) → Spells bytes r
spelled_record true bytes r fits e = inl e
spelled_record false bytes r fits e = inr (fits.undated refl, e)

version_of : (bytes : List ℕ) (r : Record) → IsRecord r → Spells bytes r → HasVersion bytes (fields r)
version_of bytes r is spells =
    elim spells [
      | inl e ↦ record { dated = true; fits = record { form = is; undated = λ old. absurd (cc old) }; is = e }
      | inr e ↦ record { dated = false; fits = record { form = is; undated = λ old. e.0 }; is = e.1 }
    ]

-- what is read is spelled by the bytes
pub whole_sound : (bytes : List ℕ) (r : Record) → IsBytes bytes → whole bytes ≡ Ok (fields r) → IsRecord r × Spells bytes r
whole_sound bytes r fits e =
    let v = whole_version bytes (fields r) fits e in
    (v.fits.form, spelled_record v.dated bytes r v.fits v.is)

-- what the bytes spell is read
pub whole_again : (bytes : List ℕ) (r : Record) → IsRecord r → Spells bytes r → whole bytes ≡ Ok (fields r)
whole_again bytes r is spells = version_whole bytes (fields r) (version_of bytes r is spells)

-- what is read is the one record that the bytes spell
pub only_record : (bytes : List ℕ) (r s : Record) → whole bytes ≡ Ok (fields r) → IsRecord s → Spells bytes s → r ≡ s
only_record bytes r s read is spells = same_record r s (ok_is Fields (fields r) (fields s) (sym read ∙ whole_again bytes s is spells))

pub one_record : (bytes : List ℕ) (r s : Record) → IsRecord r → IsRecord s → Spells bytes r → Spells bytes s → r ≡ s
one_record bytes r s is_r is_s spells_r spells_s = only_record bytes r s (whole_again bytes r is_r spells_r) is_s spells_s

-- what isn't read spells no record
pub no_record : (bytes : List ℕ) (left : ℕ) (s : Record) → whole bytes ≡ Err left → IsRecord s → Spells bytes s → ⊥
no_record bytes left s read is spells = let again = whole_again bytes s is spells in cc

pub no_longer : (bytes rest : List ℕ) (r s : Record) → IsRecord r → IsRecord s → Spells (bytes ++ rest) r → Spells bytes s → r ≡ s
no_longer bytes rest r s is_r is_s spells_r spells_s =
    let v = version_of (bytes ++ rest) r is_r spells_r in
    let w = version_of bytes s is_s spells_s in
    let same : spelled_in v.dated (fields r) ++ [] ≡ spelled_in w.dated (fields s) ++ rest = append-nil (spelled_in v.dated (fields r)) ∙ sym v.is ∙ ap (λ (x : List ℕ). x ++ rest) w.is in
    same_record r s (same_pair (w.dated, fields s) (v.dated, fields r) rest w.fits v.fits same).0

-- ---- the place of the first bad byte

abbrev Front : List ℕ → Type 0
Front front = Begins Versioned FitsVersion spell_version front

begins_record : (front : List ℕ) → Front front → BeginsRecord front
begins_record front b =
    let r = has_record b.0.1 b.1.form in
    let fits : FitsVersion (b.0.0, fields r.0) = subst (λ (f : Fields). FitsVersion (b.0.0, f)) (sym r.1) b.1 in
    let is : front ++ b.2 ≡ spelled_in b.0.0 (fields r.0) = sym b.3 ∙ ap (spelled_in b.0.0) (sym r.1) in
    (r.0, fits.form, b.2, spelled_record b.0.0 (front ++ b.2) r.0 fits is)

record_begins : (front : List ℕ) → BeginsRecord front → Front front
record_begins front b =
    let v = version_of (front ++ b.2) b.0 b.1 b.3 in
    ((v.dated, fields b.0), v.fits, b.2, sym v.is)

pub longest_beginning : (bytes : List ℕ) (left : ℕ) → StopsAtFirstBad Versioned FitsVersion spell_version bytes left → (left ≤ length bytes) × IsLongestBeginning bytes (length bytes - left)
longest_beginning bytes left s =
    let total : length bytes ≡ length s.front + length s.tail = ap length s.parts ∙ length-append s.front s.tail in
    let tail : length s.tail ≡ left = s.len in
    let place : length bytes - left ≡ length s.front = omega arith in
    let front : take (length bytes - left) bytes ≡ s.front = rw (place, s.parts) (take_at s.front s.tail (length s.front) refl) in (
      omega arith,
      record {
        within = omega arith;
        begins = begins_record (take (length bytes - left) bytes) (subst Front (sym front) s.begins);
        longest = λ n le b.
            let more : left ≤ length (drop n bytes) = s.longest (take n bytes) (drop n bytes) (sym (take-append-drop n bytes)) (record_begins (take n bytes) b) in
            omega (arith, length-drop n bytes);
      },
    )

left_of : (len : ℕ) (r : Result Fields ℕ) (at : ℕ) → record_or_place len r ≡ Err at → (left : ℕ) × (r ≡ Err left) × (len - left ≡ at)
left_of len (Ok f) at e = absurd cc
left_of len (Err left) at e = (left, refl, err_is (len - left) at (cc e))

pub decoded_again : (bytes : List ℕ) (r : Record) → IsRecord r → Spells bytes r → decoded bytes ≡ Ok (fields r)
unfolding decoded
decoded_again bytes r is spells = ap (record_or_place (length bytes)) (whole_again bytes r is spells)

pub decoded_written : (bytes : List ℕ) (r : Record) → IsRecord r → bytes ≡ record_bytes r → decoded bytes ≡ Ok (fields r)
decoded_written bytes r is e = decoded_again bytes r is (inl e)

read_of : (len : ℕ) (r : Result Fields ℕ) (f : Fields) → record_or_place len r ≡ Ok f → r ≡ Ok f
read_of len (Ok f) g e = e
read_of len (Err left) g e = absurd cc

pub decoded_sound : (bytes : List ℕ) (r : Record) → IsBytes bytes → decoded bytes ≡ Ok (fields r) → IsRecord r × Spells bytes r
unfolding decoded
decoded_sound bytes r fits e = whole_sound bytes r fits (read_of (length bytes) (whole bytes) (fields r) e)

pub decoded_longest : (bytes : List ℕ) (at : ℕ) → IsBytes bytes → decoded bytes ≡ Err at → IsLongestBeginning bytes at
unfolding decoded
decoded_longest bytes at fits e =
    let p = left_of (length bytes) (whole bytes) at e in
    subst (IsLongestBeginning bytes) p.2 (longest_beginning bytes p.0 (whole_stops bytes p.0 fits p.1)).1

pub decoded_none : (bytes : List ℕ) (at : ℕ) (s : Record) → decoded bytes ≡ Err at → IsRecord s → Spells bytes s → ⊥
decoded_none bytes at s e is spells = let again = decoded_again bytes s is spells in cc

pub one_place : (bytes : List ℕ) (m n : ℕ) → IsLongestBeginning bytes m → IsLongestBeginning bytes n → m ≡ n
one_place bytes m n a b =
    let up : n ≤ m = a.longest n b.within b.begins in
    let down : m ≤ n = b.longest m a.within a.begins in
    omega arith
