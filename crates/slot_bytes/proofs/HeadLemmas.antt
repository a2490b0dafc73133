-- Readers of the head, and of the head with its body.
use Rattle.std.proofs.Common.{◌≡◌, ℕ, ◌≤◌, lit≤, List, [], ◌∷◌, ◌++◌, length, Ok, refl, sym, subst, ◌∙◌, arith}
use Rattle.byte_reader.specs.Reading.{Read, ◌>>=◌, byte_at, bytes_at, short_at}
use Rattle.byte_reader.specs.Exact.{ReadsExactly, InRange, one, two, itself, IsBytesOf}
use Rattle.byte_reader.proofs.ReaderLemmas.{reads_same, through, reads_through, both, FitBoth, spell_both, reads_both, bind_both}
use Rattle.byte_reader.proofs.FieldLemmas.{reads_byte, reads_bytes}
use Rattle.byte_reader.proofs.NumberLemmas.{reads_short}
use Rattle.slot_bytes.specs.Layout.{IsTextFrom, IsEnvelope, counted, each_counted, mark_count, tagged_head}
use Rattle.slot_bytes.specs.Reading.{Preamble, Head, preamble_at, body_len_at, long_text_at, rcpts_at, head_at, head_of, whole_at}
use Rattle.slot_bytes.proofs.FieldLemmas.{AreRcpts, reads_long_text, reads_rcpts, IsBodyLen, len_bytes, reads_body_len}

-- ---- the first six bytes

abbrev M2 : Type 0
M2 = ℕ × ℕ

abbrev M3 : Type 0
M3 = M2 × ℕ

abbrev M4 : Type 0
M4 = M3 × ℕ

abbrev M5 : Type 0
M5 = M4 × ℕ

abbrev M6 : Type 0
M6 = M5 × ℕ

abbrev m2 : List ℕ → Read M2
m2 = both ℕ ℕ (byte_at 1 255) (λ a. byte_at 0 255)

abbrev m3 : List ℕ → Read M3
m3 = both M2 ℕ m2 (λ p. byte_at 70 70)

abbrev m4 : List ℕ → Read M4
m4 = both M3 ℕ m3 (λ p. byte_at 87 87)

abbrev m5 : List ℕ → Read M5
m5 = both M4 ℕ m4 (λ p. byte_at 83 83)

abbrev m6 : List ℕ → Read M6
m6 = both M5 ℕ m5 (λ p. byte_at 49 50)

abbrev FitsM2 : M2 → Type 0
FitsM2 = FitBoth ℕ ℕ (InRange 1 255) (λ a. InRange 0 255)

abbrev FitsM3 : M3 → Type 0
FitsM3 = FitBoth M2 ℕ FitsM2 (λ p. InRange 70 70)

abbrev FitsM4 : M4 → Type 0
FitsM4 = FitBoth M3 ℕ FitsM3 (λ p. InRange 87 87)

abbrev FitsM5 : M5 → Type 0
FitsM5 = FitBoth M4 ℕ FitsM4 (λ p. InRange 83 83)

abbrev FitsM6 : M6 → Type 0
FitsM6 = FitBoth M5 ℕ FitsM5 (λ p. InRange 49 50)

abbrev spell_m2 : M2 → List ℕ
spell_m2 = spell_both ℕ ℕ one (λ a. one)

abbrev spell_m3 : M3 → List ℕ
spell_m3 = spell_both M2 ℕ spell_m2 (λ p. one)

abbrev spell_m4 : M4 → List ℕ
spell_m4 = spell_both M3 ℕ spell_m3 (λ p. one)

abbrev spell_m5 : M5 → List ℕ
spell_m5 = spell_both M4 ℕ spell_m4 (λ p. one)

abbrev spell_m6 : M6 → List ℕ
spell_m6 = spell_both M5 ℕ spell_m5 (λ p. one)

reads_m6 : ReadsExactly M6 m6 FitsM6 spell_m6
reads_m6 =
    let r2 = reads_both ℕ ℕ (byte_at 1 255) (λ a. byte_at 0 255) (InRange 1 255) one (λ a. InRange 0 255) (λ a. one) (reads_byte 1 255 (lit≤ tt)) (λ a h. reads_byte 0 255 (lit≤ tt)) in
    let r3 = reads_both M2 ℕ m2 (λ p. byte_at 70 70) FitsM2 spell_m2 (λ p. InRange 70 70) (λ p. one) r2 (λ p h. reads_byte 70 70 (lit≤ tt)) in
    let r4 = reads_both M3 ℕ m3 (λ p. byte_at 87 87) FitsM3 spell_m3 (λ p. InRange 87 87) (λ p. one) r3 (λ p h. reads_byte 87 87 (lit≤ tt)) in
    let r5 = reads_both M4 ℕ m4 (λ p. byte_at 83 83) FitsM4 spell_m4 (λ p. InRange 83 83) (λ p. one) r4 (λ p h. reads_byte 83 83 (lit≤ tt)) in
    reads_both M5 ℕ m5 (λ p. byte_at 49 50) FitsM5 spell_m5 (λ p. InRange 49 50) (λ p. one) r5 (λ p h. reads_byte 49 50 (lit≤ tt))

pub record FitsPreamble (start : Preamble) : Type 0 where
  pub gate : InRange 1 255 start.gate
  pub aside : InRange 0 255 start.aside
  pub version : InRange 49 50 start.version

abbrev pub preamble_bytes : Preamble → List ℕ
preamble_bytes start = start.gate ∷ start.aside ∷ 70 ∷ 87 ∷ 83 ∷ start.version ∷ []

abbrev preamble_in : M6 → Preamble
preamble_in x = record { gate = x.0.0.0.0.0; aside = x.0.0.0.0.1; version = x.1 }

mark_cells : (g a f w s v : ℕ) → f ≡ 70 → w ≡ 87 → s ≡ 83 → g ∷ a ∷ 70 ∷ 87 ∷ 83 ∷ v ∷ [] ≡ g ∷ a ∷ f ∷ w ∷ s ∷ v ∷ []
mark_cells g a f w s v p q r = cc

same_as : (least n : ℕ) → InRange least least n → n ≡ least
same_as least n h = let low : least ≤ n = h.0 in let high : n ≤ least = h.1 in omega arith

preamble_to : (x : M6) → FitsM6 x → FitsPreamble (preamble_in x) × (preamble_bytes (preamble_in x) ≡ spell_m6 x)
preamble_to x fits = (
  record { gate = fits.0.0.0.0.0; aside = fits.0.0.0.0.1; version = fits.1 },
  mark_cells x.0.0.0.0.0 x.0.0.0.0.1 x.0.0.0.1 x.0.0.1 x.0.1 x.1 (same_as 70 x.0.0.0.1 fits.0.0.0.1) (same_as 87 x.0.0.1 fits.0.0.1) (same_as 83 x.0.1 fits.0.1),
)

preamble_from : (start : Preamble) → FitsPreamble start → (x : M6) × FitsM6 x × (preamble_in x ≡ start)
preamble_from start fits = (
  (((((start.gate, start.aside), 70), 87), 83), start.version),
  (((((fits.gate, fits.aside), (lit≤ tt, lit≤ tt)), (lit≤ tt, lit≤ tt)), (lit≤ tt, lit≤ tt)), fits.version),
  refl,
)

abbrev preamble_of : ℕ → ℕ → ℕ → Preamble
preamble_of gate aside version = record { gate = gate; aside = aside; version = version }

preamble_same : (bytes : List ℕ) → preamble_at bytes ≡ through M6 Preamble m6 preamble_in bytes
unfolding preamble_at
preamble_same bytes =
    bind_both ℕ ℕ (Preamble × List ℕ) (byte_at 1 255) (λ a. byte_at 0 255) (λ x rest. byte_at 70 70 rest >>= λ f. (byte_at 87 87 f.1 >>= λ w. (byte_at 83 83 w.1 >>= λ s. (byte_at 49 50 s.1 >>= λ v. Ok (preamble_of x.0 x.1 v.0, v.1))))) bytes
    ∙ bind_both M2 ℕ (Preamble × List ℕ) m2 (λ p. byte_at 70 70) (λ x rest. byte_at 87 87 rest >>= λ w. (byte_at 83 83 w.1 >>= λ s. (byte_at 49 50 s.1 >>= λ v. Ok (preamble_of x.0.0 x.0.1 v.0, v.1)))) bytes
    ∙ bind_both M3 ℕ (Preamble × List ℕ) m3 (λ p. byte_at 87 87) (λ x rest. byte_at 83 83 rest >>= λ s. (byte_at 49 50 s.1 >>= λ v. Ok (preamble_of x.0.0.0 x.0.0.1 v.0, v.1))) bytes
    ∙ bind_both M4 ℕ (Preamble × List ℕ) m4 (λ p. byte_at 83 83) (λ x rest. byte_at 49 50 rest >>= λ v. Ok (preamble_of x.0.0.0.0 x.0.0.0.1 v.0, v.1)) bytes
    ∙ bind_both M5 ℕ (Preamble × List ℕ) m5 (λ p. byte_at 49 50) (λ x rest. Ok (preamble_in x, rest)) bytes

pub reads_preamble : ReadsExactly Preamble preamble_at FitsPreamble preamble_bytes
reads_preamble = reads_same Preamble (through M6 Preamble m6 preamble_in) preamble_at FitsPreamble preamble_bytes preamble_same (reads_through M6 Preamble m6 FitsM6 spell_m6 preamble_in FitsPreamble preamble_bytes reads_m6 (record { to = preamble_to; from = preamble_from }))

-- ---- the head

abbrev Texts : Type 0
Texts = List (List ℕ)

abbrev H2 : Type 0
H2 = Preamble × ℕ

abbrev H3 : Type 0
H3 = H2 × ℕ

abbrev H4 : Type 0
H4 = H3 × List ℕ

abbrev H5 : Type 0
H5 = H4 × List ℕ

abbrev H6 : Type 0
H6 = H5 × Texts

abbrev h2 : List ℕ → Read H2
h2 = both Preamble ℕ preamble_at (λ a. body_len_at)

abbrev h3 : List ℕ → Read H3
h3 = both H2 ℕ h2 (λ p. short_at 1 1000)

abbrev marks_of : H3 → List ℕ → Read (List ℕ)
marks_of p = bytes_at (mark_count p.0.0.version p.1)

abbrev FitsMarksOf : H3 → List ℕ → Type 0
FitsMarksOf p = IsBytesOf (mark_count p.0.0.version p.1)

abbrev h4 : List ℕ → Read H4
h4 = both H3 (List ℕ) h3 marks_of

abbrev h5 : List ℕ → Read H5
h5 = both H4 (List ℕ) h4 (λ p. long_text_at 0 256)

abbrev h6 : List ℕ → Read H6
h6 = both H5 Texts h5 (λ p. rcpts_at p.0.0.1)

abbrev FitsH2 : H2 → Type 0
FitsH2 = FitBoth Preamble ℕ FitsPreamble (λ a. IsBodyLen)

abbrev FitsH3 : H3 → Type 0
FitsH3 = FitBoth H2 ℕ FitsH2 (λ p. InRange 1 1000)

abbrev FitsH4 : H4 → Type 0
FitsH4 = FitBoth H3 (List ℕ) FitsH3 FitsMarksOf

abbrev FitsH5 : H5 → Type 0
FitsH5 = FitBoth H4 (List ℕ) FitsH4 (λ p. IsTextFrom 0 256)

abbrev FitsH6 : H6 → Type 0
FitsH6 = FitBoth H5 Texts FitsH5 (λ p. AreRcpts p.0.0.1)

abbrev spell_h2 : H2 → List ℕ
spell_h2 = spell_both Preamble ℕ preamble_bytes (λ a. len_bytes)

abbrev spell_h3 : H3 → List ℕ
spell_h3 = spell_both H2 ℕ spell_h2 (λ p. two)

abbrev spell_h4 : H4 → List ℕ
spell_h4 = spell_both H3 (List ℕ) spell_h3 (λ p. itself)

abbrev spell_h5 : H5 → List ℕ
spell_h5 = spell_both H4 (List ℕ) spell_h4 (λ p. counted)

abbrev spell_h6 : H6 → List ℕ
spell_h6 = spell_both H5 Texts spell_h5 (λ p. each_counted)

reads_h6 : ReadsExactly H6 h6 FitsH6 spell_h6
reads_h6 =
    let r2 = reads_both Preamble ℕ preamble_at (λ a. body_len_at) FitsPreamble preamble_bytes (λ a. IsBodyLen) (λ a. len_bytes) reads_preamble (λ a h. reads_body_len) in
    let r3 = reads_both H2 ℕ h2 (λ p. short_at 1 1000) FitsH2 spell_h2 (λ p. InRange 1 1000) (λ p. two) r2 (λ p h. reads_short 1 1000 (lit≤ tt)) in
    let r4 = reads_both H3 (List ℕ) h3 marks_of FitsH3 spell_h3 FitsMarksOf (λ p. itself) r3 (λ p h. reads_bytes (mark_count p.0.0.version p.1)) in
    let r5 = reads_both H4 (List ℕ) h4 (λ p. long_text_at 0 256) FitsH4 spell_h4 (λ p. IsTextFrom 0 256) (λ p. counted) r4 (λ p h. reads_long_text 0 256 (lit≤ tt)) in
    reads_both H5 Texts h5 (λ p. rcpts_at p.0.0.1) FitsH5 spell_h5 (λ p. AreRcpts p.0.0.1) (λ p. each_counted) r5 (λ p h. reads_rcpts p.0.0.1)

pub record FitsHead (h : Head) : Type 0 where
  pub gate : InRange 1 255 h.gate
  pub aside : InRange 0 255 h.aside
  pub version : InRange 49 50 h.version
  pub len : IsBodyLen h.len
  pub marks : IsBytesOf (mark_count h.version (length h.rcpts)) h.marks
  pub envelope : IsEnvelope h.from h.rcpts

abbrev pub head_bytes : Head → List ℕ
head_bytes h = h.gate ∷ h.aside ∷ tagged_head h.version h.len h.marks h.from h.rcpts

abbrev head_in : H6 → Head
head_in x = head_of x.0.0.0.0.0 x.0.0.0.0.1 x.0.0.1 x.0.1 x.1

head_spelled : (start : Preamble) (len n : ℕ) (marks from : List ℕ) (rcpts : Texts) → length rcpts ≡ n
    → head_bytes (head_of start len marks from rcpts) ≡ ((((preamble_bytes start ++ len_bytes len) ++ two n) ++ marks) ++ counted from) ++ each_counted rcpts
head_spelled start len n marks from rcpts e = rw e refl

head_to : (x : H6) → FitsH6 x → FitsHead (head_in x) × (head_bytes (head_in x) ≡ spell_h6 x)
head_to x fits =
    let start : FitsPreamble x.0.0.0.0.0 = fits.0.0.0.0.0 in
    let count : length x.1 ≡ x.0.0.0.1 = fits.1.0 in (
      record {
        gate = start.gate;
        aside = start.aside;
        version = start.version;
        len = fits.0.0.0.0.1;
        marks = subst (λ (n : ℕ). IsBytesOf (mark_count x.0.0.0.0.0.version n) x.0.0.1) (sym count) fits.0.0.1;
        envelope = record {
          from_fits = fits.0.1;
          some = omega (arith, count, fits.0.0.0.1.0);
          few = omega (arith, count, fits.0.0.0.1.1);
          each = fits.1.1;
        };
      },
      head_spelled x.0.0.0.0.0 x.0.0.0.0.1 x.0.0.0.1 x.0.0.1 x.0.1 x.1 count,
    )

head_from : (h : Head) → FitsHead h → (x : H6) × FitsH6 x × (head_in x ≡ h)
head_from h fits =
    let start : Preamble = preamble_of h.gate h.aside h.version in (
      (((((start, h.len), length h.rcpts), h.marks), h.from), h.rcpts),
      (((((record { gate = fits.gate; aside = fits.aside; version = fits.version }, fits.len), (fits.envelope.some, fits.envelope.few)), fits.marks), fits.envelope.from_fits), (refl, fits.envelope.each)),
      refl,
    )

head_same : (bytes : List ℕ) → head_at bytes ≡ through H6 Head h6 head_in bytes
unfolding head_at
head_same bytes =
    bind_both Preamble ℕ (Head × List ℕ) preamble_at (λ a. body_len_at) (λ x rest. short_at 1 1000 rest >>= λ n. (bytes_at (mark_count x.0.version n.0) n.1 >>= λ marks. (long_text_at 0 256 marks.1 >>= λ from. (rcpts_at n.0 from.1 >>= λ rcpts. Ok (head_of x.0 x.1 marks.0 from.0 rcpts.0, rcpts.1))))) bytes
    ∙ bind_both H2 ℕ (Head × List ℕ) h2 (λ p. short_at 1 1000) (λ x rest. bytes_at (mark_count x.0.0.version x.1) rest >>= λ marks. (long_text_at 0 256 marks.1 >>= λ from. (rcpts_at x.1 from.1 >>= λ rcpts. Ok (head_of x.0.0 x.0.1 marks.0 from.0 rcpts.0, rcpts.1)))) bytes
    ∙ bind_both H3 (List ℕ) (Head × List ℕ) h3 marks_of (λ x rest. long_text_at 0 256 rest >>= λ from. (rcpts_at x.0.1 from.1 >>= λ rcpts. Ok (head_of x.0.0.0 x.0.0.1 x.1 from.0 rcpts.0, rcpts.1))) bytes
    ∙ bind_both H4 (List ℕ) (Head × List ℕ) h4 (λ p. long_text_at 0 256) (λ x rest. rcpts_at x.0.0.1 rest >>= λ rcpts. Ok (head_of x.0.0.0.0 x.0.0.0.1 x.0.1 x.1 rcpts.0, rcpts.1)) bytes
    ∙ bind_both H5 Texts (Head × List ℕ) h5 (λ p. rcpts_at p.0.0.1) (λ x rest. Ok (head_in x, rest)) bytes

pub reads_head : ReadsExactly Head head_at FitsHead head_bytes
reads_head = reads_same Head (through H6 Head h6 head_in) head_at FitsHead head_bytes head_same (reads_through H6 Head h6 FitsH6 spell_h6 head_in FitsHead head_bytes reads_h6 (record { to = head_to; from = head_from }))

-- ---- the head with its body

abbrev pub FitsWhole : Head × List ℕ → Type 0
FitsWhole = FitBoth Head (List ℕ) FitsHead (λ h. IsBytesOf h.len)

abbrev pub spell_whole : Head × List ℕ → List ℕ
spell_whole = spell_both Head (List ℕ) head_bytes (λ h. itself)

whole_same : (bytes : List ℕ) → whole_at bytes ≡ both Head (List ℕ) head_at (λ h. bytes_at h.len) bytes
unfolding whole_at
whole_same bytes = refl

pub reads_whole : ReadsExactly (Head × List ℕ) whole_at FitsWhole spell_whole
reads_whole = reads_same (Head × List ℕ) (both Head (List ℕ) head_at (λ h. bytes_at h.len)) whole_at FitsWhole spell_whole whole_same
    (reads_both Head (List ℕ) head_at (λ h. bytes_at h.len) FitsHead head_bytes (λ h. IsBytesOf h.len) (λ h. itself) reads_head (λ h fits. reads_bytes h.len))
