-- What is kept of a line tells its code, and whether it is too long.
use Rattle.std.proofs.Common.{◌≡◌, ℕ, ◌+◌, ◌-◌, ◌<◌, ◌≤◌, Bool, true, false, cond, List, [], ◌∷◌, ◌++◌, length, take, refl, sym, ap, ◌∙◌, ◌⊎◌, inl, inr, subst, arith, length-append}
use Rattle.std.specs.Prelude.{◌==◌, nat_le, slice_index, None}
use Rattle.std.proofs.lemmas.Bool.{cases_lt, le-leb, lt-leb, ne_eqb}
use Rattle.std.proofs.lemmas.List.{take_all, take-take, take-append-le, length-take-le}
use Rattle.ftp_lines.specs.ReplyLineView.{ReplyLineView, most_kept}
use Rattle.ftp_lines.specs.ReplyReaderView.{short}
use Rattle.ftp_lines.specs.Reply.{code_of, has_code, is_closing, without_end, opening_code}

front_cond : (cr : Bool) (text : List ℕ) → 4 < length text → take 4 (cond cr (take (length text - 1) text) text) ≡ take 4 text
front_cond true text long = take-take 4 (length text - 1) text (omega arith)
front_cond false text long = refl

-- the first bytes of a long part are those of its line
pub front_line : (text : List ℕ) → 4 < length text → take 4 (without_end text) ≡ take 4 text
front_line text long = front_cond (slice_index text (length text - 1) == 13) text long

length_cond : (cr : Bool) (text : List ℕ) → length text ≤ length (cond cr (take (length text - 1) text) text) + 1
length_cond true text = let kept = length-take-le (length text - 1) text (omega arith) in omega (arith, kept)
length_cond false text = omega arith

-- a CR is one byte
length_line : (text : List ℕ) → length text ≤ length (without_end text) + 1
length_line text = length_cond (slice_index text (length text - 1) == 13) text

code_front : (line : List ℕ) → code_of (take 4 line) ≡ code_of line
code_front [] = refl
code_front (a ∷ []) = refl
code_front (a ∷ b ∷ []) = refl
code_front (a ∷ b ∷ c ∷ []) = refl
code_front (a ∷ b ∷ c ∷ d ∷ more) = refl

has_code_front : (line : List ℕ) → has_code (take 4 line) ≡ has_code line
has_code_front [] = refl
has_code_front (a ∷ []) = refl
has_code_front (a ∷ b ∷ []) = refl
has_code_front (a ∷ b ∷ c ∷ []) = refl
has_code_front (a ∷ b ∷ c ∷ d ∷ more) =
    let long : nat_le 3 (length (a ∷ b ∷ c ∷ d ∷ more)) ≡ true = le-leb 3 _ (omega arith) in
    rw long refl

closing_front : (line : List ℕ) → is_closing (take 4 line) ≡ is_closing line
closing_front [] = refl
closing_front (a ∷ []) = refl
closing_front (a ∷ b ∷ []) = refl
closing_front (a ∷ b ∷ c ∷ []) = refl
closing_front (a ∷ b ∷ c ∷ d ∷ more) =
    let long : nat_le 3 (length (a ∷ b ∷ c ∷ d ∷ more)) ≡ true = le-leb 3 _ (omega arith) in
    let longer : ((length (a ∷ b ∷ c ∷ d ∷ more)) == 3) ≡ false = ne_eqb _ 3 (λ (e : length (a ∷ b ∷ c ∷ d ∷ more) ≡ 3). omega arith) in
    rw (long, longer) refl

opened_front : (line : List ℕ) → opening_code (take 4 line) ≡ opening_code line
opened_front [] = refl
opened_front (a ∷ []) = refl
opened_front (a ∷ b ∷ []) = refl
opened_front (a ∷ b ∷ c ∷ []) = refl
opened_front (a ∷ b ∷ c ∷ d ∷ more) =
    let long : nat_le 3 (length (a ∷ b ∷ c ∷ d ∷ more)) ≡ true = le-leb 3 _ (omega arith) in
    rw long refl

-- lines that say the same of a reply
pub record SameCode (line other : List ℕ) : Type 0 where
  pub closing : is_closing line ≡ is_closing other
  pub code : code_of line ≡ code_of other
  pub opens : opening_code line ≡ opening_code other

pub same_front : (line other : List ℕ) → take 4 line ≡ take 4 other → SameCode line other
same_front line other same = record {
  closing = sym (closing_front line) ∙ ap is_closing same ∙ closing_front other;
  code = sym (code_front line) ∙ ap code_of same ∙ code_front other;
  opens = sym (opened_front line) ∙ ap opening_code same ∙ opened_front other;
}

same_long : (text : List ℕ) → most_kept < length text → SameCode (without_end (take most_kept text)) (without_end text)
same_long text long =
    let full : length (take most_kept text) ≡ most_kept = length-take-le most_kept text (omega (arith, long)) in
    let kept = front_line (take most_kept text) (omega (arith, full)) in
    let whole = front_line text (omega (arith, long)) in
    same_front (without_end (take most_kept text)) (without_end text) (kept ∙ take-take 4 most_kept text (omega arith) ∙ sym whole)

same_by : (text : List ℕ) → (most_kept < length text) ⊎ (length text ≤ most_kept) → SameCode (without_end (take most_kept text)) (without_end text)
same_by text (inl long) = same_long text long
same_by text (inr few) = rw (take_all most_kept text few) (record { closing = refl; code = refl; opens = refl })

-- what is kept of a line says the same of a reply
pub kept_code : (text : List ℕ) → SameCode (without_end (take most_kept text)) (without_end text)
kept_code text = same_by text (cases_lt most_kept (length text))

short_none : (line : List ℕ) → 512 < length line → short line ≡ None
short_none line long = let e : nat_le (length line) 512 ≡ false = lt-leb (length line) 512 long in rw e refl

short_by : (text : List ℕ) → (most_kept < length text) ⊎ (length text ≤ most_kept) → short (without_end (take most_kept text)) ≡ short (without_end text)
short_by text (inr few) = ap (λ t. short (without_end t)) (take_all most_kept text few)
short_by text (inl long) =
    let full : length (take most_kept text) ≡ most_kept = length-take-le most_kept text (omega (arith, long)) in
    let kept = length_line (take most_kept text) in
    let whole = length_line text in
    short_none (without_end (take most_kept text)) (omega (arith, full, kept)) ∙ sym (short_none (without_end text) (omega (arith, long, whole)))

-- what is kept of a line tells whether it is too long, and the line if not
pub kept_line : (text : List ℕ) → short (without_end (take most_kept text)) ≡ short (without_end text)
kept_line text = short_by text (cases_lt most_kept (length text))

-- a byte is kept where there is room for it
pub keeps_byte : (kept : List ℕ) (byte : ℕ) → length kept < most_kept → take most_kept (kept ++ byte ∷ []) ≡ kept ++ byte ∷ []
keeps_byte kept byte less = let long = length-append kept (byte ∷ []) in take_all most_kept (kept ++ byte ∷ []) (omega (arith, long, less))

pub drops_byte : (kept : List ℕ) (byte : ℕ) → length kept ≡ most_kept → take most_kept (kept ++ byte ∷ []) ≡ kept
drops_byte kept byte full = take-append-le most_kept kept (byte ∷ []) (omega (arith, full)) ∙ take_all most_kept kept (omega (arith, full))

-- what a line keeps
abbrev pub gathered : List ℕ → Bool → ReplyLineView
gathered kept ended = record { kept = kept; ended = ended }

pub keep_some : (kept items : List ℕ) (ended : Bool) (old : ReplyLineView) (byte : ℕ) → gathered kept ended ≡ old → items ≡ kept ++ byte ∷ [] → length kept < most_kept
    → gathered items ended ≡ gathered (take most_kept (old.kept ++ byte ∷ [])) old.ended
keep_some kept items ended old byte view is less =
    let P : ReplyLineView → Type 0 = λ g. gathered items ended ≡ gathered (take most_kept (g.kept ++ byte ∷ [])) g.ended in
    subst P view (ap (λ k. gathered k ended) (is ∙ sym (keeps_byte kept byte less)))

pub keep_none : (kept : List ℕ) (ended : Bool) (old : ReplyLineView) (byte : ℕ) → gathered kept ended ≡ old → length kept ≡ most_kept
    → old ≡ gathered (take most_kept (old.kept ++ byte ∷ [])) old.ended
keep_none kept ended old byte view full =
    let P : ReplyLineView → Type 0 = λ g. g ≡ gathered (take most_kept (g.kept ++ byte ∷ [])) g.ended in
    subst P view (ap (λ k. gathered k ended) (sym (drops_byte kept byte full)))
