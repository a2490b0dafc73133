-- What slot files are read as, and the first byte that can't go on one.
use Rattle.std.proofs.Common.{◌≡◌, ℕ, zero, suc, ◌+◌, ◌-◌, ◌≤◌, Bool, true, false, cond, nat_eq, lit≤, List, [], ◌∷◌, ◌++◌, length, take, drop, Result, Ok, Err, refl, sym, ap, subst, ◌∙◌, append_assoc, length-append, length-drop, arith, ◌⊎◌, inl, inr}
use Rattle.std.proofs.lemmas.Bool.Decides.{nat_tests}
use Rattle.std.proofs.lemmas.List.{append-nil, take-append-drop, take_at}
use Rattle.byte_reader.specs.Reading.{IsBytes, Read}
use Rattle.byte_reader.specs.Exact.{StopsAtFirstBad, Begins, InRange}
use Rattle.byte_reader.proofs.ReaderLemmas.{cut_either}
use Rattle.byte_reader.proofs.FieldLemmas.{chosen}
use Rattle.slot_bytes.specs.Layout.{Mail, IsMail, AreMarks, done_of, mark_count, tagged_head, slot_bytes}
use Rattle.slot_bytes.specs.Reading.{Head, Reading, done_in, done_or_none, head_at, whole_at, mail_of, kept_or_bad, free_or_short, reads}
use Rattle.slot_bytes.specs.Reading.Reading.{Free, Whole, Aside, Bad}
use Rattle.slot_bytes.specs.Files.{IsFreeFile, IsKeptFile, IsSlotFile, BeginsSlot, IsLongestBeginning}
use Rattle.std.specs.Prelude.{IfErr}
use Rattle.slot_bytes.specs.declared.slot.Slot.{Slot}
use Rattle.slot_bytes.specs.declared.fault.SlotFault.{SlotFault}
use Rattle.slot_bytes.specs.declared.fault.SlotFault.TheVariants as faults
use Rattle.slot_bytes.specs.SlotView.{IsSlotRead, FirstBad}
use Rattle.slot_bytes.proofs.HeadLemmas.{FitsWhole, spell_whole, reads_head, reads_whole}

-- ---- messages and what is read

abbrev Kept : Type 0
Kept = Head × List ℕ

abbrev pub kept_of : ℕ → ℕ → ℕ → List ℕ → Mail → Kept
kept_of version gate aside marks m = (record { gate = gate; aside = aside; version = version; len = length m.body; marks = marks; from = m.from; rcpts = m.rcpts }, m.body)

pub kept_fits : (version gate aside : ℕ) (marks : List ℕ) (m : Mail) → InRange 1 255 gate → InRange 0 255 aside → AreMarks version (length m.rcpts) marks → IsMail m
    → FitsWhole (kept_of version gate aside marks m)
kept_fits version gate aside marks m open_gate mark are fits = (
  record { gate = open_gate; aside = mark; version = are.known; len = fits.small; marks = are.each; envelope = fits.envelope },
  record { len = refl; bytes = fits.bytes },
)

pub mail_fits : (x : Kept) → FitsWhole x → IsMail (mail_of x)
mail_fits x fits =
    let len : length x.1 ≡ x.0.len = fits.1.len in
    record { envelope = fits.0.envelope; small = omega (arith, len, fits.0.len); bytes = fits.1.bytes }

-- its bytes are the slot's
pub kept_bytes : (x : Kept) → FitsWhole x → spell_whole x ≡ slot_bytes x.0.version x.0.gate x.0.aside x.0.marks (mail_of x)
kept_bytes x fits =
    let len : x.0.len ≡ length x.1 = sym fits.1.len in
    ap (λ (n : ℕ). (x.0.gate ∷ x.0.aside ∷ tagged_head x.0.version n x.0.marks x.0.from x.0.rcpts) ++ x.1) len

pub marks_fit : (x : Kept) → FitsWhole x → AreMarks x.0.version (length (mail_of x).rcpts) x.0.marks
marks_fit x fits = record { known = fits.0.version; each = fits.0.marks }

pub whole_again : (version gate aside : ℕ) (marks : List ℕ) (m : Mail) (rest : List ℕ) → InRange 1 255 gate → InRange 0 255 aside → AreMarks version (length m.rcpts) marks → IsMail m
    → whole_at (slot_bytes version gate aside marks m ++ rest) ≡ Ok (kept_of version gate aside marks m, rest)
whole_again version gate aside marks m rest open_gate mark are fits = reads_whole.again (kept_of version gate aside marks m) rest (kept_fits version gate aside marks m open_gate mark are fits)

-- ---- what is written is read again

shut : (gate : ℕ) → 1 ≤ gate → nat_eq gate 0 ≡ false
shut gate some = grind (arith, nat_tests)

-- behind an open gate
pub reads_open : (gate : ℕ) (rest : List ℕ) → nat_eq gate 0 ≡ false → reads (gate ∷ rest) ≡ kept_or_bad (length (gate ∷ rest)) (whole_at (gate ∷ rest))
unfolding reads
reads_open gate rest is = rw is refl

pub reads_again : (version gate aside : ℕ) (marks : List ℕ) (m : Mail) (rest : List ℕ) → InRange 1 255 gate → InRange 0 255 aside → AreMarks version (length m.rcpts) marks → IsMail m
    → reads (slot_bytes version gate aside marks m ++ rest) ≡ cond (nat_eq aside 0) (Whole m) (Aside m)
reads_again version gate aside marks m rest open_gate mark are fits =
    let more : List ℕ = ((aside ∷ tagged_head version (length m.body) marks m.from m.rcpts) ++ m.body) ++ rest in
    reads_open gate more (shut gate open_gate.0) ∙ ap (kept_or_bad (length (gate ∷ more))) (whole_again version gate aside marks m rest open_gate mark are fits)

pub done_again : (version gate aside : ℕ) (marks : List ℕ) (m : Mail) (rest : List ℕ) → InRange 1 255 gate → InRange 0 255 aside → AreMarks version (length m.rcpts) marks → IsMail m
    → done_in (slot_bytes version gate aside marks m ++ rest) ≡ done_of marks
done_again version gate aside marks m rest open_gate mark are fits = ap done_or_none (whole_again version gate aside marks m rest open_gate mark are fits)

pub reads_free : (bytes : List ℕ) → IsFreeFile bytes → reads bytes ≡ Free
unfolding reads
reads_free [] free = absurd (omega (arith, free.long))
reads_free (gate ∷ []) free = absurd (omega (arith, free.long))
reads_free (gate ∷ aside ∷ rest) free = let is : gate ≡ 0 = free.gate in rw is refl

-- ---- the first bad byte

bad_is : (m n : ℕ) → Bad m ≡ Bad n → m ≡ n
bad_is m n e = cc

kept_left : (len at : ℕ) (read : Read Kept) → kept_or_bad len read ≡ Bad at → (left : ℕ) × (read ≡ Err left) × (len - left ≡ at)
kept_left len at (Ok x) e =
    elim (chosen Reading (nat_eq x.0.0.aside 0) (Whole (mail_of x.0)) (Aside (mail_of x.0)) (Bad at) e) [
      | inl h ↦ absurd (cc (h.1))
      | inr h ↦ absurd (cc (h.1))
    ]
kept_left len at (Err left) e = (left, refl, bad_is (len - left) at e)

not_free : (n gate : ℕ) (rest more : List ℕ) → nat_eq gate 0 ≡ false → IsFreeFile (take n (gate ∷ rest) ++ more) → n ≡ 0
not_free zero gate rest more is free = refl
not_free (suc n) gate rest more is free = let none : gate ≡ 0 = free.gate in absurd (grind (arith, nat_tests))

begins_kept : (front : List ℕ) → Begins Kept FitsWhole spell_whole front → BeginsSlot front
begins_kept front b =
    let x = b.0 in
    let fits : FitsWhole x = b.1 in
    let parts : front ++ b.2 ≡ slot_bytes x.0.version x.0.gate x.0.aside x.0.marks (mail_of x) ++ [] = sym b.3 ∙ kept_bytes x fits ∙ sym (append-nil (slot_bytes x.0.version x.0.gate x.0.aside x.0.marks (mail_of x))) in
    let is : IsKeptFile (front ++ b.2) = record { version = x.0.version; gate = x.0.gate; aside = x.0.aside; marks = x.0.marks; m = mail_of x; rest = []; open_gate = fits.0.gate; mark = fits.0.aside; are_marks = marks_fit x fits; mail = mail_fits x fits; parts = parts } in
    (b.2, inr is)

stopped : (gate : ℕ) (tail : List ℕ) (left : ℕ) → nat_eq gate 0 ≡ false → whole_at (gate ∷ tail) ≡ Err left → StopsAtFirstBad Kept FitsWhole spell_whole (gate ∷ tail) left
    → (n : ℕ) → BeginsSlot (take n (gate ∷ tail)) → n ≤ length (gate ∷ tail) → n + left ≤ length (gate ∷ tail)
stopped gate tail left is err st n (more, inl free) le =
    let none : n ≡ 0 = not_free n gate tail more is free in
    omega (arith, ap length st.parts, length-append st.front st.tail, st.len)
stopped gate tail left is err st n (more, inr kept) le =
    let bytes : List ℕ = gate ∷ tail in
    let slot : List ℕ = slot_bytes kept.version kept.gate kept.aside kept.marks kept.m in
    let cut : take n bytes ++ drop n bytes ≡ bytes = take-append-drop n bytes in
    elim (cut_either (take n bytes) more slot kept.rest kept.parts) [
      | inl r ↦
          let all : bytes ≡ slot ++ (r.0 ++ drop n bytes) = sym cut ∙ ap (λ (w : List ℕ). w ++ drop n bytes) r.1 ∙ append_assoc slot r.0 (drop n bytes) in
          let good : whole_at bytes ≡ Ok (kept_of kept.version kept.gate kept.aside kept.marks kept.m, r.0 ++ drop n bytes) = ap whole_at all ∙ whole_again kept.version kept.gate kept.aside kept.marks kept.m (r.0 ++ drop n bytes) kept.open_gate kept.mark kept.are_marks kept.mail in
          absurd (cc (good, err))
      | inr r ↦
          let more_left : left ≤ length (drop n bytes) = st.longest (take n bytes) (drop n bytes) (sym cut) (kept_of kept.version kept.gate kept.aside kept.marks kept.m, kept_fits kept.version kept.gate kept.aside kept.marks kept.m kept.open_gate kept.mark kept.are_marks kept.mail, r.0, r.1) in
          omega (arith, length-drop n bytes)
    ]

front_is : (bytes front tail : List ℕ) (at : ℕ) → bytes ≡ front ++ tail → at ≡ length front → take at bytes ≡ front
front_is bytes front tail at parts here = rw (here, parts) (take_at front tail (length front) refl)

open_longest : (gate : ℕ) (tail : List ℕ) (at : ℕ) → IsBytes (gate ∷ tail) → nat_eq gate 0 ≡ false → kept_or_bad (length (gate ∷ tail)) (whole_at (gate ∷ tail)) ≡ Bad at → IsLongestBeginning (gate ∷ tail) at
open_longest gate tail at fits is e =
    let p = kept_left (length (gate ∷ tail)) at (whole_at (gate ∷ tail)) e in
    let bytes : List ℕ = gate ∷ tail in
    let st : StopsAtFirstBad Kept FitsWhole spell_whole (gate ∷ tail) p.0 = reads_whole.stops (gate ∷ tail) p.0 fits p.1 in
    let total : length (gate ∷ tail) ≡ length st.front + length st.tail = ap length st.parts ∙ length-append st.front st.tail in
    let last : length st.tail ≡ p.0 = st.len in
    let place : length (gate ∷ tail) - p.0 ≡ at = p.2 in
    let here : at ≡ length st.front = omega arith in
    let front : take at bytes ≡ st.front = front_is bytes st.front st.tail at st.parts here in
    record {
      within = omega (arith, here, total);
      begins = subst BeginsSlot (sym front) (begins_kept st.front st.begins);
      longest = λ n le b. let sum : n + p.0 ≤ length (gate ∷ tail) = stopped gate tail p.0 is p.1 st n b le in omega (arith, here, total, last);
    }

closed_longest : (gate : ℕ) (tail : List ℕ) (at : ℕ) → gate ≡ 0 → free_or_short tail ≡ Bad at → IsLongestBeginning (gate ∷ tail) at
closed_longest gate [] at is e =
    let here : 1 ≡ at = bad_is 1 at e in
    let free : IsFreeFile (gate ∷ 0 ∷ []) = record { long = lit≤ tt; gate = is } in
    let begun : BeginsSlot (take 1 (gate ∷ [])) = (0 ∷ [], inl free) in
    record { within = omega (arith, here); begins = subst (λ (n : ℕ). BeginsSlot (take n (gate ∷ []))) here begun; longest = λ n le b. omega (arith, here, le) }
closed_longest gate (aside ∷ tail) at is e = absurd cc

empty_longest : (at : ℕ) → 0 ≡ at → IsLongestBeginning [] at
empty_longest at here =
    let free : IsFreeFile (0 ∷ 0 ∷ []) = record { long = lit≤ tt; gate = refl } in
    let begun : BeginsSlot (take 0 []) = (0 ∷ 0 ∷ [], inl free) in
    record { within = omega (arith, here); begins = subst (λ (n : ℕ). BeginsSlot (take n [])) here begun; longest = λ n le b. omega (arith, here, le) }

pub bad_longest : (bytes : List ℕ) (at : ℕ) → IsBytes bytes → reads bytes ≡ Bad at → IsLongestBeginning bytes at
unfolding reads
bad_longest [] at fits e = empty_longest at (bad_is 0 at e)
bad_longest (gate ∷ tail) at fits e =
    elim (chosen Reading (nat_eq gate 0) (free_or_short tail) (kept_or_bad (length (gate ∷ tail)) (whole_at (gate ∷ tail))) (Bad at) e) [
      | inl h ↦ let test : nat_eq gate 0 ≡ true = h.0 in let is : gate ≡ 0 = grind (arith, nat_tests) in closed_longest gate tail at is h.1
      | inr h ↦ open_longest gate tail at fits h.0 h.1
    ]

-- ---- bad bytes are no slot file

not_bad : (b : Bool) (m : Mail) (at : ℕ) → cond b (Whole m) (Aside m) ≡ Bad at → ⊥
not_bad true m at e = absurd cc
not_bad false m at e = absurd cc

pub bad_none : (bytes : List ℕ) (at : ℕ) → reads bytes ≡ Bad at → IsSlotFile bytes → ⊥
bad_none bytes at e (inl free) = let good = reads_free bytes free in absurd (cc (good, e))
bad_none bytes at e (inr kept) =
    let good : reads bytes ≡ cond (nat_eq kept.aside 0) (Whole kept.m) (Aside kept.m) = ap reads kept.parts ∙ reads_again kept.version kept.gate kept.aside kept.marks kept.m kept.rest kept.open_gate kept.mark kept.are_marks kept.mail in
    not_bad (nat_eq kept.aside 0) kept.m at (sym good ∙ e)

-- ---- bytes that are no slot file are bad

abbrev IsSlotOr : List ℕ → Reading → Type 0
IsSlotOr bytes reading = IsSlotFile bytes ⊎ ((at : ℕ) × (reading ≡ Bad at))

closed_some : (gate : ℕ) (tail : List ℕ) → gate ≡ 0 → IsSlotOr (gate ∷ tail) (free_or_short tail)
closed_some gate [] is = inr (1, refl)
closed_some gate (aside ∷ tail) is = let free : IsFreeFile (gate ∷ aside ∷ tail) = record { long = omega arith; gate = is } in inl (inl free)

open_some : (bytes : List ℕ) (read : Read Kept) → IsBytes bytes → whole_at bytes ≡ read → IsSlotOr bytes (kept_or_bad (length bytes) read)
open_some bytes (Err left) fits e = inr (length bytes - left, refl)
open_some bytes (Ok x) fits e =
    let s : FitsWhole x.0 × (bytes ≡ spell_whole x.0 ++ x.1) = reads_whole.sound bytes x fits e in
    let parts : bytes ≡ slot_bytes x.0.0.version x.0.0.gate x.0.0.aside x.0.0.marks (mail_of x.0) ++ x.1 = s.1 ∙ ap (λ (w : List ℕ). w ++ x.1) (kept_bytes x.0 s.0) in
    let is : IsKeptFile bytes = record { version = x.0.0.version; gate = x.0.0.gate; aside = x.0.0.aside; marks = x.0.0.marks; m = mail_of x.0; rest = x.1; open_gate = s.0.0.gate; mark = s.0.0.aside; are_marks = marks_fit x.0 s.0; mail = mail_fits x.0 s.0; parts = parts } in
    inl (inr is)

either_some : (bytes : List ℕ) (b : Bool) (one other : Reading) → (b ≡ true → IsSlotOr bytes one) → (b ≡ false → IsSlotOr bytes other) → IsSlotOr bytes (cond b one other)
either_some bytes true one other h k = h refl
either_some bytes false one other h k = k refl

pub bad_some : (bytes : List ℕ) → IsBytes bytes → IsSlotFile bytes ⊎ ((at : ℕ) × (reads bytes ≡ Bad at))
unfolding reads
bad_some [] fits = inr (0, refl)
bad_some (gate ∷ tail) fits =
    either_some (gate ∷ tail) (nat_eq gate 0) (free_or_short tail) (kept_or_bad (length (gate ∷ tail)) (whole_at (gate ∷ tail)))
    (λ shut_gate. let is : gate ≡ 0 = grind (arith, nat_tests) in closed_some gate tail is)
    (λ open_gate. open_some (gate ∷ tail) (whole_at (gate ∷ tail)) fits refl)

pub one_place : (bytes : List ℕ) (m n : ℕ) → IsLongestBeginning bytes m → IsLongestBeginning bytes n → m ≡ n
one_place bytes m n a b =
    let up : n ≤ m = a.longest n b.within b.begins in
    let down : m ≤ n = b.longest m a.within a.begins in
    omega arith

-- ---- what the code answers

pub left_within : (bytes : List ℕ) (left : ℕ) → IsBytes bytes → whole_at bytes ≡ Err left → left ≤ length bytes
left_within bytes left fits e =
    let st = reads_whole.stops bytes left fits e in
    omega (arith, ap length st.parts, length-append st.front st.tail, st.len)

pub slot_first_bad : (bytes : List ℕ) (r : Result Slot SlotFault) → IsBytes bytes → IsSlotRead r (reads bytes) → IfErr r (FirstBad bytes)
slot_first_bad bytes (Ok slot) fits e = tt
slot_first_bad bytes (Err (faults.Bad at)) fits e = bad_longest bytes at fits e
slot_first_bad bytes (Err faults.NoMemory) fits e = tt

-- ---- how many marks there are

few_of : (version n k : ℕ) → k ≡ mark_count version n → n ≤ 1000 → k ≤ 1000
few_of version n k e few = grind (arith, nat_tests)

pub head_few : (bytes : List ℕ) (x : Head) (rest : List ℕ) → IsBytes bytes → head_at bytes ≡ Ok (x, rest) → length x.marks ≤ 1000
head_few bytes x rest fits e =
    let s = reads_head.sound bytes (x, rest) fits e in
    few_of x.version (length x.rcpts) (length x.marks) s.0.marks.len s.0.envelope.few
