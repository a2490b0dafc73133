-- Disks in memory, and the images that numbers pick.
use Rattle.std.proofs.Common.{◌≡◌, ℕ, zero, suc, ◌+◌, ◌-◌, ◌/◌, ◌%◌, ◌<◌, ◌≤◌, Bool, true, false, cond, nat_eq, nat_lt, List, [], ◌∷◌, ◌++◌, length, get_or, refl, sym, ap, subst, ◌∙◌, arith, ◌⊎◌, inl, inr}
use Rattle.std.proofs.lemmas.Bool.Decides.{nat_tests}
use Rattle.std.proofs.lemmas.List.{get_or_past}
use Rattle.fw_disk.specs.Medium.{Medium, IsImage, is_written, cut_at, written_at, laid_over}
use Rattle.fw_disk.specs.DiskView.{Tape, IsTorn, onward}
use Rattle.fw_disk.specs.Laws.{AreBytes}
use Rattle.std.specs.Prelude.{Result, Ok, Err, OnOk, OnErr}
use Rattle.fw_types.specs.declared.no_memory.NoMemory.{NoMemory}
use Rattle.fw_disk.proofs.MediumLemmas.{noted_lost, cut_lost, written_seen}
use Rattle.fw_memory.specs.Noted.{noted_at, lowered_to}
use Rattle.fw_memory.specs.MemDiskView.{is_kept, loose_byte, picked, picked_byte, picked_from, picked_len, torn_byte}

-- ---- a call that failed

pub noted_torn : (at : ℕ) (piece : List ℕ) (tape : Tape) → IsImage tape.now tape.now.seen → IsTorn (written_at at piece) tape (onward (noted_at at (length piece) tape.now) tape)
noted_torn at piece tape is =
    let image = noted_lost tape.now at (length piece) tape.now.seen is in
    inr (tape.now.seen, record { image_of = record { bytes = image.bytes; no_shorter = image.no_shorter; no_longer = image.no_longer; kept = image.kept }; is = refl })

pub lowered_torn : (len : ℕ) (tape : Tape) → IsImage tape.now tape.now.seen → IsTorn (cut_at len) tape (onward (lowered_to len tape.now) tape)
lowered_torn len tape is = inr (tape.now.seen, record { image_of = cut_lost tape.now len tape.now.seen is; is = refl })

pub lowered_image : (len : ℕ) (m : Medium) → IsImage m m.seen → IsImage (lowered_to len m) m.seen
lowered_image len m is =
    let image = cut_lost m len m.seen is in
    record { bytes = image.bytes; no_shorter = image.no_shorter; no_longer = image.no_longer; kept = image.kept }

-- a write that began, done or not
pub laid_image : (at : ℕ) (piece : List ℕ) (old m new : Medium) (r : Result (Unit {0}) NoMemory) → m ≡ noted_at at (length piece) old → AreBytes piece → at ≤ length old.seen → IsImage old old.seen
    → OnOk r (new ≡ record m { seen = laid_over at piece m.seen }) → OnErr r (new ≡ m) → IsImage new new.seen
laid_image at piece old m new (Ok u) noted are le sound ok err =
    let is : new ≡ written_at at piece old = ok ∙ ap (λ (n : Medium). record n { seen = laid_over at piece n.seen }) noted in
    subst (λ (n : Medium). IsImage n n.seen) (sym is) (written_seen old at piece are le sound)
laid_image at piece old m new (Err e) noted are le sound ok err =
    let image = noted_lost old at (length piece) old.seen sound in
    let is : IsImage (noted_at at (length piece) old) (noted_at at (length piece) old).seen = record { bytes = image.bytes; no_shorter = image.no_shorter; no_longer = image.no_longer; kept = image.kept } in
    subst (λ (n : Medium). IsImage n n.seen) (sym (err ∙ noted)) is

-- ---- the image that a number picks

pub length_picked : (m : Medium) (pick place n : ℕ) → length (picked_from m pick place n) ≡ n
length_picked m pick place zero = refl
length_picked m pick place (suc n) = ap suc (length_picked m pick (place + 1) n)

pub picked_more : (m : Medium) (pick place n : ℕ) → picked_from m pick place n ++ picked_byte m pick (place + n) ∷ [] ≡ picked_from m pick place (suc n)
picked_more m pick place zero = let here : place + 0 ≡ place = omega arith in ap (λ (k : ℕ). picked_byte m pick k ∷ []) here
picked_more m pick place (suc n) =
    let next : place + suc n ≡ place + 1 + n = omega arith in
    ap (λ (k : ℕ). picked_byte m pick place ∷ (picked_from m pick (place + 1) n ++ picked_byte m pick k ∷ [])) next
    ∙ ap (λ (l : List ℕ). picked_byte m pick place ∷ l) (picked_more m pick (place + 1) n)

pub picked_next : (m : Medium) (pick n : ℕ) → picked_from m pick 0 n ++ picked_byte m pick n ∷ [] ≡ picked_from m pick 0 (n + 1)
picked_next m pick n =
    let here : n ≡ 0 + n = omega arith in
    let next : suc n ≡ n + 1 = omega arith in
    ap (λ (k : ℕ). picked_from m pick 0 n ++ picked_byte m pick k ∷ []) here ∙ picked_more m pick 0 n ∙ ap (picked_from m pick 0) next

pub picked_at : (m : Medium) (pick place n i : ℕ) → i < n → get_or (picked_from m pick place n) i 0 ≡ picked_byte m pick (place + i)
picked_at m pick place zero i lt = absurd (omega arith)
picked_at m pick place (suc n) zero lt = let here : place ≡ place + 0 = omega arith in ap (picked_byte m pick) here
picked_at m pick place (suc n) (suc i) lt =
    let next : place + 1 + i ≡ place + suc i = omega arith in
    picked_at m pick (place + 1) n i (omega arith) ∙ ap (picked_byte m pick) next

small_or : (b : Bool) (x y : ℕ) → x < 256 → y < 256 → cond b x y < 256
small_or true x y h k = h
small_or false x y h k = k

torn_small : (m : Medium) (first place : ℕ) → AreBytes m.seen → AreBytes m.synced → torn_byte m first place < 256
torn_small m first place seen synced = small_or (nat_lt place first) (get_or m.seen place 0) (get_or m.synced place 0) (seen place) (synced place)

counted_small : (rest place : ℕ) → (rest + place) % 256 < 256
counted_small rest place = omega arith

picked_small : (m : Medium) (pick place : ℕ) → AreBytes m.seen → AreBytes m.synced → picked_byte m pick place < 256
picked_small m pick place seen synced =
    small_or (is_kept m place) (get_or m.synced place 0) (loose_byte m pick place) (synced place)
    (small_or (nat_eq (pick % 4) 0) (get_or m.seen place 0) (cond (nat_eq (pick % 4) 1) (get_or m.synced place 0) (cond (nat_eq (pick % 4) 2) (torn_byte m (pick / 4) place) ((pick / 4 + place) % 256))) (seen place)
    (small_or (nat_eq (pick % 4) 1) (get_or m.synced place 0) (cond (nat_eq (pick % 4) 2) (torn_byte m (pick / 4) place) ((pick / 4 + place) % 256)) (synced place)
    (small_or (nat_eq (pick % 4) 2) (torn_byte m (pick / 4) place) ((pick / 4 + place) % 256) (torn_small m (pick / 4) place seen synced) (counted_small (pick / 4) place))))

less_or : (a b : ℕ) → (a < b) ⊎ (b ≤ a)
less_or a b = grind arith

len_by : (b : Bool) (x y low high : ℕ) → low ≤ x → x ≤ high → low ≤ y → y ≤ high → (low ≤ cond b x y) × (cond b x y ≤ high)
len_by true x y low high p q r s = (p, q)
len_by false x y low high p q r s = (r, s)

spread : (least greatest rest : ℕ) → least ≤ greatest → (least ≤ least + rest % (greatest - least + 1)) × (least + rest % (greatest - least + 1) ≤ greatest)
spread least greatest rest le =
    let below : rest % (greatest - least + 1) < greatest - least + 1 = omega arith in
    (omega arith, omega (arith, below, le))

pub picked_len_fits : (m : Medium) (pick : ℕ) → IsImage m m.seen → (m.least ≤ picked_len m pick) × (picked_len m pick ≤ m.greatest)
picked_len_fits m pick is =
    let low : m.least ≤ length m.seen = is.no_shorter in
    let high : length m.seen ≤ m.greatest = is.no_longer in
    let fits = spread m.least m.greatest (pick / 4) (omega (arith, low, high)) in
    len_by (nat_eq pick 0) (length m.seen) (m.least + pick / 4 % (m.greatest - m.least + 1)) m.least m.greatest low high fits.0 fits.1

kept_byte : (m : Medium) (pick place : ℕ) → is_kept m place ≡ true → picked_byte m pick place ≡ get_or m.synced place 0
kept_byte m pick place e = rw e refl

kept_if : (m : Medium) (place : ℕ) → place < m.least → is_written m place ≡ false → is_kept m place ≡ true
kept_if m place lt free = let test : nat_lt place m.least ≡ true = grind (arith, nat_tests) in rw (test, free) refl

pub picked_image : (m : Medium) (pick : ℕ) → IsImage m m.seen → AreBytes m.synced → IsImage m (picked m pick)
picked_image m pick is synced =
    let n : ℕ = picked_len m pick in
    let len : length (picked_from m pick 0 (picked_len m pick)) ≡ picked_len m pick = length_picked m pick 0 (picked_len m pick) in
    let fits = picked_len_fits m pick is in
    record {
      bytes = λ place.
          elim (less_or place (picked_len m pick)) [
            | inl lt ↦ subst (λ (b : ℕ). b < 256) (sym (picked_at m pick 0 (picked_len m pick) place lt)) (picked_small m pick (0 + place) is.bytes synced)
            | inr le ↦ subst (λ (b : ℕ). b < 256) (sym (get_or_past (picked_from m pick 0 (picked_len m pick)) place 0 (omega (arith, len, le)))) (omega arith)
          ];
      no_shorter = omega (arith, len, fits.0);
      no_longer = omega (arith, len, fits.1);
      kept = λ place lt free.
          let within : place < picked_len m pick = omega (arith, lt, fits.0) in
          let here : 0 + place ≡ place = omega arith in
          picked_at m pick 0 (picked_len m pick) place within ∙ ap (picked_byte m pick) here ∙ kept_byte m pick place (kept_if m place lt free);
    }
