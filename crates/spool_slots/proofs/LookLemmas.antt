-- What a front of a slot's file shows of the whole file.
use Rattle.std.proofs.Common.{◌≡◌, ℕ, ◌+◌, ◌-◌, ◌<◌, ◌≤◌, ◌^◌, lit≤, min, Bool, true, false, cond, nat_eq, nat_lt, List, [], ◌∷◌, ◌++◌, length, take, drop, Option, Some, None, Ok, Err, refl, sym, ap, subst, ◌∙◌, append_assoc, append-nil, length-append, length-drop, arith}
use Rattle.std.specs.Prelude.{IfSome}
use Rattle.std.proofs.Math.Seq.{drop-append_seam}
use Rattle.std.proofs.lemmas.Bool.Decides.{nat_tests}
use Rattle.std.proofs.lemmas.List.{take-append-drop, drop-append-le}
use Rattle.byte_reader.specs.Reading.{IsBytes, Read, ◌>>=◌, bytes_at}
use Rattle.fw_disk.specs.DiskView.{Tape, DiskView, IsFront, HasRead}
use Rattle.slot_bytes.specs.declared.head.Head as code
use Rattle.slot_bytes.specs.HeadView.{head_view}
use Rattle.slot_bytes.specs.Layout.{Mail}
use Rattle.slot_bytes.specs.Reading.{Head, Reading, reads, head_at, whole_at, kept_or_bad, free_or_short}
use Rattle.slot_bytes.specs.Reading.Reading.{Free, Whole, Aside, Bad}
use Rattle.slot_bytes.specs.Files.{IsFreeFile}
use Rattle.slot_bytes.proofs.HeadLemmas.{reads_head, head_bytes}
use Rattle.slot_bytes.proofs.SlotLemmas.{reads_free, reads_open}
use Rattle.slot_bytes.proofs.StableLemmas.{stable_head}
use Rattle.spool_slots.specs.declared.looking.Look.{Look}
use Rattle.spool_slots.specs.declared.looking.Look.TheVariants as looks
use Rattle.spool_slots.specs.Looks.{IsFrontOf, IsHeadOf, IsOpened, Says, HasPlace}

-- ---- places

pub has_place : (m n : ℕ) (look : Look) → HasPlace m look → m ≤ n → HasPlace n look
has_place m n looks.Free h le = tt
has_place m n (looks.Bad at) h le = tt
has_place m n (looks.Kept head place) h le = omega (arith, h, le)

-- ---- closed gates, and files that end

whole_front : (front bytes : List ℕ) → IsFrontOf front true bytes → bytes ≡ front
whole_front front bytes f = f.parts ∙ ap (λ (l : List ℕ). front ++ l) (f.all refl) ∙ append-nil front

empty_bad : reads [] ≡ Bad 0
unfolding reads
empty_bad = refl

one_bad : reads (0 ∷ []) ≡ Bad 1
unfolding reads
one_bad = refl

pub says_empty : (bytes : List ℕ) → IsFrontOf [] true bytes → reads bytes ≡ Bad 0
says_empty bytes f = ap reads (whole_front [] bytes f) ∙ empty_bad

pub says_one : (rest : List ℕ) (ended : Bool) → length rest < 1 → ended ≡ true → (bytes : List ℕ) → IsFrontOf (0 ∷ rest) ended bytes → reads bytes ≡ Bad 1
says_one [] ended lt e bytes f = ap reads (whole_front (0 ∷ []) bytes (subst (λ (b : Bool). IsFrontOf (0 ∷ []) b bytes) e f)) ∙ one_bad
says_one (x ∷ rest) ended lt e bytes f = absurd (omega (arith, lt))

pub says_free : (rest : List ℕ) (ended : Bool) → 1 ≤ length rest → (bytes : List ℕ) → IsFrontOf (0 ∷ rest) ended bytes → reads bytes ≡ Free
says_free rest ended le bytes f = ap reads f.parts ∙ reads_free ((0 ∷ rest) ++ f.rest) (record { long = omega (arith, le, length-append (0 ∷ rest) f.rest); gate = refl })

pub says_closed : (look : Look) (rest front : List ℕ) (ended : Bool) → front ≡ 0 ∷ rest → ((bytes : List ℕ) → IsFrontOf (0 ∷ rest) ended bytes → Says look bytes) → (bytes : List ℕ) → IsFrontOf front ended bytes → Says look bytes
says_closed look rest front ended e h bytes f = h bytes (subst (λ (l : List ℕ). IsFrontOf l ended bytes) e f)

-- ---- open gates

pub opened_front : (gate : ℕ) (rest front : List ℕ) → front ≡ gate ∷ rest → nat_eq gate 0 ≡ false → IsOpened front
opened_front gate rest front e some = record { gate = gate; rest = rest; is = e; some = some }

-- such a file is read as a message that is kept, or bad
opened_reads : (front : List ℕ) (ended : Bool) (bytes : List ℕ) → IsOpened front → IsFrontOf front ended bytes → reads bytes ≡ kept_or_bad (length bytes) (whole_at bytes)
opened_reads front ended bytes o f =
    let is : bytes ≡ o.gate ∷ (o.rest ++ f.rest) = f.parts ∙ ap (λ (l : List ℕ). l ++ f.rest) o.is in
    subst (λ (l : List ℕ). reads l ≡ kept_or_bad (length l) (whole_at l)) (sym is) (reads_open o.gate (o.rest ++ f.rest) o.some)

-- what stands in front of what is left
head_parts : (front : List ℕ) (h : Head) (rest : List ℕ) → IsBytes front → head_at front ≡ Ok (h, rest) → front ≡ head_bytes h ++ rest
head_parts front h rest are e = let s = reads_head.sound front (h, rest) are e in s.1

pub head_within : (front : List ℕ) (h : Head) (rest : List ℕ) → IsBytes front → head_at front ≡ Ok (h, rest) → length rest ≤ length front
head_within front h rest are e = omega (arith, ap length (head_parts front h rest are e), length-append (head_bytes h) rest)

head_place : (front : List ℕ) (h : Head) (rest : List ℕ) → IsBytes front → head_at front ≡ Ok (h, rest) → length front - length rest ≡ length (head_bytes h)
head_place front h rest are e = omega (arith, ap length (head_parts front h rest are e), length-append (head_bytes h) rest)

head_rest : (front : List ℕ) (h : Head) (rest : List ℕ) → IsBytes front → head_at front ≡ Ok (h, rest) → drop (length front - length rest) front ≡ rest
head_rest front h rest are e =
    ap (λ (n : ℕ). drop n front) (head_place front h rest are e)
    ∙ ap (λ (l : List ℕ). drop (length (head_bytes h)) l) (head_parts front h rest are e)
    ∙ drop-append_seam (head_bytes h) rest

pub left_within : (front : List ℕ) (left : ℕ) → IsBytes front → head_at front ≡ Err left → left ≤ length front
left_within front left are e =
    let st = reads_head.stops front left are e in
    omega (arith, ap length st.parts, length-append st.front st.tail, st.len)

pub says_kept : (front rest : List ℕ) (head : code.Head) (ended : Bool) → IsBytes front → IsOpened front → head_at front ≡ Ok (head_view head, rest)
    → (bytes : List ℕ) → IsFrontOf front ended bytes → IsHeadOf head (length front - length rest) bytes
says_kept front rest head ended are o e bytes f =
    let place : ℕ = length front - length rest in
    let more : head_at (front ++ f.rest) ≡ Ok (head_view head, rest ++ f.rest) = stable_head.ok front f.rest (head_view head, rest) e in
    let dropped : drop place (front ++ f.rest) ≡ rest ++ f.rest = drop-append-le place front f.rest (omega arith) ∙ ap (λ (l : List ℕ). l ++ f.rest) (head_rest front (head_view head) rest are e) in
    record {
      is_open = opened_reads front ended bytes o f;
      read = ap head_at f.parts ∙ more ∙ ap (λ (l : List ℕ). let x : Read Head = Ok (head_view head, l) in x) (sym dropped ∙ ap (drop place) (sym f.parts));
      within = omega (arith, ap length f.parts, length-append front f.rest);
    }

-- a head that isn't read spoils the whole
whole_err : (bytes : List ℕ) (left : ℕ) → head_at bytes ≡ Err left → whole_at bytes ≡ Err left
unfolding whole_at
whole_err bytes left e = ap (λ (r : Read Head). r >>= λ head. (bytes_at head.0.len head.1 >>= λ body. Ok ((head.0, body.0), body.1))) e

pub says_bad : (front : List ℕ) (left : ℕ) (ended : Bool) → IsOpened front → head_at front ≡ Err left → 0 < left
    → (bytes : List ℕ) → IsFrontOf front ended bytes → reads bytes ≡ Bad (length front - left)
says_bad front left ended o e some bytes f =
    let more : head_at bytes ≡ Err (left + length f.rest) = ap head_at f.parts ∙ stable_head.err front f.rest left e some in
    let at : length bytes - (left + length f.rest) ≡ length front - left = omega (arith, ap length f.parts, length-append front f.rest) in
    opened_reads front ended bytes o f ∙ ap (kept_or_bad (length bytes)) (whole_err bytes (left + length f.rest) more) ∙ ap Bad at

pub says_short : (front : List ℕ) (left : ℕ) → IsOpened front → head_at front ≡ Err left
    → (bytes : List ℕ) → IsFrontOf front true bytes → reads bytes ≡ Bad (length front - left)
says_short front left o e bytes f =
    let same : bytes ≡ front = whole_front front bytes f in
    let short : head_at bytes ≡ Err left = ap head_at same ∙ e in
    opened_reads front true bytes o f ∙ ap (kept_or_bad (length bytes)) (whole_err bytes left short) ∙ ap (λ (l : List ℕ). Bad (length l - left)) same

-- ---- more of the file

nothing_left : (l : List ℕ) → length l ≡ 0 → l ≡ []
nothing_left [] e = refl
nothing_left (x ∷ l) e = absurd (omega (arith, e))

more_front_of : (n : ℕ) (block front seen : List ℕ) → IsFront n (length front) 4096 block seen → IsFrontOf front false seen → IsFrontOf (front ++ take n block) (nat_lt n 4096) seen
more_front_of n block front seen r f =
    let behind : drop (length front) seen ≡ f.rest = ap (drop (length front)) f.parts ∙ drop-append_seam front f.rest in
    let len : length seen ≡ length front + length f.rest = ap length f.parts ∙ length-append front f.rest in
    let piece : take n block ≡ take n f.rest = r.bytes ∙ ap (take n) behind in
    record {
      rest = drop n f.rest;
      parts = f.parts
          ∙ ap (λ (l : List ℕ). front ++ l) (sym (take-append-drop n f.rest))
          ∙ sym (append_assoc front (take n f.rest) (drop n f.rest))
          ∙ ap (λ (l : List ℕ). (front ++ l) ++ drop n f.rest) (sym piece);
      all = λ short. let lt : n < 4096 = grind (arith, nat_tests) in nothing_left (drop n f.rest) (omega (arith, lt, r.count, len, length-drop n f.rest));
    }

told_more : (n at room : ℕ) (block front front' : List ℕ) (ended : Bool) (told : Option Tape) → at ≡ length front → room ≡ 4096 → front' ≡ front ++ take n block → ended ≡ nat_lt n 4096
    → IfSome told (λ tape. IsFront n at room block tape.now.seen) → IfSome told (λ tape. IsFrontOf front false tape.now.seen) → IfSome told (λ tape. IsFrontOf front' ended tape.now.seen)
told_more n at room block front front' ended None ea er ef ee r f = tt
told_more n at room block front front' ended (Some tape) ea er ef ee r f =
    let read : IsFront n (length front) 4096 block tape.now.seen = subst (λ (x : ℕ). IsFront n x 4096 block tape.now.seen) ea (subst (λ (x : ℕ). IsFront n at x block tape.now.seen) er r) in
    subst (λ (l : List ℕ). IsFrontOf l ended tape.now.seen) (sym ef)
    (subst (λ (b : Bool). IsFrontOf (front ++ take n block) b tape.now.seen) (sym ee) (more_front_of n block front tape.now.seen read f))

pub more_front : (n at room : ℕ) (block front front' : List ℕ) (ended : Bool) (old new : DiskView) → HasRead n at room block old new → at ≡ length front → room ≡ 4096 → front' ≡ front ++ take n block → ended ≡ nat_lt n 4096
    → IfSome old.told (λ tape. IsFrontOf front false tape.now.seen) → IfSome old.told (λ tape. IsFrontOf front' ended tape.now.seen)
more_front n at room block front front' ended old new r ea er ef ee f = told_more n at room block front front' ended old.told ea er ef ee r.told f

none_of_it : (told : Option Tape) → IfSome told (λ tape. IsFrontOf [] false tape.now.seen)
none_of_it None = tt
none_of_it (Some tape) = record { rest = tape.now.seen; parts = refl; all = λ e. absurd cc }

-- nothing is the front of every file
pub empty_front : (front : List ℕ) (told : Option Tape) → front ≡ [] → IfSome told (λ tape. IsFrontOf front false tape.now.seen)
empty_front front told e = subst (λ (l : List ℕ). IfSome told (λ tape. IsFrontOf l false tape.now.seen)) (sym e) (none_of_it told)

-- a front of a file that didn't end
pub unended : (front : List ℕ) (ended : Bool) (told : Option Tape) → ended ≡ false → IfSome told (λ tape. IsFrontOf front ended tape.now.seen) → IfSome told (λ tape. IsFrontOf front false tape.now.seen)
unended front ended told e f = subst (λ (b : Bool). IfSome told (λ tape. IsFrontOf front b tape.now.seen)) e f

told_says : (look : Look) (front : List ℕ) (ended : Bool) (told : Option Tape) → ((bytes : List ℕ) → IsFrontOf front ended bytes → Says look bytes) → IfSome told (λ tape. IsFrontOf front ended tape.now.seen) → IfSome told (λ tape. Says look tape.now.seen)
told_says look front ended None h f = tt
told_says look front ended (Some tape) h f = h tape.now.seen f

pub look_says : (look : Look) (front : List ℕ) (ended : Bool) (told : Option Tape) → ((bytes : List ℕ) → IsFrontOf front ended bytes → Says look bytes) → IfSome told (λ tape. IsFrontOf front ended tape.now.seen) → IfSome told (λ tape. Says look tape.now.seen)
look_says look front ended told h f = told_says look front ended told h f
