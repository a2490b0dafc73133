-- What each step leaves of one slot.
use Rattle.std.proofs.Common.{◌≡◌, ℕ, zero, suc, ◌<◌, ◌≤◌, lit<, List, [], ◌∷◌, ◌++◌, length, get_or, set, refl, sym, ap, subst, arith, ◌⊎◌, inl, inr}
use Rattle.std.specs.List.{Contains}
use Rattle.std.proofs.lemmas.List.Elements.{Contains-append_left, Contains-append_right}
use Rattle.fw_disk.specs.Medium.{Medium, IsImage, written_at, settled}
use Rattle.fw_disk.specs.Laws.{AreBytes}
use Rattle.fw_disk.specs.Moments.{EachImage}
use Rattle.fw_disk.proofs.MediumLemmas.{written_seen}
use Rattle.slot_bytes.specs.Files.{IsFreeFile}
use Rattle.slot_bytes.specs.Layout.{Mail}
use Rattle.spool_law.specs.World.{Letter, Use, Slot, letters, OfLetter}
use Rattle.spool_law.specs.World.Use.{Unused, Begun, CutOff, Opened}
use Rattle.spool_law.specs.Images.{IsFree, IsKept, IsWhole, IsReady}
use Rattle.spool_law.specs.Events.{Outcome, Step, IsBegun, CanWrite, CanSetAside, CanAnswer, IsPossibleAt, read_after, added, opened, cut_off, stepped, finishes, crashed, MayLeave}
use Rattle.spool_law.specs.Events.Step.{Start, Add, Write, Sync, OpenGate, Answer, Accept, CloseGate, SetAside}
use Rattle.spool_law.proofs.ReadLemmas.{IsBehind, free_file, kept_long, kept_not_free, whole_not_free, kept_behind, behind_reads, other_mark, set_twice}
use Rattle.spool_law.proofs.ImageLemmas.{one_byte, each_read, sound_read, each_settled, sound_settled, shut_free, free_shut, write_shut, byte_back}

-- ---- lists of one message or none

pub no_letter : (l : Letter) → Contains [] l → ⊥
no_letter l h = omega (arith, h.1)

pub only_letter : (x l : Letter) → Contains (x ∷ []) l → x ≡ l
only_letter x l (zero, lt, e) = e
only_letter x l (suc k, lt, e) = absurd (omega (arith, lt))

-- ---- what a slot is at any time

abbrev pub IsAs : List Letter → Medium → Use → Type 0
IsAs finished m Unused = EachImage IsFree m
IsAs finished m (Begun l) = EachImage IsFree m
IsAs finished m (CutOff l) = EachImage IsFree m
IsAs finished m (Opened l) = EachImage (IsBehind l.mail) m × Contains finished l

-- the bytes as read are an image, and every image is as the slot's use says
pub record IsGood (finished : List Letter) (s : Slot) : Type 0 where
  pub sound : IsImage s.medium s.medium.seen
  pub is_as : IsAs finished s.medium s.use_of

as_more : (finished more : List Letter) (m : Medium) (u : Use) → IsAs finished m u → IsAs (finished ++ more) m u
as_more finished more m Unused h = h
as_more finished more m (Begun l) h = h
as_more finished more m (CutOff l) h = h
as_more finished more m (Opened l) h = (h.0, Contains-append_left finished more l h.1)

pub good_more : (finished more : List Letter) (s : Slot) → IsGood finished s → IsGood (finished ++ more) s
good_more finished more s g = record { sound = g.sound; is_as = as_more finished more s.medium s.use_of g.is_as }

-- the message whose gate wasn't opened, by its number
abbrev pub IsUnopened : ℕ → Use → Type 0
IsUnopened k Unused = ⊥
IsUnopened k (Begun l) = l.number ≡ k
IsUnopened k (CutOff l) = l.number ≡ k
IsUnopened k (Opened l) = ⊥

-- no message whose gate wasn't opened was accepted
abbrev pub NoneAccepted : List Letter → Use → Type 0
NoneAccepted accepted u = (a : Letter) → Contains accepted a → IsUnopened a.number u → ⊥

-- ---- images that are the same throughout

as_settled : (finished : List Letter) (m : Medium) (image : List ℕ) (u : Use) → IsImage m image → IsAs finished m u → IsAs finished (settled image) u
as_settled finished m image Unused is h = each_settled IsFree m image is h
as_settled finished m image (Begun l) is h = each_settled IsFree m image is h
as_settled finished m image (CutOff l) is h = each_settled IsFree m image is h
as_settled finished m image (Opened l) is h = (each_settled (IsBehind l.mail) m image is h.0, h.1)

as_cut_off : (finished : List Letter) (m : Medium) (u : Use) → IsAs finished m u → IsAs finished m (cut_off u)
as_cut_off finished m Unused h = h
as_cut_off finished m (Begun l) h = h
as_cut_off finished m (CutOff l) h = h
as_cut_off finished m (Opened l) h = h

pub good_crashed : (finished : List Letter) (image : List ℕ) (s : Slot) → IsImage s.medium image → IsGood finished s → IsGood finished (crashed image s)
good_crashed finished image s is g = record {
  sound = sound_settled s.medium image is;
  is_as = as_cut_off finished (settled image) s.use_of (as_settled finished s.medium image s.use_of is g.is_as);
}

-- ---- what the bytes as read show

as_not_whole : (finished : List Letter) (m : Medium) (u : Use) → IsImage m m.seen → IsAs finished m u → EachImage IsWhole m → (l : Letter) × (u ≡ Opened l)
as_not_whole finished m Unused sound h whole = absurd (whole_not_free m.seen (whole m.seen sound) (h m.seen sound))
as_not_whole finished m (Begun l) sound h whole = absurd (whole_not_free m.seen (whole m.seen sound) (h m.seen sound))
as_not_whole finished m (CutOff l) sound h whole = absurd (whole_not_free m.seen (whole m.seen sound) (h m.seen sound))
as_not_whole finished m (Opened l) sound h whole = (l, refl)

-- where every image is a message, its gate was opened
pub whole_opened : (finished : List Letter) (s : Slot) → IsGood finished s → EachImage IsWhole s.medium → (l : Letter) × (s.use_of ≡ Opened l)
whole_opened finished s g whole = as_not_whole finished s.medium s.use_of g.sound g.is_as whole

-- ---- steps

good_add : (finished : List Letter) (m : Medium) (piece : List ℕ) (u : Use) → IsAs finished m u → IsAs finished m (added piece u)
good_add finished m piece Unused h = h
good_add finished m piece (Begun l) h = h
good_add finished m piece (CutOff l) h = h
good_add finished m piece (Opened l) h = h

as_written : (finished : List Letter) (m new : Medium) (u : Use) → IsBegun u → IsImage m m.seen → (EachImage IsFree m → EachImage IsFree new) → IsAs finished m u → IsAs finished new u
as_written finished m new Unused begun sound to h = absurd begun
as_written finished m new (Begun l) begun sound to h = to h
as_written finished m new (CutOff l) begun sound to h = absurd begun
as_written finished m new (Opened l) begun sound to h = absurd begun

good_write : (finished : List Letter) (s : Slot) (at : ℕ) (bytes : List ℕ) (o : Outcome) → CanWrite at bytes o s → IsGood finished s
    → IsGood finished (record { medium = read_after o (written_at at bytes s.medium); use_of = s.use_of })
good_write finished s at bytes o can g =
    let m = s.medium in
    let to : EachImage IsFree m → EachImage IsFree (read_after o (written_at at bytes m)) =
    λ each. each_read IsFree o (written_at at bytes m) (shut_free (written_at at bytes m) (write_shut m at bytes can.behind (free_shut m g.sound each))) in
    record {
      sound = sound_read o (written_at at bytes m) can.leaves (written_seen m at bytes can.are can.within g.sound);
      is_as = as_written finished m (read_after o (written_at at bytes m)) s.use_of can.begun g.sound to g.is_as;
    }

-- one byte is written, within the file
sound_byte : (m : Medium) (at byte : ℕ) (o : Outcome) → byte < 256 → at ≤ length m.seen → MayLeave o (written_at at (byte ∷ []) m) → IsImage m m.seen
    → IsImage (read_after o (written_at at (byte ∷ []) m)) (read_after o (written_at at (byte ∷ []) m)).seen
sound_byte m at byte o small within may sound = sound_read o (written_at at (byte ∷ []) m) may (written_seen m at (byte ∷ []) (one_byte byte small) within sound)

-- what stands behind the gate stands there whatever is written to the gate
gate_behind : (mail : Mail) (m : Medium) (byte : ℕ) (image : List ℕ) → IsImage m m.seen → 0 < length m.seen → ((old : List ℕ) → IsImage m old → IsBehind mail old)
    → IsImage (written_at 0 (byte ∷ []) m) image → IsBehind mail image
gate_behind mail m byte image sound some each is =
    let old : IsImage m (set image 0 (get_or m.seen 0 0)) = byte_back m 0 byte image sound (omega (arith, some, sound.no_longer)) is in
    subst (IsKept mail) (set_twice image (get_or m.seen 0 0) 1) (each (set image 0 (get_or m.seen 0 0)) old)

ready_some : (mail : Mail) (m : Medium) → IsImage m m.seen → EachImage (IsReady mail) m → 0 < length m.seen
ready_some mail m sound ready =
    let free : IsFreeFile m.seen = free_file m.seen sound.bytes (ready m.seen sound).free in
    omega (arith, free.long)

open_letter : (finished : List Letter) (m : Medium) (o : Outcome) (l : Letter) → MayLeave o (written_at 0 (1 ∷ []) m) → IsImage m m.seen → EachImage (IsReady l.mail) m
    → IsGood (finished ++ l ∷ []) (record { medium = read_after o (written_at 0 (1 ∷ []) m); use_of = Opened l })
open_letter finished m o l may sound ready =
    let some = ready_some l.mail m sound ready in
    let each : EachImage (IsBehind l.mail) (written_at 0 (1 ∷ []) m) =
    λ image is. gate_behind l.mail m 1 image sound some (λ old one. inl (ready old one).behind) is in
    record {
      sound = sound_byte m 0 1 o (lit< tt) (omega arith) may sound;
      is_as = (
        each_read (IsBehind l.mail) o (written_at 0 (1 ∷ []) m) each,
        Contains-append_right finished (l ∷ []) l (0, lit< tt, refl),
      );
    }

good_open : (finished : List Letter) (m : Medium) (o : Outcome) (u : Use) → OfLetter (λ l. EachImage (IsReady l.mail) m) u → MayLeave o (written_at 0 (1 ∷ []) m) → IsImage m m.seen
    → IsGood (finished ++ letters u) (record { medium = read_after o (written_at 0 (1 ∷ []) m); use_of = opened u })
good_open finished m o Unused ready may sound = absurd ready
good_open finished m o (Begun l) ready may sound = open_letter finished m o l may sound ready
good_open finished m o (CutOff l) ready may sound = open_letter finished m o l may sound ready
good_open finished m o (Opened l) ready may sound = open_letter finished m o l may sound ready

behind_long : (mail : Mail) (image : List ℕ) → AreBytes image → IsFree image ⊎ IsKept mail image → 2 ≤ length image
behind_long mail image are (inl free) = (free_file image are free).long
behind_long mail image are (inr kept) = kept_long mail image are kept

seen_long : (mail : Mail) (m : Medium) → IsImage m m.seen → EachImage (IsBehind mail) m → 2 ≤ length m.seen
seen_long mail m sound each = behind_long mail m.seen sound.bytes (behind_reads mail m.seen sound.bytes (each m.seen sound))

good_close : (finished accepted : List Letter) (m : Medium) (o : Outcome) (u : Use) → OfLetter (Contains accepted) u → NoneAccepted accepted u → MayLeave o (written_at 0 (0 ∷ []) m) → IsImage m m.seen → IsAs finished m u
    → IsGood finished (record { medium = read_after o (written_at 0 (0 ∷ []) m); use_of = u })
good_close finished accepted m o Unused is none may sound h = absurd is
good_close finished accepted m o (Begun l) is none may sound h = absurd (none l is refl)
good_close finished accepted m o (CutOff l) is none may sound h = absurd (none l is refl)
good_close finished accepted m o (Opened l) is none may sound h =
    let long = seen_long l.mail m sound h.0 in
    let each : EachImage (IsBehind l.mail) (written_at 0 (0 ∷ []) m) = λ image one. gate_behind l.mail m 0 image sound (omega (arith, long)) h.0 one in
    record {
      sound = sound_byte m 0 0 o (lit< tt) (omega arith) may sound;
      is_as = (each_read (IsBehind l.mail) o (written_at 0 (0 ∷ []) m) each, h.1);
    }

kept_whole : (mail : Mail) (image : List ℕ) → IsWhole image → IsFree image ⊎ IsKept mail image → IsKept mail image
kept_whole mail image whole (inl free) = absurd (whole_not_free image whole free)
kept_whole mail image whole (inr kept) = kept

-- where every image is this message, it stays so whatever is written to its mark
mark_still : (mail : Mail) (m : Medium) (image : List ℕ) → IsImage m m.seen → 2 ≤ length m.seen → EachImage (IsKept mail) m → IsImage (written_at 1 (1 ∷ []) m) image → IsKept mail image
mark_still mail m image sound long each is =
    let old : IsImage m (set image 1 (get_or m.seen 1 0)) = byte_back m 1 1 image sound (omega (arith, long, sound.no_longer)) is in
    other_mark mail image (get_or m.seen 1 0) is.bytes old.bytes (each (set image 1 (get_or m.seen 1 0)) old)

aside_letter : (finished : List Letter) (m : Medium) (o : Outcome) (l : Letter) → EachImage IsWhole m → MayLeave o (written_at 1 (1 ∷ []) m) → IsImage m m.seen → IsAs finished m (Opened l)
    → IsGood finished (record { medium = read_after o (written_at 1 (1 ∷ []) m); use_of = Opened l })
aside_letter finished m o l whole may sound h =
    let long = seen_long l.mail m sound h.0 in
    let each : EachImage (IsKept l.mail) m = λ image one. kept_whole l.mail image (whole image one) (behind_reads l.mail image one.bytes (h.0 image one)) in
    let behind : EachImage (IsBehind l.mail) (written_at 1 (1 ∷ []) m) = λ image one. kept_behind l.mail image one.bytes (mark_still l.mail m image sound long each one) in
    record {
      sound = sound_byte m 1 1 o (lit< tt) (omega (arith, long)) may sound;
      is_as = (each_read (IsBehind l.mail) o (written_at 1 (1 ∷ []) m) behind, h.1);
    }

good_aside : (finished : List Letter) (s : Slot) (o : Outcome) → CanSetAside o s → IsGood finished s → IsGood finished (record { medium = read_after o (written_at 1 (1 ∷ []) s.medium); use_of = s.use_of })
good_aside finished s o can g =
    let of = whole_opened finished s g can.whole in
    let is : IsAs finished s.medium (Opened of.0) = subst (IsAs finished s.medium) of.1 g.is_as in
    let good = aside_letter finished s.medium o of.0 can.whole can.leaves g.sound is in
    record { sound = good.sound; is_as = subst (IsAs finished (read_after o (written_at 1 (1 ∷ []) s.medium))) (sym of.1) good.is_as }

pub good_step : (finished accepted : List Letter) (number : ℕ) (step : Step) (s : Slot) → IsPossibleAt step accepted s → NoneAccepted accepted s.use_of → IsGood finished s
    → IsGood (finished ++ finishes step s.use_of) (stepped number step s)
good_step finished accepted number (Start from rcpts) s can none g =
    good_more finished [] (stepped number (Start from rcpts) s) (record { sound = g.sound; is_as = can })
good_step finished accepted number (Add piece) s can none g =
    good_more finished [] (stepped number (Add piece) s) (record { sound = g.sound; is_as = good_add finished s.medium piece s.use_of g.is_as })
good_step finished accepted number (Write at bytes o) s can none g =
    good_more finished [] (stepped number (Write at bytes o) s) (good_write finished s at bytes o can g)
good_step finished accepted number Sync s can none g =
    good_more finished [] (stepped number Sync s) (record {
      sound = sound_settled s.medium s.medium.seen g.sound;
      is_as = as_settled finished s.medium s.medium.seen s.use_of g.sound g.is_as;
    })
good_step finished accepted number (OpenGate o) s can none g = good_open finished s.medium o s.use_of can.ready can.leaves g.sound
good_step finished accepted number Answer s can none g = good_more finished [] s g
good_step finished accepted number Accept s can none g = good_more finished [] s g
good_step finished accepted number (CloseGate o) s can none g =
    good_more finished [] (stepped number (CloseGate o) s) (good_close finished accepted s.medium o s.use_of can.is_accepted none can.leaves g.sound g.is_as)
good_step finished accepted number (SetAside o) s can none g =
    good_more finished [] (stepped number (SetAside o) s) (good_aside finished s o can g)

-- ---- a message that stands

pub record StandsIn (l : Letter) (s : Slot) : Type 0 where
  pub is : s.use_of ≡ Opened l
  pub kept : EachImage (IsKept l.mail) s.medium

seen_not_free : (l : Letter) (s : Slot) → IsImage s.medium s.medium.seen → StandsIn l s → EachImage IsFree s.medium → ⊥
seen_not_free l s sound stands free = kept_not_free l.mail s.medium.seen (stands.kept s.medium.seen sound) (free s.medium.seen sound)

not_begun : (l : Letter) (u : Use) → u ≡ Opened l → IsBegun u → ⊥
not_begun l u e begun = subst IsBegun e begun

-- a step leaves it standing, or it was accepted
pub stands_step : (accepted : List Letter) (number : ℕ) (step : Step) (s : Slot) (l : Letter) → IsPossibleAt step accepted s → IsImage s.medium s.medium.seen → StandsIn l s
    → Contains accepted l ⊎ StandsIn l (stepped number step s)
stands_step accepted number (Start from rcpts) s l can sound st = absurd (seen_not_free l s sound st can)
stands_step accepted number (Add piece) s l can sound st = absurd (not_begun l s.use_of st.is can)
stands_step accepted number (Write at bytes o) s l can sound st = absurd (not_begun l s.use_of st.is can.begun)
stands_step accepted number Sync s l can sound st =
    inr (record { is = st.is; kept = each_settled (IsKept l.mail) s.medium s.medium.seen sound st.kept })
stands_step accepted number (OpenGate o) s l can sound st =
    let ready : EachImage (IsReady l.mail) s.medium = subst (OfLetter (λ x. EachImage (IsReady x.mail) s.medium)) st.is can.ready in
    absurd (seen_not_free l s sound st (λ image is. (ready image is).free))
stands_step accepted number Answer s l can sound st = inr st
stands_step accepted number Accept s l can sound st = inr st
stands_step accepted number (CloseGate o) s l can sound st = inl (subst (OfLetter (Contains accepted)) st.is can.is_accepted)
stands_step accepted number (SetAside o) s l can sound st =
    let long = kept_long l.mail s.medium.seen sound.bytes (st.kept s.medium.seen sound) in
    let each : EachImage (IsKept l.mail) (written_at 1 (1 ∷ []) s.medium) = λ image is. mark_still l.mail s.medium image sound long st.kept is in
    inr (record { is = st.is; kept = each_read (IsKept l.mail) o (written_at 1 (1 ∷ []) s.medium) each })

pub stands_crashed : (s : Slot) (image : List ℕ) (l : Letter) → IsImage s.medium image → StandsIn l s → StandsIn l (crashed image s)
stands_crashed s image l is st = record { is = ap cut_off st.is; kept = each_settled (IsKept l.mail) s.medium image is st.kept }

answer_stands : (finished accepted : List Letter) (m : Medium) (u : Use) (l : Letter) → IsImage m m.seen → IsAs finished m u → OfLetter (λ x. EachImage (IsKept x.mail) m ⊎ Contains accepted x) u → Contains (letters u) l
    → Contains accepted l ⊎ StandsIn l (record { medium = m; use_of = u })
answer_stands finished accepted m Unused l sound h can has = absurd can
answer_stands finished accepted m (Begun x) l sound h can has =
    elim can [
      | inl kept ↦ absurd (kept_not_free x.mail m.seen (kept m.seen sound) (h m.seen sound))
      | inr is ↦ inl (subst (Contains accepted) (only_letter x l has) is)
    ]
answer_stands finished accepted m (CutOff x) l sound h can has =
    elim can [
      | inl kept ↦ absurd (kept_not_free x.mail m.seen (kept m.seen sound) (h m.seen sound))
      | inr is ↦ inl (subst (Contains accepted) (only_letter x l has) is)
    ]
answer_stands finished accepted m (Opened x) l sound h can has =
    let e : x ≡ l = only_letter x l has in
    elim can [
      | inl kept ↦ inr (record { is = ap Opened e; kept = subst (λ (y : Letter). EachImage (IsKept y.mail) m) e kept })
      | inr is ↦ inl (subst (Contains accepted) e is)
    ]

-- what was answered just now stands, or was accepted
pub answered_now : (finished accepted : List Letter) (s : Slot) (l : Letter) → IsGood finished s → CanAnswer accepted s → Contains (letters s.use_of) l → Contains accepted l ⊎ StandsIn l s
answered_now finished accepted s l g can has = answer_stands finished accepted s.medium s.use_of l g.sound g.is_as can has
