-- A slot of which each image is a message.
use Rattle.std.proofs.Common.{ℕ, List, ◌≡◌, refl, ◌⊎◌, inl, inr}
use Rattle.fw_disk.specs.Medium.{Medium, IsImage}
use Rattle.fw_disk.specs.Moments.{EachImage}
use Rattle.spool_law.specs.World.{Letter, Slot, Use, formatted}
use Rattle.spool_law.specs.World.Use.{Unused, Begun, CutOff, Opened}
use Rattle.spool_law.specs.Events.{Event, ArePossible, after_all}
use Rattle.spool_law.specs.Images.{IsFree, IsKept, IsWhole}
use Rattle.spool_law.specs.Safe.{HasItsMessage}
use Rattle.spool_law.proofs.ReadLemmas.{behind_reads, whole_not_free}
use Rattle.spool_law.proofs.SlotLemmas.{IsAs}
use Rattle.spool_law.proofs.WorldLemmas.{sound_always}

not_free : (m : Medium) (l : Letter) (image : List ℕ) → IsWhole image → IsFree image ⊎ IsKept l.mail image → IsKept l.mail image
not_free m l image whole (inl free) = absurd (whole_not_free image whole free)
not_free m l image whole (inr kept) = kept

its_message : (finished : List Letter) (s : Slot) (u : Use) → s.use_of ≡ u → IsAs finished s.medium u → EachImage IsWhole s.medium → IsImage s.medium s.medium.seen → HasItsMessage s
its_message finished s Unused is so whole sound = absurd (whole_not_free s.medium.seen (whole s.medium.seen sound) (so s.medium.seen sound))
its_message finished s (Begun l) is so whole sound = absurd (whole_not_free s.medium.seen (whole s.medium.seen sound) (so s.medium.seen sound))
its_message finished s (CutOff l) is so whole sound = absurd (whole_not_free s.medium.seen (whole s.medium.seen sound) (so s.medium.seen sound))
its_message finished s (Opened l) is so whole sound =
    record { letter = l; is = is; kept = λ image im. not_free s.medium l image (whole image im) (behind_reads l.mail image im.bytes (so.0 image im)) }

pub whole_has_its_message : (events : List Event) (n : ℕ) → ArePossible events formatted → EachImage IsWhole ((after_all events formatted).slots n).medium
    → HasItsMessage ((after_all events formatted).slots n)
whole_has_its_message events n can whole =
    let good = (sound_always events can).good n in
    its_message (after_all events formatted).finished ((after_all events formatted).slots n) ((after_all events formatted).slots n).use_of refl good.is_as whole good.sound
