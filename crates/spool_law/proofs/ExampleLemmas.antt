-- A message that is begun, written, finished and answered for.
use Rattle.std.proofs.Common.{◌≡◌, ℕ, zero, suc, lit≤, lit<, List, [], ◌∷◌, refl, sym, subst, inl}
use Rattle.byte_reader.specs.Reading.{IsBytes}
use Rattle.fw_disk.specs.Medium.{settled}
use Rattle.fw_disk.specs.Laws.{AreBytes}
use Rattle.fw_disk.specs.Moments.{EachImage}
use Rattle.fw_disk.proofs.MediumLemmas.{settled_only}
use Rattle.slot_bytes.specs.Layout.{Mail, IsMail, AreMarks}
use Rattle.slot_bytes.specs.Reading.{reads}
use Rattle.slot_bytes.specs.Reading.Reading.{Whole}
use Rattle.slot_bytes.proofs.SlotLemmas.{reads_again, reads_free}
use Rattle.spool_law.specs.World.{formatted}
use Rattle.spool_law.specs.Images.{IsFree, IsKept, IsReady}
use Rattle.spool_law.specs.Events.{Event, ArePossible, after_all}
use Rattle.spool_law.specs.Events.Outcome.{Done}
use Rattle.spool_law.specs.Events.Step.{Start, Write, Sync, OpenGate, Answer}
use Rattle.spool_law.specs.Events.Event.{At}

-- to `a`, from nobody, and empty
abbrev mail : Mail
mail = record { from = []; rcpts = (97 ∷ []) ∷ []; body = [] }

-- its slot from byte 1 on
abbrev tail : List ℕ
tail = 0 ∷ 70 ∷ 87 ∷ 83 ∷ 50 ∷ 0 ∷ 0 ∷ 0 ∷ 0 ∷ 0 ∷ 0 ∷ 0 ∷ 0 ∷ 0 ∷ 1 ∷ 0 ∷ 0 ∷ 0 ∷ 0 ∷ 1 ∷ 97 ∷ []

abbrev pub example : List Event
example =
    At 0 (Start [] ((97 ∷ []) ∷ []))
    ∷ At 0 (Write 1 tail Done)
    ∷ At 0 Sync
    ∷ At 0 (OpenGate Done)
    ∷ At 0 Sync
    ∷ At 0 Answer
    ∷ []

at_each : (bytes : List ℕ) → IsBytes bytes → AreBytes bytes
at_each [] are place = lit< tt
at_each (b ∷ bytes) are zero = are.0
at_each (b ∷ bytes) are (suc place) = at_each bytes are.1 place

two_bytes : IsBytes tail
two_bytes = (
  lit< tt,
  (lit< tt, (lit< tt, (lit< tt, (lit< tt, (lit< tt, (lit< tt, (lit< tt, (lit< tt, (lit< tt, (lit< tt, (lit< tt, (lit< tt, (lit< tt, (lit< tt, (lit< tt, (lit< tt, (lit< tt, (lit< tt, (lit< tt, (lit< tt, tt)))))))))))))))))))),
)

is_mail : IsMail mail
is_mail = record {
  envelope = record {
    from_fits = record { low = lit≤ tt; high = lit≤ tt; bytes = tt };
    some = lit≤ tt;
    few = lit≤ tt;
    each = (record { low = lit≤ tt; high = lit≤ tt; bytes = (lit< tt, tt) }, tt);
  };
  small = lit≤ tt;
  bytes = tt;
}

reads_whole : reads (1 ∷ tail) ≡ Whole mail
reads_whole = reads_again 50 1 0 (0 ∷ []) mail [] (lit≤ tt, lit≤ tt) (lit≤ tt, lit≤ tt) waits is_mail
  where
    waits : AreMarks 50 1 (0 ∷ [])
    waits = record { known = (lit≤ tt, lit≤ tt); each = record { len = refl; bytes = (lit< tt, tt) } }

free_two : EachImage IsFree (settled (0 ∷ 0 ∷ []))
free_two image is = subst IsFree (sym (settled_only (0 ∷ 0 ∷ []) image is)) (reads_free (0 ∷ 0 ∷ []) (record { long = lit≤ tt; gate = refl }))

ready : EachImage (IsReady mail) (settled (0 ∷ tail))
ready image is = subst (IsReady mail) (sym (settled_only (0 ∷ tail) image is)) (record { free = reads_free (0 ∷ tail) (record { long = lit≤ tt; gate = refl }); behind = reads_whole })

kept : EachImage (IsKept mail) (settled (1 ∷ tail))
kept image is = subst (IsKept mail) (sym (settled_only (1 ∷ tail) image is)) (inl reads_whole)

pub example_possible : ArePossible example formatted
example_possible = (
  free_two,
  (
    record { begun = tt; behind = lit≤ tt; within = lit≤ tt; are = at_each tail two_bytes; leaves = tt },
    (tt, (record { ready = ready; leaves = tt }, (tt, (inl kept, tt)))),
  ),
)

pub example_answered : (after_all example formatted).answered ≡ record { number = 0; mail = mail } ∷ []
example_answered = refl
