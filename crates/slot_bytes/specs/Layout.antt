-- The bytes of a slot file from left to right, in both versions (docs/spool.md).
use Rattle.std.specs.Prelude.{ℕ, ◌+◌, ◌≤◌, ◌==◌, List, [], ◌∷◌, ◌++◌, length, map, if◌then◌else◌}
use Rattle.std.specs.Int.{w64, to_be_bytes}
use Rattle.std.specs.List.{AllByRecursion}
use Rattle.byte_reader.specs.Reading.{IsBytes}
use Rattle.byte_reader.specs.Exact.{two, InRange, IsBytesOf}

-- a message as a slot keeps it
pub record Mail : Type 0 where
  pub from : List ℕ
  pub rcpts : List (List ℕ)
  pub body : List ℕ

-- a text with a length from the least to the most
pub record IsTextFrom (least most : ℕ) (text : List ℕ) : Type 0 where
  pub low : least ≤ length text
  pub high : length text ≤ most
  pub bytes : IsBytes text

-- who sends, and 1 to 1,000 recipients
pub record IsEnvelope (from : List ℕ) (rcpts : List (List ℕ)) : Type 0 where
  pub from_fits : IsTextFrom 0 256 from
  pub some : 1 ≤ length rcpts
  pub few : length rcpts ≤ 1000
  pub each : AllByRecursion (IsTextFrom 1 256) rcpts

-- a message that fits into a slot
pub record IsMail (m : Mail) : Type 0 where
  pub envelope : IsEnvelope m.from m.rcpts
  pub small : length m.body ≤ 67108864
  pub bytes : IsBytes m.body

-- a text behind its length in two bytes
abbrev pub counted : List ℕ → List ℕ
counted text = two (length text) ++ text

-- texts, each behind its length
abbrev pub each_counted : List (List ℕ) → List ℕ
each_counted [] = []
each_counted (text ∷ texts) = counted text ++ each_counted texts

-- how many marks stand in front of the sender, by the version's digit: in version 1 none, in version 2 one a recipient
abbrev pub mark_count : ℕ → ℕ → ℕ
mark_count version n = if version == 49 then 0 else n

-- the marks of a message with so many recipients: 0 for one that waits, any other byte for one that is done
pub record AreMarks (version n : ℕ) (marks : List ℕ) : Type 0 where
  pub known : InRange 49 50 version
  pub each : IsBytesOf (mark_count version n) marks

-- the marks of a message of which every recipient waits
abbrev pub all_waiting : List (List ℕ) → List ℕ
all_waiting rcpts = map (λ rcpt. 0) rcpts

-- the place of a mark, if it isn't 0
abbrev pub place_at : ℕ → ℕ → List ℕ
place_at place mark = if mark == 0 then [] else place ∷ []

-- the places of the marks that aren't 0, where the first mark has this place
abbrev pub places_from : ℕ → List ℕ → List ℕ
places_from place [] = []
places_from place (mark ∷ marks) = place_at place mark ++ places_from (place + 1) marks

-- the places, from 0 and rising, of the recipients that are done
abbrev pub done_of : List ℕ → List ℕ
done_of marks = places_from 0 marks

-- From byte 2, the tag, on up to the body: `FWS`, the version's digit, the body's length in eight bytes, the number of
-- recipients in two, the marks, the sender and the recipients.
abbrev pub tagged_head : ℕ → ℕ → List ℕ → List ℕ → List (List ℕ) → List ℕ
tagged_head version len marks from rcpts =
    (70 ∷ 87 ∷ 83 ∷ version ∷ to_be_bytes w64 len) ++ two (length rcpts) ++ marks ++ counted from ++ each_counted rcpts

-- Byte 0 is the gate, byte 1 says whether the message is set aside, and the body stands at the end.
abbrev pub slot_bytes : ℕ → ℕ → ℕ → List ℕ → Mail → List ℕ
slot_bytes version gate aside marks m = (gate ∷ aside ∷ tagged_head version (length m.body) marks m.from m.rcpts) ++ m.body
