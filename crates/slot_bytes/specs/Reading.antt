-- Reading a slot file from left to right.
use Rattle.std.specs.Prelude.{ℕ, zero, suc, ◌+◌, ◌-◌, ◌*◌, ◌==◌, List, [], ◌∷◌, length, Ok, Err, if◌then◌else◌}
use Rattle.byte_reader.specs.Reading.{Read, ◌>>=◌, byte_at, bytes_at, short_at}
use Rattle.slot_bytes.specs.Layout.{Mail, mark_count, done_of}

-- ---- fields

-- a text behind its length in two bytes, from the least length to the most
unfoldable pub long_text_at : ℕ → ℕ → List ℕ → Read (List ℕ)
long_text_at least most bytes = do
  n ← short_at least most bytes
  bytes_at n.0 n.1

-- so many recipients
unfoldable pub rcpts_at : ℕ → List ℕ → Read (List (List ℕ))
rcpts_at zero bytes = Ok ([], bytes)
rcpts_at (suc n) bytes = do
  one ← long_text_at 1 256 bytes
  more ← rcpts_at n one.1
  Ok (one.0 ∷ more.0, more.1)

-- the most that the last two bytes of a body's length can be, behind the two before them: 67,108,864 is 1,024 times
-- 65,536
abbrev pub low_most : ℕ → ℕ
low_most high = if high == 1024 then 0 else 65535

-- the length of a body in eight bytes, at most 67,108,864
unfoldable pub body_len_at : List ℕ → Read ℕ
body_len_at bytes = do
  first ← short_at 0 0 bytes
  second ← short_at 0 0 first.1
  high ← short_at 0 1024 second.1
  low ← short_at 0 (low_most high.0) high.1
  Ok (65536 * high.0 + low.0, low.1)

-- ---- the head

-- what stands in front of a body
pub record Head : Type 0 where
  pub gate : ℕ
  pub aside : ℕ
  pub version : ℕ
  pub len : ℕ
  pub marks : List ℕ
  pub from : List ℕ
  pub rcpts : List (List ℕ)

-- the first six bytes of a file with an open gate: the gate, whether it is set aside, `FWS` and the version's digit
pub record Preamble : Type 0 where
  pub gate : ℕ
  pub aside : ℕ
  pub version : ℕ

unfoldable pub preamble_at : List ℕ → Read Preamble
preamble_at bytes = do
  gate ← byte_at 1 255 bytes
  aside ← byte_at 0 255 gate.1
  f ← byte_at 70 70 aside.1
  w ← byte_at 87 87 f.1
  s ← byte_at 83 83 w.1
  version ← byte_at 49 50 s.1
  Ok (record { gate = gate.0; aside = aside.0; version = version.0 }, version.1)

abbrev pub head_of : Preamble → ℕ → List ℕ → List ℕ → List (List ℕ) → Head
head_of start len marks from rcpts =
    record { gate = start.gate; aside = start.aside; version = start.version; len = len; marks = marks; from = from; rcpts = rcpts }

unfoldable pub head_at : List ℕ → Read Head
head_at bytes = do
  start ← preamble_at bytes
  len ← body_len_at start.1
  n ← short_at 1 1000 len.1
  marks ← bytes_at (mark_count start.0.version n.0) n.1
  from ← long_text_at 0 256 marks.1
  rcpts ← rcpts_at n.0 from.1
  Ok (head_of start.0 len.0 marks.0 from.0 rcpts.0, rcpts.1)

-- the head, and the body behind it
unfoldable pub whole_at : List ℕ → Read (Head × List ℕ)
whole_at bytes = do
  head ← head_at bytes
  body ← bytes_at head.0.len head.1
  Ok ((head.0, body.0), body.1)

-- ---- the file

-- what a slot file is read as, whatever the marks of its recipients
pub data Reading : Type 0 where
  Free : Reading
  Whole : Mail → Reading
  Aside : Mail → Reading
  Bad : ℕ → Reading

abbrev pub mail_of : Head × List ℕ → Mail
mail_of x = record { from = x.0.from; rcpts = x.0.rcpts; body = x.1 }

-- a head and a body as a reading
abbrev pub slot_in : Head × List ℕ → Reading
slot_in x = if x.0.aside == 0 then Whole (mail_of x) else Aside (mail_of x)

-- with an open gate, in a file of this length
abbrev pub kept_or_bad : ℕ → Read (Head × List ℕ) → Reading
kept_or_bad len (Ok x) = slot_in x.0
kept_or_bad len (Err left) = Bad (len - left)

-- with a closed gate
abbrev pub free_or_short : List ℕ → Reading
free_or_short [] = Bad 1
free_or_short (aside ∷ rest) = Free

-- Byte 0 is the gate. A file with a closed gate is free, whatever stands behind its first two bytes.
unfoldable pub reads : List ℕ → Reading
reads [] = Bad 0
reads (gate ∷ rest) = if gate == 0 then free_or_short rest else kept_or_bad (length (gate ∷ rest)) (whole_at (gate ∷ rest))

-- ---- the marks

-- the places of the recipients that are done, of what was read: none where nothing was
abbrev pub done_or_none : Read (Head × List ℕ) → List ℕ
done_or_none (Ok x) = done_of x.0.0.marks
done_or_none (Err left) = []

-- the places of the recipients that are done, in a file that is read as a message
abbrev pub done_in : List ℕ → List ℕ
done_in bytes = done_or_none (whole_at bytes)
