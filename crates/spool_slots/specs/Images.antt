-- What images of a slot's disk are read as. Of the calls it is said which of these every image is at each moment:
--   format               any bytes; after Ok free
--   start, add, abandon  free
--   finish               free before the gate is written, and from then on free or whole; after Ok whole
--   message, into_broken whole
--   set_aside            whole or aside; after Ok aside
--   release              whole or free, or aside or free; after Ok free
--   open                 an image that was possible at its start; after it what it reads as
use Rattle.std.specs.Prelude.{◌≡◌, ℕ, List, ◌++◌, drop, length, ◌⊎◌}
use Rattle.slot_bytes.specs.Layout.{Mail, AreMarks, tagged_head}
use Rattle.slot_bytes.specs.Reading.{reads}
use Rattle.slot_bytes.specs.Reading.Reading.{Free, Whole, Aside, Bad}

abbrev pub IsFreeImage : List ℕ → Type 0
IsFreeImage image = reads image ≡ Free

abbrev pub IsWholeImage : Mail → List ℕ → Type 0
IsWholeImage m image = reads image ≡ Whole m

abbrev pub IsAsideImage : Mail → List ℕ → Type 0
IsAsideImage m image = reads image ≡ Aside m

abbrev pub IsFreeOrWhole : Mail → List ℕ → Type 0
IsFreeOrWhole m image = IsFreeImage image ⊎ IsWholeImage m image

abbrev pub IsWholeOrAside : Mail → List ℕ → Type 0
IsWholeOrAside m image = IsWholeImage m image ⊎ IsAsideImage m image

abbrev pub IsFreeOrAside : Mail → List ℕ → Type 0
IsFreeOrAside m image = IsFreeImage image ⊎ IsAsideImage m image

-- the message follows the first two bytes, whatever these are, in either version and whatever the marks
pub record HasMessageBehind (m : Mail) (image : List ℕ) : Type 0 where
  pub version : ℕ
  pub marks : List ℕ
  pub rest : List ℕ
  pub are_marks : AreMarks version (length m.rcpts) marks
  pub parts : drop 2 image ≡ tagged_head version (length m.body) marks m.from m.rcpts ++ m.body ++ rest

-- some reading, so no bad bytes
abbrev pub IsGoodImage : List ℕ → Type 0
IsGoodImage image = (at : ℕ) → reads image ≡ Bad at → ⊥
