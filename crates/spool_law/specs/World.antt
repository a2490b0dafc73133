-- A spool as plain data: its slots, and which messages were answered for and accepted.
use Rattle.std.specs.Prelude.{ℕ, List, [], ◌∷◌}
use Rattle.fw_disk.specs.Medium.{Medium, settled}
use Rattle.slot_bytes.specs.Layout.{Mail}

-- a message as far as it was added to, and the number that its start gave it, which no other has
pub record Letter : Type 0 where
  pub number : ℕ
  pub mail : Mail

-- What a slot is used for: nothing yet; a message that is being written; one that a crash cut off before its gate was
-- opened; one whose gate was opened.
pub data Use : Type 0 where
  Unused : Use
  Begun : Letter → Use
  CutOff : Letter → Use
  Opened : Letter → Use

-- the slot's message, if it has one
abbrev pub letters : Use → List Letter
letters Unused = []
letters (Begun l) = l ∷ []
letters (CutOff l) = l ∷ []
letters (Opened l) = l ∷ []

-- the slot has a message, and this holds of it
abbrev pub OfLetter : (Letter → Type 0) → Use → Type 0
OfLetter P Unused = ⊥
OfLetter P (Begun l) = P l
OfLetter P (CutOff l) = P l
OfLetter P (Opened l) = P l

pub record Slot : Type 0 where
  pub medium : Medium
  pub use_of : Use

-- Every number has a slot, of which a spool uses as many as it has. How many messages were begun; those whose gate was
-- opened, those that were answered for, and those that a mailer accepted, in order.
pub record World : Type 0 where
  pub slots : ℕ → Slot
  pub begun : ℕ
  pub finished : List Letter
  pub answered : List Letter
  pub accepted : List Letter

-- each slot was formatted: two zeros, which are synced
abbrev pub formatted : World
formatted = record {
  slots = λ n. record { medium = settled (0 ∷ 0 ∷ []); use_of = Unused };
  begun = 0;
  finished = [];
  answered = [];
  accepted = [];
}
