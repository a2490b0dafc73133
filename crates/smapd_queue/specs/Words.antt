-- The words by which the log tells turns.
use Rattle.std.specs.Prelude.{ℕ, ◌+◌, ◌<◌, List, Option, Some, None, codes}
use Rattle.smapd_queue.specs.declared.round.Round.{Round}
use Rattle.smapd_queue.specs.declared.round.Trouble.{Trouble}
use Rattle.smapd_queue.specs.declared.round.Trouble.TheVariants.{Mailer, Disk}
use Rattle.smapd_queue.specs.declared.word.Word.{Word}
use Rattle.smapd_queue.specs.declared.word.Word.TheVariants as words
use Rattle.smapd_queue.specs.Turns.{Fate}
use Rattle.smapd_queue.specs.Turns.Fate.{Freed, NotFreed, PutAside, NotAside, PutBack, Unread}

abbrev pub word_by : Fate → Word
word_by (Freed message free) = words.Accepted
word_by (NotFreed message broken) = words.Broken
word_by (PutAside message aside) = words.Refused
word_by (NotAside message broken) = words.Broken
word_by (PutBack message) = words.Failed
word_by (Unread broken) = words.Broken

abbrev pub text_of : Word → List ℕ
text_of words.Accepted = codes "accepted"
text_of words.Refused = codes "refused"
text_of words.Failed = codes "failed"
text_of words.Broken = codes "broken"

-- a round with one more of this word
abbrev pub with_one : Word → Round → Round
with_one words.Accepted r = record { accepted = r.accepted + 1; refused = r.refused; failed = r.failed; broken = r.broken }
with_one words.Refused r = record { accepted = r.accepted; refused = r.refused + 1; failed = r.failed; broken = r.broken }
with_one words.Failed r = record { accepted = r.accepted; refused = r.refused; failed = r.failed + 1; broken = r.broken }
with_one words.Broken r = record { accepted = r.accepted; refused = r.refused; failed = r.failed; broken = r.broken + 1 }

-- the device that failed in a turn of this word
abbrev pub trouble_in : ℕ → Word → Option Trouble
trouble_in number words.Accepted = None
trouble_in number words.Refused = None
trouble_in number words.Failed = Some Mailer
trouble_in number words.Broken = Some (Disk number)

-- each number can grow
pub record HasRoom (r : Round) : Type 0 where
  pub accepted : r.accepted + 1 < 4294967296
  pub refused : r.refused + 1 < 4294967296
  pub failed : r.failed + 1 < 4294967296
  pub broken : r.broken + 1 < 4294967296
