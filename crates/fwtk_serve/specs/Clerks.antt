-- What rounds of handing on mail came to so far.
-- No public clause cites these: they say what private functions do.
use Rattle.std.specs.Prelude.{◌≡◌, ℕ, ◌+◌, ◌-◌, ◌^◌, min, if◌then◌else◌, List, [], ◌∷◌, Result}
use Rattle.smapd_queue.specs.Meeting.{Meeting, meeting_with}
use Rattle.smapd_queue.specs.declared.round.Round.{Round}
use Rattle.smapd_queue.specs.declared.round.RoundFault.{RoundFault}
use Rattle.fw_mail.specs.MailerView.{MailerView}
use Rattle.fw_outside.specs.SinkView.{SinkView}
use Rattle.spool_rack.specs.Store.{StoreView}
use Rattle.fwtk_serve.specs.Rounds.{RoundView, WereRounds, is_starved, numbers_in}
use Rattle.fwtk_serve.specs.declared.sums.Sums.{Sums}

-- ---- sums

abbrev pub no_round : Round
no_round = record { accepted = 0; refused = 0; failed = 0; broken = 0 }

abbrev pub no_sums : Sums
no_sums = record { round = no_round; starved = 0 }

-- two numbers together, up to the last of 32 bits
abbrev pub both_of : ℕ → ℕ → ℕ
both_of a b = min (a + b) (2 ^ 32 - 1)

abbrev pub with_round : Round → Round → Round
with_round sum round = record {
  accepted = both_of sum.accepted round.accepted;
  refused = both_of sum.refused round.refused;
  failed = both_of sum.failed round.failed;
  broken = both_of sum.broken round.broken;
}

-- with one round more, which answered this
abbrev pub with_answer : Result Round RoundFault → Sums → Sums
with_answer answer sums = record {
  round = with_round sums.round (numbers_in answer);
  starved = both_of sums.starved (if is_starved answer then 1 else 0);
}

abbrev pub with_rounds : List RoundView → Sums → Sums
with_rounds [] sums = sums
with_rounds (round ∷ more) sums = with_rounds more (with_answer round.answer sums)

-- ---- whoever hands on mail

-- the store, the mailers and the log, and what the rounds came to
pub record ClerkView : Type 0 where
  pub met : Meeting
  pub sums : Sums

abbrev pub clerk_with : StoreView → List MailerView → SinkView → Sums → ClerkView
clerk_with store mailers logs sums = record { met = meeting_with store mailers logs; sums = sums }

-- it held some rounds of at most so many turns, and did nothing else
pub record HandsMore (most : ℕ) (old new : ClerkView) : Type 0 where
  pub rounds : List RoundView
  pub went : WereRounds most rounds old.met new.met
  pub sums : new.sums ≡ with_rounds rounds old.sums

-- it held one
pub record HandsOnce (most : ℕ) (old new : ClerkView) : Type 0 where
  pub round : RoundView
  pub went : WereRounds most (round ∷ []) old.met new.met
  pub sums : new.sums ≡ with_answer round.answer old.sums

-- it held some, and then a last one
pub record HandsToEnd (most : ℕ) (old new : ClerkView) : Type 0 where
  pub middle : ClerkView
  pub more : HandsMore most old middle
  pub last : HandsOnce most middle new
