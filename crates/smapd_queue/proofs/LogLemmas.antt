-- What turns come to in the log.
use Rattle.std.proofs.Common.{◌≡◌, ap, ◌∙◌, ℕ, List, [], ◌∷◌, ◌++◌, Option}
use Rattle.fw_outside.specs.SinkView.{Cut, SinkView}
use Rattle.fw_outside.specs.ToldList.{grown}
use Rattle.smapd_queue.specs.Turns.{Turn, line_of, lines_of}
use Rattle.smapd_queue.specs.Meeting.{End}
use Rattle.smapd_queue.specs.Meeting.End.{AllTaken, NoneFull, Unlogged, Lacked}
use Rattle.smapd_queue.specs.Sums.{LogFails, LogGoes}
use Rattle.smapd_queue.proofs.MailerLemmas.{grown_both, grown_nil}

abbrev given_with : Option (List ℕ) → SinkView → SinkView
given_with told sink = record { given = told; shut = sink.shut; faults = sink.faults; mark = sink.mark }

-- nothing was given
same_given : (sink : SinkView) → sink ≡ given_with (grown sink.given []) sink
same_given sink = ap (λ (g : Option (List ℕ)). given_with g sink) (grown_nil sink.given)

pub logs_here : (old new : SinkView) → new ≡ old → new ≡ given_with (grown old.given []) old
logs_here old new same = same ∙ same_given old

pub logs_cut : (turn : Turn) (old middle new : SinkView) → middle ≡ old → Cut (line_of turn) middle new → LogFails [] turn old new
logs_cut turn old middle new same cut = record { middle = middle; whole = logs_here old middle same; cut = cut }

-- a line was given, and then the rest
more_given : (line rest : List ℕ) (old middle : SinkView) → middle ≡ old
    → given_with (grown (given_with (grown middle.given line) middle).given rest) (given_with (grown middle.given line) middle) ≡ given_with (grown old.given (line ++ rest)) old
more_given line rest old middle same = ap (λ (s : SinkView). given_with (grown (grown s.given line) rest) s) same ∙ ap (λ (g : Option (List ℕ)). given_with g old) (grown_both old.given line rest)

pub logs_first : (turn : Turn) (turns : List Turn) (ending : End) (old middle new : SinkView) → middle ≡ old → LogGoes turns ending (given_with (grown middle.given (line_of turn)) middle) new → LogGoes (turn ∷ turns) ending old new
logs_first turn turns AllTaken old middle new same g = g ∙ more_given (line_of turn) (lines_of turns) old middle same
logs_first turn turns NoneFull old middle new same g = g ∙ more_given (line_of turn) (lines_of turns) old middle same
logs_first turn turns (Unlogged last) old middle new same g = record { middle = g.middle; whole = g.whole ∙ more_given (line_of turn) (lines_of turns) old middle same; cut = g.cut }
logs_first turn turns (Lacked slot message) old middle new same g = g ∙ more_given (line_of turn) (lines_of turns) old middle same
