-- What turning a client away does to its sink and to the log.
-- No public clause cites these: they say what private functions answer.
use Rattle.std.specs.Prelude.{◌≡◌, ℕ, ◌⊎◌, List, Option, Some, None}
use Rattle.fw_outside.specs.SinkView.{Cut, SinkView}
use Rattle.fw_outside.specs.ToldList.{grown}
use Rattle.fw_types.specs.declared.ending.Ending.{Ending}
use Rattle.fw_types.specs.declared.ending.Ending.TheVariants.{Done, LogFault}
use Rattle.fw_types.specs.declared.peer.Peer.{Peer}
use Rattle.gate_rules.specs.declared.service.Service.{Service}
use Rattle.gate_rules.specs.declared.verdict.Verdict.TheVariants.{Deny}
use Rattle.client_service.specs.Decision.{decision_text}
use Rattle.client_service.specs.Endings.{Noted, denied_words}
use Rattle.client_service.specs.Meeting.{denied_by}

-- the log failed within the line, and the client was told nothing
pub record StaysUntold (line : List ℕ) (ending : Ending) (to told logs noted : SinkView) : Type 0 where
  pub ends : ending ≡ LogFault
  pub cut : Cut line logs noted
  pub same : told ≡ to

-- the log has the line, and the client was given the words, in whole or in part
pub record IsToldWords (line words : List ℕ) (ending : Ending) (to told logs noted : SinkView) : Type 0 where
  pub ends : ending ≡ Done
  pub logged : noted ≡ record logs { given = grown logs.given line }
  pub tried : Noted words to told

abbrev pub TurnedAway : List ℕ → List ℕ → Ending → SinkView → SinkView → SinkView → SinkView → Type 0
TurnedAway line words ending to told logs noted = StaysUntold line ending to told logs noted ⊎ IsToldWords line words ending to told logs noted

-- the log failed within the line, or has it
pub record IsUnlogged (line : List ℕ) (ending : Ending) (logs noted : SinkView) : Type 0 where
  pub ends : ending ≡ LogFault
  pub cut : Cut line logs noted

pub record IsLogged (line : List ℕ) (ending : Ending) (logs noted : SinkView) : Type 0 where
  pub ends : ending ≡ Done
  pub logged : noted ≡ record logs { given = grown logs.given line }

abbrev pub LogsAlone : List ℕ → Ending → SinkView → SinkView → Type 0
LogsAlone line ending logs noted = IsUnlogged line ending logs noted ⊎ IsLogged line ending logs noted

-- that is all, and the client was told nothing
pub record LogsUntold (line : List ℕ) (ending : Ending) (to told logs noted : SinkView) : Type 0 where
  pub so : LogsAlone line ending logs noted
  pub same : told ≡ to

-- with words, or without
abbrev pub TurnedBy : List ℕ → Option (List ℕ) → Ending → SinkView → SinkView → SinkView → SinkView → Type 0
TurnedBy line None ending to told logs noted = LogsUntold line ending to told logs noted
TurnedBy line (Some words) ending to told logs noted = TurnedAway line words ending to told logs noted

-- a denial
pub record TellsOff (line : ℕ) (service : Service) (peer : Peer) (ending : Ending) (to told logs noted : SinkView) : Type 0 where
  pub away : Ending
  pub turns : TurnedBy (decision_text (Deny line) service peer) (denied_words service line) away to told logs noted
  pub ends : ending ≡ denied_by line away
