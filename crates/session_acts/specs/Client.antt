-- A whole client: the verdict's line is logged, and then comes what follows it.
use Rattle.std.specs.Prelude.{◌≡◌, ℕ, Bool, List, ◌∷◌, ◌++◌, ◌⊎◌, Result, Ok}
use Rattle.fw_acts.specs.Acts.{Row, PlaceTable}
use Rattle.fw_acts.specs.Acts.Row.{Do}
use Rattle.fw_outside.specs.ToldList.{grown}
use Rattle.fw_types.specs.declared.ending.Ending.{Ending}
use Rattle.fw_types.specs.declared.ending.Ending.TheVariants.{Done, LogFault}
use Rattle.session_acts.specs.Acts.{Front}
use Rattle.session_acts.specs.Acts.Act.{Log}
use Rattle.session_acts.specs.Deeds.{Deed}
use Rattle.session_acts.specs.Met.{CutAt, Gets, acts}
use Rattle.session_acts.specs.Session.{SessionAs, deeds_of}
use Rattle.session_acts.specs.World.{Devices}

-- the devices after the log was given a line
abbrev pub with_line : {Origin : Type 0} → List ℕ → Devices Origin → Devices Origin
with_line line old = record old { logs = record (old.logs) { given = grown old.logs.given line } }

-- the log was given the line
abbrev pub line_logged : List ℕ → Deed
line_logged line = record { act = Log line; outcome = Ok tt }

-- The log failed behind a front of the line, which it was given. Nothing else was done at any device, and so the ending is.
pub record LogFails {Origin : Type 0} (line : List ℕ) (old new : Devices Origin) (ending : Ending) : Type 0 where
  pub front : Front line
  pub cut : CutAt front old.logs new.logs
  pub same : new ≡ record old { logs = new.logs }
  pub ends : ending ≡ LogFault

-- The log was given the line, and then the session that follows was held. What the log was given begins with the line.
pub record GoesOn {Origin P : Type 0} {relays : Bool} (line : List ℕ) (rows : PlaceTable (acts Origin) P) (first : Row (acts Origin) P) (old new : Devices Origin) (ending : Ending)
    (session : SessionAs relays rows (Do (Log line) (λ done. first)) old new ending) : Type 0 where
  pub rest : SessionAs relays rows first (with_line line old) new ending
  pub deeds : deeds_of session.held ≡ line_logged line ∷ deeds_of rest.held
  pub more : List ℕ
  pub log : new.logs.given ≡ grown old.logs.given (line ++ more)

-- a session before which a line is logged
abbrev pub LogsFirst : {Origin P : Type 0} {relays : Bool} (line : List ℕ) (rows : PlaceTable (acts Origin) P) (first : Row (acts Origin) P) (old new : Devices Origin) (ending : Ending)
    → SessionAs relays rows (Do (Log line) (λ done. first)) old new ending → Type 0
LogsFirst line rows first old new ending session = LogFails line old new ending ⊎ GoesOn line rows first old new ending session

-- The log was given the line, and nothing else; and the client was given the words, or a front of them where its sink
-- failed. Nothing else was done at any device.
pub record IsTurnedAway {Origin : Type 0} (line words : List ℕ) (old new : Devices Origin) (ending : Ending) : Type 0 where
  pub tried : Result (Unit {0}) (Front words)
  pub gets : Gets words tried old.outlet new.outlet
  pub same : new ≡ record (with_line line old) { outlet = new.outlet }
  pub ends : ending ≡ Done

-- a client that is denied
abbrev pub Denies : {Origin : Type 0} → List ℕ → List ℕ → Devices Origin → Devices Origin → Ending → Type 0
Denies line words old new ending = LogFails line old new ending ⊎ IsTurnedAway line words old new ending
