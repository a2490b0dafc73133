-- One step, with the keeper beside it.
-- No public clause cites these: they say what private functions answer.
use Rattle.std.specs.Prelude.{◌≡◌, ℕ, Bool, true, List, Some, Ok}
use Rattle.fw_outside.specs.KeeperView.{KeeperView}
use Rattle.auth_events.specs.declared.reply.Reply.{Reply}
use Rattle.auth_events.specs.declared.request.Request.{Request}
use Rattle.auth_records.specs.Reading.{decoded}
use Rattle.auth_records.specs.Spelling.{Fields, spelling}
use Rattle.auth_machine.specs.Answer.{answer_of}
use Rattle.auth_machine.specs.Keeping.{KeepsChange}
use Rattle.auth_machine.specs.Policy.{PolicyView}
use Rattle.auth_machine.specs.State.{State, record_at}
use Rattle.auth_machine.specs.Step.{answer, is_record, keeps, next_state, proposed}
use Rattle.auth_machine.specs.declared.record_change.RecordChange.{RecordChange}
use Rattle.auth_machine.specs.declared.record_change.RecordChange.TheVariants.{Leave, Put, Delete}

-- a record that is put is read again from its bytes, and stands already where one with its bytes does
pub record IsReadAgain (f : Fields) (records : List Fields) : Type 0 where
  pub decodes : decoded (spelling f) ≡ Ok f
  pub stands : is_record f (record_at f.name records) ≡ true → record_at f.name records ≡ Some f

abbrev pub PutsReadable : RecordChange → List Fields → Type 0
PutsReadable Leave records = Unit {0}
PutsReadable (Put f) records = IsReadAgain f records
PutsReadable (Delete name) records = Unit {0}

-- the reply, the state and what the keeper has kept are the machine's
pub record Steps (policy : PolicyView) (place sid at : ℕ) (request : Request) (reply : Reply) (kept : Bool) (old new : State) (before now : KeeperView) : Type 0 where
  pub reply_is : answer_of reply ≡ answer policy old place sid at request kept
  pub state_is : new ≡ next_state policy old place sid at request kept
  pub keeping : KeepsChange (keeps policy old place sid at request) (proposed policy old place sid at request).records kept before now
  pub readable : PutsReadable (proposed policy old place sid at request).records old.records
