-- Where a session stops, and of what it lacks memory.
use Rattle.std.specs.Prelude.{◌≡◌, ℕ, Bool, true, false, List, ◌∷◌, ◌++◌, map, Result, Ok, Err}
use Rattle.std.specs.List.{list_any}
use Rattle.auth_events.specs.declared.port.PortFault.{PortFault}
use Rattle.auth_events.specs.declared.port.PortFault.TheVariants as faults
use Rattle.auth_events.specs.declared.reply.Reply.{Reply}
use Rattle.fw_acts.specs.Acts.{Row, Step, PlaceTable}
use Rattle.fw_types.specs.declared.ending.Ending.{Ending}
use Rattle.session_acts.specs.Acts.{Act, Halt, Outcome, Undeposited, cause_by}
use Rattle.session_acts.specs.Acts.Act.{Ask, Renew, Deposit, Allot}
use Rattle.session_acts.specs.Acts.Undeposited.{Lacks, Unsaid, Unheard}
use Rattle.session_acts.specs.Deeds.{Deed, done}
use Rattle.session_acts.specs.Met.{acts}
use Rattle.session_acts.specs.Session.{Held, deeds_of, owed}
use Rattle.session_acts.specs.World.{World}
use Rattle.session_acts.specs.declared.cause.Cause.{Cause}
use Rattle.session_acts.specs.declared.deposited.Deposited.{Deposited}

-- acts were done, then one at which the session stopped for this cause, and then nothing but what was owed
pub record StopsLast {Origin P : Type 0} {rows : PlaceTable (acts Origin) P} {first : Row (acts Origin) P} {old new : World Origin} {ending : Ending} (cause : Cause) (held : Held rows first old new ending) : Type 0 where
  pub steps : List (Step (acts Origin))
  pub act : Act
  pub halt : Halt act
  pub is_cause : cause ≡ cause_by act halt
  pub deeds : deeds_of held ≡ map done steps ++ record { act = act; outcome = Err halt } ∷ owed held.mid held.answer

-- ---- want of memory

abbrev pub is_no_memory : PortFault → Bool
is_no_memory faults.NoMemory = true
is_no_memory _ = false

abbrev pub lacked_asking : Result Reply PortFault → Bool
lacked_asking (Ok reply) = false
lacked_asking (Err fault) = is_no_memory fault

abbrev pub lacked_renewing : Result (List ℕ × Reply) (List ℕ × PortFault) → Bool
lacked_renewing (Ok salts) = false
lacked_renewing (Err salts) = is_no_memory salts.1

abbrev pub lacked_depositing : {words : List ℕ} → Result (Deposited × List ℕ) (Undeposited words) → Bool
lacked_depositing (Err Lacks) = true
lacked_depositing _ = false

abbrev pub lacked_allotting : Result (Unit {0}) (Unit {0}) → Bool
lacked_allotting (Ok done) = false
lacked_allotting (Err lacks) = true

-- whether there was no memory: for a request, so that it got no answer, to begin a message, or for what was allotted
abbrev pub lacked_memory : (act : Act) → Outcome act → Bool
lacked_memory (Ask request) outcome = lacked_asking outcome
lacked_memory (Renew name hash) outcome = lacked_renewing outcome
lacked_memory (Deposit sender rcpts words most) outcome = lacked_depositing outcome
lacked_memory Allot outcome = lacked_allotting outcome
lacked_memory act outcome = false

-- whether one of these did
abbrev pub one_lacked_memory : List Deed → Bool
one_lacked_memory deeds = list_any (λ deed. lacked_memory deed.act deed.outcome) deeds
