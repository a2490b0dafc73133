-- Whose count rose in a job that needs no table.
use Rattle.std.proofs.Common.{ℕ, zero, suc, List, [], ◌∷◌, sym, subst, inl, inr}
use Rattle.std.specs.Prelude.{Result, Ok, Err}
use Rattle.drill_lines.specs.Drill.{drilled}
use Rattle.drill_lines.specs.declared.plan.Drill as drills
use Rattle.drill_lines.specs.declared.drill_fault.DrillFault.{DrillFault}
use Rattle.drill_lines.specs.declared.drill_fault.DrillFault.TheVariants as faults
use Rattle.drill_lines.specs.declared.tally.Tally.{Tally}
use Rattle.fw_disk.specs.DiskView.{DiskView}
use Rattle.fw_outside.specs.SinkView.{Gives}
use Rattle.fw_outside.specs.declared.failed.Failed as sink
use Rattle.bastion.specs.Jobs.{DoesJob, Drills, DrillsBy, FailsAt, Formats, TellsFormatted, drill_refused}
use Rattle.bastion.specs.Outcome.{CountRose, DiskRose, JobRose, SlotsRose}
use Rattle.bastion.specs.Works.{Prints, printed}
use Rattle.bastion.specs.WorldView.{Post, WorldView}
use Rattle.bastion.specs.declared.outcome.Device.TheVariants as device
use Rattle.bastion.specs.declared.outcome.Outcome.{Outcome}
use Rattle.bastion.specs.declared.outcome.Outcome.TheVariants.{Usage, Unread, Failed, NoMemory, Done, Decided, Ended}
use Rattle.bastion.proofs.CalculatingLemmas.{calculated_rose, spelled_rose}
use Rattle.bastion.proofs.HandedRoseLemmas.{handed_rose}
use Rattle.bastion.specs.declared.words.Job.{Job}
use Rattle.bastion.specs.declared.words.Job.TheVariants.{Drill, SpoolInit, Smapd, OtpCalc, OtpHex}
use Rattle.client_service.proofs.SinkLemmas.{cut_rose}

printed_rose : (printing : Result (Unit {0}) sink.Failed) (text : List ℕ) (old new : WorldView) → Gives printing text old.output new.output → SlotsRose (printed printing) old new
printed_rose (Ok done) text old new gives = tt
printed_rose (Err failed) text old new gives = cut_rose text old.output new.output gives

prints_rose : (text : List ℕ) (outcome : Outcome) (old new : WorldView) → Prints printed text outcome old.output new.output → SlotsRose outcome old new
prints_rose text outcome old new h = subst (λ (o : Outcome). SlotsRose o old new) (sym h.is) (printed_rose h.printing text old new h.gives)

refused_rose : (fault : DrillFault) (old new : WorldView) → SlotsRose (drill_refused fault) old new
refused_rose (faults.Table fault) old new = tt
refused_rose (faults.Rule fault) old new = tt
refused_rose faults.NoMemory old new = tt

drill_rose : (drill : drills.Drill) (read : Result Tally DrillFault) (outcome : Outcome) (old new : WorldView) → DrillsBy drill read outcome old new → SlotsRose outcome old new
drill_rose drill (Ok tally) outcome old new h = prints_rose _ outcome old new h.prints
drill_rose drill (Err fault) outcome old new h = subst (λ (o : Outcome). SlotsRose o old new) (sym h.is) (refused_rose fault old new)

pub fails_rose : (slot : ℕ) (olds news : List DiskView) → FailsAt slot olds news → DiskRose slot olds news
fails_rose zero (old ∷ olds) (new ∷ news) h = h.0.rose
fails_rose (suc slot) (old ∷ olds) (new ∷ news) h = fails_rose slot olds news h.1
fails_rose zero [] news h = absurd h
fails_rose zero (old ∷ olds) [] h = absurd h
fails_rose (suc slot) [] news h = absurd h
fails_rose (suc slot) (old ∷ olds) [] h = absurd h

init_rose : (answer : Result (Unit {0}) ℕ) (count : ℕ) (outcome : Outcome) (old new : WorldView) → Formats answer old.inputs.disks new.inputs.disks → TellsFormatted answer count outcome old.output new.output → SlotsRose outcome old new
init_rose (Ok done) count outcome old new formats h = prints_rose _ outcome old new h
init_rose (Err slot) count outcome old new formats h = subst (λ (o : Outcome). SlotsRose o old new) (sym h.0) (fails_rose slot old.inputs.disks new.inputs.disks formats)

-- what counts for a session over slots counts for a job
pub slots_job : (post : Post) → (outcome : Outcome) (old new : WorldView) → SlotsRose outcome old new → JobRose post outcome old new
slots_job post Usage old new h = h
slots_job post (Unread refusal) old new h = h
slots_job post (Failed device.Table) old new h = h
slots_job post (Failed device.Output) old new h = h
slots_job post (Failed device.Log) old new h = h
slots_job post (Failed device.Records) old new h = h
slots_job post (Failed device.Program) old new h = h
slots_job post (Failed device.Mailer) old new h = absurd h
slots_job post (Failed device.Dictionary) old new h = h
slots_job post (Failed device.Input) old new h = h
slots_job post (Failed (device.Disk slot)) old new h = h
slots_job post (NoMemory step) old new h = h
slots_job post Done old new h = h
slots_job post (Decided verdict) old new h = h
slots_job post (Ended ending refused) old new h = h

-- and what counts for every run counts for a session over slots
count_slots : (outcome : Outcome) (old new : WorldView) → CountRose outcome old new → SlotsRose outcome old new
count_slots Usage old new h = h
count_slots (Unread refusal) old new h = h
count_slots (Failed device.Table) old new h = h
count_slots (Failed device.Output) old new h = h
count_slots (Failed device.Log) old new h = h
count_slots (Failed device.Records) old new h = h
count_slots (Failed device.Program) old new h = h
count_slots (Failed device.Mailer) old new h = absurd h
count_slots (Failed device.Dictionary) old new h = h
count_slots (Failed device.Input) old new h = h
count_slots (Failed (device.Disk slot)) old new h = absurd h
count_slots (NoMemory step) old new h = h
count_slots Done old new h = h
count_slots (Decided verdict) old new h = h
count_slots (Ended ending refused) old new h = h

drill_job : (drill : drills.Drill) (outcome : Outcome) (old new : WorldView) → Drills drill outcome old new → SlotsRose outcome old new
drill_job drill outcome old new (inl h) = subst (λ (o : Outcome). SlotsRose o old new) (sym h.is) tt
drill_job drill outcome old new (inr h) = drill_rose drill (drilled drill) outcome old new h

pub job_rose : (post : Post) → (job : Job) (outcome : Outcome) (old new : WorldView) → DoesJob post job outcome old new → JobRose post outcome old new
job_rose post (Drill drill) outcome old new h = slots_job post outcome old new (drill_job drill outcome old new h)
job_rose post SpoolInit outcome old new h = slots_job post outcome old new (init_rose h.answer _ outcome old new h.formats h.tells)
job_rose post Smapd outcome old new h = handed_rose post outcome old new h
job_rose post (OtpCalc file) outcome old new h = slots_job post outcome old new (count_slots outcome old new (calculated_rose file outcome old new h))
job_rose post (OtpHex spelling) outcome old new h = slots_job post outcome old new (count_slots outcome old new (spelled_rose spelling outcome old new h))
