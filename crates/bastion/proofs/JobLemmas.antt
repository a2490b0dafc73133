-- From what a job without a table did to its status and to what it leaves.
use Rattle.std.proofs.Common.{◌≡◌, ℕ, List, refl, sym, ap, subst, inl, inr, ◌⊎◌, arith}
use Rattle.std.specs.Prelude.{Result, Ok, Err, length}
use Rattle.drill_lines.specs.Drill.{drilled}
use Rattle.drill_lines.specs.declared.plan.Drill as drills
use Rattle.drill_lines.specs.declared.drill_fault.DrillFault.{DrillFault}
use Rattle.drill_lines.specs.declared.drill_fault.DrillFault.TheVariants as faults
use Rattle.drill_lines.specs.declared.tally.Tally.{Tally}
use Rattle.fw_outside.specs.FilesView.{FilesView}
use Rattle.fw_outside.specs.SinkView.{Gives}
use Rattle.fw_outside.specs.declared.failed.Failed as sink
use Rattle.bastion.specs.Jobs.{AreFormatted, DoesJob, DrillsBy, Formats, TellsFormatted, drill_refused}
use Rattle.bastion.specs.Outcome.{DiskRose, status_of}
use Rattle.bastion.specs.Status.{DisksRose, IsStatusOfJob, JobLeavesDisks, SomeRose, TakesInJob, drill_status}
use Rattle.bastion.specs.Works.{Prints, printed}
use Rattle.bastion.specs.WorldView.{Post, SessionInputs, WorldView}
use Rattle.bastion.specs.declared.outcome.Outcome.{Outcome}
use Rattle.bastion.specs.declared.words.Job.{Job}
use Rattle.bastion.specs.declared.words.Job.TheVariants.{Drill, SpoolInit, Smapd, OtpCalc, OtpHex}
use Rattle.bastion.proofs.CalculatingLemmas.{calculated_left, calculated_takes, spelled_left, spelled_takes}
use Rattle.bastion.proofs.CalculatedLemmas.{calculated_status, spelled_status}
use Rattle.bastion.proofs.HandedLemmas.{handed_disks, handed_left, handed_status}
use Rattle.bastion.proofs.JobRoseLemmas.{fails_rose}
use Rattle.bastion.proofs.LeftLemmas.{Later}
use Rattle.bastion.proofs.RoseLemmas.{some_later}
use Rattle.client_service.proofs.SinkLemmas.{cut_rose}

-- ---- the status

-- a text was printed, or the output failed, which it counted
abbrev IsPrinted : ℕ → WorldView → WorldView → Type 0
IsPrinted status old new = ((status ≡ 4) × SomeRose old new) ⊎ (status ≡ 0)

printed_status : (printing : Result (Unit {0}) sink.Failed) (text : List ℕ) (old mid new : WorldView) → Later mid new → Gives printing text old.output mid.output → IsPrinted (status_of (printed printing)) old new
printed_status (Ok done) text old mid new later gives = inr refl
printed_status (Err failed) text old mid new later gives = inl (refl, some_later old mid new later (inr (inl (inl (cut_rose text old.output mid.output gives)))))

prints_status : (text : List ℕ) (outcome : Outcome) (old mid new : WorldView) → Later mid new → Prints printed text outcome old.output mid.output → IsPrinted (status_of outcome) old new
prints_status text outcome old mid new later h = subst (λ (o : Outcome). IsPrinted (status_of o) old new) (sym h.is) (printed_status h.printing text old mid new later h.gives)

abbrev IsDrilled : ℕ → Result Tally DrillFault → WorldView → WorldView → Type 0
IsDrilled status read old new = (((status ≡ 4) × SomeRose old new) ⊎ (status ≡ 5)) ⊎ (status ≡ drill_status read)

counted_status : (status : ℕ) (tally : Tally) (old new : WorldView) → IsPrinted status old new → IsDrilled status (Ok tally) old new
counted_status status tally old new (inl four) = inl (inl four)
counted_status status tally old new (inr zero) = inr zero

refused_status : (fault : DrillFault) (old new : WorldView) → IsDrilled (status_of (drill_refused fault)) (Err fault) old new
refused_status (faults.Table fault) old new = inr refl
refused_status (faults.Rule fault) old new = inr refl
refused_status faults.NoMemory old new = inl (inr refl)

drill_comes : (drill : drills.Drill) (read : Result Tally DrillFault) (outcome : Outcome) (old mid new : WorldView) → Later mid new → DrillsBy drill read outcome old mid → IsDrilled (status_of outcome) read old new
drill_comes drill (Ok tally) outcome old mid new later h = counted_status (status_of outcome) tally old new (prints_status _ outcome old mid new later h.prints)
drill_comes drill (Err fault) outcome old mid new later h = subst (λ (o : Outcome). IsDrilled (status_of o) (Err fault) old new) (sym h.is) (refused_status fault old new)

abbrev IsInited : ℕ → WorldView → WorldView → Type 0
IsInited status old new = ((status ≡ 4) × (SomeRose old new ⊎ DisksRose old.inputs.disks new.inputs.disks)) ⊎ (status ≡ 0)

some_inited : (status : ℕ) (old new : WorldView) → IsPrinted status old new → IsInited status old new
some_inited status old new (inl four) = inl (four.0, inl four.1)
some_inited status old new (inr zero) = inr zero

init_status : (answer : Result (Unit {0}) ℕ) (count : ℕ) (outcome : Outcome) (old mid new : WorldView) → Later mid new → Formats answer old.inputs.disks mid.inputs.disks → TellsFormatted answer count outcome old.output mid.output
    → IsInited (status_of outcome) old new
init_status (Ok done) count outcome old mid new later formats h = some_inited (status_of outcome) old new (prints_status _ outcome old mid new later h)
init_status (Err slot) count outcome old mid new later formats h =
    inl (ap status_of h.0, inr (slot, subst (λ (i : SessionInputs). DiskRose slot old.inputs.disks i.disks) (sym later.inputs) (fails_rose slot old.inputs.disks mid.inputs.disks formats)))

pub job_status : (post : Post) → (job : Job) (outcome : Outcome) (old mid new : WorldView) → DoesJob post job outcome old mid → Later mid new → IsStatusOfJob post job (status_of outcome) old new
job_status post (Drill drill) outcome old mid new (inl h) later = inl (inr (ap status_of h.is))
job_status post (Drill drill) outcome old mid new (inr h) later = drill_comes drill (drilled drill) outcome old mid new later h
job_status post Smapd outcome old mid new h later = handed_status post outcome old mid new h later
job_status post (OtpCalc file) outcome old mid new h later = calculated_status file outcome old mid new h later
job_status post (OtpHex spelling) outcome old mid new h later = spelled_status spelling outcome old mid new h later
job_status post SpoolInit outcome old mid new h later = init_status h.answer _ outcome old mid new later h.formats h.tells

-- ---- what is left

-- but for the output, the disks and the input nothing was touched that isn't told, and as many sources of files are out
pub record JobLeft (old new : WorldView) : Type 0 where
  pub out : new.files.out ≡ old.files.out
  pub dialer : new.inputs.dialer ≡ old.inputs.dialer
  pub keeper : new.inputs.keeper ≡ old.inputs.keeper
  pub remote : new.inputs.remote ≡ old.inputs.remote

left_same : (old new : WorldView) → new ≡ old → JobLeft old new
left_same old new is = record {
  out = ap (λ (w : WorldView). w.files.out) is;
  dialer = ap (λ (w : WorldView). w.inputs.dialer) is;
  keeper = ap (λ (w : WorldView). w.inputs.keeper) is;
  remote = ap (λ (w : WorldView). w.inputs.remote) is;
}

drill_left : (drill : drills.Drill) (read : Result Tally DrillFault) (outcome : Outcome) (old new : WorldView) → DrillsBy drill read outcome old new → JobLeft old new
drill_left drill (Ok tally) outcome old new h = record {
  out = ap (λ (f : FilesView). f.out) h.files;
  dialer = ap (λ (i : SessionInputs). i.dialer) h.inputs;
  keeper = ap (λ (i : SessionInputs). i.keeper) h.inputs;
  remote = ap (λ (i : SessionInputs). i.remote) h.inputs;
}
drill_left drill (Err fault) outcome old new h = left_same old new h.same

pub job_left : (post : Post) → (job : Job) (outcome : Outcome) (old new : WorldView) → DoesJob post job outcome old new → JobLeft old new
job_left post (Drill drill) outcome old new (inl h) = left_same old new h.same
job_left post (Drill drill) outcome old new (inr h) = drill_left drill (drilled drill) outcome old new h
job_left post Smapd outcome old new h =
    let left = handed_left post outcome old new h in
    record { out = ap (λ (f : FilesView). f.out) left.0; dialer = left.2; keeper = left.3; remote = left.4 }
job_left post (OtpCalc file) outcome old new h =
    let left = calculated_left file outcome old new h in
    record { out = left.out; dialer = left.dialer; keeper = left.keeper; remote = left.remote }
job_left post (OtpHex spelling) outcome old new h =
    let left = spelled_left spelling outcome old new h in
    record { out = left.out; dialer = left.dialer; keeper = left.keeper; remote = left.remote }
job_left post SpoolInit outcome old new h = record {
  out = ap (λ (f : FilesView). f.out) h.files;
  dialer = ap (λ (i : SessionInputs). i.dialer) h.inputs;
  keeper = ap (λ (i : SessionInputs). i.keeper) h.inputs;
  remote = ap (λ (i : SessionInputs). i.remote) h.inputs;
}

-- ---- the input

drill_takes : (drill : drills.Drill) (read : Result Tally DrillFault) (outcome : Outcome) (old new : WorldView) → DrillsBy drill read outcome old new → new.inputs.input ≡ old.inputs.input
drill_takes drill (Ok tally) outcome old new h = ap (λ (i : SessionInputs). i.input) h.inputs
drill_takes drill (Err fault) outcome old new h = ap (λ (w : WorldView). w.inputs.input) h.same

pub job_takes : (post : Post) → (job : Job) (outcome : Outcome) (old new : WorldView) → DoesJob post job outcome old new → TakesInJob job old.inputs.input new.inputs.input
job_takes post (Drill drill) outcome old new (inl h) = ap (λ (w : WorldView). w.inputs.input) h.same
job_takes post (Drill drill) outcome old new (inr h) = drill_takes drill (drilled drill) outcome old new h
job_takes post Smapd outcome old new h = (handed_left post outcome old new h).1
job_takes post SpoolInit outcome old new h = ap (λ (i : SessionInputs). i.input) h.inputs
job_takes post (OtpCalc file) outcome old new h = calculated_takes file outcome old new h
job_takes post (OtpHex spelling) outcome old new h = spelled_takes spelling outcome old new h

-- ---- the disks

drill_disks : (drill : drills.Drill) (read : Result Tally DrillFault) (outcome : Outcome) (old new : WorldView) → DrillsBy drill read outcome old new → new.inputs.disks ≡ old.inputs.disks
drill_disks drill (Ok tally) outcome old new h = ap (λ (i : SessionInputs). i.disks) h.inputs
drill_disks drill (Err fault) outcome old new h = ap (λ (w : WorldView). w.inputs.disks) h.same

init_disks : (answer : Result (Unit {0}) ℕ) (count : ℕ) (outcome : Outcome) (old new : WorldView) → Formats answer old.inputs.disks new.inputs.disks → TellsFormatted answer count outcome old.output new.output
    → status_of outcome ≡ 0 → AreFormatted (length old.inputs.disks) old.inputs.disks new.inputs.disks
init_disks (Ok done) count outcome old new formats h is = formats
init_disks (Err slot) count outcome old new formats h is = let four = ap status_of h.0 in absurd (omega (arith, four, is))

pub job_disks : (post : Post) → (job : Job) (outcome : Outcome) (old new : WorldView) → DoesJob post job outcome old new → JobLeavesDisks job (status_of outcome) old.inputs.disks new.inputs.disks
job_disks post (Drill drill) outcome old new (inl h) = ap (λ (w : WorldView). w.inputs.disks) h.same
job_disks post (Drill drill) outcome old new (inr h) = drill_disks drill (drilled drill) outcome old new h
job_disks post Smapd outcome old new h = handed_disks post outcome old new h
job_disks post (OtpCalc file) outcome old new h = (calculated_left file outcome old new h).disks
job_disks post (OtpHex spelling) outcome old new h = (spelled_left spelling outcome old new h).disks
job_disks post SpoolInit outcome old new h = λ is. init_disks h.answer _ outcome old new h.formats h.tells is
