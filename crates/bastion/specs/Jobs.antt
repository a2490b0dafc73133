-- The work of the commands that need no table: `drill` and `spool-init`; that of `smapd`, and that of `otp-calc` and `otp-hex`, have
-- files of their own.
use Rattle.std.specs.Prelude.{◌≡◌, ℕ, zero, suc, ◌⊎◌, List, ◌∷◌, ◌++◌, length, codes, Result, Ok, Err}
use Rattle.std.specs.Fmt.{decimal}
use Rattle.drill_lines.specs.Drill.{drilled, tally_text}
use Rattle.drill_lines.specs.declared.plan.Drill.{Drill}
use Rattle.drill_lines.specs.declared.drill_fault.DrillFault.{DrillFault}
use Rattle.drill_lines.specs.declared.drill_fault.DrillFault.TheVariants as faults
use Rattle.drill_lines.specs.declared.tally.Tally.{Tally}
use Rattle.fw_disk.specs.DiskView.{DiskView}
use Rattle.fw_disk.specs.Moments.{EachImage, Now}
use Rattle.fw_outside.specs.Counts.{Rose}
use Rattle.fw_outside.specs.SinkView.{SinkView}
use Rattle.spool_slots.specs.Images.{IsFreeImage}
use Rattle.spool_slots.specs.States.{HasCleared, StillTells}
use Rattle.bastion.specs.Calculating.{Calculates, Spells}
use Rattle.bastion.specs.HandingOn.{HandsMail}
use Rattle.bastion.specs.Works.{Prints, printed}
use Rattle.bastion.specs.WorldView.{Post, WorldView}
use Rattle.bastion.specs.declared.outcome.Device.TheVariants as device
use Rattle.bastion.specs.declared.outcome.Outcome.{Outcome}
use Rattle.bastion.specs.declared.outcome.Outcome.TheVariants.{Unread, Failed, NoMemory}
use Rattle.bastion.specs.declared.outcome.Refusal.TheVariants as refusals
use Rattle.bastion.specs.declared.outcome.Step.TheVariants as steps
use Rattle.bastion.specs.declared.words.Job.{Job}
use Rattle.bastion.specs.declared.words.Job.TheVariants as jobs

-- ---- `drill`

-- a text was printed, and nothing else happened
pub record PrintsAlone (text : List ℕ) (outcome : Outcome) (old new : WorldView) : Type 0 where
  pub prints : Prints printed text outcome old.output new.output
  pub logs : new.logs ≡ old.logs
  pub files : new.files ≡ old.files
  pub inputs : new.inputs ≡ old.inputs

-- nothing happened
pub record ComesTo (said outcome : Outcome) (old new : WorldView) : Type 0 where
  pub is : outcome ≡ said
  pub same : new ≡ old

-- a line that was drawn can't be read
abbrev pub drill_refused : DrillFault → Outcome
drill_refused (faults.Table fault) = Unread (refusals.Table fault)
drill_refused (faults.Rule fault) = Unread (refusals.Rule fault)
drill_refused faults.NoMemory = NoMemory steps.Drill

-- the counts are printed, or a line can't be read
abbrev pub DrillsBy : Drill → Result Tally DrillFault → Outcome → WorldView → WorldView → Type 0
DrillsBy drill (Ok tally) outcome old new = PrintsAlone (tally_text drill tally) outcome old new
DrillsBy drill (Err fault) outcome old new = ComesTo (drill_refused fault) outcome old new

-- or there was no memory
abbrev pub Drills : Drill → Outcome → WorldView → WorldView → Type 0
Drills drill outcome old new = ComesTo (NoMemory steps.Drill) outcome old new ⊎ DrillsBy drill (drilled drill) outcome old new

-- ---- `spool-init`

-- the disk has two zeros, which are synced: a slot that is free, whatever a crash leaves of it
pub record IsFormatted (old new : DiskView) : Type 0 where
  pub cleared : HasCleared old new
  pub free : Now (EachImage IsFreeImage) new
  pub tells : StillTells old new

-- the disk failed, which is counted
pub record IsUnformatted (old new : DiskView) : Type 0 where
  pub rose : Rose old.faults new.faults
  pub tells : StillTells old new

-- the first so many disks were formatted, and the others are as they were
abbrev pub AreFormatted : ℕ → List DiskView → List DiskView → Type 0
AreFormatted zero olds news = news ≡ olds
AreFormatted (suc count) (old ∷ olds) (new ∷ news) = IsFormatted old new × AreFormatted count olds news
AreFormatted count _ _ = ⊥

-- the disk at this place failed; those before it were formatted, and those behind it are as they were
abbrev pub FailsAt : ℕ → List DiskView → List DiskView → Type 0
FailsAt zero (old ∷ olds) (new ∷ news) = IsUnformatted old new × (news ≡ olds)
FailsAt (suc slot) (old ∷ olds) (new ∷ news) = IsFormatted old new × FailsAt slot olds news
FailsAt slot _ _ = ⊥

-- all disks in their order, or up to one that failed
abbrev pub Formats : Result (Unit {0}) ℕ → List DiskView → List DiskView → Type 0
Formats (Ok done) old new = AreFormatted (length old) old new
Formats (Err slot) old new = FailsAt slot old new

abbrev pub formatted_text : ℕ → List ℕ
formatted_text count = codes "formatted " ++ decimal count ++ codes "\n"

-- how many were formatted is printed, or which disk failed is the outcome
abbrev pub TellsFormatted : Result (Unit {0}) ℕ → ℕ → Outcome → SinkView → SinkView → Type 0
TellsFormatted (Ok done) count outcome old new = Prints printed (formatted_text count) outcome old new
TellsFormatted (Err slot) count outcome old new = (outcome ≡ Failed (device.Disk slot)) × (new ≡ old)

-- the disks were formatted, and then that was printed; nothing else happened
pub record Inits (outcome : Outcome) (old new : WorldView) : Type 0 where
  pub answer : Result (Unit {0}) ℕ
  pub formats : Formats answer old.inputs.disks new.inputs.disks
  pub tells : TellsFormatted answer (length old.inputs.disks) outcome old.output new.output
  pub inputs : new.inputs ≡ record (old.inputs) { disks = new.inputs.disks }
  pub logs : new.logs ≡ old.logs
  pub files : new.files ≡ old.files

-- one row a job
abbrev pub DoesJob : Post → Job → Outcome → WorldView → WorldView → Type 0
DoesJob post (jobs.Drill drill) outcome old new = Drills drill outcome old new
DoesJob post jobs.SpoolInit outcome old new = Inits outcome old new
DoesJob post jobs.Smapd outcome old new = HandsMail post outcome old new
DoesJob post (jobs.OtpCalc file) outcome old new = Calculates file outcome old new
DoesJob post (jobs.OtpHex spelling) outcome old new = Spells spelling outcome old new
