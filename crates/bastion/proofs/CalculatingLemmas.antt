-- From what `otp-calc` and `otp-hex` did to what was read and told, whose count rose, and what is left.
use Rattle.std.proofs.Common.{◌≡◌, ◌^◌, ◌≤◌, ℕ, List, refl, sym, ◌∙◌, ap, subst, inl, inr, ◌⊎◌, length}
use Rattle.std.specs.Prelude.{Option, Some, None, Result, Ok, Err}
use Rattle.client_service.proofs.SinkLemmas.{cut_rose}
use Rattle.fw_outside.specs.Counts.{Grew, Rose}
use Rattle.fw_outside.specs.FilesView.{FilesView}
use Rattle.fw_outside.specs.KeeperView.{KeeperView}
use Rattle.fw_outside.specs.LineReaderView.{TookBytes}
use Rattle.fw_outside.specs.SinkView.{Gives, SinkView}
use Rattle.fw_outside.specs.SourceView.{SourceView, Broke, Idled}
use Rattle.fw_outside.specs.ToldList.{grown}
use Rattle.fw_outside.specs.declared.failed.Failed as sink
use Rattle.otp_words.specs.Dictionary.{dictionary_of}
use Rattle.otp_words.specs.Hearing.{HearsTask, IsAnswerOf, StopsWith}
use Rattle.otp_words.specs.Phrase.{spelled_of}
use Rattle.otp_words.specs.declared.dict_fault.DictFault.{DictFault}
use Rattle.otp_words.specs.declared.task.TaskFault.{TaskFault}
use Rattle.otp_words.specs.declared.task.TaskFault.TheVariants as task
use Rattle.otp_words.specs.declared.words_fault.WordsFault.{WordsFault}
use Rattle.session_acts.specs.Causes.{TookAtMost}
use Rattle.bastion.specs.Calculating.{AnswersTask, AnswersWords, Asks, ByDictionary, Calculates, IsCalculated, IsSpelled, LacksDictionary, NoDictionary, ReadsCalculated, Spells, TellsSpelled, TellsTask, WithDictionary, calculated_text, groups_text, spelled, spelled_by}
use Rattle.bastion.specs.FilesAsked.{AsksTable, FilesFailed, OfFile}
use Rattle.bastion.specs.Inputs.{OfText}
use Rattle.bastion.specs.Outcome.{CountRose, status_of}
use Rattle.bastion.specs.SpellingView.{SpellingView}
use Rattle.bastion.specs.Works.{Prints, printed}
use Rattle.bastion.specs.WorldView.{SessionInputs, WorldView}
use Rattle.bastion.specs.declared.outcome.Device.TheVariants as device
use Rattle.bastion.specs.declared.outcome.OtpRefusal.{OtpRefusal}
use Rattle.bastion.specs.declared.outcome.OtpRefusal.TheVariants.{Dictionary, Challenge, Words}
use Rattle.bastion.specs.declared.outcome.Outcome.{Outcome}
use Rattle.bastion.specs.declared.outcome.Outcome.TheVariants.{Usage, Unread, Failed, NoMemory, Done, Decided, Ended}
use Rattle.bastion.specs.declared.outcome.Refusal.{Refusal}
use Rattle.bastion.specs.declared.outcome.Refusal.TheVariants.{Table, Rule, Record, Slot, Otp}
use Rattle.bastion.specs.declared.outcome.Step.{Step}
use Rattle.bastion.specs.declared.outcome.Step.TheVariants as steps
use Rattle.bastion.proofs.AttendedLemmas.{takes_same}
use Rattle.bastion.proofs.ReadingLemmas.{of_text}

-- ---- what it comes to

-- a text that was read was given to the output
pub record IsTold (Reads : Result (List ℕ) OtpRefusal → WorldView → Type 0) (outcome : Outcome) (old new : WorldView) : Type 0 where
  pub text : List ℕ
  pub reads : Reads (Ok text) old
  pub prints : Prints printed text outcome old.output new.output

-- or something has no reading
pub record IsRefused (Reads : Result (List ℕ) OtpRefusal → WorldView → Type 0) (outcome : Outcome) (old new : WorldView) : Type 0 where
  pub refusal : OtpRefusal
  pub reads : Reads (Err refusal) old
  pub is : outcome ≡ Unread (Otp refusal)
  pub output : new.output ≡ old.output

-- or a device failed, or there was no memory
abbrev pub ComesBy : (Result (List ℕ) OtpRefusal → WorldView → Type 0) → Outcome → WorldView → WorldView → Type 0
ComesBy Reads outcome old new = (((status_of outcome ≡ 4) × CountRose outcome old new) ⊎ (outcome ≡ NoMemory steps.Dictionary)) ⊎ (IsTold Reads outcome old new ⊎ IsRefused Reads outcome old new)

files_rose : (file : List ℕ) (old new : FilesView) → FilesFailed file old new → Rose old.missing new.missing ⊎ Rose old.read_faults new.read_faults
files_rose file old new (inl missed) = inl (subst (λ (c : FilesView). Rose old.missing c.missing) (sym missed.is) missed.rose)
files_rose file old new (inr failed) = inr (subst (λ (c : FilesView). Rose old.read_faults c.read_faults) (sym failed.is) failed.rose)

-- what holds of a fault of each dictionary's text is read so
abbrev OfFaults : List ℕ → (Result (List ℕ) OtpRefusal → WorldView → Type 0) → WorldView → Type 0
OfFaults file Reads old = (fault : DictFault) → OfText old.files.holds file (λ text. dictionary_of text ≡ Err fault) → Reads (Err (Dictionary fault)) old

lacks_comes : (file : List ℕ) (Reads : Result (List ℕ) OtpRefusal → WorldView → Type 0) (outcome : Outcome) (old new : WorldView) → OfFaults file Reads old → LacksDictionary file outcome old.files new.files → new.output ≡ old.output → ComesBy Reads outcome old new
lacks_comes file Reads (Unread (Otp (Dictionary fault))) old new faults h output = inr (inr (record { refusal = Dictionary fault; reads = faults fault h.of_text; is = refl; output = output }))
lacks_comes file Reads (Failed device.Dictionary) old new faults h output = inl (inl (refl, files_rose file old.files new.files h))
lacks_comes file Reads (NoMemory steps.Dictionary) old new faults h output = inl (inr refl)
lacks_comes file Reads outcome old new faults h output = absurd h

-- the input before the work is the one before the run
input_from : (old mid new : WorldView) → mid.inputs ≡ old.inputs → Rose mid.inputs.input.faults new.inputs.input.faults ⊎ Rose mid.inputs.input.idles new.inputs.input.idles
    → Rose old.inputs.input.faults new.inputs.input.faults ⊎ Rose old.inputs.input.idles new.inputs.input.idles
input_from old mid new inputs h = subst (λ (i : SessionInputs). Rose i.input.faults new.inputs.input.faults ⊎ Rose i.input.idles new.inputs.input.idles) inputs h

-- a text was given to the output
gave_text : (Reads : Result (List ℕ) OtpRefusal → WorldView → Type 0) (text : List ℕ) (outcome : Outcome) (old mid new : WorldView) → Reads (Ok text) old → mid.output ≡ old.output → Prints printed text outcome mid.output new.output → ComesBy Reads outcome old new
gave_text Reads text outcome old mid new reads output h = inr (inl (record { text = text; reads = reads; prints = subst (λ (s : SinkView). Prints printed text outcome s new.output) output h }))

-- ---- `otp-calc`

asks_some : (left : Option (List ℕ)) (password : ℕ) → IsAnswerOf left (Ok password) → Asks left (Some password)
asks_some None password h = tt
asks_some (Some text) password h = h

asks_none : (left : Option (List ℕ)) → IsAnswerOf left (Err task.Challenge) → Asks left None
asks_none None h = tt
asks_none (Some text) h = h

reads_task : (file : List ℕ) (dictionary : List (List ℕ)) (asked : Option ℕ) (read : Result (List ℕ) OtpRefusal) (old : WorldView) → OfText old.files.holds file (λ text. dictionary_of text ≡ Ok dictionary)
    → ReadsCalculated old.inputs.input.left read (Ok dictionary) → IsCalculated file read old
reads_task file dictionary asked read old found reads =
    let P : Result (List (List ℕ)) DictFault → Type 0 = λ r. ReadsCalculated old.inputs.input.left read r in
    of_text old.files.holds file (λ text is. subst P (sym is) reads) found

source_rose : (middle new : SourceView) → Broke middle new ⊎ Idled middle new → Rose middle.faults new.faults ⊎ Rose middle.idles new.idles
source_rose middle new (inl broke) = inl (subst (λ (s : SourceView). Rose middle.faults s.faults) (sym broke.is) broke.rose)
source_rose middle new (inr idled) = inr (subst (λ (s : SourceView). Rose middle.idles s.idles) (sym idled.is) idled.rose)

-- taking bytes counts no failure
took_rose : (bytes : List ℕ) (old middle new : SourceView) → TookBytes bytes old middle → Rose middle.faults new.faults ⊎ Rose middle.idles new.idles → Rose old.faults new.faults ⊎ Rose old.idles new.idles
took_rose bytes old middle new took h = subst (λ (s : SourceView). Rose s.faults new.faults ⊎ Rose s.idles new.idles) took.is h

heard_rose : (old new : SourceView) → HearsTask (Err task.Failed) old new → Rose old.faults new.faults ⊎ Rose old.idles new.idles
heard_rose old new h = took_rose h.bytes old h.middle new h.took (source_rose h.middle new h.stops)

task_comes : (file : List ℕ) (dictionary : List (List ℕ)) (answer : Result ℕ TaskFault) (outcome : Outcome) (old mid new : WorldView) → OfText old.files.holds file (λ text. dictionary_of text ≡ Ok dictionary) → mid.output ≡ old.output → mid.inputs ≡ old.inputs
    → HearsTask answer mid.inputs.input new.inputs.input → TellsTask dictionary answer outcome mid.output new.output → ComesBy (IsCalculated file) outcome old new
task_comes file dictionary (Ok password) outcome old mid new found output inputs hears tells =
    let said : IsAnswerOf old.inputs.input.left (Ok password) = subst (λ (i : SessionInputs). IsAnswerOf i.input.left (Ok password)) inputs hears.is in
    gave_text (IsCalculated file) (calculated_text dictionary password) outcome old mid new
    (reads_task file dictionary (Some password) (Ok (calculated_text dictionary password)) old found (record { asked = Some password; asks = asks_some old.inputs.input.left password said; is = refl })) output tells
task_comes file dictionary (Err task.Challenge) outcome old mid new found output inputs hears tells =
    let said : IsAnswerOf old.inputs.input.left (Err task.Challenge) = subst (λ (i : SessionInputs). IsAnswerOf i.input.left (Err task.Challenge)) inputs hears.is in
    inr (inr (record {
      refusal = Challenge;
      reads = reads_task file dictionary None (Err Challenge) old found (record { asked = None; asks = asks_none old.inputs.input.left said; is = refl });
      is = tells.0;
      output = tells.1 ∙ output;
    }))
task_comes file dictionary (Err task.Failed) outcome old mid new found output inputs hears tells =
    let P : Outcome → Type 0 = λ o. CountRose o old new in
    inl (inl (ap status_of tells.0, subst P (sym tells.0) (input_from old mid new inputs (heard_rose mid.inputs.input new.inputs.input hears))))

calculated_faults : (file : List ℕ) (old : WorldView) → OfFaults file (IsCalculated file) old
calculated_faults file old fault found =
    let P : Result (List (List ℕ)) DictFault → Type 0 = λ r. ReadsCalculated old.inputs.input.left (Err (Dictionary fault)) r in
    of_text old.files.holds file (λ text is. subst P (sym is) refl) found

pub calculated_comes : (file : List ℕ) (outcome : Outcome) (old new : WorldView) → Calculates file outcome old new → ComesBy (IsCalculated file) outcome old new
calculated_comes file outcome old new (inl none) = lacks_comes file (IsCalculated file) outcome old new (calculated_faults file old) none.lacks none.output
calculated_comes file outcome old new (inr h) = task_comes file h.dictionary h.works.answer outcome old h.middle new h.found.of_text h.output h.inputs h.works.hears h.works.tells

-- ---- `otp-hex`

reads_words : (spelling : SpellingView) (dictionary : List (List ℕ)) (read : Result (List ℕ) OtpRefusal) (old : WorldView) → OfText old.files.holds spelling.file (λ text. dictionary_of text ≡ Ok dictionary)
    → spelled_by (spelled_of dictionary spelling.words) ≡ read → IsSpelled spelling read old
reads_words spelling dictionary read old found reads = of_text old.files.holds spelling.file (λ text is. ap (spelled spelling.words) is ∙ reads) found

words_come : (spelling : SpellingView) (dictionary : List (List ℕ)) (password : Result ℕ WordsFault) (outcome : Outcome) (old mid new : WorldView) → OfText old.files.holds spelling.file (λ text. dictionary_of text ≡ Ok dictionary) → spelled_of dictionary spelling.words ≡ password
    → mid.output ≡ old.output → TellsSpelled password outcome mid.output new.output → ComesBy (IsSpelled spelling) outcome old new
words_come spelling dictionary (Ok password) outcome old mid new found is output tells =
    gave_text (IsSpelled spelling) (groups_text password) outcome old mid new (reads_words spelling dictionary (Ok (groups_text password)) old found (ap spelled_by is)) output tells
words_come spelling dictionary (Err fault) outcome old mid new found is output tells =
    inr (inr (record { refusal = Words fault; reads = reads_words spelling dictionary (Err (Words fault)) old found (ap spelled_by is); is = tells.0; output = tells.1 ∙ output }))

spelled_faults : (spelling : SpellingView) (old : WorldView) → OfFaults spelling.file (IsSpelled spelling) old
spelled_faults spelling old fault found = of_text old.files.holds spelling.file (λ text is. ap (spelled spelling.words) is) found

pub spelled_comes : (spelling : SpellingView) (outcome : Outcome) (old new : WorldView) → Spells spelling outcome old new → ComesBy (IsSpelled spelling) outcome old new
spelled_comes spelling outcome old new (inl none) = lacks_comes spelling.file (IsSpelled spelling) outcome old new (spelled_faults spelling old) none.lacks none.output
spelled_comes spelling outcome old new (inr h) =
    words_come spelling h.dictionary (spelled_of h.dictionary spelling.words) outcome old h.middle new h.found.of_text refl h.output h.works.tells

-- ---- whose count rose

told_rose : (printing : Result (Unit {0}) sink.Failed) (text : List ℕ) (old new : WorldView) → Gives printing text old.output new.output → CountRose (printed printing) old new
told_rose (Ok done) text old new gives = tt
told_rose (Err failed) text old new gives = cut_rose text old.output new.output gives

rose_by : (Reads : Result (List ℕ) OtpRefusal → WorldView → Type 0) (outcome : Outcome) (old new : WorldView) → ComesBy Reads outcome old new → CountRose outcome old new
rose_by Reads outcome old new (inl (inl four)) = four.1
rose_by Reads outcome old new (inl (inr lacks)) = subst (λ (o : Outcome). CountRose o old new) (sym lacks) tt
rose_by Reads outcome old new (inr (inl told)) = subst (λ (o : Outcome). CountRose o old new) (sym told.prints.is) (told_rose told.prints.printing told.text old new told.prints.gives)
rose_by Reads outcome old new (inr (inr refused)) = subst (λ (o : Outcome). CountRose o old new) (sym refused.is) tt

pub calculated_rose : (file : List ℕ) (outcome : Outcome) (old new : WorldView) → Calculates file outcome old new → CountRose outcome old new
calculated_rose file outcome old new h = rose_by (IsCalculated file) outcome old new (calculated_comes file outcome old new h)

pub spelled_rose : (spelling : SpellingView) (outcome : Outcome) (old new : WorldView) → Spells spelling outcome old new → CountRose outcome old new
spelled_rose spelling outcome old new h = rose_by (IsSpelled spelling) outcome old new (spelled_comes spelling outcome old new h)

-- ---- what is left

-- nothing was touched that isn't told
pub record OtpLeft (old new : WorldView) : Type 0 where
  pub out : new.files.out ≡ old.files.out
  pub dialer : new.inputs.dialer ≡ old.inputs.dialer
  pub keeper : new.inputs.keeper ≡ old.inputs.keeper
  pub disks : new.inputs.disks ≡ old.inputs.disks
  pub remote : new.inputs.remote ≡ old.inputs.remote
  pub logs : new.logs ≡ old.logs

asked_out : (file : List ℕ) (old new : FilesView) → AsksTable file old new → new.out ≡ old.out
asked_out file old new h = ap (λ (f : FilesView). f.out) h.is

failed_out : (file : List ℕ) (old new : FilesView) → FilesFailed file old new → new.out ≡ old.out
failed_out file old new (inl missed) = ap (λ (f : FilesView). f.out) missed.is
failed_out file old new (inr failed) = ap (λ (f : FilesView). f.out) failed.is

lacks_out : (file : List ℕ) (outcome : Outcome) (old new : FilesView) → LacksDictionary file outcome old new → new.out ≡ old.out
lacks_out file (Unread (Otp (Dictionary fault))) old new h = asked_out file old new h.asks
lacks_out file (Failed device.Dictionary) old new h = failed_out file old new h
lacks_out file (NoMemory steps.Dictionary) old new h = asked_out file old new h
lacks_out file outcome old new h = absurd h

none_left : (file : List ℕ) (outcome : Outcome) (old new : WorldView) → NoDictionary file outcome old new → OtpLeft old new
none_left file outcome old new h = record {
  out = lacks_out file outcome old.files new.files h.lacks;
  dialer = ap (λ (i : SessionInputs). i.dialer) h.inputs;
  keeper = ap (λ (i : SessionInputs). i.keeper) h.inputs;
  disks = ap (λ (i : SessionInputs). i.disks) h.inputs;
  remote = ap (λ (i : SessionInputs). i.remote) h.inputs;
  logs = h.logs;
}

pub calculated_left : (file : List ℕ) (outcome : Outcome) (old new : WorldView) → Calculates file outcome old new → OtpLeft old new
calculated_left file outcome old new (inl none) = none_left file outcome old new none
calculated_left file outcome old new (inr h) = record {
  out = ap (λ (f : FilesView). f.out) h.works.files ∙ asked_out file old.files h.middle.files h.found.asks;
  dialer = ap (λ (i : SessionInputs). i.dialer) h.works.inputs ∙ ap (λ (i : SessionInputs). i.dialer) h.inputs;
  keeper = ap (λ (i : SessionInputs). i.keeper) h.works.inputs ∙ ap (λ (i : SessionInputs). i.keeper) h.inputs;
  disks = ap (λ (i : SessionInputs). i.disks) h.works.inputs ∙ ap (λ (i : SessionInputs). i.disks) h.inputs;
  remote = ap (λ (i : SessionInputs). i.remote) h.works.inputs ∙ ap (λ (i : SessionInputs). i.remote) h.inputs;
  logs = h.works.logs ∙ h.logs;
}

pub spelled_left : (spelling : SpellingView) (outcome : Outcome) (old new : WorldView) → Spells spelling outcome old new → OtpLeft old new
spelled_left spelling outcome old new (inl none) = none_left spelling.file outcome old new none
spelled_left spelling outcome old new (inr h) = record {
  out = ap (λ (f : FilesView). f.out) h.works.files ∙ asked_out spelling.file old.files h.middle.files h.found.asks;
  dialer = ap (λ (i : SessionInputs). i.dialer) (h.works.inputs ∙ h.inputs);
  keeper = ap (λ (i : SessionInputs). i.keeper) (h.works.inputs ∙ h.inputs);
  disks = ap (λ (i : SessionInputs). i.disks) (h.works.inputs ∙ h.inputs);
  remote = ap (λ (i : SessionInputs). i.remote) (h.works.inputs ∙ h.inputs);
  logs = h.works.logs ∙ h.logs;
}

-- ---- the input

-- after the last take no byte was taken
record SameBytes (middle new : SourceView) : Type 0 where
  amount : new.amount ≡ middle.amount
  taken_is : new.taken ≡ middle.taken

same_by : (middle new : SourceView) → new ≡ middle → SameBytes middle new
same_by middle new is = record { amount = ap (λ (s : SourceView). s.amount) is; taken_is = ap (λ (s : SourceView). s.taken) is }

stopped_by : (middle new : SourceView) → Broke middle new ⊎ Idled middle new → SameBytes middle new
stopped_by middle new (inl broke) = record { amount = ap (λ (s : SourceView). s.amount) broke.is; taken_is = ap (λ (s : SourceView). s.taken) broke.is }
stopped_by middle new (inr idled) = record { amount = ap (λ (s : SourceView). s.amount) idled.is; taken_is = ap (λ (s : SourceView). s.taken) idled.is }

stops_same : (answer : Result ℕ TaskFault) (middle new : SourceView) → StopsWith answer middle new → SameBytes middle new
stops_same (Ok password) middle new h = same_by middle new h
stops_same (Err task.Challenge) middle new h = same_by middle new h
stops_same (Err task.Failed) middle new h = stopped_by middle new h

task_takes : (answer : Result ℕ TaskFault) (old new : SourceView) → HearsTask answer old new → TookAtMost old new
task_takes answer old new h =
    let same = stops_same answer h.middle new h.stops in
    let amount : new.amount ≡ h.took.count = same.amount ∙ ap (λ (s : SourceView). s.amount) h.took.is in
    record {
      bytes = h.bytes;
      most = h.few;
      grew = subst (λ (n : ℕ). Grew (length h.bytes) old.amount n) (sym amount) h.took.grew;
      is = same.taken_is ∙ ap (λ (s : SourceView). s.taken) h.took.is;
    }

pub calculated_takes : (file : List ℕ) (outcome : Outcome) (old new : WorldView) → Calculates file outcome old new → TookAtMost old.inputs.input new.inputs.input
calculated_takes file outcome old new (inl none) = (takes_same (status_of outcome) old.inputs.input new.inputs.input (ap (λ (i : SessionInputs). i.input) none.inputs)).took
calculated_takes file outcome old new (inr h) = subst (λ (i : SessionInputs). TookAtMost i.input new.inputs.input) h.inputs (task_takes h.works.answer h.middle.inputs.input new.inputs.input h.works.hears)

pub spelled_takes : (spelling : SpellingView) (outcome : Outcome) (old new : WorldView) → Spells spelling outcome old new → new.inputs.input ≡ old.inputs.input
spelled_takes spelling outcome old new (inl none) = ap (λ (i : SessionInputs). i.input) none.inputs
spelled_takes spelling outcome old new (inr h) = ap (λ (i : SessionInputs). i.input) (h.works.inputs ∙ h.inputs)
