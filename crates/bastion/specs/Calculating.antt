-- The work of `otp-calc` and `otp-hex`: a dictionary is read, and then a password is told in words or in digits.
use Rattle.std.specs.Prelude.{◌≡◌, ℕ, ◌⊎◌, List, ◌++◌, codes, Option, Some, None, Result, Ok, Err}
use Rattle.fw_outside.specs.FilesView.{FilesView}
use Rattle.fw_outside.specs.SinkView.{SinkView}
use Rattle.otp_words.specs.Dictionary.{dictionary_of}
use Rattle.otp_words.specs.Groups.{groups_of}
use Rattle.otp_words.specs.Hearing.{HearsTask}
use Rattle.otp_words.specs.Phrase.{phrase_of, spelled_of}
use Rattle.otp_words.specs.Task.{password_asked}
use Rattle.otp_words.specs.declared.dict_fault.DictFault.{DictFault}
use Rattle.otp_words.specs.declared.dict_fault.DictFault.TheVariants.{ReadFault}
use Rattle.otp_words.specs.declared.dict_fault.DictFault.TheVariants as dictionary
use Rattle.otp_words.specs.declared.task.TaskFault.{TaskFault}
use Rattle.otp_words.specs.declared.task.TaskFault.TheVariants as task
use Rattle.otp_words.specs.declared.words_fault.WordsFault.{WordsFault}
use Rattle.bastion.specs.FilesAsked.{AsksTable, FilesFailed, OfFile}
use Rattle.bastion.specs.Inputs.{OfText}
use Rattle.bastion.specs.SpellingView.{SpellingView}
use Rattle.bastion.specs.Works.{Prints, printed}
use Rattle.bastion.specs.WorldView.{WorldView}
use Rattle.bastion.specs.declared.outcome.Device.TheVariants as device
use Rattle.bastion.specs.declared.outcome.OtpRefusal.{OtpRefusal}
use Rattle.bastion.specs.declared.outcome.OtpRefusal.TheVariants.{Dictionary, Challenge, Words}
use Rattle.bastion.specs.declared.outcome.Outcome.{Outcome}
use Rattle.bastion.specs.declared.outcome.Outcome.TheVariants.{Unread, Failed, NoMemory}
use Rattle.bastion.specs.declared.outcome.Refusal.TheVariants.{Otp}
use Rattle.bastion.specs.declared.outcome.Step.TheVariants as steps

-- ---- what is told

-- the four groups of digits
abbrev pub groups_text : ℕ → List ℕ
groups_text password = groups_of password ++ codes "\n"

-- the six words, and then the digits
abbrev pub calculated_text : List (List ℕ) → ℕ → List ℕ
calculated_text dictionary password = phrase_of dictionary password ++ codes "\n" ++ groups_text password

-- ---- how a dictionary, the input and six words are read: the text to be printed, or what has no reading

-- a challenge and a pass phrase ask for a password
abbrev pub calculated_by : List (List ℕ) → Option ℕ → Result (List ℕ) OtpRefusal
calculated_by dictionary None = Err Challenge
calculated_by dictionary (Some password) = Ok (calculated_text dictionary password)

-- what the text that is left asks for, where it is told
abbrev pub Asks : Option (List ℕ) → Option ℕ → Type 0
Asks None asked = Unit {0}
Asks (Some text) asked = password_asked text ≡ asked

-- a dictionary was read, and then what is left of the input
pub record ReadsTask (dictionary : List (List ℕ)) (left : Option (List ℕ)) (read : Result (List ℕ) OtpRefusal) : Type 0 where
  pub asked : Option ℕ
  pub asks : Asks left asked
  pub is : read ≡ calculated_by dictionary asked

abbrev pub ReadsCalculated : Option (List ℕ) → Result (List ℕ) OtpRefusal → Result (List (List ℕ)) DictFault → Type 0
ReadsCalculated left read (Ok dictionary) = ReadsTask dictionary left read
ReadsCalculated left read (Err fault) = read ≡ Err (Dictionary fault)

-- of `otp-calc`, by the text under the dictionary's name and what is left of the input, where they are told
abbrev pub IsCalculated : List ℕ → Result (List ℕ) OtpRefusal → WorldView → Type 0
IsCalculated file read world = OfText world.files.holds file (λ text. ReadsCalculated world.inputs.input.left read (dictionary_of text))

abbrev pub spelled_by : Result ℕ WordsFault → Result (List ℕ) OtpRefusal
spelled_by (Ok password) = Ok (groups_text password)
spelled_by (Err fault) = Err (Words fault)

abbrev pub spelled : List (List ℕ) → Result (List (List ℕ)) DictFault → Result (List ℕ) OtpRefusal
spelled words (Ok dictionary) = spelled_by (spelled_of dictionary words)
spelled words (Err fault) = Err (Dictionary fault)

-- of `otp-hex`, by the text under the dictionary's name, where that is told
abbrev pub IsSpelled : SpellingView → Result (List ℕ) OtpRefusal → WorldView → Type 0
IsSpelled spelling read world = OfText world.files.holds spelling.file (λ text. spelled spelling.words (dictionary_of text) ≡ read)

-- ---- what is done

-- a fault of the source or of memory is told as one of the files or of memory
abbrev pub dictionary_fault : DictFault → Outcome
dictionary_fault ReadFault = Failed device.Dictionary
dictionary_fault dictionary.NoMemory = NoMemory steps.Dictionary
dictionary_fault fault = Unread (Otp (Dictionary fault))

-- why there is no dictionary
abbrev pub LacksDictionary : List ℕ → Outcome → FilesView → FilesView → Type 0
LacksDictionary file (Unread (Otp (Dictionary fault))) old new = OfFile file (λ text. dictionary_of text ≡ Err fault) old new
LacksDictionary file (Failed device.Dictionary) old new = FilesFailed file old new
LacksDictionary file (NoMemory steps.Dictionary) old new = AsksTable file old new
LacksDictionary file outcome old new = ⊥

-- what reading a dictionary answers and leaves
abbrev pub ReadsDictionary : List ℕ → Result (List (List ℕ)) Outcome → FilesView → FilesView → Type 0
ReadsDictionary file (Ok dictionary) old new = OfFile file (λ text. dictionary_of text ≡ Ok dictionary) old new
ReadsDictionary file (Err outcome) old new = LacksDictionary file outcome old new

-- there is no dictionary, and nothing else happened
pub record NoDictionary (file : List ℕ) (outcome : Outcome) (old new : WorldView) : Type 0 where
  pub lacks : LacksDictionary file outcome old.files new.files
  pub output : new.output ≡ old.output
  pub logs : new.logs ≡ old.logs
  pub inputs : new.inputs ≡ old.inputs

-- the password is told, or why there is none is the outcome
abbrev pub TellsTask : List (List ℕ) → Result ℕ TaskFault → Outcome → SinkView → SinkView → Type 0
TellsTask dictionary (Ok password) outcome old new = Prints printed (calculated_text dictionary password) outcome old new
TellsTask dictionary (Err task.Challenge) outcome old new = (outcome ≡ Unread (Otp Challenge)) × (new ≡ old)
TellsTask dictionary (Err task.Failed) outcome old new = (outcome ≡ Failed device.Input) × (new ≡ old)

-- the two lines were heard, and then that was told
pub record AnswersTask (dictionary : List (List ℕ)) (outcome : Outcome) (old new : WorldView) : Type 0 where
  pub answer : Result ℕ TaskFault
  pub hears : HearsTask answer old.inputs.input new.inputs.input
  pub inputs : new.inputs ≡ record (old.inputs) { input = new.inputs.input }
  pub tells : TellsTask dictionary answer outcome old.output new.output
  pub logs : new.logs ≡ old.logs
  pub files : new.files ≡ old.files

-- the digits are told, or why there are none is the outcome
abbrev pub TellsSpelled : Result ℕ WordsFault → Outcome → SinkView → SinkView → Type 0
TellsSpelled (Ok password) outcome old new = Prints printed (groups_text password) outcome old new
TellsSpelled (Err fault) outcome old new = (outcome ≡ Unread (Otp (Words fault))) × (new ≡ old)

pub record AnswersWords (dictionary words : List (List ℕ)) (outcome : Outcome) (old new : WorldView) : Type 0 where
  pub tells : TellsSpelled (spelled_of dictionary words) outcome old.output new.output
  pub inputs : new.inputs ≡ old.inputs
  pub logs : new.logs ≡ old.logs
  pub files : new.files ≡ old.files

-- a dictionary was read, and then the work was done
pub record WithDictionary (file : List ℕ) (Work : List (List ℕ) → Outcome → WorldView → WorldView → Type 0) (outcome : Outcome) (old new : WorldView) : Type 0 where
  pub dictionary : List (List ℕ)
  pub middle : WorldView
  pub found : OfFile file (λ text. dictionary_of text ≡ Ok dictionary) old.files middle.files
  pub output : middle.output ≡ old.output
  pub logs : middle.logs ≡ old.logs
  pub inputs : middle.inputs ≡ old.inputs
  pub works : Work dictionary outcome middle new

abbrev pub ByDictionary : List ℕ → (List (List ℕ) → Outcome → WorldView → WorldView → Type 0) → Outcome → WorldView → WorldView → Type 0
ByDictionary file Work outcome old new = NoDictionary file outcome old new ⊎ WithDictionary file Work outcome old new

-- `otp-calc`
abbrev pub Calculates : List ℕ → Outcome → WorldView → WorldView → Type 0
Calculates file outcome old new = ByDictionary file AnswersTask outcome old new

-- `otp-hex`
abbrev pub Spells : SpellingView → Outcome → WorldView → WorldView → Type 0
Spells spelling outcome old new = ByDictionary spelling.file (λ dictionary. AnswersWords dictionary spelling.words) outcome old new
