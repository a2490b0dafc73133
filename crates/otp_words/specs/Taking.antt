-- What reading a dictionary does to its source.
use Rattle.std.specs.Prelude.{◌≡◌, ℕ, ◌≤◌, ◌⊎◌, Bool, true, false, List, length, Option, Some, None, Result, Ok, Err}
use Rattle.fw_outside.specs.LineReaderView.{TookBytes}
use Rattle.fw_outside.specs.SourceView.{SourceView, Broke, Idled}
use Rattle.fw_outside.specs.ToldList.{IsOver}
use Rattle.otp_words.specs.declared.dict_fault.DictFault.{DictFault}
use Rattle.otp_words.specs.declared.dict_fault.DictFault.TheVariants.{ReadFault, NoMemory}
use Rattle.otp_words.specs.Dictionary.{dictionary_of}

-- the first of the bytes that were left were taken, at most one more than the longest dictionary has, and nothing else changed
pub record TookSome (old new : SourceView) : Type 0 where
  pub bytes : List ℕ
  pub took : TookBytes bytes old new
  pub few : length bytes ≤ 12289

-- bytes were taken to the end of what was left
pub record TookAll (old new : SourceView) : Type 0 where
  pub some : TookSome old new
  pub over : IsOver new.left

-- bytes were taken, and then the source failed or nothing came in time
pub record TookFront (old new : SourceView) : Type 0 where
  pub middle : SourceView
  pub some : TookSome old middle
  pub stopped : Broke middle new ⊎ Idled middle new

-- what an answer leaves of the source
abbrev pub SourceAfterRead : Result (List (List ℕ)) DictFault → SourceView → SourceView → Type 0
SourceAfterRead (Ok _) old new = TookAll old new
SourceAfterRead (Err ReadFault) old new = TookFront old new
SourceAfterRead (Err _) old new = TookSome old new

-- whether the answer is that the source failed
abbrev pub is_read_fault : Result (List (List ℕ)) DictFault → Bool
is_read_fault (Ok _) = false
is_read_fault (Err ReadFault) = true
is_read_fault (Err _) = false

-- the words are those of the text that was left, where that is told
abbrev pub AreWordsOf : Option (List ℕ) → List (List ℕ) → Type 0
AreWordsOf None words = Unit {0}
AreWordsOf (Some text) words = dictionary_of text ≡ Ok words

-- the fault is that of the text that was left, where that is told and the text is at fault
abbrev pub IsFaultOf : Option (List ℕ) → DictFault → Type 0
IsFaultOf None fault = Unit {0}
IsFaultOf (Some text) ReadFault = Unit {0}
IsFaultOf (Some text) NoMemory = Unit {0}
IsFaultOf (Some text) fault = dictionary_of text ≡ Err fault
