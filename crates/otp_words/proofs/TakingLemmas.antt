-- What reading a dictionary says of its source.
use Rattle.std.proofs.Common.{◌≡◌, ◌≢◌, ℕ, ◌<◌, ◌≤◌, true, false, List, [], ◌++◌, ◌⊎◌, inl, inr, length, refl, sym, ap, ◌∙◌, arith}
use Rattle.std.specs.Prelude.{Option, Some, None, Result, Ok, Err, IfOk, IfErr, nat_lt, ◌||◌}
use Rattle.std.proofs.lemmas.Bool.{cases_lt}
use Rattle.std.proofs.lemmas.Bool.Decides.{nat_tests}
use Rattle.std.proofs.lemmas.List.{append-nil}
use Rattle.fw_outside.specs.Counts.{Rose}
use Rattle.fw_outside.specs.FilesView.{has_failed}
use Rattle.fw_outside.specs.LineReaderView.{TookBytes}
use Rattle.fw_outside.specs.SourceView.{SourceView, Broke, Idled}
use Rattle.fw_outside.specs.ToldList.{preceded, IsOver}
use Rattle.otp_words.specs.declared.dict_fault.DictFault.{DictFault}
use Rattle.otp_words.specs.declared.dict_fault.DictFault.TheVariants.{BadWord, Twice, Long, Short, ReadFault, NoMemory}
use Rattle.otp_words.specs.Dictionary.{dictionary_of}
use Rattle.otp_words.specs.Taking.{AreWordsOf, IsFaultOf, SourceAfterRead, TookSome, is_read_fault}
use Rattle.otp_words.proofs.LongLemmas.{Settled, settled}

-- the text that was gathered, and how much of it there is
pub record Gathered (text : List ℕ) (old new : SourceView) : Type 0 where
  pub took : TookBytes text old new
  pub few : length text ≤ 12289
  pub whole : length text < 12289 → IsOver new.left

long_text : (text : List ℕ) → 12288 < length text → (rest : List ℕ) → Settled [] text rest
long_text text long rest = settled 2048 [] text rest (omega arith) (omega (arith, long))

-- what is left is over where the text is a dictionary
over_by : (text : List ℕ) (old new : SourceView) (words : List (List ℕ)) → Gathered text old new → dictionary_of text ≡ Ok words → (length text < 12289) ⊎ (12289 ≤ length text) → IsOver new.left
over_by text old new words g is (inl short) = g.whole short
over_by text old new words g is (inr long) =
    let settles = long_text text (omega (arith, long)) [] in
    absurd (let no : Ok words ≡ Err settles.fault = sym is ∙ settles.here in cc)

pub over : (text : List ℕ) (old new : SourceView) (words : List (List ℕ)) → Gathered text old new → dictionary_of text ≡ Ok words → IsOver new.left
over text old new words g is = over_by text old new words g is (cases_lt (length text) 12289)

-- the whole text is read as the part that was gathered
same_by : (text rest : List ℕ) (old new : SourceView) → Gathered text old new → (length text < 12289 → rest ≡ []) → (length text < 12289) ⊎ (12289 ≤ length text) → dictionary_of (text ++ rest) ≡ dictionary_of text
same_by text rest old new g none (inl short) = ap (λ r. dictionary_of (text ++ r)) (none short) ∙ ap dictionary_of (append-nil text)
same_by text rest old new g none (inr long) =
    let settles = long_text text (omega (arith, long)) rest in
    settles.whole ∙ sym settles.here

same_text : (told : List ℕ) (text : List ℕ) (left : Option (List ℕ)) (old new : SourceView) → Gathered text old new → Some told ≡ preceded text left → (length text < 12289 → IsOver left) → dictionary_of told ≡ dictionary_of text
same_text told text None old new g next none = absurd (cc)
same_text told text (Some rest) old new g next none =
    let is : told ≡ text ++ rest = cc in
    ap dictionary_of is ∙ same_by text rest old new g none (cases_lt (length text) 12289)

left_is : (text : List ℕ) (old new : SourceView) (g : Gathered text old new) → length text < 12289 → IsOver g.took.left
left_is text old new g short = let same : new.left ≡ g.took.left = rw g.took.is refl in rw same at (g.whole short)

words_by : (told : Option (List ℕ)) (text : List ℕ) (old new : SourceView) (words : List (List ℕ)) → told ≡ old.left → Gathered text old new → dictionary_of text ≡ Ok words → AreWordsOf told words
words_by None text old new words is g made = tt
words_by (Some told) text old new words is g made = same_text told text g.took.left old new g (is ∙ g.took.next) (left_is text old new g) ∙ made

pub words_are : (text : List ℕ) (old new : SourceView) (result : Result (List (List ℕ)) DictFault) → Gathered text old new → IfOk result (λ d. dictionary_of text ≡ Ok d) → IfOk result (λ d. AreWordsOf old.left d)
words_are text old new (Ok d) g made = words_by old.left text old new d refl g made
words_are text old new (Err e) g made = tt

fault_with : (told : List ℕ) (e : DictFault) → (e ≢ NoMemory → dictionary_of told ≡ Err e) → IsFaultOf (Some told) e
fault_with told (BadWord n) h = h (λ same. absurd (cc))
fault_with told (Twice n) h = h (λ same. absurd (cc))
fault_with told Long h = h (λ same. absurd (cc))
fault_with told (Short n) h = h (λ same. absurd (cc))
fault_with told ReadFault h = tt
fault_with told NoMemory h = tt

fault_by : (told : Option (List ℕ)) (text : List ℕ) (old new : SourceView) (e : DictFault) → told ≡ old.left → Gathered text old new → (e ≢ NoMemory → dictionary_of text ≡ Err e) → IsFaultOf told e
fault_by None text old new e is g made = tt
fault_by (Some told) text old new e is g made = fault_with told e (λ some. same_text told text g.took.left old new g (is ∙ g.took.next) (left_is text old new g) ∙ made some)

pub fault_is : (text : List ℕ) (old new : SourceView) (result : Result (List (List ℕ)) DictFault) → Gathered text old new → IfErr result (λ e. e ≢ NoMemory → dictionary_of text ≡ Err e) → IfErr result (λ e. IsFaultOf old.left e)
fault_is text old new (Ok d) g made = tt
fault_is text old new (Err e) g made = fault_by old.left text old new e refl g made

some_taken : (text : List ℕ) (old new : SourceView) → Gathered text old new → TookSome old new
some_taken text old new g = record { bytes = text; took = g.took; few = g.few }

pub source_is : (text : List ℕ) (old new : SourceView) (result : Result (List (List ℕ)) DictFault) → Gathered text old new → IfOk result (λ d. dictionary_of text ≡ Ok d) → IfErr result (λ e. e ≢ ReadFault) → SourceAfterRead result old new
source_is text old new (Ok d) g made own = record { some = some_taken text old new g; over = over text old new d g made }
source_is text old new (Err ReadFault) g made own = absurd (own refl)
source_is text old new (Err NoMemory) g made own = some_taken text old new g
source_is text old new (Err Long) g made own = some_taken text old new g
source_is text old new (Err (Short n)) g made own = some_taken text old new g
source_is text old new (Err (BadWord n)) g made own = some_taken text old new g
source_is text old new (Err (Twice n)) g made own = some_taken text old new g

-- ---- a source that hadn't failed has failed exactly where the answer says so

same_failed : (old new : SourceView) → TookSome old new → has_failed old ≡ false → has_failed new ≡ false
same_failed old new t none = rw t.took.is none

some_failed : (faults idles : ℕ) → 0 < faults ⊎ 0 < idles → (nat_lt 0 faults || nat_lt 0 idles) ≡ true
some_failed faults idles (inl some) = grind (arith, nat_tests)
some_failed faults idles (inr some) = grind (arith, nat_tests)

rose_some : (before now : ℕ) → Rose before now → 0 < now
rose_some before now rose = omega (arith, rose.1)

stopped_failed : (middle new : SourceView) → Broke middle new ⊎ Idled middle new → has_failed new ≡ true
stopped_failed middle new (inl broke) = rw broke.is (some_failed broke.count middle.idles (inl (rose_some middle.faults broke.count broke.rose)))
stopped_failed middle new (inr idled) = rw idled.is (some_failed middle.faults idled.count (inr (rose_some middle.idles idled.count idled.rose)))

pub failed_by : (result : Result (List (List ℕ)) DictFault) (old new : SourceView) → SourceAfterRead result old new → has_failed old ≡ false → has_failed new ≡ is_read_fault result
failed_by (Ok d) old new l none = same_failed old new l.some none
failed_by (Err ReadFault) old new l none = stopped_failed l.middle new l.stopped
failed_by (Err NoMemory) old new l none = same_failed old new l none
failed_by (Err Long) old new l none = same_failed old new l none
failed_by (Err (Short n)) old new l none = same_failed old new l none
failed_by (Err (BadWord n)) old new l none = same_failed old new l none
failed_by (Err (Twice n)) old new l none = same_failed old new l none
