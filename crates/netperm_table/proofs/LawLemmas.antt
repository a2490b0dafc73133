-- Laws of the definitions.
use Rattle.std.proofs.Common.{◌≡◌, ℕ, ◌+◌, ◌<◌, ◌≤◌, Bool, true, false, List, [], ◌∷◌, ◌++◌, length, refl, sym, ap, ◌∙◌, arith, append_assoc, length-append, inl, inr}
use Rattle.std.specs.Prelude.{◌⊎◌, ◌==◌, if◌then◌else◌, cond, not, nat_lt, IfOk, IfSome, Option, Some, None, Result, Ok, Err, option_to_list}
use Rattle.std.specs.List.{after_first, before_first, enumerate_from, filter_map, list_any}
use Rattle.std.specs.Str.Lines.{lines, strip_carriage_return}
use Rattle.std.proofs.lemmas.Bool.{cases_lt}
use Rattle.std.proofs.lemmas.List.{append-nil}
use Rattle.host_pattern.specs.declared.word.Word.{Word}
use Rattle.netperm_table.specs.declared.line.Line.{Line}
use Rattle.netperm_table.specs.declared.table_fault.TableFault.{TableFault}
use Rattle.netperm_table.specs.declared.table_fault.TableFault.TheVariants.{LongLine, ManyLines}
use Rattle.netperm_table.specs.Bytes.{is_blank, is_colon, is_nul}
use Rattle.netperm_table.specs.Reading.{is_skipped, line_at_colon, line_for, line_with, reading}
use Rattle.netperm_table.specs.Table.{fault_in, line_in, line_then, pieces, table_from, table_of, unless_any_fault, with_lines}
use Rattle.netperm_table.specs.Taking.{Settles}
use Rattle.netperm_table.specs.Words.{keywords_of, words_of}
use Rattle.netperm_table.proofs.LineLemmas.{FirstLine, IsOneLine, first_line, lines_then, over_long}
use Rattle.netperm_table.proofs.ProgressLemmas.{long, many}
use Rattle.netperm_table.proofs.StopLemmas.{either}

-- pieces

added : (some : List Line) (faults : List TableFault) (more : List Line) → with_lines some (unless_any_fault faults more) ≡ unless_any_fault faults (some ++ more)
added some [] more = refl
added some (first ∷ others) more = refl

whole_from : (number : ℕ) (ls : List (List ℕ)) → table_from number ls ≡ unless_any_fault (filter_map fault_in (enumerate_from number ls)) (filter_map line_in (enumerate_from number ls))
whole_from number [] = refl
whole_from number (line ∷ ls) = by (reading number line) refl (whole_from (number + 1) ls)
  where
    by : (r : Result (Option Line) TableFault) → reading number line ≡ r → table_from (number + 1) ls ≡ unless_any_fault (filter_map fault_in (enumerate_from (number + 1) ls)) (filter_map line_in (enumerate_from (number + 1) ls))
        → table_from number (line ∷ ls) ≡ unless_any_fault (filter_map fault_in (enumerate_from number (line ∷ ls))) (filter_map line_in (enumerate_from number (line ∷ ls)))
    by (Err fault) e rest = rw e refl
    by (Ok None) e rest = rw (e, rest) (added [] (filter_map fault_in (enumerate_from (number + 1) ls)) (filter_map line_in (enumerate_from (number + 1) ls)))
    by (Ok (Some one)) e rest = rw (e, rest) (added (one ∷ []) (filter_map fault_in (enumerate_from (number + 1) ls)) (filter_map line_in (enumerate_from (number + 1) ls)))

pub whole : (text : List ℕ) → table_of text ≡ unless_any_fault (filter_map fault_in (pieces text)) (filter_map line_in (pieces text))
whole text = whole_from 1 (lines text)

-- numbers

HasNumber : ℕ → Result (Option Line) TableFault → Type 0
HasNumber number read = IfOk read (λ one. IfSome one (λ line. line.number ≡ number))

line_number : (number : ℕ) (keywords : List (List ℕ)) (words : Option (List Word)) → HasNumber number (line_with number keywords words)
unfolding HasNumber
line_number number keywords None = tt
line_number number keywords (Some []) = tt
line_number number keywords (Some (word ∷ words)) = refl

reading_number : (number : ℕ) (bytes : List ℕ) → HasNumber number (reading number bytes)
unfolding HasNumber
reading_number number bytes =
    let P : Result (Option Line) TableFault → Type 0 = λ r. IfOk r (λ one. IfSome one (λ line. line.number ≡ number)) in
    either P (nat_lt 65535 number) _ _ tt
    (either P (nat_lt 2048 (length bytes)) _ _ tt
    (either P (list_any is_nul bytes) _ _ tt
    (either P (is_skipped bytes) _ _ tt
    (either P (not (list_any is_colon bytes)) _ _ tt
    (either P (length (keywords_of (before_first is_colon bytes)) == 0) _ _ tt (line_number number (keywords_of (before_first is_colon bytes)) (words_of (after_first is_colon bytes))))))))

has_number : (number : ℕ) (read : Result (Option Line) TableFault) (line : Line) → HasNumber number read → read ≡ Ok (Some line) → line.number ≡ number
unfolding HasNumber
has_number number (Err fault) line has e = absurd (cc)
has_number number (Ok None) line has e = absurd (cc)
has_number number (Ok (Some one)) line has e = (let same : one ≡ line = cc in ap (λ (l : Line). l.number) (sym same)) ∙ has

pub numbered : (number : ℕ) (bytes : List ℕ) (line : Line) → reading number bytes ≡ Ok (Some line) → line.number ≡ number
numbered number bytes line e = has_number number (reading number bytes) line (reading_number number bytes) e

-- faults that are settled

then_err : (some : List Line) (more : Result (List Line) TableFault) (fault : TableFault) → with_lines some more ≡ Err fault → more ≡ Err fault
then_err some (Ok lines) fault e = absurd (cc)
then_err some (Err other) fault e = e

stays : (number : ℕ) (ls more : List (List ℕ)) (fault : TableFault) → table_from number ls ≡ Err fault → table_from number (ls ++ more) ≡ Err fault
stays number [] more fault e = absurd (cc)
stays number (line ∷ ls) more fault e = by (reading number line) refl (λ later. stays (number + 1) ls more fault later)
  where
    by : (r : Result (Option Line) TableFault) → reading number line ≡ r → (table_from (number + 1) ls ≡ Err fault → table_from (number + 1) (ls ++ more) ≡ Err fault) → table_from number (line ∷ (ls ++ more)) ≡ Err fault
    by (Err other) h later = rw h (rw h at e)
    by (Ok one) h later =
        let rest = then_err (option_to_list one) (table_from (number + 1) ls) fault (rw h at e) in
        rw (h, later rest) refl

pub ended_settles : (text : List ℕ) (fault : TableFault) → table_of (text ++ 10 ∷ []) ≡ Err fault → Settles (text ++ 10 ∷ []) fault
ended_settles text fault e = λ rest.
    ap (λ bytes. table_from 1 (lines bytes)) (append_assoc text (10 ∷ []) rest)
    ∙ ap (table_from 1) (lines_then [] text rest (λ k d lt. absurd (omega arith)))
    ∙ stays 1 (lines (text ++ 10 ∷ [])) (lines rest) fault e

-- after lines that can be read the fault of the next one counts
then_fault : (number : ℕ) (ls : List (List ℕ)) (before : List Line) (line : List ℕ) (more : List (List ℕ)) (fault : TableFault)
    → table_from number ls ≡ Ok before → reading (number + length ls) line ≡ Err fault → table_from number (ls ++ line ∷ more) ≡ Err fault
then_fault number [] before line more fault good bad =
    let here : reading number line ≡ Err fault = (let zero : number + 0 ≡ number = omega arith in rw zero at bad) in
    rw here refl
then_fault number (first ∷ ls) before line more fault good bad =
    by (reading number first) refl (λ some h. then_fault (number + 1) ls some line more fault h (let same : (number + 1) + length ls ≡ number + length (first ∷ ls) = omega arith in rw same bad))
  where
    ok_of : (some : List Line) (rest : Result (List Line) TableFault) → with_lines some rest ≡ Ok before → (more : List Line) × (rest ≡ Ok more)
    ok_of some (Ok lines) h = (lines, refl)
    ok_of some (Err other) h = absurd (cc)

    by : (r : Result (Option Line) TableFault) → reading number first ≡ r → ((some : List Line) → table_from (number + 1) ls ≡ Ok some → table_from (number + 1) (ls ++ line ∷ more) ≡ Err fault) → table_from number (first ∷ (ls ++ line ∷ more)) ≡ Err fault
    by (Err other) h later = absurd (let good = rw h at good in (cc))
    by (Ok one) h later =
        let rest = ok_of (option_to_list one) (table_from (number + 1) ls) (rw h at good) in
        rw (h, later rest.0 rest.1) refl

pub long_first : (line : List ℕ) → IsOneLine line → 2049 < length line → Settles line (LongLine 1)
long_first line one over = λ rest.
    let first : FirstLine (line ++ rest) (length (strip_carriage_return line)) = first_line line rest one (omega arith) in
    let some : 2048 < length first.first = omega (arith, first.least, over_long line [] (omega arith), ap (λ bytes. length (strip_carriage_return bytes)) (append-nil line)) in
    ap (table_from 1) first.is ∙ then_fault 1 [] [] first.first first.more (LongLine 1) refl (long 1 first.first (omega arith) some)

pub long_settles : (text line : List ℕ) (before : List Line) → table_of (text ++ 10 ∷ []) ≡ Ok before → IsOneLine line → 2049 < length line → (fault : TableFault) × Settles ((text ++ 10 ∷ []) ++ line) fault
long_settles text line before good one over = by (cases_lt 65535 number)
  where
    number : ℕ
    number = 1 + length (lines (text ++ 10 ∷ []))

    first : (rest : List ℕ) → FirstLine (line ++ rest) (length (strip_carriage_return line))
    first rest = first_line line rest one (omega arith)

    cut : (rest : List ℕ) → lines (((text ++ 10 ∷ []) ++ line) ++ rest) ≡ lines (text ++ 10 ∷ []) ++ (first rest).first ∷ (first rest).more
    cut rest =
        ap lines (append_assoc (text ++ 10 ∷ []) line rest ∙ append_assoc text (10 ∷ []) (line ++ rest))
        ∙ lines_then [] text (line ++ rest) (λ k d lt. absurd (omega arith))
        ∙ ap (λ ls. lines (text ++ 10 ∷ []) ++ ls) (first rest).is

    settles : (fault : TableFault) → ((bytes : List ℕ) → 2048 < length bytes → reading number bytes ≡ Err fault) → Settles ((text ++ 10 ∷ []) ++ line) fault
    settles fault bad = λ rest.
        ap (table_from 1) (cut rest)
        ∙ then_fault 1 (lines (text ++ 10 ∷ [])) before (first rest).first (first rest).more fault good
        (bad (first rest).first (omega (arith, (first rest).least, over_long line [] (omega arith), ap (λ bytes. length (strip_carriage_return bytes)) (append-nil line))))

    by : (65535 < number) ⊎ (number ≤ 65535) → (fault : TableFault) × Settles ((text ++ 10 ∷ []) ++ line) fault
    by (inl over) = (ManyLines, settles ManyLines (λ bytes some. many number bytes over))
    by (inr within) = (LongLine number, settles (LongLine number) (λ bytes some. long number bytes within some))
